-- What stays true of a ticker, whatever it is shown.
use Rattle.std.proofs.Common.{◌≡◌, ℕ, ◌*◌, inl, inr, refl, ap, Bool, true, false, List, [], ◌∷◌}
use Rattle.std.specs.Prelude.{min, if◌then◌else◌}
use Rattle.ticking.specs.Ticking.{Ticking, Look, is_new, is_due, after, after_all}
use Rattle.ticking.specs.Laws.{IsMadeAt, IsReached, CountsFrom}
use Rattle.ticking.proofs.Pauses.{IsTicker, IsPower, power_doubled}

powers : (new due : Bool) (k : ℕ) → IsPower k
    → IsPower (if new then 1 else if due then min (2 * k) 16 else k)
powers true due k h = inl refl
powers false true k h = power_doubled k h
powers false false k h = h

pub kept : (t : Ticking) (l : Look) → IsTicker t → IsTicker (after t l)
kept t l h = record {
  period = h.period;
  desk = h.desk;
  times = powers (is_new t l) (is_due t l) t.times h.times;
}

pub kept_by_all : (t : Ticking) (ls : List Look) → IsTicker t → IsTicker (after_all t ls)
kept_by_all t [] h = h
kept_by_all t (l ∷ ls) h = kept_by_all (after t l) ls (kept t l h)

pub made_ticker : (t : Ticking) (m : ℕ) → IsMadeAt t m → IsTicker t
made_ticker t m h = record {
  period = h.period;
  desk = h.desk;
  times = inl (ap (λ (u : Ticking). u.times) h.made);
}

pub reached_ticker : (t : Ticking) → IsReached t → IsTicker t
reached_ticker t r =
    rw r.ran (kept_by_all r.start r.looks (made_ticker r.start r.moment r.made))

pub counting_ticker : (t : Ticking) (m : ℕ) → CountsFrom t m → IsTicker t
counting_ticker t m (inl h) = made_ticker t m h
counting_ticker t m (inr h) = rw h.then (kept h.before h.look (reached_ticker h.before h.reached))

since_after : (a b : ℕ) (counts : Bool) → counts ≡ true → (if counts then a else b) ≡ a
since_after a b true e = refl
since_after a b false e = cc

pub counting_since : (t : Ticking) (m : ℕ) → CountsFrom t m → t.since ≡ m
counting_since t m (inl h) = ap (λ (u : Ticking). u.since) h.made
counting_since t m (inr h) =
    let e : t.since ≡ (after h.before h.look).since = ap (λ (u : Ticking). u.since) h.then in
    let f : (after h.before h.look).since ≡ h.look.now =
    since_after h.look.now h.before.since _ h.counts in
    let g : m ≡ h.look.now = h.at in
    cc
