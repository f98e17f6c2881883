-- A ticker's time, from the moment from which it counts.
use Rattle.std.proofs.Common.{◌≡◌, ℕ, ◌*◌, ◌≤◌, refl, arith, Bool, true, false, List, [], ◌∷◌}
use Rattle.std.specs.Prelude.{◌↔◌, min, not, ◌&&◌, ◌||◌, nat_le, IsTrue, if◌then◌else◌}
use Rattle.std.proofs.lemmas.Bool.Decides.{nat_tests}
use Rattle.ticking.specs.Ticking.{Ticking, Look, pause, due_at, waits, is_new, is_due, counts_from}
use Rattle.ticking.specs.{Ticking.after, Ticking.after_all, Laws.IsQuiet}

-- another ticker of the same desk whose time counts the same
pub record IsSame (t u : Ticking) : Type 0 where
  pub period : u.period ≡ t.period
  pub desk : u.desk ≡ t.desk
  pub desks : u.desks ≡ t.desks
  pub times : u.times ≡ t.times
  pub since : u.since ≡ t.since

quiet_times : (new due : Bool) (k : ℕ) → (new || due) ≡ false
    → (if new then 1 else if due then min (2 * k) 16 else k) ≡ k
quiet_times true due k e = cc
quiet_times false true k e = cc
quiet_times false false k e = refl

unchanged : (a b : ℕ) (counts : Bool) → counts ≡ false → (if counts then a else b) ≡ b
unchanged a b true e = cc
unchanged a b false e = refl

-- a look at which the time does not begin anew
pub same_after : (t : Ticking) (l : Look) → counts_from t l ≡ false → IsSame t (after t l)
same_after t l e = record {
  period = refl;
  desk = refl;
  desks = refl;
  times = quiet_times (is_new t l) (is_due t l) t.times e;
  since = unchanged l.now t.since (counts_from t l) e;
}

pub same_then : (t u v : Ticking) → IsSame t u → IsSame u v → IsSame t v
same_then t u v h k = record {
  period = cc (h.period, k.period);
  desk = cc (h.desk, k.desk);
  desks = cc (h.desks, k.desks);
  times = cc (h.times, k.times);
  since = cc (h.since, k.since);
}

pub same_after_all : (t : Ticking) (ls : List Look) → IsQuiet t ls → IsSame t (after_all t ls)
same_after_all t [] q = record {
  period = refl;
  desk = refl;
  desks = refl;
  times = refl;
  since = refl;
}
same_after_all t (l ∷ ls) q =
    same_then t (after t l) (after_all (after t l) ls)
    (same_after t l q.0) (same_after_all (after t l) ls q.1)

pub same_pause : (t u : Ticking) (w : Bool) → IsSame t u → pause u w ≡ pause t w
same_pause t u w h = rw (h.period, h.desk, h.desks, h.times) refl

le_tested : (a b : ℕ) → IsTrue (nat_le a b) ↔ (a ≤ b)
le_tested a b = ((λ t. grind (arith, nat_tests)), (λ h. grind (arith, nat_tests)))

tested : (new : Bool) (a b : ℕ) → new ≡ false → IsTrue (not new && nat_le a b) ↔ (a ≤ b)
tested true a b e = absurd (cc)
tested false a b e = le_tested a b

-- where nothing new is seen a Tick is taken exactly where it is due
pub due_exactly : (t : Ticking) (l : Look) → is_new t l ≡ false
    → IsTrue (is_due t l) ↔ (due_at t (waits l) ≤ l.now)
due_exactly t l e = tested (is_new t l) (due_at t (waits l)) l.now e
