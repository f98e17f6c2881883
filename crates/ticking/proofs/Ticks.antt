-- When Ticks are taken, looked at whenever.
use Rattle.std.proofs.Common.{◌≡◌, ◌⊎◌, ℕ, ◌+◌, ◌*◌, ◌≤◌, ◌<◌, inl, inr, refl, ap, ◌∙◌, arith, Bool}
use Rattle.std.proofs.Common.{true, false, List, [], ◌∷◌, ◌++◌}
use Rattle.std.specs.Prelude.{◌↔◌, min, not, ◌&&◌, ◌||◌, IsTrue, if◌then◌else◌}
use Rattle.ticking.specs.Ticking.{Ticking, Look, pause, due_at, waits, is_new, is_due, after, left}
use Rattle.ticking.specs.{Ticking.after_all, Ticking.first_pause, Laws.TakesTick, Laws.GoesOn}
use Rattle.ticking.specs.Laws.{IsFirst, CountsFrom, IsQuiet, IsInTime, AreBounded, SeesNothingNew}
use Rattle.ticking.proofs.Pauses.{IsTicker, bounded, first_most, doubled}
use Rattle.ticking.proofs.Kept.{kept, counting_ticker, counting_since}
use Rattle.ticking.proofs.Quiet.{IsSame, same_after, same_after_all, same_pause, due_exactly}

-- ---- one look

pub due_times : (new due : Bool) (k : ℕ) → (not new && due) ≡ true
    → (if new then 1 else if not new && due then min (2 * k) 16 else k) ≡ min (2 * k) 16
due_times true due k e = cc
due_times false true k e = refl
due_times false false k e = cc

pub backed_off : (t : Ticking) (l : Look) → IsTicker t → is_due t l ≡ true
    → pause (after t l) true ≡ min (2 * pause t true) (16 * first_pause t)
backed_off t l h e =
    let k : (after t l).times ≡ min (2 * t.times) 16 = due_times (is_new t l) _ t.times e in
    let d = doubled t.times (first_pause t) h.times in
    ap (λ (n : ℕ). n * first_pause t) k ∙ d

pub new_times : (new : Bool) (k : ℕ) → new ≡ true → (if new then 1 else k) ≡ 1
new_times true k e = refl
new_times false k e = cc

pub new_since : (new due : Bool) (a b : ℕ) → new ≡ true → (if new || due then a else b) ≡ a
new_since true due a b e = refl
new_since false due a b e = cc

pub fallen_back : (t : Ticking) (l : Look) → IsTicker t → is_new t l ≡ true
    → IsFirst (after t l) l.now
fallen_back t l h e =
    let k : (after t l).times ≡ 1 = new_times (is_new t l) _ e in
    let f : pause (after t l) true ≡ first_pause t = rw k (omega arith) in
    let m : first_pause t < 2 * t.period = first_most t h in
    record {
      first = f;
      most = omega arith;
      counts = new_since (is_new t l) (is_due t l) l.now t.since e;
    }

-- ---- looks

pause_least : (t : Ticking) (w : Bool) → AreBounded t → t.period ≤ pause t w
pause_least t true h = h.least
pause_least t false h = let f = h.idle_least in omega arith

pause_most : (t : Ticking) (w : Bool) → AreBounded t → pause t w < 32 * t.period
pause_most t true h = h.most
pause_most t false h = let f = h.idle_most in omega arith

pub in_time : (t : Ticking) (m : ℕ) (quiet : List Look) (l : Look) → CountsFrom t m
    → IsQuiet t quiet → is_new (after_all t quiet) l ≡ false
    → IsInTime t m (is_due (after_all t quiet) l) l
in_time t m quiet l h q e =
    let u = after_all t quiet in
    let s : IsSame t u = same_after_all t quiet q in
    let p : pause u (waits l) ≡ pause t (waits l) = same_pause t u (waits l) s in
    let since : u.since ≡ m = s.since ∙ counting_since t m h in
    let b : AreBounded t = bounded t (counting_ticker t m h) in
    let least : t.period ≤ pause t (waits l) = pause_least t (waits l) b in
    let most : pause t (waits l) < 32 * t.period = pause_most t (waits l) b in
    let due : IsTrue (is_due u l) ↔ (u.since + pause u (waits l) ≤ l.now) = due_exactly u l e in
    record {
      exact = ((λ d. let k = due.0 d in omega arith), (λ k. due.1 (omega arith)));
      early = λ d. let k = due.0 d in omega arith;
      late = λ k. due.1 (omega arith);
    }

pub true_or_false : (b : Bool) → (b ≡ true) ⊎ (b ≡ false)
true_or_false true = inl refl
true_or_false false = inr refl

pub neither : (a b : Bool) → a ≡ false → b ≡ false → (a || b) ≡ false
neither true b e f = cc
neither false b e f = f

pub ticks_at_last : (t : Ticking) (ls : List Look) (last : Look) → IsTicker t
    → SeesNothingNew t (ls ++ last ∷ []) → t.since + 32 * t.period ≤ last.now
    → TakesTick t (ls ++ last ∷ [])
ticks_at_last t [] last h n k =
    let most : pause t (waits last) < 32 * t.period = pause_most t (waits last) (bounded t h) in
    inl ((due_exactly t last n.0).1 (omega arith))
ticks_at_last t (l ∷ ls) last h n k =
    elim (true_or_false (is_due t l)) [
      | inl e ↦ inl e
      | inr e ↦
          let s : IsSame t (after t l) = same_after t l (neither (is_new t l) (is_due t l) n.0 e) in
          let since : (after t l).since ≡ t.since = s.since in
          inr (ticks_at_last (after t l) ls last (kept t l h) n.1 (omega arith))
    ]

pub ticks_in_time : (t : Ticking) (m : ℕ) (ls : List Look) (last : Look) → CountsFrom t m
    → SeesNothingNew t (ls ++ last ∷ []) → m + 32 * t.period ≤ last.now
    → TakesTick t (ls ++ last ∷ [])
ticks_in_time t m ls last h n k =
    let since : t.since ≡ m = counting_since t m h in
    ticks_at_last t ls last (counting_ticker t m h) n (omega arith)

pub wakes : (t : Ticking) (now : ℕ) (l : Look) → GoesOn t now l
    → IsTrue (is_due t l) ↔ (now + left t now ≤ l.now)
wakes t now l g =
    let due : IsTrue (is_due t l) ↔ (due_at t (waits l) ≤ l.now) = due_exactly t l g.old in
    let p : pause t (waits l) ≡ pause t t.waiting = ap (pause t) g.waits in
    let begun : t.since ≤ now = g.begun in
    let later : now ≤ l.now = g.later in
    ((λ d. let k = due.0 d in omega arith), (λ k. due.1 (omega arith)))
