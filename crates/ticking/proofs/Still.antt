-- Ticks come where nothing happens.
use Rattle.std.proofs.Common.{◌≡◌, ℕ, ◌+◌, ◌*◌, ◌≤◌, inl, inr, refl, arith, Bool, [], ◌∷◌, ◌++◌}
use Rattle.std.proofs.{Common.true, lemmas.Bool.Decides.nat_tests, Math.Nat.mul-le-mul_right}
use Rattle.std.{proofs.Common.false, proofs.Common.List, specs.List.AllByRecursion}
use Rattle.std.specs.Prelude.{max, not, ◌&&◌, ◌||◌, nat_lt}
use Rattle.ticking.specs.Ticking.{Ticking, Look, due_at, first_pause, is_new, is_due, after, waits}
use Rattle.ticking.specs.Laws.{IsStill, NothingHappens, TakesTick}
use Rattle.ticking.proofs.Pauses.{IsTicker, power_most}
use Rattle.ticking.proofs.Quiet.{due_exactly, same_after, same_pause}
use Rattle.ticking.proofs.Ticks.{neither, new_since, new_times, true_or_false}

waits_then : (l : Look) → 1 ≤ l.queued → waits l ≡ true
waits_then l h = grind (arith, nat_tests)

not_more : (a b : ℕ) → b ≤ a → nat_lt a b ≡ false
not_more a b h = grind (arith, nat_tests)

old_as : (grown waits waiting : Bool) → grown ≡ false → waiting ≡ true
    → (grown || (waits && not waiting)) ≡ false
old_as true waits waiting e f = cc
old_as false false waiting e f = refl
old_as false true false e f = cc
old_as false true true e f = refl

-- nothing new is seen
old_then : (t : Ticking) (log : ℕ) (l : Look) → log ≤ t.log → t.waiting ≡ true → IsStill log l
    → is_new t l ≡ false
old_then t log l h w s =
    let length : l.log ≡ log = s.0 in
    old_as (nat_lt t.log l.log) (waits l) t.waiting (not_more t.log l.log (omega arith)) w

due_here : (t : Ticking) (log : ℕ) (l : Look) → log ≤ t.log → t.waiting ≡ true → IsStill log l
    → due_at t true ≤ l.now → is_due t l ≡ true
due_here t log l h w s k =
    (due_exactly t l (old_then t log l h w s)).1 (rw (waits_then l s.1) k)

same_due : (t : Ticking) (l : Look) → is_new t l ≡ false → is_due t l ≡ false
    → due_at (after t l) true ≡ due_at t true
same_due t l new due =
    let s = same_after t l (neither (is_new t l) (is_due t l) new due) in
    let p = same_pause t (after t l) true s in
    let since : (after t l).since ≡ t.since = s.since in omega (arith, p, since)

still_ticks : (t : Ticking) (log : ℕ) (ls : List Look) (last : Look) → log ≤ t.log
    → t.waiting ≡ true → AllByRecursion (IsStill log) (ls ++ last ∷ [])
    → due_at t true ≤ last.now → TakesTick t (ls ++ last ∷ [])
still_ticks t log [] last h w s k = inl (due_here t log last h w s.0 k)
still_ticks t log (l ∷ ls) last h w s k =
    elim (true_or_false (is_due t l)) [
      | inl e ↦ inl e
      | inr e ↦
          let same = same_due t l (old_then t log l h w s.0) e in
          let grown : t.log ≤ max t.log l.log = omega arith in
          inr (still_ticks (after t l) log ls last (omega (arith, h, grown))
          (waits_then l s.0.1) s.1 (omega (arith, same, k)))
    ]

-- after the first of the looks a Tick is due within 16 first pauses
due_soon : (t : Ticking) (first : Look) → IsTicker t → t.since ≤ first.now
    → is_due t first ≡ false → due_at (after t first) true ≤ first.now + 16 * first_pause t
due_soon t first h begun due =
    elim (true_or_false (is_new t first)) [
      | inl e ↦
          let times : (after t first).times ≡ 1 = new_times (is_new t first) _ e in
          let since : (after t first).since ≡ first.now =
          new_since (is_new t first) (is_due t first) first.now t.since e in
          rw (times, since) (omega arith)
      | inr e ↦
          let most : t.times * first_pause t ≤ 16 * first_pause t =
          mul-le-mul_right (first_pause t) (power_most t.times h.times) in
          let same = same_due t first e due in omega (arith, most, same, begun)
    ]

pub ticks_where_nothing : (t : Ticking) (log : ℕ) (first : Look) (looks : List Look)
    (last : Look) → IsTicker t → NothingHappens t log first looks last
    → TakesTick t (first ∷ (looks ++ last ∷ []))
ticks_where_nothing t log first looks last h n =
    elim (true_or_false (is_due t first)) [
      | inl e ↦ inl e
      | inr e ↦
          let soon = due_soon t first h n.begun e in
          let length : first.log ≡ log = n.still.0.0 in
          let grown : first.log ≤ max t.log first.log = omega arith in
          inr (still_ticks (after t first) log looks last (omega (arith, length, grown))
          (waits_then first n.still.0.1) n.still.1 (omega (arith, soon, n.late)))
    ]
