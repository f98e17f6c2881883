-- Ticks that are taken one after the other, each when it is due.
use Rattle.std.proofs.Common.{◌≡◌, ◌⊎◌, ℕ, zero, suc, ◌+◌, ◌*◌, ◌≤◌, ◌<◌, inl, inr, refl, arith}
use Rattle.std.proofs.Common.{Bool, true, false, ◌∙◌}
use Rattle.std.specs.Prelude.{min, not, ◌&&◌, ◌||◌, nat_lt, IsTrue, IsFalse, if◌then◌else◌}
use Rattle.std.proofs.lemmas.Bool.Decides.{nat_tests}
use Rattle.ticking.specs.Ticking.{Ticking, first_pause, due_at, slot, is_new, is_due, after}
use Rattle.ticking.specs.Laws.{due_look, tick_at, HaveBegun, AreApart}
use Rattle.ticking.proofs.{Pauses.IsTicker, Quiet.due_exactly, Ticks.due_times}
use Rattle.ticking.proofs.Spread.{IsTwice, spread, added}

not_above : (n : ℕ) → nat_lt n n ≡ false
not_above n = grind (arith, nat_tests)

nothing_new : (n : ℕ) (waiting : Bool) → IsTrue waiting
    → (nat_lt n n || (nat_lt 0 1 && not waiting)) ≡ false
nothing_new n waiting e = rw (not_above n, e) refl

old_then : (t : Ticking) → IsTrue t.waiting → IsFalse (is_new t (due_look t))
old_then t w = nothing_new t.log t.waiting w

due_then : (t : Ticking) → IsTrue t.waiting → IsTrue (is_due t (due_look t))
due_then t w = (due_exactly t (due_look t) (old_then t w)).1 (omega arith)

times_then : (t : Ticking) → IsTrue t.waiting
    → (after t (due_look t)).times ≡ min (2 * t.times) 16
times_then t w = due_times (is_new t (due_look t)) _ t.times (due_then t w)

counted : (new due : Bool) (a b : ℕ) → due ≡ true → (if new || due then a else b) ≡ a
counted true due a b e = refl
counted false due a b e = rw e refl

since_then : (t : Ticking) → IsTrue t.waiting → (after t (due_look t)).since ≡ due_at t true
since_then t w =
    counted (is_new t (due_look t)) (is_due t (due_look t)) (due_at t true) t.since (due_then t w)

-- how many first pauses pass up to a Tick, where the next pause has this factor
abbrev factors : ℕ → ℕ → ℕ
factors times zero = times
factors times (suc k) = times + factors (min (2 * times) 16) k

step : (x s u m n times k f : ℕ) → x ≡ u + factors times k * f → u ≡ s + m * f → times ≡ n
    → x ≡ s + (m + factors n k) * f
step x s u m n times k f e d h = e ∙ (rw (d, h) (omega arith))

tick_factors : (t : Ticking) (k : ℕ) → IsTrue t.waiting
    → tick_at t k ≡ t.since + factors t.times k * first_pause t
tick_factors t zero w = refl
tick_factors t (suc k) w =
    step (tick_at (after t (due_look t)) k) t.since (after t (due_look t)).since t.times
    (min (2 * t.times) 16) (after t (due_look t)).times k (first_pause t)
    (tick_factors (after t (due_look t)) k refl) (since_then t w) (times_then t w)

-- the sums of the first five factors
abbrev IsSum : ℕ → Type 0
IsSum n = (n ≡ 1) ⊎ ((n ≡ 3) ⊎ ((n ≡ 7) ⊎ ((n ≡ 15) ⊎ (n ≡ 31))))

are_sums : (k : ℕ) → k < 5 → IsSum (factors 1 k)
are_sums zero h = inl refl
are_sums (suc zero) h = inr (inl refl)
are_sums (suc (suc zero)) h = inr (inr (inl refl))
are_sums (suc (suc (suc zero))) h = inr (inr (inr (inl refl)))
are_sums (suc (suc (suc (suc zero)))) h = inr (inr (inr (inr refl)))
are_sums (suc (suc (suc (suc (suc k))))) h = absurd (omega arith)

sum_least : (n : ℕ) → IsSum n → 1 ≤ n
sum_least n h = grind arith

sums_apart : (m n : ℕ) → IsSum m → IsSum n → IsTwice m n
sums_apart m n h k = grind arith

pub spread_rows : (a b : Ticking) (j k : ℕ) → IsTicker a → IsTicker b → HaveBegun a b → j < 5
    → k < 5 → AreApart (slot a) (tick_at a j) (tick_at b k)
spread_rows a b j k h g e u v =
    let m : IsSum (factors 1 j) = are_sums j u in
    let n : IsSum (factors 1 k) = are_sums k v in
    let s = spread a b (factors 1 j) (factors 1 k) h g e.fellows (sum_least _ m) (sum_least _ n)
    (sums_apart _ _ m n) in
    rw (
      tick_factors a j e.waiting,
      tick_factors b k e.waiting_too,
      e.first,
      e.first_too,
      ← e.fellows.since,
    )
    (added a.since (factors 1 j * first_pause a) (factors 1 k * first_pause b) (slot a) s)
