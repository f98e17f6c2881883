-- The period of a desk's own Ticks, where the number that is asked for is a period.
use Rattle.std.proofs.Common.{◌≡◌, ◌≤◌, ℕ, Option, None, Some, Bool, true, false, refl, ap, arith}
use Rattle.std.{specs.Option.SomeIff, proofs.lemmas.Bool.Decides.nat_tests}
use Rattle.std.specs.Prelude.{◌↔◌, ◌&&◌, nat_le, IsTrue, if◌then◌else◌}
use Rattle.ticking.specs.Ticking.{IsPeriod}
use Rattle.serve.specs.Serves.{period_of}

le_tested : (a b : ℕ) → IsTrue (nat_le a b) ↔ (a ≤ b)
le_tested a b = ((λ t. grind (arith, nat_tests)), (λ h. grind (arith, nat_tests)))

tested : (n : ℕ) (low high : Bool) (r : Option ℕ)
    → (IsTrue low ↔ (100 ≤ n)) → (IsTrue high ↔ (n ≤ 60000))
    → SomeIff r (IsPeriod n) n → r ≡ (if low && high then Some n else None)
tested n true true (Some x) a b h = ap Some h.1
tested n true true None a b h = absurd (h (a.0 refl, b.0 refl))
tested n false high (Some x) a b h = absurd (cc (a.1 h.0.0))
tested n true false (Some x) a b h = absurd (cc (b.1 h.0.1))
tested n false high None a b h = refl
tested n true false None a b h = refl

pub period_is : (n : ℕ) (r : Option ℕ) → SomeIff r (IsPeriod n) n → r ≡ period_of (Some n)
period_is n r h = tested n (nat_le 100 n) (nat_le n 60000) r (le_tested 100 n) (le_tested n 60000) h
