-- What a desk says of itself is in the ranges of a frame.
use Rattle.std.proofs.Common.{◌≡◌, inl, inr, ◌⊎◌, ◌∙◌, sym, ap, subst, arith, ℕ, ◌<◌, ◌≤◌, ◌^◌}
use Rattle.std.proofs.Common.{◌==◌, Bool, true, false, if◌then◌else◌, Option, None, Some}
use Rattle.acceptor.specs.{Ballots.no_ballot, declared.ballot.Ballot.Ballot}
use Rattle.learner.specs.Ranges.{IsReal}
use Rattle.wire.specs.Ranges.{IsPromised}
use Rattle.serving.specs.Answering.{promised_of}

real_promise : (n : ℕ) (b : Ballot) (is_none : Bool) → n ≤ 5 → b.number < 2 ^ 32 → IsReal n b
    → IsPromised (if is_none then None else Some b)
real_promise n b true few small real = tt
real_promise n b false few small real =
    (real.0, small, (real.1.0, omega (arith, real.1.1, few)))

-- a promise of a desk of n
pub promise_fits : (n : ℕ) (b : Ballot) (o : Option Ballot) → n ≤ 5 → b.number < 2 ^ 32
    → (b ≡ no_ballot) ⊎ IsReal n b → o ≡ promised_of b → IsPromised o
promise_fits n b o few small (inl none) is =
    subst (λ z. IsPromised z) (sym (is ∙ ap promised_of none)) tt
promise_fits n b o few small (inr real) is =
    subst (λ z. IsPromised z) (sym is) (real_promise n b (b.number == 0) few small real)
