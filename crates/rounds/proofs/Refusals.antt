-- Why an attempt, another value or a strike is refused, and when it is not.
use Rattle.std.proofs.Common.{◌≡◌, ℕ, ◌+◌, ◌≤◌, ◌==◌, nat_le, true, false, length, Some, arith}
use Rattle.std.proofs.{Common.eq-eqb, Common.refl, Common.List, lemmas.Bool.Decides.nat_tests}
use Rattle.attempts.specs.declared.Value.{Value}
use Rattle.rounds.specs.Tables.{Entrant, Table, entrant, allotted, put_fault, is_done, replaced}
use Rattle.rounds.specs.Tables.{loses_cutoff, correct_fault}
use Rattle.rounds.specs.declared.fault.PutFault.TheVariants as put
use Rattle.rounds.specs.declared.fault.CorrectFault.TheVariants as correct

-- the causes why an attempt is refused, in order
pub no_more : (t : Table) (n k : ℕ) (e : Entrant) → t.is_closed ≡ false → entrant t n ≡ Some e
    → k ≡ length e.values + 1 → allotted t.format t.cutoff e.values ≤ length e.values
    → put_fault t n k ≡ Some put.NoMoreAttempts
no_more t n k e is_open found next all =
    let at : (k == length e.values + 1) ≡ true = eq-eqb _ _ next in
    let done : nat_le (allotted t.format t.cutoff e.values) (length e.values) ≡ true =
    grind (arith, nat_tests) in
    rw (is_open, found, at, done) refl

-- the causes why another value is refused, in order
done_there : (k : ℕ) (vs : List Value) → 1 ≤ k → k ≤ length vs → is_done k vs ≡ true
done_there k vs low high = grind (arith, nat_tests)

pub lost : (t : Table) (n k : ℕ) (v : Value) (e : Entrant) → t.is_closed ≡ false
    → entrant t n ≡ Some e → 1 ≤ k → k ≤ length e.values
    → loses_cutoff t.cutoff (replaced k v e.values) ≡ true
    → correct_fault t n k v ≡ Some correct.CutoffLost
lost t n k v e is_open found low high loses =
    let there = done_there k e.values low high in
    rw (is_open, found, there, loses) refl
