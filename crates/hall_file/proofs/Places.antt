-- The longest run of whole lines that is a document without a member, as far as they were read.
use Rattle.std.proofs.Common.{◌≡◌, ℕ, ◌<◌, ◌≤◌, inl, List, [], take, refl, arith, Some}
use Rattle.toml.specs.{Data.no_members, Parse.parse_document}
use Rattle.toml.proofs.OnLiterals.{toml_on_literals}
use Rattle.hall_file.specs.Lines.{IsWithout, BeginsLine}

pub record RunsTo (bytes name : List ℕ) (place end : ℕ) : Type 0 where
  pub within : place ≤ end
  pub begins : BeginsLine bytes place
  pub before : IsWithout name (take place bytes)
  pub longest : (k : ℕ) → place < k → k ≤ end → BeginsLine bytes k
      → IsWithout name (take k bytes) → ⊥

nothing : parse_document [] ≡ Some no_members
unfolding toml_on_literals
nothing = refl

-- no line at all is a document without the member
pub run_start : (bytes name : List ℕ) → RunsTo bytes name 0 0
run_start bytes name = record {
  within = omega arith;
  begins = inl refl;
  before = (no_members, record { utf8 = ([], (refl, refl)); value = nothing }, refl);
  longest = λ k above below b w. absurd (omega arith);
}
