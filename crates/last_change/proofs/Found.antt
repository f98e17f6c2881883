-- A walk from the end of a log, for what was entered last for each of five attempts.
use Rattle.std.proofs.Common.{◌≡◌, ◌<◌, ◌+◌, ℕ, zero, suc, Bool, true, false, List, [], ◌∷◌, length}
use Rattle.std.proofs.Common.{get_or, map, Option, None, Some, inl, inr, refl, sym, subst, arith}
use Rattle.std.proofs.lemmas.Bool.{cases_lt}
use Rattle.acceptor.specs.declared.entry.Entry.{Entry}
use Rattle.texts.specs.declared.command.RoundId.{RoundId}
use Rattle.last_change.specs.Entering.{HasNoneFrom, IsLastFrom, all_last, enters_in, last_of}
use Rattle.last_change.specs.Entering.{places}

-- of each attempt, the last of the entries from a position on
abbrev pub AreLastFrom : List Entry → RoundId → ℕ → ℕ → List (Option ℕ) → Type 0
AreLastFrom log round number from found =
    (place : ℕ) → place < 5 → IsLastFrom log round number place from (get_or found place None)

-- what holds of each of five holds at each place
five : (P : ℕ → Option ℕ → Type 0) (a b c d e : Option ℕ) → P 0 a → P 1 b → P 2 c → P 3 d → P 4 e
    → (place : ℕ) → place < 5 → P place (get_or (a ∷ b ∷ c ∷ d ∷ e ∷ []) place None)
five P a b c d e pa pb pc pd pe zero h = pa
five P a b c d e pa pb pc pd pe (suc zero) h = pb
five P a b c d e pa pb pc pd pe (suc (suc zero)) h = pc
five P a b c d e pa pb pc pd pe (suc (suc (suc zero))) h = pd
five P a b c d e pa pb pc pd pe (suc (suc (suc (suc zero)))) h = pe
five P a b c d e pa pb pc pd pe (suc (suc (suc (suc (suc n))))) h = absurd (omega (arith, h))

-- one entry more in front, which entered nothing
none_more : (log : List Entry) (round : RoundId) (number place from : ℕ)
    → HasNoneFrom log round number place (from + 1)
    → enters_in log round number place from ≡ false → HasNoneFrom log round number place from
none_more log round number place from none not_here position low high =
    elim (cases_lt from position) [
      | inl later ↦ none position (omega (arith, later)) high
      | inr here ↦
          subst (λ (at : ℕ). enters_in log round number place at ≡ false)
          (omega (arith, here, low)) not_here
    ]

-- one entry more in front
one_more : (log : List Entry) (round : RoundId) (number place from : ℕ) (later : Option ℕ)
    (enters : Bool) → enters_in log round number place from ≡ enters → from < length log
    → IsLastFrom log round number place (from + 1) later
    → IsLastFrom log round number place from (last_of later enters from)
one_more log round number place from (Some position) enters same within is = is
one_more log round number place from None true same within is = (within, same, is)
one_more log round number place from None false same within is =
    none_more log round number place from is same

-- one entry more in front, for each attempt
pub all_more : (log : List Entry) (round : RoundId) (number from : ℕ) (later now : List (Option ℕ))
    (enters : List Bool) → enters ≡ map (λ place. enters_in log round number place from) places
    → now ≡ all_last later enters from → from < length log
    → AreLastFrom log round number (from + 1) later → AreLastFrom log round number from now
all_more log round number from later now enters are is within old =
    let here : (place : ℕ) → place < 5 → IsLastFrom log round number place from
    (last_of (get_or later place None) (enters_in log round number place from) from) =
    λ place low. one_more log round number place from (get_or later place None) _ refl within
    (old place low) in
    subst (AreLastFrom log round number from) (sym is)
    (subst (λ (them : List Bool). AreLastFrom log round number from (all_last later them from))
    (sym are) (five (λ place found. IsLastFrom log round number place from found) _ _ _ _ _
    (here 0 (grind arith)) (here 1 (grind arith)) (here 2 (grind arith)) (here 3 (grind arith))
    (here 4 (grind arith))))
