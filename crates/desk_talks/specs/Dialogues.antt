-- What comes of bytes that a desk sent, and what calls of a dialogue lead to (the project's own).
use Rattle.std.specs.Prelude.{ℕ, ◌≡◌, List, [], ◌∷◌, Bool, false}
use Rattle.desk_talks.specs.declared.dialogue.ReceiveOutcome.{ReceiveOutcome}
use Rattle.desk_talks.specs.declared.dialogue.ReceiveOutcome.TheVariants as came
use Rattle.desk_talks.specs.declared.dialogue.DialogueAction.{DialogueAction}

-- what is held may have changed by it
abbrev pub has_changed : ReceiveOutcome → Bool
has_changed came.Nothing = false
has_changed (came.Answer changed) = changed
has_changed came.NoAnswer = false

-- a call of a dialogue, with what it was given and what it answered
pub data Call : Type 0 where
  Act : DialogueAction → (now : ℕ) → Call
  Opened : Bool → Call
  Lost : (ended : Bool) → Call
  Sent : (count : ℕ) → Call
  Hear : ReceiveOutcome → (now : ℕ) → (piece : List ℕ) → Call

-- calls, one after the other, each of which leads to where the next one is made
abbrev pub CallsLead : {C S : Type 0} → (C → S → S → Type 0) → S → List C → S → Type 0
CallsLead Leads old [] new = new ≡ old
CallsLead {C} {S} Leads old (call ∷ more) new =
    (next : S) × Leads call old next × CallsLead Leads next more new

-- calls lead from one state to the other
pub record Reaches {C S : Type 0} (Leads : C → S → S → Type 0) (old new : S) : Type 0 where
  pub calls : List C
  pub lead : CallsLead Leads old calls new
