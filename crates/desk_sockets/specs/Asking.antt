-- That a dialogue is asked what is to be done (the project's own).
use Rattle.std.specs.Prelude.{ℕ, ◌≡◌, ◌⊎◌, false}
use Rattle.desk_talks.specs.Dialogues.{Act, Call, Lost, Reaches}
use Rattle.desk_talks.specs.declared.dialogue.DialogueAction.{DialogueAction}
use Rattle.desk_talks.specs.declared.dialogue.DialogueAction.TheVariants as wish

-- among the calls that lead from one state to the other is one that asks what is to be done now
pub record AsksNow {S : Type 0} (Leads : Call → S → S → Type 0) (now : ℕ) (old new : S)
    : Type 0 where
  pub wish : DialogueAction
  pub before : S
  pub after : S
  pub first : Reaches Leads old before
  pub acts : Leads (Act wish now) before after
  pub later : Reaches Leads after new

-- the calls by which a wish is fulfilled: nothing is told to the dialogue but that a connection
-- can't be opened, and what comes of writing
abbrev pub Fulfils : {S : Type 0} → (Call → S → S → Type 0) → DialogueAction → S → S → Type 0
Fulfils Leads wish.Rest old new = new ≡ old
Fulfils Leads (wish.Open desk) old new = (new ≡ old) ⊎ Leads (Lost false) old new
Fulfils Leads wish.Write old new = Reaches Leads old new
Fulfils Leads wish.Close old new = new ≡ old
Fulfils Leads wish.Stop old new = new ≡ old

-- the last of the calls asks what is to be done now, but for those by which that is done
pub record AsksLast {S : Type 0} (Leads : Call → S → S → Type 0) (now : ℕ) (old new : S)
    : Type 0 where
  pub wish : DialogueAction
  pub before : S
  pub after : S
  pub first : Reaches Leads old before
  pub acts : Leads (Act wish now) before after
  pub fulfils : Fulfils Leads wish after new
