-- What a mirror holds after calls of any kind, in any order (the project's own).
use Rattle.std.specs.Prelude.{ℕ, ◌≡◌, ◌-◌, List, [], ◌∷◌, length, Option, None, Some, Ok}
use Rattle.acceptor.specs.declared.entry.Entry.{Entry}
use Rattle.client.specs.{Answers.judged, Standings.log_request}
use Rattle.mirror.specs.{Fronts.TakesAs, declared.mirror.MirrorGrowth.MirrorGrowth}
use Rattle.wire.specs.declared.frame.Frame.{Frame}
use Rattle.desk_talks.specs.Dialogues.{Act, Call as DialogueCall, CallsLead}
use Rattle.desk_talks.specs.Exchanges.{ExchangeOf}
use Rattle.kept_mirror.specs.Mirrorings.{DialogueLeads, MirroringOf, awaiting, hurried}
use Rattle.kept_mirror.specs.Mirrorings.{new_mirroring}
use Rattle.wire.specs.declared.frame.FrameBody.TheVariants as what
use Rattle.desk_talks.specs.declared.dialogue.DialogueAction.TheVariants as wish

-- a call: one of its dialogue, or another one
pub data Call : Type 0 where
  InDialogue : DialogueCall → Call
  Hurry : Call
  Await : ℕ → Call

-- what the contract of each call says
abbrev pub CallLeads : Call → MirroringOf → MirroringOf → Type 0
CallLeads (InDialogue call) old new = DialogueLeads call old new
CallLeads Hurry old new = new ≡ hurried old
CallLeads (Await id) old new = new ≡ awaiting old id

-- entries from a position on that a desk of the hall answered when it was asked for its log, and
-- what the mirror made of them
pub record Answer (hall : ℕ) : Type 0 where
  pub desk : ℕ
  pub asked : ℕ
  pub frame : Frame
  pub position : ℕ
  pub len : ℕ
  pub entries : List Entry
  pub answers : judged (log_request hall desk asked) frame ≡ Ok (what.Entries position len entries)
  pub outcome : Option MirrorGrowth

-- a mirror took answers, one after the other
abbrev pub TakesAnswers : {hall : ℕ} → List Entry → List (Answer hall) → List Entry → Type 0
TakesAnswers held [] after = after ≡ held
TakesAnswers held (one ∷ more) after =
    (next : List Entry) × TakesAs held one.position one.entries one.outcome next
    × TakesAnswers next more after

-- What is held after any calls is what desks of the hall answered, taken up as a mirror does.
abbrev pub HoldsWhatWasAnswered : Type 0
HoldsWhatWasAnswered =
    (hall desks : ℕ) (calls : List Call) (after : MirroringOf)
    → CallsLead CallLeads (new_mirroring hall desks) calls after
    → (answers : List (Answer hall)) × TakesAnswers [] answers after.entries

-- the desk that is followed is asked for what its log has from the last held entry on
abbrev pub IsAskedFrom : MirroringOf → MirroringOf → Type 0
IsAskedFrom old new =
    (t : ExchangeOf) × (new.line.talking ≡ Some t)
    × (t.question ≡ Some (log_request old.hall old.follower.desk (length old.entries - 1)))

-- Where no command is waited for, what is asked for begins where that ends which is held.
abbrev pub AsksWhereItEnds : Type 0
AsksWhereItEnds =
    (now : ℕ) (old new : MirroringOf) → DialogueLeads (Act wish.Write now) old new
    → old.awaits ≡ None → IsAskedFrom old new
