-- A run of calls, worked by hand: what the laws ask of a history is met.
use Rattle.std.specs.Prelude.{◌≡◌, ℕ, List, [], ◌∷◌, ◌++◌, codes, None, Some, true}
use Rattle.acceptor.specs.declared.entry.Entry.{Entry}
use Rattle.wire.specs.{declared.frame.Frame.Frame, Spelling.spelling, Stream.holding}
use Rattle.desk_talks.specs.{Dialogues.Act, Dialogues.Opened, KeptConnections.line, Exchanges.talk}
use Rattle.outbox.specs.Histories.{History, InDialogue, Kept, Leads, Look, LooksAt, Restart, Start}
use Rattle.outbox.specs.Histories.{Take, Then, World, promises, world}
use Rattle.outbox.specs.Items.{ItemsOf, items_of, taken_at}
use Rattle.outbox.specs.{Lines.with_end, Worked.entry, Worked.seven}
use Rattle.outbox.specs.Outboxes.{is_decided, new_outbox, outbox, submit_request}
use Rattle.desk_talks.specs.declared.dialogue.DialogueAction.TheVariants as wish
use Rattle.desk_talks.specs.declared.kept_connection.ConnectionStage.TheVariants as stage
use Rattle.outbox.specs.declared.item.QueueOutcome.TheVariants as taken

abbrev pub five : Entry
five = entry 5 (codes "CLOSE 333 1")

abbrev pub six : Entry
six = entry 6 (codes "CLOSE 222 1")

-- a file with the hall's line, and one in which an item is too
abbrev pub new_file : List ℕ
new_file = with_end (codes "hall 7 10.0.0.1:7001 10.0.0.2:7001")

abbrev pub file_of_five : List ℕ
file_of_five = new_file ++ with_end (codes "item 5 CLOSE 333 1")

-- the item, which was taken at this time, and whose line is in the file
abbrev pub five_since : ℕ → ItemsOf
five_since now = items_of ((5, taken_at five now) ∷ []) 1 [] []

abbrev pub question : Frame
question = submit_request 7 1 five

-- a command is taken, its line is kept, a connection is opened, and it is submitted at desk 1
abbrev pub submitting : History
submitting =
    Then (Then (Then (Then (Then (Start 1 0 new_file) (Take five 3 taken.New)) Kept)
    (InDialogue (Act (wish.Open 1) 4))) (InDialogue (Opened true))) (InDialogue (Act wish.Write 5))

abbrev pub submitted : World
submitted =
    world (outbox (five_since 3) 0 [] 7 1 1
    (line (stage.Asked 5) (Some (talk (holding []) (Some question) (spelling question))) 1) 0 None)
    file_of_five

-- A second command is taken; then the program ends, when nine bytes of that command's line were
-- written. It is started again, over desk 2.
abbrev pub ending : History
ending = Then (Then submitting (Take six 6 taken.New)) (Restart (codes "item 6 CL") 2 8)

abbrev pub started_again : World
started_again = world (new_outbox 7 2 (five_since 8)) file_of_five

-- the first command is in the log, which is looked through
abbrev pub looking : History
looking = Then ending (Look (five ∷ []))

abbrev pub passing : World
passing =
    world (outbox (five_since 8) 1 (5 ∷ []) 7 2 2 (line (stage.Closed None) None 0) 0 None)
    file_of_five

pub record WorkedRun : Type 0 where
  pub submits : Leads seven submitting submitted
  pub promised : (promises submitting).made ≡ five ∷ []
  pub ends : Leads seven ending started_again
  pub looks : LooksAt (five ∷ []) looking
  pub passes : Leads seven looking passing
  pub decided : is_decided (five_since 8) (5 ∷ []) (5, taken_at five 8) ≡ true
