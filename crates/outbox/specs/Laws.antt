-- What holds of an outbox, whatever calls are made, whatever comes from desks, and whatever the log
-- is (the project's own).
use Rattle.std.specs.Prelude.{ℕ, ◌≡◌, ◌≢◌, ◌⊎◌, ◌^◌, ◌<◌, List, [], ◌∷◌, drop, true, Some, None, Ok}
use Rattle.std.specs.Prelude.{Contains, not, ◌==◌, ◌||◌, ◌++◌, is_some, slice_get, take}
use Rattle.std.specs.List.{AllByRecursion, list_all}
use Rattle.acceptor.specs.declared.entry.Entry.{Entry}
use Rattle.learner.specs.{Laws.IsPrefix, Logs.position_of}
use Rattle.texts.specs.declared.answer.Answer.{Answer}
use Rattle.answers.specs.Transcripts.{answer_at}
use Rattle.wire.specs.{Entries.IsEntry, Spelling.spelling}
use Rattle.desk_talks.specs.{Dialogues.CallsLead, KeptConnections.unsent_by}
use Rattle.outbox.specs.declared.{item.Item.Item, state.ItemState.ItemState}
use Rattle.outbox.specs.Histories.{Call, CallLeads, History, Leads, LooksAt, World, promises}
use Rattle.outbox.specs.{Histories.targets, Journals.read_back, States.state_of}
use Rattle.outbox.specs.Items.{ItemsOf, is_answered, item_in, taken_back}
use Rattle.outbox.specs.Lines.{HallOf, hall_line, item_line, whole_lines}
use Rattle.outbox.specs.Outboxes.{is_decided, submit_request}
use Rattle.texts.specs.declared.answer.Answer.TheVariants as answer
use Rattle.texts.specs.declared.answer.Code.TheVariants as code
use Rattle.outbox.specs.declared.state.ItemState.TheVariants as state

-- ---- what is reported of an item

-- the entry is at a position of a log, and was answered so
pub record StandsAs (log : List Entry) (position : ℕ) (entry : Entry) (told : Answer) : Type 0 where
  pub there : slice_get log position ≡ Some entry
  pub answered : answer_at log position ≡ Some told

-- another entry of its id is there
pub record StandsOther (log : List Entry) (position : ℕ) (entry : Entry) : Type 0 where
  pub other : Entry
  pub there : slice_get log position ≡ Some other
  pub id : other.id ≡ entry.id
  pub text : other.text ≢ entry.text

-- what is reported of an entry is so in a log
abbrev pub IsSo : List Entry → Entry → ItemState → Type 0
IsSo log entry state.Waits = Unit {0}
IsSo log entry (state.Saved position) = StandsAs log position entry answer.Done
IsSo log entry (state.Changed position) =
    StandsAs log position entry (answer.Refused code.Changed)
IsSo log entry (state.Refused position why) = StandsAs log position entry (answer.Refused why)
IsSo log entry (state.OtherText position) = StandsOther log position entry

-- what is reported of an entry, by the part of the log that a mirror holds, is so in every log that
-- begins with that part
abbrev pub NeverByGuess : Type 0
NeverByGuess =
    (held log : List Entry) (entry : Entry) → IsPrefix held log
    → IsSo log entry (state_of held entry)

-- and it is reported, as long as an entry of its id is there, and stays as it was reported
abbrev pub ToldAtOnce : Type 0
ToldAtOnce =
    (held : List Entry) (entry : Entry) → state_of held entry ≡ state.Waits
    → position_of held entry.id ≡ None

abbrev pub ToldForGood : Type 0
ToldForGood =
    (held log : List Entry) (entry : Entry) → IsPrefix held log
    → state_of held entry ≢ state.Waits → state_of log entry ≡ state_of held entry

-- of all entries of an id in a log one at most is accepted
abbrev pub CountsOnce : Type 0
CountsOnce =
    (log : List Entry) (i j : ℕ) (one other : Entry) → StandsAs log i one answer.Done
    → StandsAs log j other answer.Done → one.id ≡ other.id → i ≡ j

-- ---- what is submitted

-- These bytes are the end of a Submit of an entry to one of the desks, in this hall. The line of
-- the entry is in the file: `item`, its id and its text.
pub record IsOfSubmit (hall : HallOf) (desks : List ℕ) (file bytes : List ℕ) : Type 0 where
  pub desk : ℕ
  pub entry : Entry
  pub sent : ℕ
  pub aimed : Contains desks desk
  pub line : Contains (whole_lines file) (item_line entry)
  pub is : bytes ≡ drop sent (spelling (submit_request hall.number desk entry))

-- the lines of a file say of an id one entry at most
abbrev pub SaysOneEach : List ℕ → Type 0
SaysOneEach file =
    (entry other : Entry) → IsEntry entry → IsEntry other
    → Contains (whole_lines file) (item_line entry)
    → Contains (whole_lines file) (item_line other) → entry.id ≡ other.id → entry ≡ other

-- what is to be written to a desk after any calls is nothing else; the first line of the file is
-- the hall's, and of an id it has one line at most
pub record IsFixed (hall : HallOf) (h : History) (w : World) : Type 0 where
  pub submits : (unsent_by w.outbox.line.talking ≡ [])
      ⊎ IsOfSubmit hall (targets h) w.file (unsent_by w.outbox.line.talking)
  pub named : (lines : List (List ℕ)) × (whole_lines w.file ≡ hall_line hall ∷ lines)
  pub one : SaysOneEach w.file

abbrev pub Fixed : Type 0
Fixed = (hall : HallOf) (h : History) (w : World) → Leads hall h w → IsFixed hall h w

-- An item of the journal is passed over where the log, as far as it was looked through since the
-- program was started, has an entry of its id, or where a scoretaker has answered it; and nowhere
-- else. `Acts` says that the first of the others is submitted.
abbrev pub PassesOverByTheLog : Type 0
PassesOverByTheLog =
    (hall : HallOf) (h : History) (w : World) (log : List Entry) (pair : ℕ × Item)
    → Leads hall h w → LooksAt log h → is_decided w.outbox.list w.outbox.decided pair
    ≡ (is_some (position_of (take w.outbox.seen log) pair.0) || is_answered w.outbox.list pair.0)

-- an address has no space in it
abbrev pub IsAddress : List ℕ → Type 0
IsAddress address = list_all (λ b. not (b == 32)) address ≡ true

-- the name of a hall, as a program has it
abbrev pub IsName : HallOf → Type 0
IsName hall = (hall.number < 2 ^ 32) × AllByRecursion IsAddress hall.addresses

-- two halls have the same first line where they are the same
abbrev pub NamesOneHall : Type 0
NamesOneHall =
    (one other : HallOf) → IsName one → IsName other → hall_line one ≡ hall_line other → one ≡ other

-- so a journal of another hall is not read
abbrev pub OfThisHallAlone : Type 0
OfThisHallAlone =
    (one other : HallOf) (now later : ℕ) (bytes : List ℕ) (q r : ItemsOf) → IsName one
    → IsName other → read_back one now bytes ≡ Ok q → read_back other later bytes ≡ Ok r
    → one ≡ other

-- ---- what was taken

-- an entry is that of an item
pub record IsListed (q : ItemsOf) (entry : Entry) : Type 0 where
  pub item : Item
  pub found : item_in q entry.id ≡ Some item
  pub is : item.entry ≡ entry

-- each entry of which it may be answered that it is taken is in the list, after any calls, and
-- after a crash at any moment
abbrev pub NothingTakenIsLost : Type 0
NothingTakenIsLost =
    (hall : HallOf) (h : History) (w : World) (entry : Entry) → Leads hall h w
    → Contains (promises h).made entry → IsListed w.outbox.list entry

-- the item of an id is in the journal, and is this entry
pub record StandsUnder (q : ItemsOf) (id : ℕ) (entry : Entry) : Type 0 where
  pub item : Item
  pub found : item_in (taken_back q) id ≡ Some item
  pub is : item.entry ≡ entry

-- an item that is in the journal stays there as it is, whatever calls are made after that, a start
-- after a crash at any moment among them
abbrev pub StaysInTheJournal : Type 0
StaysInTheJournal =
    (hall : HallOf) (h : History) (calls : List Call) (old new : World) (id : ℕ) (entry : Entry)
    → Leads hall h old → CallsLead (CallLeads hall) old calls new
    → StandsUnder old.outbox.list id entry → StandsUnder new.outbox.list id entry

-- what a crash leaves of the file, at whatever byte its end was cut off, is read
abbrev pub ReadsAfterCrash : Type 0
ReadsAfterCrash =
    (hall : HallOf) (h : History) (w : World) (count now : ℕ) → Leads hall h w
    → (q : ItemsOf) × (read_back hall now (w.file ++ take count w.outbox.list.lines) ≡ Ok q)
