-- An outbox: the items, and the one that is on its way to a desk (the project's own).
use Rattle.std.specs.Prelude.{ℕ, ◌≡◌, ◌+◌, ◌&&◌, ◌==◌, ◌||◌, List, [], ◌∷◌, length, drop, take, max}
use Rattle.std.specs.Prelude.{slice_get, not, nat_eq, nat_lt, if◌then◌else◌, Option, None, Some}
use Rattle.std.specs.Prelude.{Bool, true, false}
use Rattle.std.specs.{List.list_any, List.prefix_len, Option.option_map}
use Rattle.indexmap.specs.IndexSet.{insert_key}
use Rattle.acceptor.specs.declared.entry.Entry.{Entry}
use Rattle.wire.specs.declared.frame.{Frame.Frame, FrameBody.FrameBody}
use Rattle.wire.specs.declared.values.{ClientRefusal.ClientRefusal, Version.TheVariants.One}
use Rattle.desk_talks.specs.Dialogues.{Act, Call, Hear, Lost, Opened, Sent}
use Rattle.desk_talks.specs.KeptConnections.{AsksOver, HearsOver, KeptConnectionOf, closed, due_of}
use Rattle.desk_talks.specs.KeptConnections.{hurried, new_line, opening, sent_by as line_sent_by}
use Rattle.desk_talks.specs.KeptConnections.{wait_of as line_wait_of, Opens as OpensLine}
use Rattle.desk_talks.specs.declared.dialogue.ReceiveOutcome.{ReceiveOutcome}
use Rattle.desk_talks.specs.declared.dialogue.DialogueAction.{DialogueAction}
use Rattle.desk_talks.specs.declared.kept_connection.DueAction.{DueAction}
use Rattle.desk_talks.specs.declared.kept_connection.ConnectionStage.{ConnectionStage}
use Rattle.desk_talks.specs.declared.exchange.AnswerOutcome.{AnswerOutcome}
use Rattle.outbox.specs.declared.{item.Item.Item, state.ItemState.ItemState}
use Rattle.outbox.specs.Items.{ItemsOf, is_answered, item_in, with_answer}
use Rattle.outbox.specs.States.{state_of}
use Rattle.wire.specs.declared.frame.FrameBody.TheVariants as what
use Rattle.desk_talks.specs.declared.dialogue.ReceiveOutcome.TheVariants as came
use Rattle.desk_talks.specs.declared.dialogue.DialogueAction.TheVariants as wish
use Rattle.desk_talks.specs.declared.kept_connection.DueAction.TheVariants as due
use Rattle.desk_talks.specs.declared.kept_connection.ConnectionStage.TheVariants as stage
use Rattle.desk_talks.specs.declared.exchange.AnswerOutcome.TheVariants as heard
use Rattle.outbox.specs.declared.state.ItemState.TheVariants as state

pub record OutboxOf : Type 0 where
  pub list : ItemsOf
  -- how many entries of the log were looked through, and their ids, each once
  pub seen : ℕ
  pub decided : List ℕ
  pub hall : ℕ
  -- the desk that the connection is to, and the one that is aimed at
  pub desk : ℕ
  pub aim : ℕ
  pub line : KeptConnectionOf
  -- the place of the item that the desk is to accept next, and why the desk refused it, if it did
  pub next : ℕ
  pub refusal : Option ClientRefusal

abbrev pub outbox : ItemsOf → (seen : ℕ) → (decided : List ℕ) → (hall desk aim : ℕ)
    → KeptConnectionOf → (next : ℕ) → Option ClientRefusal → OutboxOf
outbox list seen decided hall desk aim line next refusal = record {
  list = list;
  seen = seen;
  decided = decided;
  hall = hall;
  desk = desk;
  aim = aim;
  line = line;
  next = next;
  refusal = refusal;
}

-- connections are 250 milliseconds apart
abbrev pub new_outbox : ℕ → ℕ → ItemsOf → OutboxOf
new_outbox hall desk list =
    outbox list 0 [] hall desk desk new_line 0 None

-- the items, whichever of them were taken
abbrev pub held : OutboxOf → ItemsOf
held o = o.list

abbrev pub with_list : OutboxOf → ItemsOf → OutboxOf
with_list o list = record o { list = list }

abbrev pub with_line : OutboxOf → KeptConnectionOf → OutboxOf
with_line o line = record o { line = line }

-- the connection is lost
abbrev pub lost : OutboxOf → OutboxOf
lost o = with_line o (closed o.line)

-- ---- what the log has

-- the ids of these entries too, each of them once
abbrev pub noted_all : List ℕ → List Entry → List ℕ
noted_all decided [] = decided
noted_all decided (entry ∷ entries) = noted_all (insert_key nat_eq decided entry.id) entries

-- the entry at a position was looked at
abbrev pub looked_at : OutboxOf → Entry → ℕ → OutboxOf
looked_at o entry position =
    record o { seen = position + 1; decided = insert_key nat_eq o.decided entry.id }

-- the entries of the log that were not looked through yet were
abbrev pub looked : OutboxOf → List Entry → OutboxOf
looked o log = record o {
  seen = max o.seen (length log);
  decided = noted_all o.decided (drop o.seen log);
}

-- ---- what a scoretaker answers

abbrev pub has_ended : Option ItemState → Bool
has_ended None = false
has_ended (Some state.Waits) = false
has_ended _ = true

-- what became of the item of an id, if one is known
abbrev pub state_in : List Entry → ItemsOf → ℕ → Option ItemState
state_in log list id = option_map (λ item. state_of log item.entry) (item_in list id)

-- the log says what became of the item of an id, and no scoretaker has answered it
abbrev pub may_answer : List Entry → ItemsOf → ℕ → Bool
may_answer log list id = not (is_answered list id) && has_ended (state_in log list id)

abbrev pub AnswersIf : Bool → ℕ → OutboxOf → OutboxOf → Type 0
AnswersIf true id old new = new ≡ with_list old (with_answer old.list id)
AnswersIf false id old new = new ≡ old

abbrev pub Answers : List Entry → ℕ → Bool → OutboxOf → OutboxOf → Type 0
Answers log id told old new = (told ≡ may_answer log old.list id) × AnswersIf told id old new

-- ---- what is to be submitted, and where

abbrev pub aimed : OutboxOf → ℕ → OutboxOf
aimed o desk = record o { aim = desk }

-- an item need not be submitted
abbrev pub is_decided : ItemsOf → List ℕ → ℕ × Item → Bool
is_decided list decided pair =
    list_any (nat_eq pair.0) decided || is_answered list pair.0

-- there is an item, which need not be submitted
abbrev pub is_decided_at : ItemsOf → List ℕ → Option (ℕ × Item) → Bool
is_decided_at list decided None = false
is_decided_at list decided (Some pair) = is_decided list decided pair

-- the items that are in the journal, from a place on
abbrev pub kept_from : ItemsOf → ℕ → List (ℕ × Item)
kept_from list place = drop place (take list.kept list.items)

-- how many items in a row need not be submitted
abbrev pub count_decided : OutboxOf → ℕ
count_decided o = prefix_len (is_decided o.list o.decided) (kept_from o.list o.next)

-- the place of the first item of the journal that needs to be submitted
abbrev pub oldest : OutboxOf → ℕ
oldest o = prefix_len (is_decided o.list o.decided) (take o.list.kept o.list.items)

abbrev pub moved : OutboxOf → ℕ → OutboxOf
moved o count =
    record o { next = o.next + count; refusal = if count == 0 then o.refusal else None }

-- the next item is the next one that needs to be submitted
abbrev pub skipped : OutboxOf → OutboxOf
skipped o = moved o (count_decided o)

abbrev pub is_left : OutboxOf → Bool
is_left o = nat_lt o.next o.list.kept

-- ---- what is done

-- the desk is waited for
abbrev pub is_waiting : ConnectionStage → Bool
is_waiting (stage.Opening since) = true
is_waiting (stage.Asked since) = true
is_waiting _ = false

-- how long it is until something is to be done, if nothing comes
abbrev pub wait_of : OutboxOf → ℕ → ℕ
wait_of o now =
    if o.aim == o.desk
    then (if is_left o || is_waiting o.line.stage then line_wait_of o.line now else 2000) else 0

-- a Submit of a client, which is 0, to a desk of a hall, in version 1
abbrev pub submit_request : (hall desk : ℕ) → Entry → Frame
submit_request hall desk entry =
    record { version = One; hall = hall; from = 0; to = desk; what = what.Submit entry }

-- the desk is left for the one that is aimed at, which has taken none
abbrev pub gone_on : OutboxOf → OutboxOf
gone_on o = record o { desk = o.aim; line = closed o.line; next = 0; refusal = None }

-- the entry is that of the item at a place
abbrev pub IsEntryAt : Option (ℕ × Item) → Entry → Type 0
IsEntryAt None entry = ⊥
IsEntryAt (Some pair) entry = entry ≡ pair.1.entry

-- The next item that is in the journal is submitted. Where there is no connection, or memory is
-- refused, the connection is lost.
abbrev pub AsksNext : List (ℕ × Item) → ℕ → OutboxOf → OutboxOf → Type 0
AsksNext [] now old new = ⊥
AsksNext (pair ∷ more) now old new =
    (after : KeptConnectionOf)
    × AsksOver true now (submit_request old.hall old.desk pair.1.entry) old.line after
    × (new ≡ with_line old after)

abbrev pub Asks : DialogueAction → ℕ → OutboxOf → OutboxOf → Type 0
Asks wish.Write now old new = AsksNext (kept_from old.list old.next) now old new
Asks wish.Close now old new = new ≡ lost old
Asks _ now old new = ⊥

abbrev pub Rests : DialogueAction → OutboxOf → OutboxOf → Type 0
Rests w old new = (w ≡ wish.Rest) × (new ≡ old)

abbrev pub OpensIf : Bool → DialogueAction → ℕ → OutboxOf → OutboxOf → Type 0
OpensIf true w now old new =
    (w ≡ wish.Open old.desk) × (new ≡ with_line old (opening old.line now))
OpensIf false w now old new = Rests w old new

abbrev pub AsksIf : Bool → DialogueAction → ℕ → OutboxOf → OutboxOf → Type 0
AsksIf true w now old new = Asks w now old new
AsksIf false w now old new = Rests w old new

-- a connection is opened, and an item is submitted, where one is left that needs it
abbrev pub ActsBy : DueAction → DialogueAction → ℕ → OutboxOf → OutboxOf → Type 0
ActsBy due.Rest w now old new = Rests w old new
ActsBy due.Open w now old new = OpensIf (is_left (skipped old)) w now (skipped old) new
ActsBy due.Ask w now old new = AsksIf (is_left (skipped old)) w now (skipped old) new
ActsBy due.Close w now old new = (w ≡ wish.Close) × (new ≡ lost old)
ActsBy due.Renew w now old new = (w ≡ wish.Close) × (new ≡ lost old)

-- a desk that isn't aimed at any more is left first
abbrev pub ActsAt : Bool → DialogueAction → ℕ → OutboxOf → OutboxOf → Type 0
ActsAt true w now old new = ActsBy (due_of old.line now) w now old new
ActsAt false w now old new = (w ≡ wish.Close) × (new ≡ gone_on old)

abbrev pub Acts : DialogueAction → ℕ → OutboxOf → OutboxOf → Type 0
Acts w now old new = ActsAt (old.aim == old.desk) w now old new

-- ---- what comes

-- the connection is open; where memory is refused, it is lost
abbrev pub Opens : Bool → OutboxOf → OutboxOf → Type 0
Opens opened old new =
    (after : KeptConnectionOf) × OpensLine opened old.line after × (new ≡ with_line old after)

abbrev pub sent_by : OutboxOf → ℕ → OutboxOf
sent_by o count = with_line o (line_sent_by o.line count)

-- the item at a place is the one with this id
abbrev pub is_of : Option (ℕ × Item) → ℕ → Bool
is_of None id = false
is_of (Some pair) id = pair.0 == id

-- the desk has taken the entry with this id, and the next one may be submitted at once
abbrev pub took : OutboxOf → ℕ → OutboxOf
took o id =
    outbox o.list o.seen o.decided o.hall o.desk o.aim (hurried o.line)
    (if nat_lt o.next o.list.kept && is_of (slice_get o.list.items o.next) id then o.next + 1
    else o.next) None

abbrev pub refused_with : OutboxOf → ClientRefusal → OutboxOf
refused_with o refusal = record o { refusal = Some refusal }

abbrev pub Fails : ReceiveOutcome → OutboxOf → OutboxOf → Type 0
Fails c old new = (c ≡ came.NoAnswer) × (new ≡ lost old)

abbrev pub FollowsAnswer : FrameBody → ReceiveOutcome → OutboxOf → OutboxOf → Type 0
FollowsAnswer (what.Taken id) c old new = (c ≡ came.Answer false) × (new ≡ took old id)
FollowsAnswer _ c old new = Fails c old new

-- what follows from the desk's answer: after a refusal the item is to be submitted again
abbrev pub Follows : AnswerOutcome → ReceiveOutcome → OutboxOf → OutboxOf → Type 0
Follows heard.Waits c old new = (c ≡ came.Nothing) × (new ≡ old)
Follows (heard.Answer answer) c old new = FollowsAnswer answer c old new
Follows (heard.Refused refusal) c old new =
    (c ≡ came.Answer false) × (new ≡ refused_with old refusal)
Follows heard.NoAnswer c old new = Fails c old new

-- what the bytes come to over the connection, and what follows of it
pub record HearsDesk (c : ReceiveOutcome) (piece : List ℕ) (old new : OutboxOf) : Type 0 where
  pub heard : AnswerOutcome
  pub after : KeptConnectionOf
  pub hears : HearsOver heard piece old.line after
  pub follows : Follows heard c (with_line old after) new

-- what the contract of each call of the dialogue says
abbrev pub DialogueLeads : Call → OutboxOf → OutboxOf → Type 0
DialogueLeads (Act w now) old new = Acts w now old new
DialogueLeads (Opened result) old new = Opens result old new
DialogueLeads (Lost ended) old new = new ≡ lost old
DialogueLeads (Sent count) old new = new ≡ sent_by old count
DialogueLeads (Hear c now piece) old new = HearsDesk c piece old new
