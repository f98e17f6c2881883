-- A mirror that is kept up over connections to the desks of a hall, one at a time (the project's
-- own).
use Rattle.std.specs.Prelude.{ℕ, ◌≡◌, ◌+◌, ◌-◌, List, [], Option, None, Some, Bool, true, false}
use Rattle.std.specs.Prelude.{IfSome, if◌then◌else◌, length, nat_le}
use Rattle.acceptor.specs.declared.entry.Entry.{Entry}
use Rattle.client.specs.Standings.{await_request, log_request}
use Rattle.log_follower.specs.Following.{Following, new_following, action_of, after_action, turned}
use Rattle.log_follower.specs.Following.{after_answer, goes_on, line_after, line_answered}
use Rattle.log_follower.specs.{Following.line_hurried, declared.stages.FollowAction.FollowAction}
use Rattle.mirror.specs.Fronts.{TakesAs}
use Rattle.mirror.specs.declared.mirror.MirrorGrowth.{MirrorGrowth, TheVariants.Grew}
use Rattle.wire.specs.{Ranges.IsId, declared.frame.Frame.Frame, declared.frame.FrameBody.FrameBody}
use Rattle.desk_talks.specs.Dialogues.{Act, Call, Hear, Lost, Opened, Sent}
use Rattle.desk_talks.specs.KeptConnections.{AsksOver, HearsOver, KeptConnectionOf, closed}
use Rattle.desk_talks.specs.KeptConnections.{is_closed, new_line, sent_by}
use Rattle.desk_talks.specs.declared.dialogue.ReceiveOutcome.{ReceiveOutcome}
use Rattle.desk_talks.specs.declared.dialogue.DialogueAction.{DialogueAction}
use Rattle.desk_talks.specs.declared.exchange.AnswerOutcome.{AnswerOutcome}
use Rattle.log_follower.specs.Following as follow
use Rattle.log_follower.specs.declared.stages.FollowAction.TheVariants as action
use Rattle.wire.specs.declared.frame.FrameBody.TheVariants as what
use Rattle.desk_talks.specs.KeptConnections as connection
use Rattle.desk_talks.specs.declared.dialogue.ReceiveOutcome.TheVariants as came
use Rattle.desk_talks.specs.declared.dialogue.DialogueAction.TheVariants as wish
use Rattle.desk_talks.specs.declared.exchange.AnswerOutcome.TheVariants as heard

-- the number of the hall, which of its desks is followed, the connection to it, the entries that
-- are held, and the id of a command that the desk is to be asked for next
pub record MirroringOf : Type 0 where
  pub hall : ℕ
  pub follower : Following
  pub line : KeptConnectionOf
  pub entries : List Entry
  pub awaits : Option ℕ

abbrev pub mirroring : ℕ → Following → KeptConnectionOf → List Entry → Option ℕ → MirroringOf
mirroring hall follower line entries awaits = record {
  hall = hall;
  follower = follower;
  line = line;
  entries = entries;
  awaits = awaits;
}

abbrev pub AreIds : Option ℕ → Type 0
AreIds awaits = IfSome awaits IsId

-- the first desk is to be followed, with a quarter of a second from one question to the next, and
-- nothing is held
abbrev pub new_mirroring : ℕ → ℕ → MirroringOf
new_mirroring hall desks = mirroring hall (new_following desks) new_line [] None

abbrev pub with_line : MirroringOf → KeptConnectionOf → MirroringOf
with_line m line = record m { line = line }

-- the connection is closed, and the next desk is followed; what is held stays
abbrev pub given_up : MirroringOf → MirroringOf
given_up m = mirroring m.hall (turned m.follower) (closed m.line) m.entries None

-- the connection is lost, where there was one
abbrev pub lost : MirroringOf → MirroringOf
lost m = if is_closed m.line.stage then record m { awaits = None } else given_up m

abbrev pub wait_of : MirroringOf → ℕ → ℕ
wait_of m now = follow.wait_of m.follower m.line now

-- ---- what is done

-- the desk that is followed is asked for what its log has from the last held entry on; or it is
-- asked to answer once the command that is waited for is there, or after a second
abbrev pub question_by : Option ℕ → MirroringOf → Frame
question_by None m = log_request m.hall m.follower.desk (length m.entries - 1)
question_by (Some id) m = await_request m.hall m.follower.desk id 1

-- It is asked so once. Where there is no connection, or memory is refused, the connection counts as
-- lost.
abbrev pub Asks : DialogueAction → ℕ → MirroringOf → MirroringOf → Type 0
Asks wish.Write now old new =
    (line : KeptConnectionOf) × AsksOver true now (question_by old.awaits old) old.line line
    × (new ≡ mirroring old.hall old.follower line old.entries None)
Asks wish.Close now old new = new ≡ given_up old
Asks _ now old new = ⊥

-- what comes of what the follower says, once it counts as begun
abbrev pub ActsBy : FollowAction → DialogueAction → ℕ → MirroringOf → MirroringOf → Type 0
ActsBy action.Rest w now old new = (w ≡ wish.Rest) × (new ≡ old)
ActsBy (action.Open desk) w now old new = (w ≡ wish.Open desk) × (new ≡ old)
ActsBy (action.Ask desk) w now old new = Asks w now old new
ActsBy (action.Close desk) w now old new = (w ≡ wish.Close) × (new ≡ old)
ActsBy action.Stop w now old new = (w ≡ wish.Stop) × (new ≡ with_line old (closed old.line))

-- what the follower says counts as begun
abbrev pub begun : ℕ → MirroringOf → MirroringOf
begun now m =
    mirroring m.hall (after_action m.follower m.line now) (line_after m.follower m.line now)
    m.entries m.awaits

abbrev pub Acts : DialogueAction → ℕ → MirroringOf → MirroringOf → Type 0
Acts w now old new = ActsBy (action_of old.follower old.line now) w now (begun now old) new

-- ---- what comes

-- the connection is open and nothing was said over it; where memory is refused, it counts as lost
abbrev pub Opens : Bool → MirroringOf → MirroringOf → Type 0
Opens true old new =
    (line : KeptConnectionOf) × connection.Opens true old.line line × (new ≡ with_line old line)
Opens false old new = new ≡ given_up old

-- the mirror has grown; nothing is said where memory was refused
abbrev pub is_growth : Option MirrorGrowth → Bool
is_growth None = true
is_growth (Some Grew) = true
is_growth _ = false

-- entries from a position on end where a log may end
abbrev pub is_within : ℕ → List Entry → Bool
is_within position entries = nat_le (position + length entries) 65536

-- what came of entries is reported to the follower
abbrev pub answering : MirroringOf → ℕ → Option MirrorGrowth → List Entry → ℕ → MirroringOf
answering m now taken entries len =
    mirroring m.hall (after_answer m.follower now taken (length entries) len)
    (line_answered (goes_on taken (length entries) len) m.line) entries m.awaits

-- The mirror takes entries of a log of this length.
pub record Grows (c : ReceiveOutcome) (now position len : ℕ) (entries : List Entry)
    (old new : MirroringOf) : Type 0 where
  pub taken : Option MirrorGrowth
  pub takes : TakesAs old.entries position entries taken new.entries
  pub after : new ≡ answering old now taken new.entries len
  pub is : c ≡ came.Answer (is_growth taken)

-- what isn't an answer is a lost connection
abbrev pub Fails : ReceiveOutcome → MirroringOf → MirroringOf → Type 0
Fails c old new = (c ≡ came.NoAnswer) × (new ≡ given_up old)

abbrev pub FollowsTold : Bool → ReceiveOutcome → (now position len : ℕ) → List Entry → MirroringOf
    → MirroringOf → Type 0
FollowsTold true c now position len entries old new = Grows c now position len entries old new
FollowsTold false c now position len entries old new = Fails c old new

-- in a hurry: the next question may come at once, where the last one was answered with something of
-- use, over the connection or, where it was closed or lost since, over a new one
abbrev pub hurried : MirroringOf → MirroringOf
hurried m = with_line m (line_hurried m.follower m.line)

-- the same, and the next question is for this command
abbrev pub awaiting : MirroringOf → ℕ → MirroringOf
awaiting m id = record (hurried m) { awaits = Some id }

-- What a desk says of a command brings no entries and says nothing of its log, which is asked for
-- at once.
abbrev pub after_told : MirroringOf → ℕ → MirroringOf
after_told m now = hurried (answering (record m { awaits = None }) now None m.entries 0)

-- a question for the log is answered by entries of it, one for a command by what becomes of it
abbrev pub FollowsAnswer : FrameBody → ReceiveOutcome → ℕ → MirroringOf → MirroringOf → Type 0
FollowsAnswer (what.Told id state) c now old new =
    (c ≡ came.Answer false) × (new ≡ after_told old now)
FollowsAnswer (what.Entries position len entries) c now old new =
    FollowsTold (is_within position entries) c now position len entries old new
FollowsAnswer _ c now old new = Fails c old new

abbrev pub Follows : AnswerOutcome → ReceiveOutcome → ℕ → MirroringOf → MirroringOf → Type 0
Follows heard.Waits c now old new = (c ≡ came.Nothing) × (new ≡ old)
Follows (heard.Answer answer) c now old new = FollowsAnswer answer c now old new
Follows _ c now old new = Fails c old new

-- what the bytes of the desk come to over the connection, and what follows of it
pub record HearsDesk (c : ReceiveOutcome) (now : ℕ) (piece : List ℕ) (old new : MirroringOf)
    : Type 0 where
  pub heard : AnswerOutcome
  pub line : KeptConnectionOf
  pub hears : HearsOver heard piece old.line line
  pub follows : Follows heard c now (with_line old line) new

-- what the contract of each call of the dialogue says
abbrev pub DialogueLeads : Call → MirroringOf → MirroringOf → Type 0
DialogueLeads (Act w now) old new = Acts w now old new
DialogueLeads (Opened result) old new = Opens result old new
DialogueLeads (Lost ended) old new = new ≡ lost old
DialogueLeads (Sent count) old new = new ≡ with_line old (sent_by old.line count)
DialogueLeads (Hear c now piece) old new = HearsDesk c now piece old new

-- what a mirror holds: its entries
abbrev pub held : MirroringOf → List Entry
held m = m.entries
