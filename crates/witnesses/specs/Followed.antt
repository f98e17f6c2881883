-- Calls of a follower of three desks, where nothing is held at first (the project's own).
use Rattle.std.specs.Prelude.{◌≡◌, ℕ, true, false, List, [], codes, None, Some, Option}
use Rattle.acceptor.specs.declared.entry.Entry.{Entry}
use Rattle.client.specs.Standings.{log_request}
use Rattle.desk_talks.specs.Exchanges.{ExchangeOf, asking, talk}
use Rattle.desk_talks.specs.KeptConnections.{line}
use Rattle.desk_talks.specs.declared.kept_connection.ConnectionStage.{ConnectionStage}
use Rattle.log_follower.specs.{Following.IsPlace, Laws.IsReached}
use Rattle.log_follower.specs.Histories.{Acted, Answered, Asked, Followed, History, Lost, Opened}
use Rattle.log_follower.specs.Histories.{Start, Then, action_at, behind_since, differed, followed}
use Rattle.log_follower.specs.Histories.{longest, opening, tried_in_vain, unanswered}
use Rattle.log_follower.specs.declared.stages.AnswerWorth.{AnswerWorth}
use Rattle.log_follower.specs.declared.stages.FollowAction.TheVariants.{Close, Open, Stop}
use Rattle.mirror.specs.declared.mirror.MirrorGrowth.TheVariants.{Differs, Grew, Known}
use Rattle.wire.specs.{Spelling.spelling, Stream.holding}
use Rattle.wire.specs.declared.{frame.Frame.Frame, values.Version.TheVariants.Three}
use Rattle.witnesses.specs.Dialogues.{quiet}
use Rattle.desk_talks.specs.declared.kept_connection.ConnectionStage.TheVariants as stage
use Rattle.log_follower.specs.declared.stages.AnswerWorth.TheVariants as worth
use Rattle.wire.specs.declared.frame.FrameBody.TheVariants as what

-- a desk is asked for its whole log
abbrev pub question : ℕ → Frame
question desk = log_request 7 desk 0

-- a connection to the first desk is being opened
abbrev pub opens : History
opens = Then Start (Acted 0 (Open 1))

-- it is open, and the desk is asked for its log
abbrev pub asks : History
asks = Then (Then opens Opened) (Asked 5 (question 1))

-- one entry comes, of a log that has one; the connection is lost, and the second desk is asked
abbrev pub asks_next : History
asks_next =
    Then (Then (Then (Then (Then asks (Answered 10 (Some Grew) 1 1)) Lost) (Acted 260 (Open 2)))
    Opened) (Asked 260 (question 2))

-- the second desk's log has no entry
abbrev pub falls_behind : History
falls_behind = Then asks_next (Answered 270 (Some Known) 1 0)

-- or its first entry is another one
abbrev pub differs : History
differs = Then asks_next (Answered 270 (Some (Differs 0)) 1 1)

abbrev pub other : Entry
other = record { id = 12; text = codes "REG 2 Bob" }

-- the second desk answers with its log, from the beginning on
abbrev pub answer : ℕ → List Entry → Frame
answer len entries =
    record { version = Three; hall = 7; from = 2; to = 0; what = what.Entries 0 len entries }

-- a question waits over a connection; it was answered
abbrev pub waiting : ℕ → ExchangeOf
waiting desk = asking quiet (question desk)

abbrev pub answered : ℕ → ExchangeOf
answered desk = talk (holding []) None (spelling (question desk))

-- a follower that has got to the first desk, and its connection
abbrev pub at : ConnectionStage → Option ExchangeOf → ℕ → Followed
at stage talking asked =
    followed (record { desks = 3; desk = 1; worth = worth.Open; most = 0; behind = None })
    (line stage talking asked)

-- to the second one, where one entry is held of a log that has one
abbrev pub next : AnswerWorth → Option ℕ → ConnectionStage → ExchangeOf → Followed
next worth behind stage talking =
    followed (record { desks = 3; desk = 2; worth = worth; most = 1; behind = behind })
    (line stage (Some talking) 1)

abbrev pub opened_at : Followed
opened_at = at (stage.Opening 0) None 0

abbrev pub asked_at : Followed
asked_at = at (stage.Asked 5) (Some (waiting 1)) 1

abbrev pub next_at : Followed
next_at = next worth.Open None (stage.Asked 260) (waiting 2)

abbrev pub behind_at : Followed
behind_at = next worth.Useful (Some 270) (stage.Answered (Some 260)) (answered 2)

abbrev pub differs_at : Followed
differs_at = next worth.Differs None (stage.Answered (Some 260)) (answered 2)

pub record WorksFollower : Type 0 where
  pub place : IsPlace 1 3
  -- no connection is open, two seconds after it was to be opened
  pub opening_reached : IsReached 3 opens opened_at 2000
  pub is_opening : opening opens ≡ Some 0
  -- nothing was answered, two seconds after the question: the desk is left
  pub asked_reached : IsReached 3 asks asked_at 2005
  pub waits : unanswered asks ≡ Some 5
  pub same : differed asks ≡ false
  pub longest_told : longest asks ≡ 0
  pub tried : tried_in_vain asks ≡ Some 5
  pub leaves : action_at asked_at 2005 ≡ Close 1
  -- the second desk is asked
  pub next_reached : IsReached 3 asks_next next_at 260
  -- a desk that is behind is left after five seconds
  pub behind_reached : IsReached 3 falls_behind behind_at 5270
  pub is_behind : behind_since falls_behind ≡ Some 270
  pub leaves_behind : action_at behind_at 5270 ≡ Close 2
  -- one that reports another entry stops all
  pub differs_reached : IsReached 3 differs differs_at 300
  pub has_differed : differed differs ≡ true
  pub stops : action_at differs_at 300 ≡ Stop
