-- Which desk of a hall is asked for its log, and when (the project's own). Times are milliseconds.
use Rattle.std.specs.Prelude.{ℕ, ◌+◌, ◌≤◌, min, max, Option, None, Some, Bool, true, false, ◌==◌}
use Rattle.std.specs.Prelude.{◌&&◌, ◌||◌, not, nat_lt, if◌then◌else◌}
use Rattle.mirror.specs.declared.mirror.MirrorGrowth.{MirrorGrowth}
use Rattle.mirror.specs.declared.mirror.MirrorGrowth.TheVariants.{Grew, Known, Gap, Differs}
use Rattle.desk_talks.specs.KeptConnections.{KeptConnectionOf, closed, due_of, hurried, is_closed}
use Rattle.desk_talks.specs.KeptConnections.{opening, to_open_at_once}
use Rattle.desk_talks.specs.declared.kept_connection.DueAction.{DueAction}
use Rattle.log_follower.specs.declared.stages.{AnswerWorth.AnswerWorth, FollowAction.FollowAction}
use Rattle.desk_talks.specs.KeptConnections as connection
use Rattle.desk_talks.specs.declared.kept_connection.DueAction.TheVariants as due
use Rattle.log_follower.specs.declared.stages.AnswerWorth.TheVariants as worth
use Rattle.log_follower.specs.declared.stages.FollowAction.TheVariants as action

-- the number of a desk, of this many desks, of which there are at most five
pub record IsPlace (desk desks : ℕ) : Type 0 where
  pub first : 1 ≤ desk
  pub last : desk ≤ desks
  pub most : desks ≤ 5

-- a follower between two calls
pub record Following : Type 0 where
  -- how many desks there are, and the number of the one that is followed
  pub desks : ℕ
  pub desk : ℕ
  -- what its last answer was worth
  pub worth : AnswerWorth
  -- how long the longest log is that was reported
  pub most : ℕ
  -- since when the desk that is followed is behind
  pub behind : Option ℕ

-- before the first call: the first desk is to be followed, and nothing was reported
abbrev pub new_following : ℕ → Following
new_following desks =
    record { desks = desks; desk = 1; worth = worth.Open; most = 0; behind = None }

-- ---- when a desk is left

abbrev pub is_stopped : AnswerWorth → Bool
is_stopped worth.Differs = true
is_stopped _ = false

-- what came brings nothing
abbrev pub is_useless : AnswerWorth → Bool
is_useless worth.Useless = true
is_useless _ = false

-- the desk has been behind for five seconds
abbrev pub is_behind_for : Option ℕ → ℕ → Bool
is_behind_for None now = false
is_behind_for (Some since) now = connection.is_over now since 5000

-- the connection is to be closed for what the desk said over it
abbrev pub is_to_be_left : Following → KeptConnectionOf → ℕ → Bool
is_to_be_left s l now =
    not (is_closed l.stage) && (is_useless s.worth || is_behind_for s.behind now)

-- the desk after this one, in the order of numbers: after the last the first
abbrev pub next_place : ℕ → ℕ → ℕ
next_place desks desk = if desk == desks then 1 else desk + 1

-- the next desk is followed; what the last answer was worth is remembered
abbrev pub turned : Following → Following
turned s = record s { desk = next_place s.desks s.desk; behind = None }

-- ---- what is to be done

-- what is due over the connection: where it is to be closed, the next desk is followed
abbrev pub due_for : DueAction → ℕ → FollowAction
due_for due.Rest desk = action.Rest
due_for due.Open desk = action.Open desk
due_for due.Ask desk = action.Ask desk
due_for due.Close desk = action.Close desk
due_for due.Renew desk = action.Close desk

abbrev pub action_of : Following → KeptConnectionOf → ℕ → FollowAction
action_of s l now =
    if is_stopped s.worth then action.Stop else (
    if is_to_be_left s l now then action.Close s.desk else due_for (due_of l now) s.desk
    )

-- once it is begun
abbrev pub begun : FollowAction → Following → Following
begun (action.Open desk) s = record s { worth = worth.Open }
begun (action.Ask desk) s = record s { worth = worth.Open }
begun (action.Close desk) s = turned s
begun _ s = s

abbrev pub line_begun : FollowAction → KeptConnectionOf → ℕ → KeptConnectionOf
line_begun (action.Open desk) l now = opening l now
line_begun (action.Close desk) l now = closed l
line_begun _ l now = l

abbrev pub after_action : Following → KeptConnectionOf → ℕ → Following
after_action s l now = begun (action_of s l now) s

abbrev pub line_after : Following → KeptConnectionOf → ℕ → KeptConnectionOf
line_after s l now = line_begun (action_of s l now) l now

-- how long it is until something is to be done, if nothing comes
abbrev pub behind_wait : Option ℕ → ℕ → ℕ
behind_wait None now = 5000
behind_wait (Some since) now = connection.left_of now since 5000

abbrev pub open_wait : Following → KeptConnectionOf → ℕ → ℕ
open_wait s l now =
    if is_useless s.worth then 0 else min (connection.wait_of l now) (behind_wait s.behind now)

abbrev pub wait_of : Following → KeptConnectionOf → ℕ → ℕ
wait_of s l now =
    if is_stopped s.worth then 0
    else (if is_closed l.stage then connection.wait_of l now else open_wait s l now)

-- ---- what comes

-- What an answer is worth, where this many entries are held after it and the desk's log is this
-- long: entries that differ from those that are held stop everything; a gap, or nothing new of a
-- log that is longer, is no use.
abbrev pub worth_of : Option MirrorGrowth → ℕ → ℕ → AnswerWorth
worth_of (Some Known) held length = if nat_lt held length then worth.Useless else worth.Useful
worth_of (Some Gap) held length = worth.Useless
worth_of (Some (Differs position)) held length = worth.Differs
worth_of _ held length = worth.Useful

-- entries that differ stop everything for good, whatever comes after them
abbrev pub worth_after : AnswerWorth → Option MirrorGrowth → ℕ → ℕ → AnswerWorth
worth_after before taken held length =
    if is_stopped before then worth.Differs else worth_of taken held length

-- an answer that brought new entries, and left some of the log, lets the next question come at once
abbrev pub goes_on : Option MirrorGrowth → ℕ → ℕ → Bool
goes_on (Some Grew) held length = nat_lt held length
goes_on _ held length = false

abbrev pub line_answered : Bool → KeptConnectionOf → KeptConnectionOf
line_answered true l = hurried l
line_answered false l = l

-- a desk is behind that reports a shorter log than was reported before, or than is held
abbrev pub is_behind : ℕ → ℕ → ℕ → Bool
is_behind most held length = nat_lt length (max most held)

-- since when it is, where it was so before or not
abbrev pub behind_from : Option ℕ → ℕ → Option ℕ
behind_from None now = Some now
behind_from (Some since) now = Some since

abbrev pub behind_after : Bool → Option ℕ → ℕ → Option ℕ
behind_after true behind now = behind_from behind now
behind_after false behind now = None

abbrev pub after_answer : Following → ℕ → Option MirrorGrowth → ℕ → ℕ → Following
after_answer s now taken held length = record {
  desks = s.desks;
  desk = s.desk;
  worth = worth_after s.worth taken held length;
  most = max s.most length;
  behind = behind_after (is_behind s.most held length) s.behind now;
}

-- ---- in a hurry

-- where the last question was answered with something of use, the next one may come at once, over
-- the connection or, where it was closed or lost since, over a new one
abbrev pub line_hurried_by : AnswerWorth → KeptConnectionOf → KeptConnectionOf
line_hurried_by worth.Useful l = to_open_at_once (hurried l)
line_hurried_by _ l = l

abbrev pub line_hurried : Following → KeptConnectionOf → KeptConnectionOf
line_hurried s l = line_hurried_by s.worth l
