-- The calls of a follower and of the connection to its desk over time, and what they show (the
-- project's own).
use Rattle.std.specs.Prelude.{◌≡◌, ◌⊎◌, ℕ, ◌≤◌, max, List, [], ◌∷◌, Option, None, Some, Bool, true}
use Rattle.std.specs.Prelude.{false, nat_lt, not, ◌||◌, if◌then◌else◌}
use Rattle.mirror.specs.declared.mirror.MirrorGrowth.{MirrorGrowth}
use Rattle.mirror.specs.declared.mirror.MirrorGrowth.TheVariants.{Grew, Known, Gap, Differs}
use Rattle.wire.specs.declared.frame.{Frame.Frame, FrameBody.FrameBody}
use Rattle.desk_talks.specs.KeptConnections.{AsksOver, HearsOver, KeptConnectionOf, Opens, closed}
use Rattle.desk_talks.specs.KeptConnections.{is_closed, new_line, sent_by}
use Rattle.log_follower.specs.declared.stages.FollowAction.{FollowAction}
use Rattle.log_follower.specs.declared.stages.FollowAction.TheVariants.{Open, Ask, Close}
use Rattle.log_follower.specs.Following.{Following, new_following, action_of, after_action}
use Rattle.log_follower.specs.Following.{after_answer, behind_after, goes_on, is_behind, line_after}
use Rattle.log_follower.specs.Following.{line_answered, line_hurried, turned}
use Rattle.desk_talks.specs.declared.exchange.AnswerOutcome.TheVariants as heard

-- a follower between two calls, and the connection to the desk that is followed
pub record Followed : Type 0 where
  pub follower : Following
  pub line : KeptConnectionOf

abbrev pub followed : Following → KeptConnectionOf → Followed
followed follower line = record { follower = follower; line = line }

-- the first desk is to be followed, with a quarter of a second from one question to the next
abbrev pub new_followed : ℕ → Followed
new_followed desks = followed (new_following desks) new_line

abbrev pub action_at : Followed → ℕ → FollowAction
action_at s now = action_of s.follower s.line now

abbrev pub acted : Followed → ℕ → Followed
acted s now = followed (after_action s.follower s.line now) (line_after s.follower s.line now)

-- the connection is lost, where there was one: the next desk is followed
abbrev pub lost : Followed → Followed
lost s = if is_closed s.line.stage then s else followed (turned s.follower) (closed s.line)

-- A call: at this time this was to be done, and was begun; or the desk was to be asked, and this
-- question was asked over the connection; the connection is open; bytes were written, or came
-- that are no whole answer; at this time an answer came, with what came of it, how many entries are
-- held after it, and how long the desk's log is; the connection is lost; or the next question may
-- come at once.
pub data Call : Type 0 where
  Acted : ℕ → FollowAction → Call
  Asked : ℕ → Frame → Call
  Opened : Call
  Moved : Call
  Answered : ℕ → Option MirrorGrowth → ℕ → ℕ → Call
  Lost : Call
  Hurried : Call

-- the desk is to be asked, and is
pub record IsAsked (now : ℕ) (question : Frame) (a b : Followed) : Type 0 where
  pub desk : ℕ
  pub line : KeptConnectionOf
  pub due : Ask desk ≡ action_at a now
  pub asks : AsksOver true now question a.line line
  pub after : b ≡ followed (after_action a.follower a.line now) line

-- bytes were written, or came that are no whole answer
abbrev pub Moves : KeptConnectionOf → KeptConnectionOf → Type 0
Moves a b =
    ((count : ℕ) × (b ≡ sent_by a count)) ⊎ ((piece : List ℕ) × HearsOver heard.Waits piece a b)

-- an answer came over the connection, and the follower learns what came of it
pub record IsAnswered (now : ℕ) (taken : Option MirrorGrowth) (held length : ℕ) (a b : Followed)
    : Type 0 where
  pub piece : List ℕ
  pub answer : FrameBody
  pub line : KeptConnectionOf
  pub hears : HearsOver (heard.Answer answer) piece a.line line
  pub after : b ≡ followed (after_answer a.follower now taken held length)
      (line_answered (goes_on taken held length) line)

-- what the contracts of the calls say
abbrev pub Calls : Call → Followed → Followed → Type 0
Calls (Acted now done) a b = (done ≡ action_at a now) × (b ≡ acted a now)
Calls (Asked now question) a b = IsAsked now question a b
Calls Opened a b =
    (line : KeptConnectionOf) × Opens true a.line line × (b ≡ followed a.follower line)
Calls Moved a b =
    (line : KeptConnectionOf) × Moves a.line line × (b ≡ followed a.follower line)
Calls (Answered now taken held length) a b = IsAnswered now taken held length a b
Calls Lost a b = b ≡ lost a
Calls Hurried a b = b ≡ followed a.follower (line_hurried a.follower a.line)

-- all calls since the follower was made, in order
pub data History : Type 0 where
  Start : History
  Then : History → Call → History

-- a history leads from a new follower of this many desks to this one
abbrev pub Leads : ℕ → History → Followed → Type 0
Leads desks Start s = s ≡ new_followed desks
Leads desks (Then h c) s = (m : Followed) × Leads desks h m × Calls c m s

-- ---- time

-- the time of the last call that has one
abbrev pub latest : History → ℕ
latest Start = 0
latest (Then h (Acted now done)) = now
latest (Then h (Asked now question)) = now
latest (Then h (Answered now taken held length)) = now
latest (Then h _) = latest h

-- the time doesn't go back
abbrev pub IsTimed : History → Type 0
IsTimed Start = Unit {0}
IsTimed (Then h (Acted now done)) = IsTimed h × (latest h ≤ now)
IsTimed (Then h (Asked now question)) = IsTimed h × (latest h ≤ now)
IsTimed (Then h (Answered now taken held length)) = IsTimed h × (latest h ≤ now)
IsTimed (Then h _) = IsTimed h

-- ---- what was begun and what came

-- entries came that differ from those that were held
abbrev pub is_other : Option MirrorGrowth → Bool
is_other (Some (Differs position)) = true
is_other _ = false

abbrev pub differed : History → Bool
differed Start = false
differed (Then h (Answered now taken held length)) = is_other taken || differed h
differed (Then h _) = differed h

-- the time of the question that waits for its answer
abbrev pub unanswered : History → Option ℕ
unanswered Start = None
unanswered (Then h (Acted now (Open desk))) = None
unanswered (Then h (Acted now (Close desk))) = None
unanswered (Then h (Asked now question)) = Some now
unanswered (Then h (Answered now taken held length)) = None
unanswered (Then h Lost) = None
unanswered (Then h _) = unanswered h

-- the time since which a connection is being opened
abbrev pub opening : History → Option ℕ
opening Start = None
opening (Then h (Acted now (Open desk))) = Some now
opening (Then h (Acted now (Close desk))) = None
opening (Then h (Asked now question)) = None
opening (Then h Opened) = None
opening (Then h (Answered now taken held length)) = None
opening (Then h Lost) = None
opening (Then h _) = opening h

-- the desks to which connections were opened, the last one first
abbrev pub openings : History → List ℕ
openings Start = []
openings (Then h (Acted now (Open desk))) = desk ∷ openings h
openings (Then h _) = openings h

-- ---- answers

-- the answer is of use: no gap, and not merely what is held of a log that is longer
abbrev pub is_useful : Option MirrorGrowth → ℕ → ℕ → Bool
is_useful None held length = true
is_useful (Some Grew) held length = true
is_useful (Some Known) held length = not (nat_lt held length)
is_useful (Some Gap) held length = false
is_useful (Some (Differs position)) held length = false

-- the last question was answered with something of use, and no connection was opened since: the one
-- over which it was answered is open still, or was closed or lost after it
abbrev pub rests : History → Bool
rests Start = false
rests (Then h (Acted now (Open desk))) = false
rests (Then h (Acted now (Ask desk))) = false
rests (Then h (Asked now question)) = false
rests (Then h (Answered now taken held length)) = is_useful taken held length
rests (Then h _) = rests h

-- the time of the last question; none where a full answer came since, or it was answered and the
-- next may come at once
abbrev pub last_question : History → Option ℕ
last_question Start = None
last_question (Then h (Asked now question)) = Some now
last_question (Then h (Answered now taken held length)) =
    if goes_on taken held length then None else last_question h
last_question (Then h Hurried) = if rests h then None else last_question h
last_question (Then h _) = last_question h

-- the time of the last question or opening, in the same way
abbrev pub last_try : History → Option ℕ
last_try Start = None
last_try (Then h (Acted now (Open desk))) = Some now
last_try (Then h (Asked now question)) = Some now
last_try (Then h (Answered now taken held length)) =
    if goes_on taken held length then None else last_try h
last_try (Then h Hurried) = if rests h then None else last_try h
last_try (Then h _) = last_try h

-- the time of the last question or opening, where nothing of use was answered since, whether or not
-- the caller was in a hurry
abbrev pub tried_in_vain : History → Option ℕ
tried_in_vain Start = None
tried_in_vain (Then h (Acted now (Open desk))) = Some now
tried_in_vain (Then h (Asked now question)) = Some now
tried_in_vain (Then h (Answered now taken held length)) =
    if is_useful taken held length then None else tried_in_vain h
tried_in_vain (Then h _) = tried_in_vain h

-- how long the longest log is that an answer reported
abbrev pub longest : History → ℕ
longest Start = 0
longest (Then h (Answered now taken held length)) = max (longest h) length
longest (Then h _) = longest h

-- since when all answers over this connection reported logs that are shorter than the longest that
-- was reported before, or than what is held
abbrev pub behind_since : History → Option ℕ
behind_since Start = None
behind_since (Then h (Acted now (Close desk))) = None
behind_since (Then h (Answered now taken held length)) =
    behind_after (is_behind (longest h) held length) (behind_since h) now
behind_since (Then h Lost) = None
behind_since (Then h _) = behind_since h
