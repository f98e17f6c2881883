-- Many clients that are served by one desk, side by side, step by step (the project's own).
use Rattle.std.specs.Prelude.{◌≡◌, ◌≢◌, ◌⊎◌, ◌≤◌, ◌<◌, ◌+◌, ◌-◌, List, [], ◌∷◌, ◌++◌, if◌then◌else◌}
use Rattle.std.specs.Prelude.{ℕ, Option, None, Some, suc, Bool, true, false, ◌||◌, IsTrue, IsFalse}
use Rattle.std.specs.{Prelude.length, List.AllByRecursion}
use Rattle.answers.specs.Seen.{Seen, settled}
use Rattle.guarded.specs.LockedConnections.{LockedConnectionOf, IsDear, IsDone, WantsRead}
use Rattle.guarded.specs.LockedConnections.{after_sent, begun, fresh_locked_connection}
use Rattle.guarded.specs.LockedTurns.{Follow, Place}
use Rattle.store.specs.declared.home.Home.{Home}
use Rattle.connections.specs.Connections.{AreServedInTurn, Point, Served, begun_of}
use Rattle.serving.specs.{declared.ends.ConnectionEnd.ConnectionEnd, Making.Outside, Making.Way}
use Rattle.serving.specs.{Connection.Begun, Connection.Sides, Kinds.is_dear, Kinds.is_message}
use Rattle.serving.specs.OwnTicks.{Ticks, TicksInPart, unanswered}
use Rattle.serving.specs.TurnLaw.{Came as CameIn, Began, Rested, Took as TookOf, Turn, begun_in}
use Rattle.ticking.specs.Ticking.{Look, Ticking, after, is_due, look, new_ticker}
use Rattle.polled.specs.Happenings.{Happened, Round, Came, Full, Named, Gave, Took, Ended, Broke}
use Rattle.polled.specs.{Happenings.Closed, Happenings.Failed, Telling.Tells}
use Rattle.multiplex.specs.declared.ends.{ServingsOutcome.ServingsOutcome, ServingEnd.ServingEnd}
use Rattle.multiplex.specs.declared.{ends.EndReason.EndReason, own_ticks.OwnTicks.OwnTicks}
use Rattle.wire.specs.declared.standing.Difference.{Difference}
use Rattle.multiplex.specs.Noting.{AreDue, IsHeard, IsOff, ears, fresh_notes, hear_all}
use Rattle.multiplex.specs.{Silence.ready_after, Silence.waited_for, declared.notes.Notes.Notes}
use Rattle.multiplex.specs.declared.table.{Guest.Guest, ServingOptions.ServingOptions}
use Rattle.serving.specs.declared.ends.ConnectionEnd.TheVariants as end
use Rattle.multiplex.specs.declared.ends.ServingEnd.TheVariants as over
use Rattle.multiplex.specs.declared.ends.EndReason.TheVariants as why

-- ---- the desk's own Ticks

-- what a ticker is shown of a desk at a moment
abbrev pub shown : Seen → ℕ → Look
shown x now = look (length x.desk.log) (length x.desk.queue) now

-- before the first round: there is a ticker where a period was asked for
abbrev pub first_ticks : Home → Option ℕ → Seen → OwnTicks
first_ticks home None x = record { ticker = None; starved = false }
first_ticks home (Some period) x =
    record {
      ticker = Some (new_ticker period home.desk home.desks (length x.desk.log) 0);
      starved = false;
    }

-- whether a Tick is to be taken at this look
abbrev pub ticks_at : Option Ticking → Look → Bool
ticks_at None l = false
ticks_at (Some t) l = is_due t l

abbrev pub looked : Option Ticking → Look → Option Ticking
looked None l = None
looked (Some t) l = Some (after t l)

-- after a look, at which memory was refused for a Tick or was not
abbrev pub ticks_after : OwnTicks → Look → Bool → OwnTicks
ticks_after own l starved =
    record { ticker = looked own.ticker l; starved = starved || own.starved }

-- ---- what stands between two steps

-- the clients whose connections are open, in the order in which they came; the number of the next
-- one; how many milliseconds after the first round it is; the desk's own Ticks; whether a sheet or
-- entries of the log were asked for and answered in this round; how another desk differs, if one
-- was heard to; why serving is over, where it is
pub record Lobby : Type 0 where
  pub guests : List Guest
  pub next : ℕ
  pub time : ℕ
  pub own : OwnTicks
  pub spent : Bool
  pub differs : Option Difference
  pub over : Option ServingEnd

abbrev pub lobby : List Guest → ℕ → ℕ → OwnTicks → Bool → Option Difference → Option ServingEnd
    → Lobby
lobby guests next time own spent differs over =
    record {
      guests = guests;
      next = next;
      time = time;
      own = own;
      spent = spent;
      differs = differs;
      over = over;
    }

-- before the first client
abbrev pub empty_lobby : OwnTicks → Lobby
empty_lobby own = lobby [] 0 0 own false None None

abbrev pub guest : ℕ → LockedConnectionOf → Notes → ℕ → Guest
guest number talk notes ready =
    record { number = number; talk = talk; notes = notes; ready = ready }

-- what is seen of the node beside that, and what is there beside
pub record Room {V : Type 0} (way : Way V) : Type 0 where
  pub lobby : Lobby
  pub seen : Seen
  pub outside : Outside way

-- a connection, with the node as it is seen
abbrev pub with_node : {V : Type 0} → {way : Way V} → Room way → LockedConnectionOf → Place way
with_node a talk = record { guard = talk; seen = a.seen; outside = a.outside }

-- ---- steps

-- a change of which the node knows nothing: a client came, with these random bytes, or came and was
-- turned away for want of memory; the system had no socket for one; it refuses to name one; a
-- client was ready whose connection is not open; once serving is over, a client took these bytes of
-- what was to be sent to it, or that write failed; a connection was ended; serving is over
pub data Change : Type 0 where
  Comes : ℕ → List ℕ → Change
  TurnedAway : ℕ → List ℕ → Change
  NoSocket : Change
  Unwatched : ℕ → Change
  Stray : ℕ → Change
  TakesLast : ℕ → Option (List ℕ) → Change
  Shut : ℕ → EndReason → Change
  Stops : ServingEnd → Change

-- a step: such a change; or a round is over at which no Tick is due; or one is over at which the
-- desk gave itself a Tick, for which memory was refused or was not; or a client was ready, its
-- connection took these turns, and perhaps it was ended; or these frames, by which the desk had
-- said something to itself, were served, and what was changed by then was settled, or that failed
pub data Step : Type 0 where
  Changed : Change → Step
  Clock : ℕ → Step
  Ticked : ℕ → Bool → Step
  Visit : ℕ → List Turn → Option EndReason → Step
  Settles : List Served → Bool → Step

-- what is told of turns: the bytes that the client gave and took
abbrev pub told_turns : ℕ → List Turn → List Happened
told_turns k [] = []
told_turns k (CameIn piece ∷ ts) = Gave k piece ∷ told_turns k ts
told_turns k (TookOf bytes ∷ ts) = Took k bytes ∷ told_turns k ts
told_turns k (Began one ∷ ts) = told_turns k ts
told_turns k (Rested ∷ ts) = told_turns k ts

-- what is told of why a connection is to be ended
abbrev pub told_why : ℕ → Option EndReason → List Happened
told_why k (Some why.Ended) = Ended k ∷ []
told_why k (Some why.Broke) = Broke k ∷ []
told_why k _ = []

-- and that it was
abbrev pub told_end : ℕ → Option EndReason → List Happened
told_end k None = []
told_end k (Some w) = Closed k ∷ []

abbrev pub told_over : ServingEnd → List Happened
told_over over.Failed = Failed ∷ []
told_over _ = []

abbrev pub told_change : Change → List Happened
told_change (Comes k random) = Came k random ∷ []
told_change (TurnedAway k random) = Came k random ∷ Closed k ∷ []
told_change NoSocket = Full ∷ []
told_change (Unwatched k) = Broke k ∷ []
told_change (Stray k) = Named k ∷ []
told_change (TakesLast k None) = Broke k ∷ []
told_change (TakesLast k (Some bytes)) = Took k bytes ∷ []
told_change (Shut k w) = Closed k ∷ []
told_change (Stops e) = told_over e

abbrev pub told : Step → List Happened
told (Changed c) = told_change c
told (Clock now) = Round now ∷ []
told (Ticked now starved) = Round now ∷ []
told (Visit k turns fate) =
    Named k ∷ (told_turns k turns ++ (told_why k fate ++ told_end k fate))
told (Settles heard ok) = []

abbrev pub told_all : List Step → List Happened
told_all [] = []
told_all (s ∷ ss) = told s ++ told_all ss

-- ---- a client that is ready

-- all that came is served, but for what waits until what is to be sent is taken
abbrev pub Settled : LockedConnectionOf → Type 0
Settled c = (c.output ≢ []) ⊎ WantsRead c

-- when the connection of a client that was ready goes on, or is ended
abbrev pub IsFate : Option EndReason → LockedConnectionOf → Type 0
IsFate None c = IsDone c → ⊥
IsFate (Some why.Done) c = IsDone c
IsFate (Some why.Ended) c = WantsRead c
IsFate (Some why.Broke) c = Unit {0}
IsFate (Some why.Over) c = Unit {0}
IsFate _ c = ⊥

-- these frames are messages of desks to desks
abbrev pub AreMessages : List Begun → Type 0
AreMessages begun = AllByRecursion (λ (one : Begun). is_message one.frame.what ≡ true) begun

-- where no frame was begun after the messages of desks, none is to be begun, or the next one was
-- put off, which asks for a sheet or for entries of the log, or is an Await that is not to be
-- answered yet
abbrev pub IsLeft : Seen → ℕ → List Begun → LockedConnectionOf → Option ℕ → Type 0
IsLeft x time [] c until = Settled c ⊎ (IsDear c ⊎ IsOff x time c until)
IsLeft x time (one ∷ more) c until = Unit {0}

-- a frame is begun, and whether one that asks for such was begun in this round: one alone may be
abbrev pub SharesOne : Bool → Bool → Bool → Type 0
SharesOne true spent later = (spent ≡ false) × (later ≡ true)
SharesOne false spent later = later ≡ spent

-- one frame at most is begun
abbrev pub SharesLast : List Begun → Bool → Bool → Type 0
SharesLast [] spent later = later ≡ spent
SharesLast (one ∷ []) spent later = SharesOne (is_dear one.frame.what) spent later
SharesLast (one ∷ (other ∷ more)) spent later = ⊥

-- messages of desks are begun, and then one frame at most
pub record Shares (begun : List Begun) (spent later : Bool) : Type 0 where
  pub messages : List Begun
  pub last : List Begun
  pub all : begun ≡ messages ++ last
  pub heard : AreMessages messages
  pub shares : SharesLast last spent later

-- why serving is over once a connection that ended so was ended
abbrev pub over_by : Option ConnectionEnd → Option ServingEnd
over_by (Some end.Stopped) = Some over.Stopped
over_by (Some end.Down) = Some over.Down
over_by _ = None

abbrev pub over_after : Option EndReason → LockedConnectionOf → Option ServingEnd
over_after None c = None
over_after (Some w) c = over_by c.talk.end

-- the client stays, or leaves
abbrev pub staying : Option EndReason → Guest → List Guest
staying None g = g ∷ []
staying (Some w) g = []

-- how many pieces came
abbrev pub pieces : List Turn → ℕ
pieces [] = 0
pieces (CameIn piece ∷ ts) = suc (pieces ts)
pieces (Began one ∷ ts) = pieces ts
pieces (Rested ∷ ts) = pieces ts
pieces (TookOf bytes ∷ ts) = pieces ts

-- a ready client's connection took these turns, in which one piece came at most, and one frame was
-- begun at most that is no message of a desk to a desk
pub record Visits {V : Type 0} {way : Way V} (k : ℕ) (turns : List Turn) (fate : Option EndReason)
    (a b : Room way) (before after : List Guest) (old new : Guest) : Type 0 where
  pub going : a.lobby.over ≡ None
  pub found : a.lobby.guests ≡ before ++ old ∷ after
  pub number : old.number ≡ k
  pub follow : Follow (with_node a old.talk) turns (with_node b new.talk)
  pub once : pieces turns ≤ 1
  pub shares : Shares (begun_in turns) a.lobby.spent b.lobby.spent
  pub served : fate ≡ None → IsLeft b.seen a.lobby.time shares.last new.talk new.notes.until
  pub heard : IsHeard old.talk.talk.home (ears a.seen old.notes.known a.lobby.differs)
      shares.messages new.notes.known b.lobby.differs
  pub due : AreDue old.talk.talk.home
      (hear_all old.talk.talk.home (ears a.seen old.notes.known a.lobby.differs)
      shares.messages).seen a.lobby.time old.notes.until shares.last
  pub same : new.number ≡ k
  pub ready : new.ready ≡ ready_after a.lobby.time (begun old.talk) (begun new.talk) old.ready
  pub stands : IsFate fate new.talk
  pub left : b.lobby ≡ lobby (before ++ (staying fate new ++ after)) a.lobby.next a.lobby.time
      a.lobby.own b.lobby.spent b.lobby.differs (over_after fate new.talk)

-- ---- changes of which the node knows nothing

-- none wasn't ready for longer than this one
abbrev pub IsLongest : Guest → List Guest → Type 0
IsLongest g = AllByRecursion (λ (o : Guest). g.ready ≤ o.ready)

-- why a connection is ended of which the client wasn't ready: for longer than a client is waited
-- for; for the longest time, where another client waits, and as many are open as may be, or the
-- system has no socket for it; or serving is over
abbrev pub IsCause : ServingOptions → EndReason → Lobby → Guest → Type 0
IsCause t why.Silent a g =
    (a.over ≡ None) × (waited_for t.patience (begun g.talk) < a.time - g.ready)
IsCause t why.Crowded a g = (a.over ≡ None) × (512 ≤ length a.guests) × IsLongest g a.guests
IsCause t why.NoSocket a g = (a.over ≡ None) × IsLongest g a.guests
IsCause t why.Over a g = a.over ≢ None
IsCause t _ a g = ⊥

-- the first cause for which serving is over
abbrev pub first_of : Option ServingEnd → Option ServingEnd → Option ServingEnd
first_of None e = e
first_of (Some o) e = Some o

-- a connection was ended
pub record Shuts (t : ServingOptions) (k : ℕ) (w : EndReason) (a b : Lobby)
    (before after : List Guest) (old : Guest) : Type 0 where
  pub found : a.guests ≡ before ++ old ∷ after
  pub number : old.number ≡ k
  pub cause : IsCause t w a old
  pub left : b ≡ lobby (before ++ after) a.next a.time a.own a.spent a.differs
      (first_of a.over (over_by old.talk.talk.end))

-- a client took these bytes of what was to be sent to it once serving was over
pub record SendsLast (k : ℕ) (bytes : List ℕ) (a b : Lobby) (before after : List Guest)
    (old new : Guest) : Type 0 where
  pub over : a.over ≢ None
  pub found : a.guests ≡ before ++ old ∷ after
  pub number : old.number ≡ k
  pub front : old.talk.output ≡ bytes ++ new.talk.output
  pub same : new ≡ record old { talk = after_sent old.talk (length bytes) }
  pub left : b ≡ lobby (before ++ new ∷ after) a.next a.time a.own a.spent a.differs a.over

-- another client came, with which these stay
pub record Enters (t : ServingOptions) (k : ℕ) (more : List Guest) (a b : Lobby) : Type 0 where
  pub going : a.over ≡ None
  pub number : k ≡ a.next
  pub wanted : a.next < t.most
  pub room : length a.guests < 512
  pub enters : b ≡ lobby (a.guests ++ more) (a.next + 1) a.time a.own a.spent a.differs None

-- the ends that come of themselves
abbrev pub IsStop : ServingOptions → ServingEnd → Lobby → Type 0
IsStop t over.Failed a = Unit {0}
IsStop t over.Tired a = Unit {0}
IsStop t over.All a = (a.guests ≡ []) × (t.most ≤ a.next)
IsStop t over.NoMemory a = (a.guests ≡ []) × (a.next ≡ 0) × (a.time ≡ 0)
IsStop t over.Stopped a = ⊥
IsStop t over.Down a = ⊥

abbrev pub Changes : Home → ServingOptions → Change → Lobby → Lobby → Type 0
Changes home t (Comes k random) a b =
    (known : List ℕ) × Enters t k
    (guest k (fresh_locked_connection t.doors random home t.wire) (fresh_notes known) a.time ∷ []) a
    b
Changes home t (TurnedAway k random) a b = Enters t k [] a b
Changes home t NoSocket a b = (a.over ≡ None) × (b ≡ a)
Changes home t (Unwatched k) a b = (a.over ≡ None) × (b ≡ a)
Changes home t (Stray k) a b =
    (a.over ≡ None) × AllByRecursion (λ (g : Guest). g.number ≢ k) a.guests × (b ≡ a)
Changes home t (TakesLast k None) a b = (a.over ≢ None) × (b ≡ a)
Changes home t (TakesLast k (Some bytes)) a b =
    (before : List Guest) × (after : List Guest) × (old : Guest) × (new : Guest)
    × SendsLast k bytes a b before after old new
Changes home t (Shut k w) a b =
    (before : List Guest) × (after : List Guest) × (old : Guest) × Shuts t k w a b before after old
Changes home t (Stops e) a b =
    (a.over ≡ None) × IsStop t e a
    × (b ≡ lobby a.guests a.next a.time a.own a.spent a.differs (Some e))

-- ---- rounds

-- the look at the desk at the end of a round
abbrev pub look_in : {V : Type 0} → {way : Way V} → Room way → ℕ → Look
look_in a now = shown a.seen now

-- a round is over, at which no Tick is due: what is seen of the node stays, and so does what is
-- there beside
pub record Rounds {V : Type 0} {way : Way V} (now : ℕ) (a b : Room way) : Type 0 where
  pub going : a.lobby.over ≡ None
  pub early : IsFalse (ticks_at a.lobby.own.ticker (look_in a now))
  pub seen : b.seen ≡ a.seen
  pub outside : b.outside ≡ a.outside
  pub left : b.lobby ≡ lobby a.lobby.guests a.lobby.next now
      (ticks_after a.lobby.own (look_in a now) false) false a.lobby.differs None

-- what is seen of the node, and what is there beside, where no answer is written
abbrev pub alone : {V : Type 0} → {way : Way V} → Room way → Sides way
alone a = unanswered a.seen a.outside

-- the desk gave itself a Tick, of which a front part was done where memory was refused
abbrev pub TicksBy : {V : Type 0} → {way : Way V} → Bool → Home → Sides way → Sides way → Type 0
TicksBy false home a b = Ticks home a b
TicksBy true home a b = TicksInPart home a b

-- serving is over where the desk is down
abbrev pub over_if : Bool → Option ServingEnd
over_if is_down = if is_down then Some over.Down else None

-- A round is over, at which a Tick is due, and the desk gave itself that Tick. Each connection is
-- as before.
pub record TicksItself {V : Type 0} {way : Way V} (home : Home) (now : ℕ) (starved : Bool)
    (a b : Room way) : Type 0 where
  pub going : a.lobby.over ≡ None
  pub due : IsTrue (ticks_at a.lobby.own.ticker (look_in a now))
  pub tick : TicksBy starved home (alone a) (alone b)
  pub left : b.lobby ≡ lobby a.lobby.guests a.lobby.next now
      (ticks_after a.lobby.own (look_in a now) starved) false a.lobby.differs
      (over_if b.seen.is_down)

-- ---- what was changed is settled

-- serving is over where that failed
abbrev pub over_settled : Bool → Option ServingEnd → Option ServingEnd
over_settled true before = before
over_settled false before = Some over.Down

-- what is seen of the node, and what is there beside
abbrev pub point_in : {V : Type 0} → {way : Way V} → Room way → Point way
point_in a = record { seen = a.seen; outside = a.outside }

-- Frames by which the desk had said something to itself are served, as messages that a connection
-- brings. Then all that was done is committed together, or the desk is down. Each connection is as
-- before.
pub record SettlesIn {V : Type 0} {way : Way V} (home : Home) (heard : List Served) (ok : Bool)
    (a b : Room way) : Type 0 where
  pub messages : AreMessages (begun_of heard)
  pub between : Point way
  pub hears : AreServedInTurn home (point_in a) heard between
  pub seen : b.seen ≡ settled ok between.seen
  pub node : way.settles between.outside.node ok b.outside.node
  pub handed : b.outside.handed ≡ between.outside.handed
  pub left : b.lobby
      ≡ lobby a.lobby.guests a.lobby.next a.lobby.time a.lobby.own a.lobby.spent a.lobby.differs
      (over_settled ok a.lobby.over)

-- ---- steps, one after the other

abbrev pub Takes : {V : Type 0} → {way : Way V} → Home → ServingOptions → Step → Room way → Room way
    → Type 0
Takes home t (Changed c) a b =
    Changes home t c a.lobby b.lobby × (b.seen ≡ a.seen) × (b.outside ≡ a.outside)
Takes home t (Clock now) a b = Rounds now a b
Takes home t (Ticked now starved) a b = TicksItself home now starved a b
Takes home t (Visit k turns fate) a b =
    (before : List Guest) × (after : List Guest) × (old : Guest) × (new : Guest)
    × Visits k turns fate a b before after old new
Takes home t (Settles heard ok) a b = SettlesIn home heard ok a b

abbrev pub Pass : {V : Type 0} → {way : Way V} → Home → ServingOptions → Room way → List Step
    → Room way → Type 0
Pass home t a [] b = a ≡ b
Pass {V} {way} home t a (s ∷ ss) b = (m : Room way) × Takes home t s a m × Pass home t m ss b

-- ---- serving from its first client to its end

-- The steps lead from no client to no client. What happened is what is told of them. Memory was
-- refused for a Tick of the desk's own where the result says so, and nowhere else.
pub record IsServedEach {V : Type 0} {way : Way V} (result : ServingsOutcome) (home : Home)
    (t : ServingOptions)
    (period : Option ℕ) (a b : Room way) (before after : Option (List Happened))
    (steps : List Step) : Type 0 where
  pub first : a.lobby ≡ empty_lobby (first_ticks home period a.seen)
  pub pass : Pass home t a steps b
  pub told : Tells before after (told_all steps)
  pub counted : result.connections ≡ b.lobby.next
  pub starved : result.starved ≡ b.lobby.own.starved
  pub over : b.lobby.over ≡ Some result.over
  pub left : b.lobby.guests ≡ []
