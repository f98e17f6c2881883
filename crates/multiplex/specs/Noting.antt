-- What is kept of a client beside its connection (the project's own).
use Rattle.std.specs.Prelude.{◌≡◌, ◌≤◌, ℕ, ◌+◌, ◌*◌, Bool, true, false, not, ◌||◌, nat_le, min}
use Rattle.std.specs.Prelude.{List, [], ◌∷◌, Option, None, Some, is_some}
use Rattle.std.specs.List.{AllByRecursion}
use Rattle.answers.specs.Seen.{Seen}
use Rattle.guarded.specs.{LockedConnections.LockedConnectionOf, Permitting.permission_of}
use Rattle.learner.specs.Logs.{position_of}
use Rattle.sealed.specs.ServerSeals.{caller_of}
use Rattle.serving.specs.Differing.{awaited_by, differs_by, first_difference, first_frame}
use Rattle.serving.specs.{Differing.known_after, declared.differing.AwaitRequest.AwaitRequest}
use Rattle.serving.specs.Connection.{Begun, serve_frame}
use Rattle.serving.specs.declared.ends.ConnectionEnd.{ConnectionEnd}
use Rattle.store.specs.declared.home.Home.{Home}
use Rattle.wire.specs.Ranges.{IsDifference}
use Rattle.wire.specs.declared.{frame.Frame.Frame, standing.Difference.Difference}
use Rattle.multiplex.specs.declared.notes.Notes.{Notes}

-- of a client that came now: what the desks told by then is what the node was told
abbrev pub first_notes : Seen → Notes
first_notes x = record { until = None; known = x.told }

abbrev pub fresh_notes : List ℕ → Notes
fresh_notes known = record { until = None; known = known }

-- ---- an Await is put off

-- the frame that is begun next, where one may be begun: memory was not refused, the connection did
-- not end, and nothing is still to be sent
abbrev pub next_if : Bool → Option ConnectionEnd → List ℕ → List Frame → Option Frame
next_if true over output waiting = None
next_if false (Some over) output waiting = None
next_if false None (byte ∷ output) waiting = None
next_if false None [] waiting = first_frame waiting

abbrev pub next_of : LockedConnectionOf → Option Frame
next_of g = next_if g.starved g.talk.end g.output g.talk.waiting

abbrev pub awaited_of : Home → Option Frame → Option AwaitRequest
awaited_of home None = None
awaited_of home (Some f) = awaited_by home f

abbrev pub awaited_next : Home → LockedConnectionOf → Option AwaitRequest
awaited_next home g = awaited_of home (next_of g)

-- it is in the log, or the desk is down
abbrev pub is_known : Seen → ℕ → Bool
is_known x id = x.is_down || is_some (position_of x.desk.log id)

abbrev pub is_due : Seen → AwaitRequest → ℕ → ℕ → Bool
is_due x a until time = nat_le until time || is_known x a.id

-- until when it is put off that was not put off before
abbrev pub until_of : AwaitRequest → ℕ → Option ℕ → ℕ
until_of a time None = min (time + 1000 * a.seconds) 18446744073709551615
until_of a time (Some until) = until

abbrev pub off_by : Seen → Option AwaitRequest → ℕ → Option ℕ → Bool
off_by x None time until = false
off_by x (Some a) time until = not (is_due x a (until_of a time until) time)

abbrev pub put_off : Home → Seen → LockedConnectionOf → ℕ → Notes → Bool
put_off home x g time notes = off_by x (awaited_next home g) time notes.until

-- the next frame is an Await that is put off, which is not to be answered yet
pub record IsOff (x : Seen) (time : ℕ) (g : LockedConnectionOf) (until : Option ℕ) : Type 0 where
  pub awaited : AwaitRequest
  pub moment : ℕ
  pub next : awaited_next g.talk.home g ≡ Some awaited
  pub put : until ≡ Some moment
  pub early : is_due x awaited moment time ≡ false

-- whether a frame was put off is known from what is there, and until when it is
abbrev pub PutsOff : Bool → Home → Seen → ℕ → LockedConnectionOf → Notes → Notes → Type 0
PutsOff true home x time g old new =
    (put_off home x g time old ≡ true) × IsOff x time g new.until × (new.known ≡ old.known)
PutsOff false home x time g old new =
    (put_off home x g time old ≡ false) × (new.until ≡ None) × (new.known ≡ old.known)

-- An Await that is begun at this time, which was put off until then or was not, is to be answered:
-- its id is in the log, or the desk is down, or the seconds are over that it names.
abbrev pub IsDueFrame : Seen → ℕ → Option ℕ → Option AwaitRequest → Type 0
IsDueFrame x time until None = Unit {0}
IsDueFrame x time until (Some a) = is_due x a (until_of a time until) time ≡ true

abbrev pub AreDue : Home → Seen → ℕ → Option ℕ → List Begun → Type 0
AreDue home x time until begun =
    AllByRecursion (λ (one : Begun). IsDueFrame x time until (awaited_by home one.frame)) begun

-- the client is to be named in the next round: an Await of it is put off, and is to be answered now
abbrev pub awakes_by : Seen → Option AwaitRequest → ℕ → ℕ → Bool
awakes_by x None until time = true
awakes_by x (Some a) until time = is_due x a until time

abbrev pub awakes_at : Home → Seen → ℕ → LockedConnectionOf → Option ℕ → Bool
awakes_at home x time g None = false
awakes_at home x time g (Some until) = awakes_by x (awaited_next home g) until time

abbrev pub awakes : Home → Seen → ℕ → LockedConnectionOf → Notes → Bool
awakes home x time g notes = awakes_at home x time g notes.until

-- ---- what a desk says

abbrev pub heard_by : Home → Seen → LockedConnectionOf → Notes → Option Frame → Option Difference
    → Option Difference
heard_by home x g notes None differs = differs
heard_by home x g notes (Some f) differs =
    first_difference differs
    (differs_by home (permission_of g.called.doors (caller_of g.called)) x.desk.log notes.known f)

-- how another desk differs, after what the next frame says
abbrev pub heard_next : Home → Seen → LockedConnectionOf → Notes → Option Difference
    → Option Difference
heard_next home x g notes differs = heard_by home x g notes (next_of g) differs

abbrev pub listened_to : Home → LockedConnectionOf → Notes → Option Frame → Notes
listened_to home g notes None = notes
listened_to home g notes (Some f) =
    record {
      until = notes.until;
      known = known_after home (permission_of g.called.doors (caller_of g.called)) notes.known f;
    }

abbrev pub listened : Home → LockedConnectionOf → Notes → Notes
listened home g notes = listened_to home g notes (next_of g)

-- what is seen of this desk, the lengths that the hall's desks reported, and how one of them
-- differs
pub record Ears : Type 0 where
  pub seen : Seen
  pub known : List ℕ
  pub differs : Option Difference

abbrev pub ears : Seen → List ℕ → Option Difference → Ears
ears seen known differs = record { seen = seen; known = known; differs = differs }

-- a message is heard, and then served
abbrev pub hear : Home → Ears → Begun → Ears
hear home e one =
    ears (serve_frame home e.seen one).seen (known_after home one.may e.known one.frame)
    (first_difference e.differs (differs_by home one.may e.seen.desk.log e.known one.frame))

abbrev pub hear_all : Home → Ears → List Begun → Ears
hear_all home e [] = e
hear_all home e (one ∷ more) = hear_all home (hear home e one) more

-- What is kept of a client, and how another desk differs, is what these messages say, each heard
-- where the ones before it were served: where one differed before it stays.
pub record IsHeard (home : Home) (before : Ears) (begun : List Begun) (known : List ℕ)
    (differs : Option Difference) : Type 0 where
  pub lengths : known ≡ (hear_all home before begun).known
  pub first : differs ≡ (hear_all home before begun).differs

-- what is kept is in the ranges of a frame
abbrev pub AreNoted : List ℕ → Option Difference → Type 0
AreNoted known differs =
    AllByRecursion (λ (len : ℕ). len ≤ 65536) known × IsDifference differs
