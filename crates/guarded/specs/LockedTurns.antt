-- The turns of a guarded connection, however its pieces are cut and what it sends is taken (the
-- project's own).
use Rattle.std.specs.Prelude.{◌≡◌, List, [], ◌∷◌, ◌++◌, length}
use Rattle.answers.specs.Seen.{Seen}
use Rattle.sealed.specs.ServerSeals.{caller_of}
use Rattle.serving.specs.{Making.Way, Making.Outside, Turns.Talk}
use Rattle.serving.specs.TurnLaw.{Turn, Came, Began, Rested, Took}
use Rattle.guarded.specs.LockedConnections.{Answers, LockedConnectionOf, IsFree, Receives, Rests}
use Rattle.guarded.specs.LockedConnections.{WantsRead, after_sent}
use Rattle.guarded.specs.Permitting.{permission_of}
use Rattle.serving.specs.TurnLaw as TurnLaw

-- a guarded connection, what is seen of the node that serves it, and what is there beside
pub record Place {V : Type 0} (way : Way V) : Type 0 where
  pub guard : LockedConnectionOf
  pub seen : Seen
  pub outside : Outside way

-- the connection that serves what is let in, where it is so, with that node
abbrev pub with_talk : {V : Type 0} → {way : Way V} → Place way → Talk → TurnLaw.Place way
with_talk a talk = record { talk = talk; seen = a.seen; outside = a.outside }

abbrev pub within : {V : Type 0} → {way : Way V} → Place way → TurnLaw.Place way
within a = with_talk a a.guard.talk

-- node and other desks are as before
pub record IsQuiet {V : Type 0} {way : Way V} (a b : Place way) : Type 0 where
  pub seen : b.seen ≡ a.seen
  pub outside : b.outside ≡ a.outside

-- What the contracts of `receive`, `advance` and `sent` say of a turn. The pieces that came, and
-- the bytes that were taken, are those of the stream itself, sealed or not.
abbrev pub Turns : {V : Type 0} → {way : Way V} → Turn → Place way → Place way → Type 0
Turns (Came piece) a b = WantsRead a.guard × Receives piece a.guard b.guard × IsQuiet a b
Turns (Began one) a b =
    IsFree a.guard × (served : Talk) × TurnLaw.Turns (Began one) (within a) (with_talk b served)
    × (one.may ≡ permission_of a.guard.called.doors (caller_of a.guard.called)) × Answers served
    a.guard b.guard
Turns Rested a b = Rests a.guard b.guard × IsQuiet a b
Turns (Took bytes) a b =
    (a.guard.output ≡ bytes ++ b.guard.output)
    × (b.guard ≡ after_sent a.guard (length bytes)) × IsQuiet a b

-- one turn after the other
abbrev pub Follow : {V : Type 0} → {way : Way V} → Place way → List Turn → Place way → Type 0
Follow a [] b = a ≡ b
Follow {V} {way} a (t ∷ ts) b = (m : Place way) × Turns t a m × Follow m ts b
