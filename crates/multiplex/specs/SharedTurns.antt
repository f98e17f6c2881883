-- How much of others is done between two turns of a client (the project's own).
use Rattle.std.specs.Prelude.{◌≤◌, ℕ, ◌+◌, suc, List, [], ◌∷◌, ◌++◌, if◌then◌else◌}
use Rattle.answers.specs.declared.desk.Desk.{Ghosts as DeskOf}
use Rattle.store.specs.declared.home.Home.{Home}
use Rattle.connections.specs.Connections.{begun_of}
use Rattle.serving.specs.{Connection.Begun, Making.speaking, TurnLaw.begun_in}
use Rattle.serving.specs.Kinds.{is_dear, is_message}
use Rattle.multiplex.specs.Passing.{Changed, Clock, Pass, Room, Settles, Step, Ticked, Visit}
use Rattle.multiplex.specs.declared.table.ServingOptions.{ServingOptions}

-- the frames that were begun in these steps, in order
abbrev pub begun_by : List Step → List Begun
begun_by [] = []
begun_by (Changed c ∷ ss) = begun_by ss
begun_by (Clock now ∷ ss) = begun_by ss
begun_by (Ticked now starved ∷ ss) = begun_by ss
begun_by (Visit k turns fate ∷ ss) = begun_in turns ++ begun_by ss
begun_by (Settles heard ok ∷ ss) = begun_of heard ++ begun_by ss

-- how many turns clients had in them, and how many rounds were over
abbrev pub visits : List Step → ℕ
visits [] = 0
visits (Changed c ∷ ss) = visits ss
visits (Clock now ∷ ss) = visits ss
visits (Ticked now starved ∷ ss) = visits ss
visits (Visit k turns fate ∷ ss) = suc (visits ss)
visits (Settles heard ok ∷ ss) = visits ss

abbrev pub rounds : List Step → ℕ
rounds [] = 0
rounds (Changed c ∷ ss) = rounds ss
rounds (Clock now ∷ ss) = suc (rounds ss)
rounds (Ticked now starved ∷ ss) = suc (rounds ss)
rounds (Visit k turns fate ∷ ss) = rounds ss
rounds (Settles heard ok ∷ ss) = rounds ss

-- how many of these frames are no messages of desks to desks
abbrev pub count_others : List Begun → ℕ
count_others [] = 0
count_others (one ∷ more) =
    if is_message one.frame.what then count_others more else suc (count_others more)

-- how many of them ask for a sheet or for entries of the log
abbrev pub count_dear : List Begun → ℕ
count_dear [] = 0
count_dear (one ∷ more) =
    if is_dear one.frame.what then suc (count_dear more) else count_dear more

-- In these steps at most one frame that is no message of a desk to a desk was begun in each turn of
-- a client, and among them at most one that asks for a sheet or for entries of the log in each
-- round: one, where no round was over.
pub record AreShared (steps : List Step) : Type 0 where
  pub frames : count_others (begun_by steps) ≤ visits steps
  pub dear : count_dear (begun_by steps) ≤ rounds steps + 1

-- of all steps of serving that follow each other, wherever they begin and end
abbrev pub TurnsAreShared : {V : Type 0} → DeskOf V → Type 0
TurnsAreShared d =
    (home : Home) (t : ServingOptions) (a b : Room (speaking d.handles d.settles t.wire))
    (steps : List Step) → Pass home t a steps b → AreShared steps
