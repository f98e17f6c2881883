-- How a run is gathered.
use Rattle.std.specs.Prelude.{◌≡◌, ◌≤◌, ℕ, ◌+◌, Bool, true, false, List, ◌++◌, length, Option, None}
use Rattle.std.specs.Prelude.{Some}
use Rattle.acceptor.specs.declared.entry.Entry.{Entry}
use Rattle.learner.specs.Steps.{IsDesk}
use Rattle.serving.specs.declared.request.DecidedRun.{DecidedRun}

-- all entries were put after others, or there is none
abbrev pub Gathers : Bool → List Entry → List Entry → Option (List Entry) → Type 0
Gathers true old new told = (es : List Entry) × (told ≡ Some es) × (new ≡ old ++ es)
Gathers false old new told = told ≡ None

-- a run between desks of a hall, whose entries fit one frame and whose positions fit the log
pub record IsRun (n : ℕ) (run : DecidedRun) : Type 0 where
  pub from : IsDesk n run.from
  pub to : IsDesk n run.to
  pub some : 1 ≤ length run.entries
  pub few : length run.entries ≤ 16
  pub places : run.pos + length run.entries ≤ 65536
