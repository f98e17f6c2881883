-- No page of the list is at a path of the file's.
use Rattle.std.proofs.Common.{◌≡◌, ◌++◌, ℕ, List, codes, decimal, None, refl, ap, append_assoc}
use Rattle.std.proofs.Common.{◌∙◌}
use Rattle.board_views.specs.declared.paths.View.TheVariants.{Overview, Hall, HallRound, Round}
use Rattle.board_views.specs.declared.paths.View.TheVariants.{Table, RoundAt, TableAt, Person}
use Rattle.board_views.specs.declared.paths.View.TheVariants.{Podiums, People, Log, Style, Script}
use Rattle.formats.specs.declared.events.Event.{Event}
use Rattle.formats.specs.declared.events.Event.TheVariants.{Cube3, Cube2, Cube4, Cube5, Cube6}
use Rattle.formats.specs.declared.events.Event.TheVariants.{Cube7, Blind3, FewestMoves, OneHanded}
use Rattle.formats.specs.declared.events.Event.TheVariants.{Clock, Megaminx, Pyraminx, Skewb}
use Rattle.formats.specs.declared.events.Event.TheVariants.{Square1, Blind4, Blind5, MultiBlind}
use Rattle.formats.specs.Events.{event_name}
use Rattle.file_views.specs.Paths.{PathsAreApart, view_at}

-- no event's name is a beginning of `schedule`, `psych`, `today` or `records`
by_event : (e : Event) (rest : List ℕ) → view_at (codes "/" ++ (event_name e ++ rest)) ≡ None
unfolding view_at
by_event Cube3 rest = refl
by_event Cube2 rest = refl
by_event Cube4 rest = refl
by_event Cube5 rest = refl
by_event Cube6 rest = refl
by_event Cube7 rest = refl
by_event Blind3 rest = refl
by_event FewestMoves rest = refl
by_event OneHanded rest = refl
by_event Clock rest = refl
by_event Megaminx rest = refl
by_event Pyraminx rest = refl
by_event Skewb rest = refl
by_event Square1 rest = refl
by_event Blind4 rest = refl
by_event Blind5 rest = refl
by_event MultiBlind rest = refl

pub apart : PathsAreApart
unfolding view_at
apart Overview path at = ap view_at at.1
apart Hall path at = ap view_at at.1
apart (HallRound id) path at = ap view_at at.1
apart (Round id) path at =
    ap view_at at.1
    ∙ ap (λ (t : List ℕ). view_at (codes "/" ++ t))
    (append_assoc (event_name id.event) (codes "-") (decimal id.round))
    ∙ by_event id.event _
apart (Table id) path at =
    ap view_at at.1
    ∙ ap (λ (t : List ℕ). view_at (codes "/" ++ t))
    (append_assoc (event_name id.event ++ codes "-") (decimal id.round) (codes ".csv")
    ∙ append_assoc (event_name id.event) (codes "-") (decimal id.round ++ codes ".csv"))
    ∙ by_event id.event _
apart (RoundAt position id) path at = ap view_at at.1
apart (TableAt position id) path at = ap view_at at.1
apart (Person number) path at = ap view_at at.1
apart Podiums path at = ap view_at at.1
apart People path at = ap view_at at.1
apart Log path at = ap view_at at.1
apart Style path at = ap view_at at.1
apart Script path at = ap view_at at.1
