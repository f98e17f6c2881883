-- What of a competition's file is at the paths of the board (the project's own).
use Rattle.std.specs.Prelude.{◌≡◌, ℕ, if◌then◌else◌, List, bytes_eq, codes, Option, None, Some}
use Rattle.std.specs.Option.{option_and_then, option_map, option_or}
use Rattle.formats.specs.Events.{event_of_name}
use Rattle.texts.specs.Fields.{number_between}
use Rattle.card_forms.specs.Cards.{round_of}
use Rattle.board_views.specs.declared.paths.View.{View}
use Rattle.board_views.specs.Paths.{StandsAt}
use Rattle.competition_file.specs.Groups.{after}
use Rattle.file_views.specs.declared.paths.FileView.{FileView}
use Rattle.file_views.specs.declared.paths.FileView.TheVariants.{Psych, Records, Schedule, Today}

-- /psych/333
abbrev pub psych_at : List ℕ → Option FileView
psych_at path = option_map Psych (option_and_then event_of_name (after (codes "/psych/") path))

-- /today/17
abbrev pub today_at : List ℕ → Option FileView
today_at path =
    option_map Today (option_and_then (number_between 1 9999) (after (codes "/today/") path))

-- /records/333-1
abbrev pub records_at : List ℕ → Option FileView
records_at path = option_map Records (option_and_then round_of (after (codes "/records/") path))

-- what is seen at a path
unfoldable pub view_at : List ℕ → Option FileView
view_at path =
    if bytes_eq path (codes "/schedule") then Some Schedule
    else option_or (psych_at path) (option_or (today_at path) (records_at path))

-- no page of the list is at a path of the file's
abbrev pub PathsAreApart : Type 0
PathsAreApart = (view : View) (path : List ℕ) → StandsAt view path → view_at path ≡ None
