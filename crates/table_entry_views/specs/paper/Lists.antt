-- Who scrambles, runs and judges in each group of a round (the project's own).
use Rattle.std.specs.Prelude.{ℕ, List, [], ◌∷◌, ◌++◌, codes, decimal, flat_map}
use Rattle.std.specs.Prelude.{Option, None, Some}
use Rattle.serde_json.specs.Data.{Data}
use Rattle.competition_file.specs.{Duties.helpers, Files.data_of, Files.persons}
use Rattle.competition_file.specs.Groups.{round_groups}
use Rattle.competition_file.specs.declared.duties.Duty.{Duty}
use Rattle.competition_file.specs.declared.duties.Duty.TheVariants.{Scrambler, Runner, Judge}
use Rattle.competition_file.specs.declared.groups.RoundGroup.{RoundGroup}
use Rattle.formats.specs.declared.advance.Advance.{Advance}
use Rattle.markup.specs.{board_page.Escaped.escaped, Pieces.fill}
use Rattle.round_words.specs.Words.{round_words}
use Rattle.texts.specs.declared.command.RoundId.{RoundId}
use Rattle.table_entry_views.specs.declared.paper.group_lists.TheConstants.{LIST_START, ONE}

abbrev pub list_start : ℕ → List ℕ
list_start group = fill LIST_START.now (decimal group ∷ [])

abbrev pub duty_words : Duty → List ℕ
duty_words Scrambler = codes "<div><h3>Scramblers</h3>\n<ul>"
duty_words Runner = codes "<div><h3>Runners</h3>\n<ul>"
duty_words Judge = codes "<div><h3>Judges</h3>\n<ul>"

abbrev pub helper : List ℕ → List ℕ
helper name = fill ONE.now (escaped name ∷ [])

-- all who have this duty in the group of an activity, in the order of the file
abbrev pub duty_list : List Data → ℕ → Duty → List ℕ
duty_list everyone activity duty =
    duty_words duty ++ flat_map helper (helpers duty activity everyone) ++ codes "</ul></div>\n"

unfoldable pub group_list : List Data → RoundId → Advance → RoundGroup → List ℕ
group_list everyone id advance group =
    codes "<section class=\"duties\"><h2>" ++ round_words id advance ++ list_start group.number
    ++ duty_list everyone group.activity Scrambler ++ duty_list everyone group.activity Runner
    ++ duty_list everyone group.activity Judge ++ codes "</section>\n"

-- the lists of the groups of a round, in the order of the file, where there is one
abbrev pub lists : Option (List ℕ) → RoundId → Advance → List ℕ
lists None id advance = []
lists (Some file) id advance =
    flat_map (group_list (persons (data_of file)) id advance) (round_groups id (data_of file))
