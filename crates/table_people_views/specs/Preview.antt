-- The page that shows which commands would be entered (the project's own).
use Rattle.std.specs.Prelude.{ℕ, ◌-◌, Bool, true, false, if◌then◌else◌, nat_lt, List, [], ◌∷◌, ◌++◌}
use Rattle.std.specs.Prelude.{codes, count_by, decimal, flat_map, get_or, length, Option, None}
use Rattle.std.specs.Prelude.{Some, Result, Ok, Err}
use Rattle.markup.specs.{board_page.Escaped.escaped, Pieces.fill}
use Rattle.texts.specs.{meanings.Meanings.meaning_of, Reading.command_of}
use Rattle.texts.specs.declared.command.Command.{Command, TheVariants.Withdraw}
use Rattle.texts.specs.declared.{command.RemarkedCommand.RemarkedCommand, answer.Code.Code}
use Rattle.texts.specs.declared.reading.CommandFault.{CommandFault}
use Rattle.texts.specs.declared.answer.Answer.{Answer, TheVariants.Done, TheVariants.Refused}
use Rattle.table_views.specs.{declared.around.PageContext.PageContext, Logs.accepted_in}
use Rattle.table_views.specs.{Frame.top, Frame.bottom, People.name_in, Forms.commands_word}
use Rattle.table_people_views.specs.declared.preview.PreviewedCommand.{PreviewedCommand}
use Rattle.table_views.specs.Lines.{enters, line, lines_form}
use Rattle.table_people_views.specs.declared.preview.TheConstants.{BACK, ENTER_WORDS, REFUSED_ITEM}
use Rattle.table_people_views.specs.declared.preview.TheConstants.{TEXT, TOLD}

abbrev pub is_entered : Answer → Bool
is_entered Done = true
is_entered (Refused code) = false

abbrev pub would_enter : PreviewedCommand → Bool
would_enter tried = is_entered tried.answer

-- ---- a command, and why it would be refused

abbrev pub refused_item : List ℕ → Code → List ℕ
refused_item text code = fill REFUSED_ITEM.now (escaped text ∷ meaning_of code ∷ [])

abbrev pub refused_if : List ℕ → Answer → List ℕ
refused_if text Done = []
refused_if text (Refused code) = refused_item text code

abbrev pub refused_line : PreviewedCommand → List ℕ
refused_line tried = refused_if tried.text.now tried.answer

-- who is withdrawn by a command, if it is one that withdraws
abbrev pub leaver_of : Command → Option ℕ
leaver_of (Withdraw id number) = Some number
leaver_of _ = None

abbrev pub leaver_told : Result RemarkedCommand CommandFault → Option ℕ
leaver_told (Err why) = None
leaver_told (Ok told) = leaver_of told.command

-- who is withdrawn by the command that a text spells
abbrev pub leaver : List ℕ → Option ℕ
leaver text = leaver_told (command_of text)

-- the name of a competitor, if one is withdrawn
abbrev pub leaver_name : List Command → Option ℕ → List ℕ
leaver_name accepted None = []
leaver_name accepted (Some number) =
    codes " <bdi>" ++ escaped (name_in accepted number) ++ codes "</bdi>"

abbrev pub entered_text : List ℕ → List ℕ
entered_text text = fill TEXT.now (escaped text ∷ [])

-- a command, with the name of whom it withdraws
unfoldable pub entered_item : List Command → List ℕ → List ℕ
entered_item accepted text =
    entered_text text ++ leaver_name accepted (leaver text) ++ codes "</li>\n"

abbrev pub entered_line : List Command → PreviewedCommand → List ℕ
entered_line accepted tried =
    if would_enter tried then entered_item accepted tried.text.now else []

-- the lines that are sent are those that would be entered, as they are
abbrev pub sent_line : PreviewedCommand → List ℕ
sent_line tried = if would_enter tried then line tried.text.now else []

-- ---- the section

abbrev pub told : ℕ → ℕ → List ℕ
told entered refused =
    fill TOLD.now (decimal entered ∷ commands_word entered ∷ decimal refused ∷ [])

-- those that would be refused, where there are any
unfoldable pub refused_list : ℕ → List PreviewedCommand → List ℕ
refused_list refused tried =
    if nat_lt 0 refused
    then codes "<h2>Not entered</h2>\n<ol>\n" ++ flat_map refused_line tried ++ codes "</ol>\n"
    else []

abbrev pub enter_words : ℕ → List ℕ
enter_words count = fill ENTER_WORDS.now (decimal count ∷ commands_word count ∷ [])

unfoldable pub entered_all : PageContext → List ℕ → ℕ → List PreviewedCommand → List ℕ
entered_all around back entered tried =
    codes "<h2>To enter</h2>\n<ol>\n"
    ++ flat_map (entered_line (accepted_in around.mirror.now)) tried ++ codes "</ol>\n"
    ++ lines_form enters around.token.now (get_or around.ids.now 0 0) back
    (flat_map sent_line tried) (enter_words entered)

-- those that would be entered, and the form that enters them, where there are any
abbrev pub entered_list : PageContext → List ℕ → ℕ → List PreviewedCommand → List ℕ
entered_list around back entered tried =
    if nat_lt 0 entered then entered_all around back entered tried else []

-- a link to the page that the commands came from
abbrev pub back_line : List ℕ → List ℕ
back_line back = fill BACK.now (escaped back ∷ [])

unfoldable pub lists : PageContext → List ℕ → ℕ → ℕ → List PreviewedCommand → List ℕ
lists around back entered refused tried =
    told entered refused ++ refused_list refused tried ++ entered_list around back entered tried
    ++ back_line back

abbrev pub preview_section : PageContext → List ℕ → List PreviewedCommand → List ℕ
preview_section around back tried =
    lists around back (count_by would_enter tried) (length tried - count_by would_enter tried) tried

unfoldable pub preview_page : PageContext → List ℕ → List PreviewedCommand → List ℕ
preview_page around back tried =
    top (codes "hall") (codes "What would be entered") around
    ++ preview_section around back tried ++ bottom
