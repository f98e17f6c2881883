-- The page that says, before results are sent in, what is open between the list and the
-- competition's file (the project's own).
use Rattle.std.specs.Prelude.{◌≡◌, ℕ, ◌==◌, ◌&&◌, Bool, if◌then◌else◌, List, ◌++◌, codes, flat_map}
use Rattle.std.specs.Prelude.{length, Option, None, Some}
use Rattle.exports.specs.Logs.{opens_any}
use Rattle.table_views.specs.{declared.around.PageContext.PageContext, Logs.accepted_in}
use Rattle.table_views.specs.{Frame.top, Frame.bottom, Recent.recent_section}
use Rattle.texts.specs.declared.command.Command.{Command}
use Rattle.wcif_results.specs.{Files.AreFindings, declared.exporting.Findings.Findings}
use Rattle.sending_views.specs.Lines.{fault_line, note_line}
use Rattle.sending_views.specs.declared.page.TheConstants.{HEAD, NO_FILE, NO_ROUNDS, NOTHING, TABLE}
use Rattle.sending_views.specs.declared.page.TheConstants.{UNREAD}

-- a line for each fault, then for each note that holds beside them, in the order of the export
unfoldable pub lines : List Command → Findings → List ℕ
lines accepted found =
    TABLE.now ++ flat_map (fault_line accepted) found.faults.items
    ++ flat_map (note_line accepted) found.notes.items ++ codes "</tbody></table>\n"

-- an export over the file has no fault and no note
abbrev pub is_nothing_open : Findings → Bool
is_nothing_open found = (length found.faults.items == 0) && (length found.notes.items == 0)

-- a list that opens no round is not exported
abbrev pub found_text : List Command → Option Findings → List ℕ
found_text accepted None = UNREAD.now
found_text accepted (Some found) =
    if opens_any accepted
    then (if is_nothing_open found then NOTHING.now else lines accepted found)
    else NO_ROUNDS.now

-- what an export of the list over the bytes of a file would be refused for, and would remark
abbrev pub IsCompared : List Command → List ℕ → List ℕ → Type 0
IsCompared accepted bytes text =
    (found : Option Findings) × AreFindings accepted bytes found
    × (text ≡ found_text accepted found)

abbrev pub IsBody : List Command → Option (List ℕ) → List ℕ → Type 0
IsBody accepted None text = text ≡ NO_FILE.now
IsBody accepted (Some bytes) text = IsCompared accepted bytes text

unfoldable pub before_page : PageContext → List ℕ → List ℕ
before_page around body =
    top (codes "hall") (codes "Before you send") around ++ HEAD.now ++ body
    ++ codes "</section>\n" ++ recent_section around ++ bottom

-- the page of the list, over the bytes of the competition's file, where there is one
pub record IsBeforePage (around : PageContext) (file : Option (List ℕ)) (page : List ℕ) : Type 0
  where
    pub body : List ℕ
    pub said : IsBody (accepted_in around.mirror.now) file body
    pub is : page ≡ before_page around body
