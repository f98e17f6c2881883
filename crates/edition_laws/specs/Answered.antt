-- Lists of texts with what each is answered, and what is printed after them. A worked day is such a
-- list, written by hand from the rules.
use Rattle.std.specs.Prelude.{◌≡◌, ℕ, suc, List, [], ◌∷◌, ◌++◌, map, length, Option, Some, None}
use Rattle.std.specs.Prelude.{codes}
use Rattle.formats.specs.declared.{events.Event.Event, styles.SheetStyle.SheetStyle as Style}
use Rattle.texts.specs.declared.answer.{Answer.Answer, Code.Code}
use Rattle.commands.specs.History.{History, nothing, answer_of, answer_to, after, history}
use Rattle.sheets.specs.Sheet.{sheet}
use Prim.Native.String.{String}

-- a text, and the code of its refusal where it is refused
abbrev pub Row : Type 0
Row = List ℕ × Option Code

abbrev pub done : String → Row
done text = (codes text, None)

abbrev pub refused : Code → String → Row
refused why text = (codes text, Some why)

-- what is printed, from its lines
abbrev pub lines : List String → List ℕ
lines [] = []
lines (line ∷ later) = codes line ++ 10 ∷ lines later

-- the texts as entries: their ids count on from a number
abbrev pub entries : ℕ → List Row → List (ℕ × List ℕ)
entries id [] = []
entries id (row ∷ rows) = (id, row.0) ∷ entries (suc id) rows

-- what entries are answered, one after the other
abbrev pub answers : History → List (ℕ × List ℕ) → List Answer
answers h [] = []
answers h (entry ∷ later) = answer_to h entry.0 entry.1 ∷ answers (after h entry.0 entry.1) later

-- each text of a list that begins with nothing is answered as its row says
abbrev pub IsAnswered : List Row → Type 0
IsAnswered rows = answers nothing (entries 1 rows) ≡ map (λ row. answer_of row.1) rows

-- the sheet of a round after all these texts
abbrev pub printed : Style → List Row → Event → ℕ → Option (List ℕ)
printed style rows event round =
    sheet style (history (entries 1 rows)).accepted event round (length rows)
