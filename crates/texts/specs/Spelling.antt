-- How a command is spelled: a word and its fields, parted by one space each. And the ranges of the
-- fields. The list of commands and its ranges are this project's own.
use Rattle.std.specs.Prelude.{◌≤◌, ℕ, Bool, true, false, IsTrue, List, [], ◌∷◌, ◌++◌, length, map}
use Rattle.std.specs.Prelude.{codes, decimal, Option, None, Some, All, IfSome}
use Rattle.std.specs.List.{join_with_byte, list_any}
use Rattle.attempts.specs.declared.Value.{Value}
use Rattle.formats.specs.Events.{event_name, format_name, last_round}
use Rattle.cube.specs.{declared.moves.Move.Move, notation.Notation.spelling as moves_text}
use Rattle.formats.specs.declared.advance.Advance.{Advance}
use Rattle.formats.specs.declared.advance.Advance.TheVariants.{Final, Top, Percent}
use Rattle.texts.specs.declared.command.{Command.Command, Entered.Entered, Settings.Settings}
use Rattle.texts.specs.declared.{command.RemarkedCommand.RemarkedCommand, table.FieldKind.FieldKind}
use Rattle.texts.specs.{declared.value.FieldValue.FieldValue, Fields.enters_later}
use Rattle.texts.specs.{Names.is_name, Names.is_name_in, Names.is_remark, Parts.Parts, Parts.parts}
use Rattle.texts.specs.Table.{fields_in, has_moves, row_of, takes_remark_in, word_in}
use Rattle.attempts.specs.declared.Value.TheVariants as counted
use Rattle.texts.specs.declared.command.Entered.TheVariants as entered
use Rattle.texts.specs.declared.table.FieldKind.TheVariants as kind
use Rattle.texts.specs.declared.value.FieldValue.TheVariants as value

-- after k attempts, below c: `k:c`
abbrev pub cutoff_text : Option (ℕ × ℕ) → List ℕ
cutoff_text None = codes "-"
cutoff_text (Some cutoff) = decimal cutoff.0 ++ codes ":" ++ decimal cutoff.1

abbrev pub limit_text : Option ℕ → List ℕ
limit_text None = codes "-"
limit_text (Some limit) = decimal limit

abbrev pub advance_text : Advance → List ℕ
advance_text Final = codes "final"
advance_text (Top number) = codes "top:" ++ decimal number
advance_text (Percent percent) = codes "pct:" ++ decimal percent

-- a time in hundredths and its penalties: `T:h:p`; a solution: `S:` and its moves, one space
-- between neighbours; solved cubes, attempted ones and seconds: `M:s:a:t`
abbrev pub entered_text : Entered → List ℕ
entered_text (entered.Time time penalties) =
    codes "T:" ++ decimal time ++ codes ":" ++ decimal penalties
entered_text (entered.Solution moves) = codes "S:" ++ moves_text moves
entered_text (entered.Multi solved attempted seconds) =
    codes "M:" ++ decimal solved ++ codes ":"
    ++ (decimal attempted ++ codes ":" ++ decimal seconds)
entered_text entered.Dnf = codes "DNF"
entered_text entered.Dns = codes "DNS"

-- what an attempt counts
abbrev pub counted_text : Value → List ℕ
counted_text (counted.Number n) = decimal n
counted_text counted.Dnf = codes "DNF"
counted_text counted.Dns = codes "DNS"

-- what the attempts count, with a comma between two of them; `-` where there is none
abbrev pub was_text : List Value → List ℕ
was_text [] = codes "-"
was_text (v ∷ vs) = join_with_byte 44 (map counted_text (v ∷ vs))

-- what is to count for an attempt; `=` where it stays as it is
abbrev pub stays_or_text : Option Entered → List ℕ
stays_or_text None = codes "="
stays_or_text (Some x) = entered_text x

-- the attempts that are to count, with a slash between two of them; `-` where there is none
abbrev pub now_text : List (Option Entered) → List ℕ
now_text [] = codes "-"
now_text (x ∷ xs) = join_with_byte 47 (map stays_or_text (x ∷ xs))

-- how a value is spelled
abbrev pub value_text : FieldValue → List ℕ
value_text (value.Number n) = decimal n
value_text (value.Name name) = name
value_text (value.Event event) = event_name event
value_text (value.Round n) = decimal n
value_text (value.Format form) = format_name form
value_text (value.Cutoff cutoff) = cutoff_text cutoff
value_text (value.Limit limit) = limit_text limit
value_text (value.Advance advance) = advance_text advance
value_text (value.Attempt n) = decimal n
value_text (value.Moves moves) = moves_text moves
value_text (value.Outcome outcome) = entered_text outcome
value_text (value.Edition n) = decimal n
value_text (value.Was was) = was_text was
value_text (value.Now now) = now_text now

-- values, with a space in front of each
abbrev pub values_text : List FieldValue → List ℕ
values_text [] = []
values_text (v ∷ vs) = 32 ∷ (value_text v ++ values_text vs)

-- the words of a tag and values: the one of the tag, and the values
abbrev pub words_by : Parts → List (List ℕ)
words_by p = word_in (row_of p.0) ∷ map value_text p.1

-- the words of a command: its own, and its fields
abbrev pub words_of : Command → List (List ℕ)
words_of c = words_by (parts c)

-- the spelling of a command
abbrev pub spelling : Command → List ℕ
spelling c = join_with_byte 32 (words_of c)

-- the text of a command, and after it the remark, if there is one
abbrev pub with_remark_text : List ℕ → Option (List ℕ) → List ℕ
with_remark_text text None = text
with_remark_text text (Some remark) = text ++ codes " # " ++ remark

-- the spelling of a command with its remark
abbrev pub told_spelling : RemarkedCommand → List ℕ
told_spelling told = with_remark_text (spelling told.command) told.remark

-- The ranges of the fields.

abbrev pub IsWithin : ℕ → ℕ → ℕ → Type 0
IsWithin low high n = (low ≤ n) × (n ≤ high)

abbrev pub last_edition : ℕ
last_edition = 4

abbrev pub IsFitCutoff : Option (ℕ × ℕ) → Type 0
IsFitCutoff None = Unit {0}
IsFitCutoff (Some cutoff) = IsWithin 1 4 cutoff.0 × IsWithin 1 360000 cutoff.1

abbrev pub IsFitLimit : Option ℕ → Type 0
IsFitLimit None = Unit {0}
IsFitLimit (Some limit) = IsWithin 1 360000 limit

abbrev pub IsFitAdvance : Advance → Type 0
IsFitAdvance Final = Unit {0}
IsFitAdvance (Top number) = IsWithin 1 999 number
IsFitAdvance (Percent percent) = IsWithin 1 75 percent

abbrev pub IsFitSettings : Settings → Type 0
IsFitSettings s = IsFitCutoff s.cutoff × IsFitLimit s.limit × IsFitAdvance s.advance

abbrev pub AreMoves : List Move → Type 0
AreMoves moves = IsWithin 1 400 (length moves)

abbrev pub IsEntered : Entered → Type 0
IsEntered (entered.Time time penalties) = IsWithin 1 999999 time × IsWithin 0 9 penalties
IsEntered (entered.Solution moves) = AreMoves moves
IsEntered (entered.Multi solved attempted seconds) =
    IsWithin 0 attempted solved × IsWithin 2 99 attempted × IsWithin 1 5999 seconds
IsEntered entered.Dnf = Unit {0}
IsEntered entered.Dns = Unit {0}

abbrev pub IsCounted : Value → Type 0
IsCounted (counted.Number n) = IsWithin 0 990599949 n
IsCounted counted.Dnf = Unit {0}
IsCounted counted.Dns = Unit {0}

abbrev pub AreCounted : List Value → Type 0
AreCounted vs = IsWithin 0 5 (length vs) × All IsCounted vs

-- of this many attempts that count some may stay; something is entered for each later one
abbrev pub AreToStand : ℕ → List (Option Entered) → Type 0
AreToStand stands now =
    IsWithin 0 5 (length now) × All (λ x. IfSome x IsEntered) now
    × IsTrue (enters_later stands now)

-- a value is of a kind, and in its range, where this many attempts count
abbrev pub Fits : ℕ → FieldKind → FieldValue → Type 0
Fits _ kind.Number (value.Number n) = IsWithin 1 9999 n
Fits _ kind.Name (value.Name name) = IsTrue (is_name name)
Fits _ kind.NewName (value.Name name) = IsTrue (is_name_in 3 name)
Fits _ kind.Event (value.Event event) = Unit {0}
Fits _ kind.Round (value.Round n) = IsWithin 1 last_round n
Fits _ kind.Format (value.Format form) = Unit {0}
Fits _ kind.Cutoff (value.Cutoff cutoff) = IsFitCutoff cutoff
Fits _ kind.Limit (value.Limit limit) = IsFitLimit limit
Fits _ kind.Advance (value.Advance advance) = IsFitAdvance advance
Fits _ kind.Attempt (value.Attempt n) = IsWithin 1 5 n
Fits _ kind.Moves (value.Moves moves) = AreMoves moves
Fits _ kind.Outcome (value.Outcome outcome) = IsEntered outcome
Fits _ kind.Edition (value.Edition n) = IsWithin 2 last_edition n
Fits _ kind.Was (value.Was was) = AreCounted was
Fits stands kind.Now (value.Now now) = AreToStand stands now
Fits _ _ _ = ⊥

-- how many attempts count by a value that says what they count, or else as many as were said before
abbrev pub standing : ℕ → FieldValue → ℕ
standing stands (value.Was was) = length was
standing stands _ = stands

-- values are of these kinds, one each in order, and in their ranges
abbrev pub AllFit : ℕ → List FieldKind → List FieldValue → Type 0
AllFit stands [] [] = Unit {0}
AllFit stands (k ∷ ks) (v ∷ vs) = Fits stands k v × AllFit (standing stands v) ks vs
AllFit _ _ _ = ⊥

-- the values are those of the row's fields
abbrev pub AreInRange : Command → Type 0
AreInRange c = AllFit 0 (fields_in (row_of (parts c).0)) (parts c).1

-- the spelling has at most 600 bytes
abbrev pub IsShort : Command → Type 0
IsShort c = length (spelling c) ≤ 600

-- the same of a command that may have moves: nothing else can make it too long
abbrev pub IsLeftShort : Bool → Command → Type 0
IsLeftShort true c = IsShort c
IsLeftShort false c = Unit {0}

-- a command whose fields are in their ranges, and whose moves leave it short: its spelling is one
-- of the language
abbrev pub IsFit : Command → Type 0
IsFit c = AreInRange c × IsLeftShort (list_any has_moves (fields_in (row_of (parts c).0))) c

-- a command may have a remark
abbrev pub MayHaveRemark : Command → Type 0
MayHaveRemark c = IsTrue (takes_remark_in (row_of (parts c).0))

abbrev pub IsFitRemark : Command → Option (List ℕ) → Type 0
IsFitRemark c None = Unit {0}
IsFitRemark c (Some remark) = MayHaveRemark c × IsTrue (is_remark remark)

-- a command that is fit, with a remark where it may have one, and the text of both is short
abbrev pub IsFitTold : RemarkedCommand → Type 0
IsFitTold told =
    IsFit told.command × IsFitRemark told.command told.remark
    × (length (told_spelling told) ≤ 600)
