-- What holds of all readings: a text has at most one, and what a sheet prints is read back (the
-- project's own).
use Rattle.std.specs.Prelude.{◌≡◌, ℕ, ◌≤◌, List, Option, None}
use Rattle.attempts.specs.declared.{Outcome.Outcome, Unit.Unit as Measure, Value.Value}
use Rattle.attempts.specs.declared.Unit.TheVariants.{Time, Moves, Multi}
use Rattle.attempts.specs.{Attempts.IsOutcome, Attempts.value_of, Texts.value_text}
use Rattle.formats.specs.{declared.events.Event.Event, Events.unit_of}
use Rattle.texts.specs.{declared.command.Entered.Entered, Spelling.IsEntered}
use Rattle.scorecard.specs.{Spelling.Spells, Typed.entered_typed}
use Rattle.attempts.specs.declared.Outcome.TheVariants as outcome
use Rattle.attempts.specs.declared.Value.TheVariants as value
use Rattle.texts.specs.declared.command.Entered.TheVariants as entered

-- a text spells one outcome at most
abbrev pub SpellsOnce : Type 0
SpellsOnce =
    (unit : Measure) (text : List ℕ) (x y : Entered) → Spells unit text x → Spells unit text y
    → x ≡ y

-- the outcomes that the event may have: times, solutions or results of multi-blind, and no result
abbrev pub IsOutcomeIn : Measure → Outcome → Type 0
IsOutcomeIn Time (outcome.Time time penalties) = Unit {0}
IsOutcomeIn Moves (outcome.Solution result) = Unit {0}
IsOutcomeIn Multi (outcome.Multi solved attempted seconds) = Unit {0}
IsOutcomeIn unit outcome.Dnf = Unit {0}
IsOutcomeIn unit outcome.Dns = Unit {0}
IsOutcomeIn _ _ = ⊥

-- a value whose text is one of an outcome: no number of moves, which is no solution, and no time
-- above 999,999 hundredths of a second, to which penalties and rounding can bring a measured time
abbrev pub IsReadable : Measure → Value → Type 0
IsReadable Time (value.Number n) = n ≤ 999999
IsReadable Moves (value.Number n) = ⊥
IsReadable Multi (value.Number n) = Unit {0}
IsReadable unit value.Dnf = Unit {0}
IsReadable unit value.Dns = Unit {0}

-- what a time, a result of multi-blind or no result counts as, without a time limit
abbrev pub CountsAs : Entered → Value → Type 0
CountsAs (entered.Time time penalties) v = value_of None (outcome.Time time penalties) ≡ v
CountsAs (entered.Solution moves) v = ⊥
CountsAs (entered.Multi solved attempted seconds) v =
    value_of None (outcome.Multi solved attempted seconds) ≡ v
CountsAs entered.Dnf v = value_of None outcome.Dnf ≡ v
CountsAs entered.Dns v = value_of None outcome.Dns ≡ v

-- the text of a value spells an outcome that counts as it
abbrev pub IsReadBack : Measure → Value → Type 0
IsReadBack unit v = (x : Entered) × Spells unit (value_text unit v) x × CountsAs x v

-- what a sheet prints of an attempt, typed again, is an outcome of the same value
abbrev pub SheetReadsBack : Type 0
SheetReadsBack =
    (event : Event) (limit : Option ℕ) (x : Outcome) → IsOutcome x → IsOutcomeIn (unit_of event) x
    → IsReadable (unit_of event) (value_of limit x) → IsReadBack (unit_of event) (value_of limit x)

-- what may be entered for an attempt of the event: a time, a solution or a result of multi-blind,
-- and no result
abbrev pub IsEnteredIn : Measure → Entered → Type 0
IsEnteredIn Time (entered.Time time penalties) = Unit {0}
IsEnteredIn Moves (entered.Solution moves) = Unit {0}
IsEnteredIn Multi (entered.Multi solved attempted seconds) = Unit {0}
IsEnteredIn unit entered.Dnf = Unit {0}
IsEnteredIn unit entered.Dns = Unit {0}
IsEnteredIn _ _ = ⊥

-- what was entered, as a page fills a field in with it, spells just that
abbrev pub EnteredReadsBack : Type 0
EnteredReadsBack =
    (unit : Measure) (x : Entered) → IsEntered x → IsEnteredIn unit x
    → Spells unit (entered_typed x) x

-- a number of moves, as a sheet prints it, spells nothing
abbrev pub SpellsNoMoves : Type 0
SpellsNoMoves =
    (n : ℕ) (x : Entered) → n ≤ 80 → Spells Moves (value_text Moves (value.Number n)) x → ⊥
