-- Worked sheets of edition 3, from texts, by hand: what its commands leave of a round.
use Rattle.std.specs.Prelude.{◌≡◌, ℕ, List, [], ◌∷◌, ◌++◌, Some, map}
use Rattle.formats.specs.declared.events.Event.TheVariants.{Cube3, FewestMoves}
use Rattle.edition_laws.specs.Answered.{Row, IsAnswered, lines, done, printed, refused}
use Rattle.edition_laws.specs.WorkedRounds.{tied}
use Rattle.texts.specs.declared.answer.Code.TheVariants as code
use Rattle.formats.specs.declared.styles.SheetStyle.TheVariants as style

-- After the second round of `tied` was opened Ben withdraws from it. Cas takes the place, the first
-- of the two who share the third one, and withdraws too: then Dan does. Ann gets another name.
abbrev pub left : List Row
left =
    tied ++ done "EDITION 3" ∷ done "WDR 333 2 2" ∷ done "WDR 333 2 3"
    ∷ refused code.NotEntered "WDR 333 2 2" ∷ done "REN 1 Zoe"
    ∷ refused code.RoundOpen "REOPEN 333 1" ∷ done "ATT 333 2 1 4 T:900:0" ∷ []

-- the sheet of the first round goes on marking those who advanced from it
abbrev pub left_first : List ℕ
left_first =
    lines ("333 round 1 bo1 closed position 37" ∷ "cutoff - limit 60000 advance top:3"
    ∷ "  1         -     10.00     10.00    2 Q Ben"
    ∷ "  2         -     11.00     11.00    1 Q Zoe"
    ∷ "  3         -     12.00     12.00    3 - Cas"
    ∷ "  3         -     12.00     12.00    4 - Dan"
    ∷ "  5         -     13.00     13.00    5 - Eli"
    ∷ "  6         -     14.00     14.00    8 - Hal"
    ∷ "  7         -     15.00     15.00    9 - Ida"
    ∷ "  8         -       DNF       DNF    6 - Fay"
    ∷ "  8         -       DNS       DNS    7 - Gil" ∷ [])

abbrev pub left_second : List ℕ
left_second =
    lines ("333 round 2 bo1 open position 37" ∷ "cutoff - limit 60000 advance final"
    ∷ "  1         -      9.00      9.00    4 - Dan"
    ∷ "  2         -         -         -    1 - Zoe" ∷ [])

-- Other settings before the first attempt: 10.00 is a DNF under a limit of ten seconds, and one
-- attempt stays where it does not meet the cutoff. A closed round is opened again, and corrected.
abbrev pub set_anew : List Row
set_anew =
    map done ("REG 1 Ann Li" ∷ "REG 2 Bo Ek" ∷ "OPEN 333 1 bo1 - 60000 final" ∷ "EDITION 3"
    ∷ "ENT 333 1" ∷ "ENT 333 2" ∷ "SET 333 1 bo2 1:900 1000" ∷ "ATT 333 1 1 1 T:1000:0" ∷ [])
    ++ refused code.HasAttempts "SET 333 1 bo2 - 60000" ∷ map done ("ATT 333 1 1 2 T:899:0"
    ∷ "ATT 333 1 2 2 DNF" ∷ "CLOSE 333 1" ∷ "REOPEN 333 1" ∷ "COR 333 1 1 1 T:901:0" ∷ "CLOSE 333 1"
    ∷ [])

abbrev pub set_sheet : List ℕ
set_sheet =
    lines ("333 round 1 bo2 closed position 15" ∷ "cutoff 1:900 limit 1000 advance final"
    ∷ "  1         -      8.99      8.99       DNF    2 - Bo Ek"
    ∷ "  2         -      9.01      9.01         -    1 - Ann Li" ∷ [])

-- another scramble: what solves it is a result, what solves the earlier one is none
abbrev pub scrambled_anew : List Row
scrambled_anew =
    map done ("REG 1 Ann Li" ∷ "OPEN 333fm 1 bo2 - - final" ∷ "SCR 333fm 1 1 R" ∷ "SCR 333fm 1 2 R"
    ∷ "EDITION 3" ∷ "ENT 333fm 1" ∷ "RSC 333fm 1 1 U" ∷ "RSC 333fm 1 2 U" ∷ "ATT 333fm 1 1 1 S:U'"
    ∷ "ATT 333fm 1 2 1 S:R'" ∷ [])

abbrev pub scrambled_sheet : List ℕ
scrambled_sheet =
    lines ("333fm round 1 bo2 open position 10" ∷ "cutoff - limit - advance final"
    ∷ "  1         -         1         1       DNF    1 - Ann Li" ∷ [])

pub record MendsWorkedRounds : Type 0 where
  pub left_answers : IsAnswered left
  pub left_from_first : printed style.Text left Cube3 1 ≡ Some left_first
  pub left_from_second : printed style.Text left Cube3 2 ≡ Some left_second
  pub set_answers : IsAnswered set_anew
  pub set_printed : printed style.Text set_anew Cube3 1 ≡ Some set_sheet
  pub scrambled_answers : IsAnswered scrambled_anew
  pub scrambled_printed : printed style.Text scrambled_anew FewestMoves 1 ≡ Some scrambled_sheet
