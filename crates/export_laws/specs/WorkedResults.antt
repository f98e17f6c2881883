-- The results of rounds as a competition's file has them, worked by hand from the WCA Competition
-- Interchange Format (its Result, Attempt and AttemptResult; https://github.com/thewca/wcif,
-- specification.md): a time is in hundredths of a second, a result of fewest moves in moves, and
-- their mean in hundredths of a move; -1 is DNF, -2 is DNS, and 0 says that there is no result.
use Rattle.std.specs.Prelude.{◌≡◌, ℕ, false, List, [], ◌∷◌, ◌++◌, map, codes, Some, None}
use Rattle.json.specs.{Print.print, Tree.json_tokens}
use Rattle.attempts.specs.declared.{Outcome.Outcome, Unit.Unit as Measure}
use Rattle.attempts.specs.declared.Outcome.TheVariants.{Time, Solution, Multi, Dnf, Dns}
use Rattle.attempts.specs.Attempts.{value_of}
use Rattle.formats.specs.declared.events.Format.{Format}
use Rattle.formats.specs.declared.events.Format.TheVariants.{Ao5, Mo3, Bo2}
use Rattle.rounds.specs.Tables.{Entrant, Table}
use Rattle.wcif_results.specs.Results.{results_json}
use Rattle.attempts.specs.declared.Fm.TheVariants as fm
use Rattle.attempts.specs.declared.Unit.TheVariants as measure

-- an entrant with these outcomes, under a limit of ten minutes
abbrev pub entrant_with : ℕ → List Outcome → Entrant
entrant_with number outcomes =
    record { number = number; values = map (value_of (Some 60000)) outcomes }

abbrev pub round_of : Format → Measure → List Entrant → Table
round_of format unit entrants = record {
  format = format;
  unit = unit;
  cutoff = None;
  is_closed = false;
  entrants = entrants;
}

-- what is written of a round
abbrev pub written : Table → List ℕ
written t = print (json_tokens (results_json t))

abbrev pub solved_in : ℕ → Outcome
solved_in moves = Solution (fm.Moves moves)

-- Times, the average of five. Of number 7 the best and the DNF are left out of the average, and one
-- time has a penalty of two seconds: a third of 10.43, 13.01 and 12.34 is 11.93. Number 2 has two
-- DNF, one of them a time at the limit, and a DNS, so there is no average but DNF. Number 3 did not
-- start any attempt. Number 12 started one: the best is DNF. Number 9 is not done, and number 5 has
-- no attempt. Those without an average are ranked by their best.
abbrev pub times : Table
times =
    round_of Ao5 measure.Time (entrant_with 5 [] ∷ entrant_with 3 (Dns ∷ Dns ∷ Dns ∷ Dns ∷ Dns ∷ [])
    ∷ entrant_with 12 (Dnf ∷ Dns ∷ Dns ∷ Dns ∷ Dns ∷ []) ∷ entrant_with 9 (Time 900 0 ∷ [])
    ∷ entrant_with 2 (Dnf ∷ Dns ∷ Time 1500 0 ∷ Time 60000 0 ∷ Time 1400 0 ∷ [])
    ∷ entrant_with 7 (Time 1043 0 ∷ Time 999 0 ∷ Dnf ∷ Time 1101 1 ∷ Time 1234 0 ∷ []) ∷ [])

abbrev pub times_text : List ℕ
times_text =
    codes "["
    ++ codes "{\"personId\":7,\"ranking\":1,\"attempts\":["
    ++ codes "{\"result\":1043,\"reconstruction\":null},"
    ++ codes "{\"result\":999,\"reconstruction\":null},"
    ++ codes "{\"result\":-1,\"reconstruction\":null},"
    ++ codes "{\"result\":1301,\"reconstruction\":null},"
    ++ codes "{\"result\":1234,\"reconstruction\":null}"
    ++ codes "],\"best\":999,\"average\":1193},"
    ++ codes "{\"personId\":9,\"ranking\":2,\"attempts\":["
    ++ codes "{\"result\":900,\"reconstruction\":null}"
    ++ codes "],\"best\":900,\"average\":0},"
    ++ codes "{\"personId\":2,\"ranking\":3,\"attempts\":["
    ++ codes "{\"result\":-1,\"reconstruction\":null},"
    ++ codes "{\"result\":-2,\"reconstruction\":null},"
    ++ codes "{\"result\":1500,\"reconstruction\":null},"
    ++ codes "{\"result\":-1,\"reconstruction\":null},"
    ++ codes "{\"result\":1400,\"reconstruction\":null}"
    ++ codes "],\"best\":1400,\"average\":-1},"
    ++ codes "{\"personId\":5,\"ranking\":null,\"attempts\":["
    ++ codes "],\"best\":0,\"average\":0},"
    ++ codes "{\"personId\":3,\"ranking\":4,\"attempts\":["
    ++ codes "{\"result\":-2,\"reconstruction\":null},"
    ++ codes "{\"result\":-2,\"reconstruction\":null},"
    ++ codes "{\"result\":-2,\"reconstruction\":null},"
    ++ codes "{\"result\":-2,\"reconstruction\":null},"
    ++ codes "{\"result\":-2,\"reconstruction\":null}"
    ++ codes "],\"best\":-2,\"average\":-1},"
    ++ codes "{\"personId\":12,\"ranking\":4,\"attempts\":["
    ++ codes "{\"result\":-1,\"reconstruction\":null},"
    ++ codes "{\"result\":-2,\"reconstruction\":null},"
    ++ codes "{\"result\":-2,\"reconstruction\":null},"
    ++ codes "{\"result\":-2,\"reconstruction\":null},"
    ++ codes "{\"result\":-2,\"reconstruction\":null}"
    ++ codes "],\"best\":-1,\"average\":-1}"
    ++ codes "]"

-- Fewest moves, the mean of three: a third of 25, 26 and 26 moves is 25.67.
abbrev pub moves : Table
moves =
    round_of Mo3 measure.Moves (entrant_with 1 (solved_in 25 ∷ solved_in 26 ∷ solved_in 26 ∷ [])
    ∷ entrant_with 2 (solved_in 30 ∷ Dnf ∷ solved_in 24 ∷ [])
    ∷ entrant_with 3 (solved_in 20 ∷ []) ∷ [])

abbrev pub moves_text : List ℕ
moves_text =
    codes "["
    ++ codes "{\"personId\":1,\"ranking\":1,\"attempts\":["
    ++ codes "{\"result\":25,\"reconstruction\":null},"
    ++ codes "{\"result\":26,\"reconstruction\":null},"
    ++ codes "{\"result\":26,\"reconstruction\":null}"
    ++ codes "],\"best\":25,\"average\":2567},"
    ++ codes "{\"personId\":3,\"ranking\":2,\"attempts\":["
    ++ codes "{\"result\":20,\"reconstruction\":null}"
    ++ codes "],\"best\":20,\"average\":0},"
    ++ codes "{\"personId\":2,\"ranking\":3,\"attempts\":["
    ++ codes "{\"result\":30,\"reconstruction\":null},"
    ++ codes "{\"result\":-1,\"reconstruction\":null},"
    ++ codes "{\"result\":24,\"reconstruction\":null}"
    ++ codes "],\"best\":24,\"average\":-1}"
    ++ codes "]"

-- Multi-blind, the best of two, as ten digits 0DDTTTTTMM: 7 cubes of 9 in 50 minutes are 5 points,
-- so DD is 94, TTTTT is 03000 and MM is 02; all of 10 in a second less than an hour are 89, 03599
-- and 00. One cube of two is a DNF.
abbrev pub multi : Table
multi =
    round_of Bo2 measure.Multi (entrant_with 1 (Multi 7 9 3000 ∷ Multi 1 2 600 ∷ [])
    ∷ entrant_with 2 (Multi 10 10 3599 ∷ Dns ∷ []) ∷ [])

abbrev pub multi_text : List ℕ
multi_text =
    codes "["
    ++ codes "{\"personId\":2,\"ranking\":1,\"attempts\":["
    ++ codes "{\"result\":890359900,\"reconstruction\":null},"
    ++ codes "{\"result\":-2,\"reconstruction\":null}"
    ++ codes "],\"best\":890359900,\"average\":0},"
    ++ codes "{\"personId\":1,\"ranking\":2,\"attempts\":["
    ++ codes "{\"result\":940300002,\"reconstruction\":null},"
    ++ codes "{\"result\":-1,\"reconstruction\":null}"
    ++ codes "],\"best\":940300002,\"average\":0}"
    ++ codes "]"

pub record WorksResults : Type 0 where
  pub of_times : written times ≡ times_text
  pub of_moves : written moves ≡ moves_text
  pub of_multi : written multi ≡ multi_text
