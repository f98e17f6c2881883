-- What a reader finds in the file that an export wrote: the results of a round are what its sheet
-- has, and all else is what it was (the project's own).
use Rattle.std.specs.Prelude.{◌≡◌, ℕ, ℤ, pos, neg_ℤ, if◌then◌else◌, ◌==◌, List, [], ◌∷◌, map, codes}
use Rattle.std.specs.Prelude.{bytes_eq, Option, Some, None, unwrap_or, true, drop, slice_index}
use Rattle.std.specs.{Prelude.flat_map, List.list_any, List.AllByRecursion, Str.Parse.digits_value}
use Rattle.std.specs.{Prelude.option_to_list, Option.option_and_then, Option.option_map}
use Rattle.json.specs.Json.{Json, object, Members, no_members, member, document}
use Rattle.json.specs.Find.{get, as_number}
use Rattle.attempts.specs.declared.Value.{Value}
use Rattle.formats.specs.{declared.events.Event.Event, Results.average_of}
use Rattle.rounds.specs.Tables.{Entrant, Table, entrant, is_attempted, place, standings}
use Rattle.texts.specs.declared.command.{Command.Command, Settings.Settings}
use Rattle.commands.specs.{Accepted.round_of, History.history}
use Rattle.wcif.specs.{Files.without_mark, Rounds.round_id}
use Rattle.wcif_results.specs.Encoding.{attempt_result, best_result, average_result}
use Rattle.wcif_results.specs.{Faults.file_rounds, Faults.items_under, Files.Exports}
use Rattle.wcif_results.specs.Filled.{each, id_of, within}

-- Reading

-- the whole number of a text: a minus, where there is one, and decimal digits
abbrev pub whole_of : List ℕ → ℤ
whole_of text =
    if slice_index text 0 == 45 then neg_ℤ (pos (digits_value 10 (drop 1 text)))
    else pos (digits_value 10 text)

abbrev pub whole_under : List ℕ → Json → Option ℤ
whole_under name d = option_map whole_of (option_and_then as_number (get name d))

-- the number under a name; 0 where there is none
abbrev pub number_under : List ℕ → Json → ℤ
number_under name d = unwrap_or (whole_under name d) (pos 0)

-- an entrant's number and place, the attempts, the best and the average
pub record Result : Type 0 where
  pub person : ℤ
  pub ranking : Option ℤ
  pub attempts : List ℤ
  pub best : ℤ
  pub average : ℤ

unfoldable pub read_result : Json → Result
read_result d =
    record {
      person = number_under (codes "personId") d;
      ranking = whole_under (codes "ranking") d;
      attempts = map (number_under (codes "result")) (items_under (codes "attempts") d);
      best = number_under (codes "best") d;
      average = number_under (codes "average") d;
    }

-- The sheet

-- the place, once there is an attempt
abbrev pub ranking_of : List Value → ℕ → Option ℤ
ranking_of [] place = None
ranking_of (v ∷ vs) place = Some (pos place)

-- what the sheet has of an entrant
unfoldable pub sheet_result : Table → Entrant → Result
sheet_result t e =
    record {
      person = pos e.number;
      ranking = ranking_of e.values (place t e);
      attempts = map attempt_result e.values;
      best = best_result e.values;
      average = average_result (average_of t.format t.unit e.values);
    }

abbrev pub sheet_result_of : Table → ℕ → List Result
sheet_result_of t n = option_to_list (option_map (sheet_result t) (entrant t n))

-- in the order of the sheet
abbrev pub sheet_results : Table → List Result
sheet_results t = flat_map (sheet_result_of t) (standings t)

-- The first law

-- where a round of a file has this id, its results are those of the table
abbrev pub HasResults : Table → List ℕ → Json → Type 0
HasResults t id d =
    id_of d ≡ id → map read_result (items_under (codes "results") d) ≡ sheet_results t

-- a file has a round with this id, at least where the table has a result, and its results are those
-- of the table
pub record HasRound (d : Json) (id : List ℕ) (t : Table) : Type 0 where
  pub there : is_attempted t 1 ≡ true → list_any (λ e. bytes_eq (id_of e) id) (file_rounds d) ≡ true
  pub results : AllByRecursion (HasResults t id) (file_rounds d)

-- what an export writes of a round, read back, is what the sheet has, in the sheet's order: of
-- every list of entries, every file, and every round that was opened
abbrev pub ResultsReadBack : Type 0
ResultsReadBack =
    (entries : List (ℕ × List ℕ)) (bytes text : List ℕ)
    → Exports (history entries).accepted bytes text
    → (event : Event) (number : ℕ) (round : Settings × Table)
    → round_of (history entries).accepted event number ≡ Some round
    → (d : Json) × (document text ≡ Some d) × HasRound d (round_id event number) round.1

-- The second law

-- the members without those under a name
abbrev pub members_without : List ℕ → Members → Members
members_without name no_members = no_members
members_without name (member k j ms) =
    if bytes_eq k name then members_without name ms else member k j (members_without name ms)

-- an object without the members under a name; any other value as it is
abbrev pub without : List ℕ → Json → Json
without name (object ms) = object (members_without name ms)
without name d = d

-- a file without the results of its rounds
unfoldable pub emptied : Json → Json
emptied d =
    within (codes "events") (each (within (codes "rounds") (each (without (codes "results"))))) d

-- the file and what an export writes of it are one value, but for the results of its rounds: each
-- other member is in its place, with its value, numbers with their spelling
abbrev pub OthersStay : Type 0
OthersStay =
    (cs : List Command) (bytes text : List ℕ) → Exports cs bytes text
    → (d e : Json) × (document (without_mark bytes) ≡ Some d) × (document text ≡ Some e)
    × (emptied e ≡ emptied d)
