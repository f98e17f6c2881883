-- How far the entrants of a round have come (the project's own).
use Rattle.std.specs.Prelude.{ℕ, Bool, true, false, List, [], ◌∷◌, length, nat_lt, if◌then◌else◌}
use Rattle.std.specs.{Prelude.Option, Prelude.count_by, Option.option_map_or}
use Rattle.attempts.specs.declared.Value.{Value}
use Rattle.formats.specs.declared.events.Format.{Format}
use Rattle.formats.specs.declared.events.Format.TheVariants.{Ao5, Mo3, Bo1, Bo2, Bo3}
use Rattle.rounds.specs.Tables.{Entrant, Table, allotted, entrant, standings}
use Rattle.round_counts.specs.declared.{progress.Progress.Progress, counts.Counts.Counts}
use Rattle.round_counts.specs.declared.progress.Progress.TheVariants.{Absent, Begun, Done}

-- no attempt is done, some of the allotted ones, or all of them
abbrev pub progress_with : Format → Option (ℕ × ℕ) → List Value → Progress
progress_with format cutoff [] = Absent
progress_with format cutoff (v ∷ vs) =
    if nat_lt (length (v ∷ vs)) (allotted format cutoff (v ∷ vs)) then Begun else Done

abbrev pub progress : Format → Option (ℕ × ℕ) → Entrant → Progress
progress format cutoff e = progress_with format cutoff e.values

-- how far the entrant with a number has come
abbrev pub progress_in : Format → Table → ℕ → Progress
progress_in format t number =
    option_map_or (progress format t.cutoff) (entrant t number) Absent

abbrev pub is_same : Progress → Progress → Bool
is_same Absent Absent = true
is_same Begun Begun = true
is_same Done Done = true
is_same _ _ = false

abbrev pub has_progress : Format → Table → Progress → ℕ → Bool
has_progress format t progress number = is_same (progress_in format t number) progress

abbrev pub count_with : Format → Table → Progress → ℕ
count_with format t progress = count_by (has_progress format t progress) (standings t)

abbrev pub counts : Format → Table → Counts
counts format t = record {
  entrants = length (standings t);
  absent = count_with format t Absent;
  begun = count_with format t Begun;
  done = count_with format t Done;
}

-- the numbers of the attempts of a format
abbrev pub numbers_in : Format → List ℕ
numbers_in Ao5 = 1 ∷ 2 ∷ 3 ∷ 4 ∷ 5 ∷ []
numbers_in Mo3 = 1 ∷ 2 ∷ 3 ∷ []
numbers_in Bo1 = 1 ∷ []
numbers_in Bo2 = 1 ∷ 2 ∷ []
numbers_in Bo3 = 1 ∷ 2 ∷ 3 ∷ []
