-- What is kept of a round's entrants is up to date: places and counts are those of the values.
use Rattle.std.specs.Prelude.{◌≡◌, ◌≤◌, ℕ, List, [], None, All, count_by, length, map}
use Rattle.std.specs.{List.list_any, Map.values_of}
use Rattle.formats.specs.declared.results.{RankKey.RankKey, Averaged.TheVariants.Missing}
use Rattle.formats.specs.{Events.most_entrants, Results.IsFormatOf, Results.is_better}
use Rattle.rounds.specs.declared.{entrants.Entrants.TheInside.Inside, rules.Rules.Rules}
use Rattle.rounds.specs.{declared.kept_entrant.KeptEntrant.KeptEntrant, model.Field.Field}
use Rattle.attempts.specs.{Attempts.IsInRangeOf, declared.Value.TheVariants.Dns}
use Rattle.rounds.specs.Tables.{Entrant, IsCutoff, allotted, is_started_attempt}
use Rattle.rounds.specs.model.PackedKeys.{HasPackedKey, HasRoom, packed_key_of}
use Rattle.rounds.specs.model.KeptEntrants.{kept_of, is_unfinished, place_among}

abbrev pub entrant_of : ℕ × KeptEntrant → Entrant
entrant_of line = record { number = line.0; values = line.1.row }

abbrev pub entrants_of : List (ℕ × KeptEntrant) → List Entrant
entrants_of lines = map entrant_of lines

abbrev pub field_of : Inside → Field
field_of a = record { rules = a.rules; entrants = entrants_of a.by_number.entries }

-- what an entrant without a result is ranked by
abbrev pub no_result : RankKey
no_result = record { main = None; tie = None }

-- one without attempts, at a place
pub record IsNewcomer (place : ℕ) (s : KeptEntrant) : Type 0 where
  pub row : s.row ≡ []
  pub kept : s.kept ≡ record { best = Dns; average = Missing; key = no_result; place = place }
  pub packed_key : s.packed_key ≡ packed_key_of no_result
  pub room : HasRoom no_result

-- best, average and key are those of the values
abbrev pub IsMade : Rules → ℕ × KeptEntrant → Type 0
IsMade rules line = line.1.kept ≡ kept_of rules line.1.row line.1.kept.place

-- the place is 1 plus the number of those who are better
abbrev pub IsPlaced : List KeptEntrant → ℕ × KeptEntrant → Type 0
IsPlaced ss line = line.1.kept.place ≡ place_among ss line.1.kept.key

-- no more attempts are done than allotted
abbrev pub IsAllotted : Rules → ℕ × KeptEntrant → Type 0
IsAllotted rules line = length line.1.row ≤ allotted rules.format rules.cutoff line.1.row

-- each value is in the range of the unit
abbrev pub IsRanged : Rules → ℕ × KeptEntrant → Type 0
IsRanged rules line = All (IsInRangeOf rules.unit) line.1.row

-- what is kept of these entrants is theirs, and these are the counts of those who have started, of
-- those who have not done all allotted attempts, and of those with a result
pub record AreUpToDate (rules : Rules) (lines : List (ℕ × KeptEntrant))
    (started unfinished with_result : ℕ) : Type 0 where
  pub few : length lines ≤ most_entrants
  pub cutoff : IsCutoff rules.format rules.cutoff
  pub format : IsFormatOf rules.unit rules.format
  pub made : All (IsMade rules) lines
  pub placed : All (IsPlaced (values_of lines)) lines
  pub within : All (IsAllotted rules) lines
  pub ranged : All (IsRanged rules) lines
  pub ordered : All HasPackedKey lines
  pub counts_started : started ≡ count_by (λ s. list_any is_started_attempt s.row) (values_of lines)
  pub counts_unfinished : unfinished ≡ count_by (λ s. is_unfinished rules s.row) (values_of lines)
  pub counts_results : with_result ≡ count_by (λ s. is_better s.kept.key no_result)
      (values_of lines)

abbrev pub IsUpToDate : Inside → Type 0
IsUpToDate a = AreUpToDate a.rules a.by_number.entries a.started a.unfinished a.with_result
