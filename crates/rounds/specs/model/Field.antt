-- The entrants of a round as the table sees them.
use Rattle.std.specs.Prelude.{◌≡◌, ◌<◌, ◌≤◌, ℕ, zero, suc, Bool, false, List, [], ◌∷◌, ◌++◌, Option}
use Rattle.std.specs.Prelude.{Some, find, filter, length, map, not, slice_get, remove, All}
use Rattle.attempts.specs.{declared.Value.Value, Attempts.IsInRangeOf}
use Rattle.formats.specs.declared.events.Format.{Format}
use Rattle.rounds.specs.declared.{rules.Rules.Rules, kept_entrant.KeptEntrant.KeptEntrant}
use Rattle.rounds.specs.Tables.{Entrant, Table, IsCutoff, allotted, changed_of, has_number, place}
use Rattle.rounds.specs.model.KeptEntrants.{kept_of}

-- what the round was opened with, and the entrants in order of entry
pub record Field : Type 0 where
  pub rules : Rules
  pub entrants : List Entrant

-- the round that they make
abbrev pub as_table : Bool → Field → Table
as_table is_closed f =
    record {
      format = f.rules.format;
      unit = f.rules.unit;
      cutoff = f.rules.cutoff;
      is_closed = is_closed;
      entrants = f.entrants;
    }

abbrev pub with_newcomer : Field → ℕ → Field
with_newcomer f n = record f { entrants = f.entrants ++ record { number = n; values = [] } ∷ [] }

-- the entrant at an index has other values
abbrev pub set_values_at : List Entrant → ℕ → List Value → List Entrant
set_values_at [] i vs = []
set_values_at (e ∷ es) zero vs = record e { values = vs } ∷ es
set_values_at (e ∷ es) (suc i) vs = e ∷ set_values_at es i vs

abbrev pub with_values_at : Field → ℕ → List Value → Field
with_values_at f i vs = record f { entrants = set_values_at f.entrants i vs }

-- the entrant at an index is the one with a number
pub record IsEntrantAt (n : ℕ) (f : Field) (i : ℕ) : Type 0 where
  pub entrant : Entrant
  pub within : i < length f.entrants
  pub there : slice_get f.entrants i ≡ Some entrant
  pub found : find (has_number n) f.entrants ≡ Some entrant
  pub cutoff : IsCutoff f.rules.format f.rules.cutoff
  pub few : length entrant.values ≤ allotted f.rules.format f.rules.cutoff entrant.values
  pub ranged : All (IsInRangeOf f.rules.unit) entrant.values
  pub changed : (change : List Value → List Value)
      → set_values_at f.entrants i (change entrant.values) ≡ map (changed_of n change) f.entrants
  pub left : remove f.entrants i ≡ filter (λ e. not (has_number n e)) f.entrants

-- what is kept of the entrant with a number
pub record IsKeptEntrantOf (f : Field) (n : ℕ) (e : Entrant) (s : KeptEntrant) : Type 0 where
  pub found : find (has_number n) f.entrants ≡ Some e
  pub row : s.row ≡ e.values
  pub kept : s.kept ≡ kept_of f.rules e.values (place (as_table false f) e)

-- the entrant at an index has done no attempt
pub record IsWithoutAttempts (f : Field) (i : ℕ) : Type 0 where
  pub entrant : Entrant
  pub there : slice_get f.entrants i ≡ Some entrant
  pub none : entrant.values ≡ []

-- the entrant at an index is taken out
abbrev pub without_at : Field → ℕ → Field
without_at f i = record f { entrants = remove f.entrants i }

-- the entrants are ranked and cut off otherwise
abbrev pub with_field_rules : Field → Format → Option (ℕ × ℕ) → Field
with_field_rules f format cutoff =
    record f {
      rules = record { format = format; unit = f.rules.unit; cutoff = cutoff };
    }
