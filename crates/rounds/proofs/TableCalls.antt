-- A table after a change of one entrant's values, and these values.
use Rattle.std.proofs.Common.{◌≡◌, ℕ, Bool, List, All, ap, sym, subst, ◌∙◌}
use Rattle.attempts.specs.{declared.Value.Value, Attempts.IsInRangeOf}
use Rattle.rounds.specs.{Tables.Entrant, Tables.Table, Tables.changed, Rows.AreValues}
use Rattle.rounds.specs.model.Field.{Field, as_table, set_values_at, with_values_at, IsEntrantAt}

pub changed_table : (closed : Bool) (f new : Field) (n i : ℕ) (at : IsEntrantAt n f i)
    (row next : List Value) (change : List Value → List Value)
    → new ≡ with_values_at f i next → row ≡ at.entrant.values → next ≡ change row
    → as_table closed new ≡ changed (as_table closed f) n change
changed_table closed f new n i at row next change is before after =
    ap (as_table closed) (is ∙ ap (with_values_at f i) (after ∙ ap change before))
    ∙ ap (λ (es : List Entrant). let t : Table = record (as_table closed f) { entrants = es } in t)
    (at.changed change)

-- what is read of the entrant at an index
pub values_there : (closed : Bool) (f : Field) (n i : ℕ) (at : IsEntrantAt n f i) (vs : List Value)
    → vs ≡ at.entrant.values → AreValues (as_table closed f) n vs
values_there closed f n i at vs are =
    record {
      one = at.entrant;
      found = at.found;
      are = are;
      in_range = subst (λ xs. All (IsInRangeOf f.rules.unit) xs) (sym are) at.ranged;
      alone = λ change.
          ap
          (λ (es : List Entrant). let t : Table = record (as_table closed f) { entrants = es } in t)
          (sym (at.changed change)
          ∙ ap (λ xs. set_values_at f.entrants i (change xs)) (sym are)
          ∙ at.changed (λ old. change vs));
    }
