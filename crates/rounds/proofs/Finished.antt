-- All are finished where nobody is counted as unfinished.
use Rattle.std.proofs.Common.{◌≡◌, ℕ, ◌+◌, Bool, true, false, ◌&&◌, List, [], ◌∷◌, length, count_by}
use Rattle.std.proofs.Common.{nat_eq, nat_le, nat_lt, refl, sym, ap, ◌∙◌, arith, cond}
use Rattle.std.specs.{List.list_all, Map.values_of}
use Rattle.std.proofs.lemmas.{Bool.Decides.nat_tests, List.Sums.sum_by-cons}
use Rattle.rounds.specs.declared.{rules.Rules.Rules, kept_entrant.KeptEntrant.KeptEntrant}
use Rattle.rounds.specs.{Tables.Entrant, model.Field.as_table, model.UpToDate.entrants_of}
use Rattle.rounds.{specs.Tables.allotted, specs.Tables.is_finished, proofs.EntrantLines.field_with}
use Rattle.rounds.specs.model.KeptEntrants.{one_if, is_unfinished}

one_or_more : (done may rest : ℕ) (all : Bool) → nat_eq rest 0 ≡ all
    → nat_eq (one_if (nat_lt done may) + rest) 0 ≡ (nat_le may done && all)
one_or_more done may rest all h = step (nat_lt done may) refl
  where
    step : (b : Bool) → nat_lt done may ≡ b → nat_eq (one_if b + rest) 0 ≡ (nat_le may done && all)
    step true less =
        let not : nat_le may done ≡ false = grind (arith, nat_tests) in
        let some : nat_eq (1 + rest) 0 ≡ false = grind (arith, nat_tests) in
        some ∙ ap (λ (x : Bool). x && all) (sym not)
    step false less =
        let is : nat_le may done ≡ true = grind (arith, nat_tests) in
        let same : 0 + rest ≡ rest = omega arith in
        ap (λ m. nat_eq m 0) same ∙ h ∙ ap (λ (x : Bool). x && all) (sym is)

by_lines : (rules : Rules) (es : List (ℕ × KeptEntrant))
    → nat_eq (count_by (λ s. is_unfinished rules s.row) (values_of es)) 0 ≡ list_all
    (λ (e : Entrant). nat_le (allotted rules.format rules.cutoff e.values) (length e.values))
    (entrants_of es)
by_lines rules [] = refl
by_lines rules (e ∷ es) =
    ap (λ m. nat_eq m 0)
    (sum_by-cons (λ (s : KeptEntrant). cond (is_unfinished rules s.row) 1 0) e.1 (values_of es))
    ∙ one_or_more (length e.1.row) (allotted rules.format rules.cutoff e.1.row)
    (count_by (λ s. is_unfinished rules s.row) (values_of es)) _ (by_lines rules es)

pub finished_is : (rules : Rules) (es : List (ℕ × KeptEntrant)) (unfinished : ℕ)
    → unfinished ≡ count_by (λ s. is_unfinished rules s.row) (values_of es)
    → nat_eq unfinished 0 ≡ is_finished (as_table false (field_with rules es))
finished_is rules es unfinished is = ap (λ m. nat_eq m 0) is ∙ by_lines rules es
