-- The rounds rule, by numbers of competitors that are alike.
use Rattle.std.proofs.Common.{◌≡◌, ℕ, ◌+◌, ◌-◌, ◌==◌, ◌&&◌, Bool, true, false, not, cond, List, []}
use Rattle.std.proofs.Common.{◌∷◌, refl, sym, ap, ◌∙◌, eqb-true}
use Rattle.std.specs.{Prelude.nat_lt, List.list_any, List.range_with_len}
use Rattle.formats.specs.declared.advance.Advance.{Advance}
use Rattle.advancement.specs.Advancing.{later_rounds}
use Rattle.commands.specs.Accepted.{is_final, has_too_few, breaks_rounds_rule, but_for}

pub any_alike : (p q : ℕ → Bool) → ((n : ℕ) → p n ≡ q n) → (ns : List ℕ)
    → list_any p ns ≡ list_any q ns
any_alike p q h [] = refl
any_alike p q h (n ∷ ns) = rw (h n, any_alike p q h ns) refl

-- whether the competitors allow another round, by numbers of them that are alike
pub breaks_alike : (ms ns : ℕ → ℕ) (r : ℕ) (advance : Advance) → ((j : ℕ) → ms j ≡ ns j)
    → breaks_rounds_rule ms r advance ≡ breaks_rounds_rule ns r advance
breaks_alike ms ns r advance alike =
    ap (λ (b : Bool). not (is_final advance) && b) (any_alike (has_too_few ms r) (has_too_few ns r)
    (λ j. ap (λ (n : ℕ). nat_lt (later_rounds n) (r + 1 - j)) (alike j)) (range_with_len 1 r))

-- the numbers with that of one round as it is
pub but_for_same : (ms : ℕ → ℕ) (r j : ℕ) → but_for ms r (ms r) j ≡ ms j
but_for_same ms r j = step (j == r) refl
  where
    step : (b : Bool) → (j == r) ≡ b → cond b (ms r) (ms j) ≡ ms j
    step true h = ap ms (sym (eqb-true j r h))
    step false h = refl

-- the rule with the number of one round as it is
pub breaks_same : (ms : ℕ → ℕ) (r n : ℕ) (advance : Advance) → n ≡ ms r
    → breaks_rounds_rule (but_for ms r n) r advance ≡ breaks_rounds_rule ms r advance
breaks_same ms r n advance is =
    ap (λ (m : ℕ). breaks_rounds_rule (but_for ms r m) r advance) is
    ∙ breaks_alike (but_for ms r (ms r)) ms r advance (but_for_same ms r)
