-- One row more.
use Rattle.std.proofs.Common.{◌≡◌, ℕ, ◌+◌, List, ◌++◌, flat_map, ap, ◌∙◌, sym, append_assoc}
use Rattle.std.specs.List.{range_with_len}
use Rattle.sheets.proofs.Ranges.{range_more}

-- the rows in front of a position, and its own
pub one_more : (f : ℕ → List ℕ) (front old new : List ℕ) (k : ℕ)
    → old ≡ front ++ flat_map f (range_with_len 0 k) → new ≡ old ++ f k
    → new ≡ front ++ flat_map f (range_with_len 0 (k + 1))
one_more f front old new k so_far more =
    more ∙ ap (λ x. x ++ f k) so_far ∙ append_assoc front (flat_map f (range_with_len 0 k)) (f k)
    ∙ ap (λ x. front ++ x) (sym (range_more f k))
