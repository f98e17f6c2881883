-- Known bytes, and parts of lists.
use Rattle.std.proofs.Common.{◌≡◌, ℕ, List, ◌++◌, take, drop, sym, ap, ◌∙◌, append_assoc}
use Rattle.std.proofs.Common.{take-append-drop}

-- the front part grows by the first n of the rest
pub split_front : (text front rest : List ℕ) (n : ℕ) → text ≡ front ++ rest
    → text ≡ (front ++ take n rest) ++ drop n rest
split_front text front rest n e =
    e ∙ ap (λ x. front ++ x) (sym (take-append-drop n rest))
    ∙ sym (append_assoc front (take n rest) (drop n rest))
