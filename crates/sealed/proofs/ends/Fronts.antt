-- The first four bytes that came, as more comes.
use Rattle.std.proofs.Common.{◌≡◌, ℕ, ◌+◌, ◌-◌, ◌≤◌, List, ◌++◌, length, take, min, sym, ap, ◌∙◌}
use Rattle.std.proofs.{Common.arith, lemmas.List.take_min, Math.Seq.take-append-add}

-- held bytes, with those of a piece after them up to four
pub held_is : (old piece new : List ℕ) (added : ℕ) → length old ≤ 4
    → added ≡ min (4 - length old) (length piece) → new ≡ old ++ take added piece
    → new ≡ take 4 (old ++ piece)
held_is old piece new added few count whole =
    let left = 4 - length old in
    let all : length old + left ≡ 4 = omega (arith, few) in
    whole ∙ ap (λ (n : ℕ). old ++ take n piece) count
    ∙ ap (λ (s : List ℕ). old ++ s) (take_min left piece)
    ∙ sym (take-append-add old piece left) ∙ ap (λ (n : ℕ). take n (old ++ piece)) all
