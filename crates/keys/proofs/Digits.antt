-- A text without the line feed at its end.
use Rattle.std.proofs.Common.{◌≡◌, ℕ, ◌-◌, List, [], ◌∷◌, ◌++◌, length, take, get_or, cond, refl}
use Rattle.std.proofs.Common.{ap, ◌∙◌, arith}
use Rattle.std.proofs.lemmas.{Bool.eq-eqb, List.length-append, List.take_at}
use Rattle.keys.specs.Keys.{digits_of}

at_end : (t : List ℕ) → get_or (t ++ 10 ∷ []) (length t) 0 ≡ 10
at_end [] = refl
at_end (x ∷ t) = at_end t

pub digits_with_feed : (t : List ℕ) → digits_of (t ++ 10 ∷ []) ≡ t
digits_with_feed t =
    let k : length (t ++ 10 ∷ []) - 1 ≡ length t = omega (arith, length-append t (10 ∷ [])) in
    let last : get_or (t ++ 10 ∷ []) (length (t ++ 10 ∷ []) - 1) 0 ≡ 10 =
    ap (λ (i : ℕ). get_or (t ++ 10 ∷ []) i 0) k ∙ at_end t in
    ap (λ b. cond b (take (length (t ++ 10 ∷ []) - 1) (t ++ 10 ∷ [])) (t ++ 10 ∷ []))
    (eq-eqb (get_or (t ++ 10 ∷ []) (length (t ++ 10 ∷ []) - 1) 0) 10 last)
    ∙ ap (λ (i : ℕ). take i (t ++ 10 ∷ [])) k ∙ take_at t (10 ∷ []) (length t) refl
