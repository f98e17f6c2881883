-- Words of which the first is an id.
use Rattle.std.proofs.Common.{◌≡◌, ◌∙◌, ◌≤◌, ◌-◌, ◌∷◌, [], Bor, List, ℕ, ap, arith, decimal, drop}
use Rattle.std.proofs.Common.{get_or, length, map, sym, take}
use Rattle.std.proofs.lemmas.List.{take_all}
use Rattle.clap.specs.Words.{Text}

-- the id is before all that are left
pub id_before : (words : List (Bor Text)) (d : Bor Text) (id : ℕ) → 1 ≤ length words
    → (get_or words 0 d).now ≡ decimal id → map (λ w. w.now) words
    ≡ decimal id ∷ map (λ w. w.now) (take (length words - 1) (drop 1 words))
id_before [] d id some is = absurd (omega (arith, some))
id_before (word ∷ more) d id some is =
    ap (λ text. text ∷ map (λ (w : Bor Text). w.now) more) is
    ∙ ap (λ (ws : List (Bor Text)). decimal id ∷ map (λ (w : Bor Text). w.now) ws)
    (sym (take_all (length (word ∷ more) - 1) more (omega arith)))
