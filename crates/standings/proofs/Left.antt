-- What is left of a list, an item at a time.
use Rattle.std.proofs.Common.{◌≡◌, refl, sym, ap, ◌∙◌, ℕ, ◌+◌, ◌<◌, ◌≤◌, List, [], ◌∷◌, ◌++◌}
use Rattle.std.proofs.Common.{length, drop, get_or, map, flat_map, append_assoc}
use Rattle.std.proofs.lemmas.List.{drop_more, drop_all}
use Rattle.json.specs.{Token.end_array, Json.Json, Value.items_of}
use Rattle.json.specs.Tree.{json_tokens, items_tokens}

-- the item at a place, read with whatever default
at : {X : Type 0} (xs : List X) (i : ℕ) (x d : X) → i < length xs → x ≡ get_or xs i d
    → drop i xs ≡ x ∷ drop (i + 1) xs
at xs i x d within is = drop_more xs i d within ∙ ap (λ y. y ∷ drop (i + 1) xs) (sym is)

-- items made of a list
pub items_left : {X : Type 0} (f : X → Json) (xs : List X) (i : ℕ) (x d : X) → i < length xs
    → x ≡ get_or xs i d → items_tokens (items_of (map f (drop i xs)))
    ≡ json_tokens (f x) ++ items_tokens (items_of (map f (drop (i + 1) xs)))
items_left f xs i x d within is =
    ap (λ ys. items_tokens (items_of (map f ys))) (at xs i x d within is)

-- items made of the lists of a list
items_tokens-append : (xs ys : List Json)
    → items_tokens (items_of (xs ++ ys)) ≡ flat_map json_tokens xs ++ items_tokens (items_of ys)
items_tokens-append [] ys = refl
items_tokens-append (x ∷ xs) ys =
    ap (λ ts. json_tokens x ++ ts) (items_tokens-append xs ys)
    ∙ sym (append_assoc (json_tokens x) (flat_map json_tokens xs) (items_tokens (items_of ys)))

pub lists_left : {X : Type 0} (f : X → List Json) (xs : List X) (i : ℕ) (x d : X) → i < length xs
    → x ≡ get_or xs i d → items_tokens (items_of (flat_map f (drop i xs)))
    ≡ flat_map json_tokens (f x) ++ items_tokens (items_of (flat_map f (drop (i + 1) xs)))
lists_left f xs i x d within is =
    ap (λ ys. items_tokens (items_of (flat_map f ys))) (at xs i x d within is)
    ∙ items_tokens-append (f x) (flat_map f (drop (i + 1) xs))

pub none_left : {X : Type 0} (f : X → List Json) (xs : List X) (i : ℕ) → length xs ≤ i
    → items_tokens (items_of (flat_map f (drop i xs))) ≡ end_array ∷ []
none_left f xs i past = ap (λ ys. items_tokens (items_of (flat_map f ys))) (drop_all i xs past)
