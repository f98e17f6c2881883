-- The names of those who help, as they are noted.
use Rattle.std.proofs.Common.{◌≡◌, ◌<◌, ◌+◌, ◌++◌, ◌∷◌, ◌∙◌, ℕ, List, [], Bool, true, false}
use Rattle.std.proofs.Common.{map, take, length, get_or, ap, sym, append-nil}
use Rattle.std.specs.Prelude.{◌&&◌, ◌||◌, not, if◌then◌else◌}
use Rattle.std.specs.List.{list_any}
use Rattle.std.proofs.lemmas.List.{Folds.list_any-append, map_more}
use Rattle.std.proofs.Math.Bool.{and-false, or-false}
use Rattle.serde_json.specs.{Data.Data, View.view, declared.value.Value.Value}

-- the assignments up to the next place
pub any_more : (p : Data → Bool) (vs : List Value) (i : ℕ) (v : Value)
    → i < length vs → v ≡ get_or vs i v
    → list_any p (map view (take (i + 1) vs))
    ≡ (list_any p (map view (take i vs)) || p (view v))
any_more p vs i v within is =
    ap (list_any p) (map_more view vs i v within)
    ∙ ap (λ w. list_any p (map view (take i vs) ++ view w ∷ [])) (sym is)
    ∙ list_any-append p (map view (take i vs)) (view v ∷ [])
    ∙ ap (λ b. list_any p (map view (take i vs)) || b) (or-false (p (view v)))

-- a name is added where the next assignment says so first
by_once : (old mid new : List (List ℕ)) (name : List ℕ) (before more : Bool)
    → mid ≡ old ++ (if before then name ∷ [] else [])
    → new ≡ mid ++ (if more && not before then name ∷ [] else [])
    → new ≡ old ++ (if before || more then name ∷ [] else [])
by_once old mid new name true more was is =
    is ∙ ap (λ b. mid ++ (if b then name ∷ [] else [])) (and-false more) ∙ append-nil mid ∙ was
by_once old mid new name false true was is =
    is ∙ ap (λ ts. ts ++ name ∷ []) (was ∙ append-nil old)
by_once old mid new name false false was is = is ∙ append-nil mid ∙ was

pub once : (old mid new : List (List ℕ)) (name : List ℕ) (before there more : Bool)
    → mid ≡ old ++ (if before then name ∷ [] else [])
    → new ≡ mid ++ (if more && not there then name ∷ [] else []) → there ≡ before
    → new ≡ old ++ (if before || more then name ∷ [] else [])
once old mid new name before there more was is same =
    by_once old mid new name before more was
    (is ∙ ap (λ b. mid ++ (if more && not b then name ∷ [] else [])) same)
