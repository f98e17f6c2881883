-- The parts of a body, one after the other.
use Rattle.std.proofs.Common.{◌≡◌, refl, sym, ap, ◌∙◌, ℕ, zero, suc, true, false, List, [], ◌∷◌}
use Rattle.std.proofs.Common.{◌++◌, Option, None, Some}
use Rattle.std.specs.Option.{option_map}
use Rattle.std.proofs.lemmas.List.{append-nil, append_assoc}
use Rattle.form_data.specs.Bodies.{Found, closes, next_part, parts_after}

-- after parts that were found
abbrev pub onto : List Found → Option (List Found) → Option (List Found)
onto found parts = option_map (λ more. found ++ more) parts

pub onto_none : (parts : Option (List Found)) → onto [] parts ≡ parts
onto_none None = refl
onto_none (Some more) = refl

one_more : (found : List Found) (part : Found) (parts : Option (List Found))
    → onto found (option_map (λ more. part ∷ more) parts) ≡ onto (found ++ part ∷ []) parts
one_more found part None = refl
one_more found part (Some more) = ap Some (sym (append_assoc found (part ∷ []) more))

-- one part more
pub finds_part : (found : List Found) (n : ℕ) (mark bytes after : List ℕ) (part : Found)
    → closes bytes ≡ false → next_part mark bytes ≡ Some (part, after)
    → onto (found ++ part ∷ []) (parts_after n mark after)
    ≡ onto found (parts_after (suc n) mark bytes)
unfolding parts_after
finds_part found n mark bytes after part open_yet next =
    let e : parts_after (suc n) mark bytes
    ≡ option_map (λ more. part ∷ more) (parts_after n mark after) =
    rw (open_yet, next) refl in
    sym (ap (onto found) e ∙ one_more found part (parts_after n mark after))

-- the closing delimiter
pub finds_close : (found : List Found) (n : ℕ) (mark bytes : List ℕ) → closes bytes ≡ true
    → onto found (parts_after n mark bytes) ≡ Some found
unfolding parts_after
finds_close found zero mark bytes closed = rw closed (ap Some (append-nil found))
finds_close found (suc n) mark bytes closed = rw closed (ap Some (append-nil found))

-- no part where one should be
pub finds_none : (found : List Found) (n : ℕ) (mark bytes : List ℕ) → closes bytes ≡ false
    → next_part mark bytes ≡ None → onto found (parts_after (suc n) mark bytes) ≡ None
unfolding parts_after
finds_none found n mark bytes open_yet next = rw (open_yet, next) refl

-- too many parts
pub finds_no_close : (found : List Found) (mark bytes : List ℕ) → closes bytes ≡ false
    → onto found (parts_after zero mark bytes) ≡ None
unfolding parts_after
finds_no_close found mark bytes open_yet = rw open_yet refl
