-- Bytes that begin with a word, at a place.
use Rattle.std.proofs.Common.{◌≡◌, refl, sym, ℕ, zero, suc, ◌<◌, Bool, true, false, List, [], ◌∷◌}
use Rattle.std.proofs.Common.{length, drop, Some, arith}
use Rattle.std.specs.Prelude.{◌==◌, ◌&&◌}
use Rattle.std.specs.Char.{to_ascii_lowercase}
use Rattle.form_data.specs.{Cutting.begins_as, Cutting.line_of, Headers.field_after}

both-false : (x : Bool) → (x && false) ≡ false
both-false true = refl
both-false false = refl

-- bytes that are shorter than a word do not begin with it
pub too_short : (word bytes : List ℕ) → length bytes < length word → false ≡ begins_as word bytes
too_short [] bytes short = absurd (omega arith)
too_short (c ∷ word) [] short = refl
too_short (c ∷ word) (b ∷ bytes) short =
    rw (← too_short word bytes (omega arith)) (sym (both-false (to_ascii_lowercase b == c)))

-- a field whose name is at a place
pub field_here : (name fields : List ℕ) (i : ℕ) → i < length fields
    → begins_as name (drop i fields) ≡ true
    → field_after name (drop i fields) ≡ Some (line_of (drop (length name) (drop i fields)))
field_here name [] i within here = absurd (omega arith)
field_here name (b ∷ fields) zero within here = rw here refl
field_here name (b ∷ fields) (suc i) within here = field_here name fields i (omega arith) here

-- a place where the name is not
pub field_later : (name fields : List ℕ) (i : ℕ) → i < length fields
    → begins_as name (drop i fields) ≡ false
    → field_after name (drop (suc i) fields) ≡ field_after name (drop i fields)
field_later name [] i within here = absurd (omega arith)
field_later name (b ∷ fields) zero within here = rw here refl
field_later name (b ∷ fields) (suc i) within here = field_later name fields i (omega arith) here
