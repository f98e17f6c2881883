-- What a call adds at the end of a text, where the call may fail.
use Rattle.std.proofs.Common.{◌≡◌, ◌∙◌, List, ℕ, Result, Ok, Err, OnOk, if◌then◌else◌}
use Rattle.std.specs.Result.{is_ok}

-- the same text, written otherwise
pub same_after : {T E : Type 0} (r : Result T E) (x a b : List ℕ) → a ≡ b → OnOk r (x ≡ a)
    → OnOk r (x ≡ b)
same_after (Ok t) x a b same is = is ∙ same
same_after (Err e) x a b same is = tt

-- the same of bytes that are added at the end
pub same_end : {T E : Type 0} (r : Result T E) (x a b other : List ℕ) → a ≡ b
    → x ≡ (if is_ok r then a else other) → OnOk r (x ≡ b)
same_end (Ok t) x a b other same is = is ∙ same
same_end (Err e) x a b other same is = tt
