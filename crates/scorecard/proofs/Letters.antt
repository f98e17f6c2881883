-- A word is compared letter by letter.
use Rattle.std.proofs.Common.{◌≡◌, ℕ, ◌<◌, Bool, true, false, List, length, map, get_or, bytes_eq}
use Rattle.std.proofs.Common.{refl, sym, ap, ◌∙◌}
use Rattle.std.{specs.Char.to_ascii_lowercase, proofs.lemmas.Slice.Eq.bytes_eq-Decides}
use Rattle.std.proofs.lemmas.List.{get_or-map, length-map, ext_get_or}
use Rattle.texts.proofs.Spelled.{bytes_eq-equal}

pub word-differs : (xs ys : List ℕ) (k : ℕ) → k < length xs
    → (to_ascii_lowercase (get_or xs k 0) ≡ get_or ys k 0 → ⊥)
    → bytes_eq (map to_ascii_lowercase xs) ys ≡ false
word-differs xs ys k within apart = step (bytes_eq (map to_ascii_lowercase xs) ys) refl
  where
    step : (b : Bool) → bytes_eq (map to_ascii_lowercase xs) ys ≡ b → b ≡ false
    step false is = refl
    step true is =
        absurd (apart (sym (get_or-map to_ascii_lowercase xs k 0 0 within)
        ∙ ap (λ l. get_or l k 0) (bytes_eq-equal (map to_ascii_lowercase xs) ys is)))

pub word-same : (xs ys : List ℕ) → length xs ≡ length ys
    → ((k : ℕ) → k < length xs → to_ascii_lowercase (get_or xs k 0) ≡ get_or ys k 0)
    → bytes_eq (map to_ascii_lowercase xs) ys ≡ true
word-same xs ys long each =
    let equal : map to_ascii_lowercase xs ≡ ys =
    ext_get_or 0 (map to_ascii_lowercase xs) ys (length-map xs to_ascii_lowercase ∙ long)
    (λ k within.
    let inside : k < length xs = rw (length-map xs to_ascii_lowercase) at within in
    get_or-map to_ascii_lowercase xs k 0 0 inside ∙ each k inside) in
    (bytes_eq-Decides (map to_ascii_lowercase xs) ys).1 equal
