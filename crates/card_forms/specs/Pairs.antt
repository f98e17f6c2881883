-- The names and values of a form (the project's own).
use Rattle.std.specs.Prelude.{ℕ, List, [], ◌∷◌, map, if◌then◌else◌, bytes_eq}
use Rattle.std.specs.Str.Lossy.{utf8_lossy}
use Rattle.form_urlencoded.specs.Form.{decode, raw_pairs}
use Rattle.card_forms.specs.declared.pairs.Pair.{Pair}

-- a pair, decoded; what is not UTF-8 in it is replaced by U+FFFD
abbrev pub decoded : List ℕ × List ℕ → Pair
decoded pair = record { name = utf8_lossy (decode pair.0); value = utf8_lossy (decode pair.1) }

-- the pairs of a body, in order
abbrev pub pairs_of : List ℕ → List Pair
pairs_of body = map decoded (raw_pairs body)

-- the value of the first pair of a name; empty where there is none
abbrev pub value_of : List ℕ → List Pair → List ℕ
value_of name [] = []
value_of name (pair ∷ pairs) =
    if bytes_eq pair.name name then pair.value else value_of name pairs
