-- Pages of HTML from fixed texts and what fills their holes.
use Rattle.std.specs.Prelude.{ℕ, ◌==◌, if◌then◌else◌, List, [], ◌∷◌, ◌++◌, decimal, filter, length}
use Rattle.markup.specs.{board_page.Escaped.escaped, declared.pieces.Piece.Piece}
use Rattle.markup.specs.declared.pieces.Piece.TheVariants.{Html, Text, Number}

-- HTML as it is, a text so that HTML reads it as it is, and a number in decimal
abbrev pub piece_text : Piece → List ℕ
piece_text (Html html) = html.now
piece_text (Text text) = escaped text.now
piece_text (Number number) = decimal number

-- how many holes, each a `$`, there are in HTML
abbrev pub holes : List ℕ → ℕ
holes html = length (filter (λ byte. byte == 36) html)

-- HTML whose holes, each a `$`, are filled by these texts in their order
unfoldable pub fill : List ℕ → List (List ℕ) → List ℕ
fill html [] = html
fill [] (text ∷ texts) = []
fill (byte ∷ html) (text ∷ texts) =
    if byte == 36 then text ++ fill html texts else byte ∷ fill html (text ∷ texts)
