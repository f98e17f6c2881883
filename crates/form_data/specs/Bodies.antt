-- A body of multipart/form-data (RFC 2046, section 5.1.1; RFC 7578, section 4): text that is passed
-- over, then parts, a delimiter before each, then the closing delimiter and more text that is
-- passed over. A delimiter is at the front of a line, and may have blanks after it.
use Rattle.std.specs.Prelude.{ℕ, zero, suc, ◌==◌, ◌&&◌, ◌||◌, nat_eq, Bool, if◌then◌else◌, length}
use Rattle.std.specs.Prelude.{List, [], ◌∷◌, ◌++◌, drop, codes, Option, None, Some, option_map}
use Rattle.std.specs.{List.starts_with, Option.option_and_then}
use Rattle.form_data.specs.Cutting.{crlf, cut, without_blanks}
use Rattle.form_data.specs.{Headers.name_in, declared.bodies.Part.Part}

-- a name and a content
abbrev pub Found : Type 0
Found = List ℕ × List ℕ

abbrev pub shown : Part → Found
shown part = (part.name.now, part.content.now)

-- the end of the line before it, and the dash-boundary
abbrev pub delimiter : List ℕ → List ℕ
delimiter boundary = crlf ++ codes "--" ++ boundary

-- what is after blanks, where it begins with the end of a line
abbrev pub at_line_end : List ℕ → Option (List ℕ)
at_line_end bytes =
    if starts_with nat_eq (without_blanks bytes) crlf then Some (without_blanks bytes) else None

-- the name that the fields say, beside the content
abbrev pub with_name : List ℕ × List ℕ → Option Found
with_name parts = option_map (λ name. (name, parts.1)) (name_in parts.0)

-- the name and the content of a part, from what is between two delimiters: blanks, then the lines
-- of its fields, an empty line, and its content
abbrev pub part_of : List ℕ → Option Found
part_of bytes =
    option_and_then (λ left. option_and_then with_name (cut (crlf ++ crlf) left))
    (at_line_end bytes)

-- a part, and what is after the delimiter that ends it
abbrev pub with_part : List ℕ × List ℕ → Option (Found × List ℕ)
with_part parts = option_map (λ part. (part, parts.1)) (part_of parts.0)

unfoldable pub next_part : List ℕ → List ℕ → Option (Found × List ℕ)
next_part mark bytes = option_and_then with_part (cut mark bytes)

abbrev pub ends_line : List ℕ → Bool
ends_line bytes = length bytes == 0 || starts_with nat_eq bytes crlf

-- the delimiter before these bytes is the closing one: two dashes, then blanks, and then the end of
-- the line or of all
unfoldable pub closes : List ℕ → Bool
closes bytes =
    starts_with nat_eq bytes (codes "--") && ends_line (without_blanks (drop 2 bytes))

-- the parts after a delimiter, as far as this many
unfoldable pub parts_after : ℕ → List ℕ → List ℕ → Option (List Found)
parts_after zero mark bytes = if closes bytes then Some [] else None
parts_after (suc n) mark bytes =
    if closes bytes then Some []
    else option_and_then (λ next. option_map (λ parts. next.0 ∷ parts) (parts_after n mark next.1))
    (next_part mark bytes)

-- what is after the first delimiter; at the front of a body no end of a line is before it
abbrev pub after_first : List ℕ → List ℕ → Option (List ℕ)
after_first mark body =
    if starts_with nat_eq body (drop 2 mark) then Some (drop (length (drop 2 mark)) body)
    else option_map (λ parts. parts.1) (cut mark body)

-- the parts of a body, of which there are at most 64
abbrev pub parts_of : List ℕ → List ℕ → Option (List Found)
parts_of boundary body =
    option_and_then (parts_after 64 (delimiter boundary)) (after_first (delimiter boundary) body)
