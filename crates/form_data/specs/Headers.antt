-- Header fields and their parameters, as RFC 2045 (section 5.1) and RFC 7578 (section 4.2) have
-- them. A quoted value ends at the next quote: browsers write %22 for a quote in a name, and a
-- backslash as it is.
use Rattle.std.specs.Prelude.{ℕ, ◌==◌, ◌&&◌, ◌||◌, ◌-◌, nat_eq, nat_le, not, Bool, false}
use Rattle.std.specs.Prelude.{if◌then◌else◌, length, List, [], ◌∷◌, ◌++◌, drop, take, codes}
use Rattle.std.specs.Prelude.{Option, None, Some, option_map, unwrap_or, position, slice_get}
use Rattle.std.specs.List.{starts_with, list_all, list_any}
use Rattle.std.specs.Option.{option_and_then, option_map_or}
use Rattle.form_data.specs.Cutting.{after_word, begins_as, crlf, cut, is_blank, line_of}
use Rattle.form_data.specs.Cutting.{without_blanks}

-- the bytes up to the next quote; none where there is no quote
abbrev pub quoted_value : List ℕ → Option (List ℕ)
quoted_value bytes = option_map (λ parts. parts.0) (cut (34 ∷ []) bytes)

-- a semicolon or a blank ends a value without quotes
abbrev pub ends_plain : ℕ → Bool
ends_plain b = b == 59 || is_blank b

abbrev pub plain_value : List ℕ → List ℕ
plain_value bytes = take (unwrap_or (position ends_plain bytes) (length bytes)) bytes

-- the value of a parameter, quoted or not
abbrev pub value_of : List ℕ → Option (List ℕ)
value_of [] = Some []
value_of (b ∷ bytes) = if b == 34 then quoted_value bytes else Some (plain_value (b ∷ bytes))

-- the value of the parameter that is here, or of one that comes later
abbrev pub value_here : Option (List ℕ) → Option (List ℕ) → Option (List ℕ)
value_here None later = later
value_here (Some bytes) later = value_of bytes

-- the value of the first parameter of a name: a parameter is after a semicolon that is in no
-- quotes. The name has its equals sign. The truth says that the bytes begin in quotes.
abbrev pub parameter : List ℕ → Bool → List ℕ → Option (List ℕ)
parameter name quoted [] = None
parameter name quoted (b ∷ bytes) =
    if b == 34 then parameter name (not quoted) bytes
    else if quoted || not (b == 59) then parameter name quoted bytes
    else value_here (after_word name bytes) (parameter name quoted bytes)

-- the value of a parameter of a field that says this kind, without case, and then parameters
abbrev pub parameter_after : List ℕ → List ℕ → Option (List ℕ)
parameter_after name more =
    if starts_with nat_eq more (59 ∷ []) then parameter name false more else None

abbrev pub parameter_of : List ℕ → List ℕ → List ℕ → Option (List ℕ)
parameter_of kind name field =
    option_and_then (λ more. parameter_after name (without_blanks more)) (after_word kind field)

-- a byte that a boundary may have: a digit, a letter, one of '()+_,-./:=? or a space (RFC 2046,
-- section 5.1.1)
abbrev pub is_boundary_byte : ℕ → Bool
is_boundary_byte b =
    (nat_le 48 b && nat_le b 57) || (nat_le 65 b && nat_le b 90) || (nat_le 97 b && nat_le b 122)
    || list_any (λ c. b == c) (codes "'()+_,-./:=? ")

abbrev pub ends_with_space : List ℕ → Bool
ends_with_space bytes = option_map_or (λ b. b == 32) (slice_get bytes (length bytes - 1)) false

abbrev pub has_boundary_length : List ℕ → Bool
has_boundary_length bytes = nat_le 1 (length bytes) && nat_le (length bytes) 70

-- 1 to 70 such bytes, the last one no space
abbrev pub is_boundary : List ℕ → Bool
is_boundary bytes =
    has_boundary_length bytes && list_all is_boundary_byte bytes && not (ends_with_space bytes)

-- a value that is a boundary
abbrev pub as_boundary : List ℕ → Option (List ℕ)
as_boundary value = if is_boundary value then Some value else None

-- the boundary of a Content-Type
abbrev pub boundary_of : List ℕ → Option (List ℕ)
boundary_of content_type =
    option_and_then as_boundary
    (parameter_of (codes "multipart/form-data") (codes "boundary=") content_type)

-- what a field of a name says: what is on its line after its name. An end of a line is in front of
-- each name.
abbrev pub field_after : List ℕ → List ℕ → Option (List ℕ)
field_after name [] = None
field_after name (b ∷ bytes) =
    if begins_as name (b ∷ bytes) then Some (line_of (drop (length name) (b ∷ bytes)))
    else field_after name bytes

-- the name that the fields of a part say
abbrev pub name_in : List ℕ → Option (List ℕ)
name_in fields =
    option_and_then (parameter_of (codes "form-data") (codes "name="))
    (field_after (crlf ++ codes "content-disposition:") fields)
