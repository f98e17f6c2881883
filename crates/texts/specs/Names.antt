-- The names of competitors, as the editions of the commands spell them. The rules are this
-- project's own; the categories of characters are Unicode's, its property General_Category.
use Rattle.std.specs.Prelude.{ℕ, Bool, true, false, ◌==◌, ◌&&◌, ◌||◌, not, nat_lt, nat_le}
use Rattle.std.specs.Prelude.{if◌then◌else◌, List, length}
use Rattle.std.specs.{List.list_all, List.slice_split, Str.is_utf8, Str.chars}
use Rattle.ucd_category.specs.declared.GeneralCategory.{GeneralCategory}
use Rattle.ucd_category.specs.GeneralCategory.{general_category}
use Rattle.ucd_category.specs.declared.GeneralCategory.TheVariants as category

-- each part between spaces has a byte: no space is at an end, and no two are in a row
abbrev pub has_single_spaces : List ℕ → Bool
has_single_spaces bytes =
    list_all (λ part. nat_lt 0 (length part)) (slice_split (λ b. b == 32) bytes)

-- Editions 1 and 2.

abbrev pub is_name_byte : ℕ → Bool
is_name_byte b = nat_le 32 b && not (b == 127)

-- 1 to 80 bytes of UTF-8, none below 32 and none 127, no space at an end, no two in a row
abbrev pub is_early_name : List ℕ → Bool
is_early_name bytes =
    nat_le 1 (length bytes) && nat_le (length bytes) 80 && is_utf8 bytes && list_all is_name_byte
    bytes && has_single_spaces bytes

-- Edition 3, in which what editions 1 and 2 leave out is left out as well.

-- not Cc, Cf, Co, Cn, Zl or Zp: characters that are not seen, that turn the text round, that break
-- the line, or that Unicode says nothing of
abbrev pub is_seen : GeneralCategory → Bool
is_seen category.Control = false
is_seen category.Format = false
is_seen category.PrivateUse = false
is_seen category.Unassigned = false
is_seen category.LineSeparator = false
is_seen category.ParagraphSeparator = false
is_seen _ = true

-- a character of a name: seen, and no double quote
abbrev pub is_name_character : ℕ → Bool
is_name_character c = not (c == 34) && is_seen (general_category c)

-- 1 to 160 bytes of UTF-8, which are characters of names, none below 32 and none 127, no space at
-- an end, no two in a row
unfoldable pub is_clear_name : List ℕ → Bool
is_clear_name bytes =
    nat_le 1 (length bytes) && nat_le (length bytes) 160 && is_utf8 bytes
    && list_all is_name_character (chars bytes) && list_all is_name_byte bytes
    && has_single_spaces bytes

-- Both.

-- a name that an edition spells
abbrev pub is_name_in : ℕ → List ℕ → Bool
is_name_in edition bytes =
    if nat_le 3 edition then is_clear_name bytes else is_early_name bytes

-- a name that some edition spells
abbrev pub is_name : List ℕ → Bool
is_name bytes = is_early_name bytes || is_clear_name bytes

-- Remarks.

-- a name of edition 3 of at most 80 bytes
abbrev pub is_remark : List ℕ → Bool
is_remark bytes = nat_le (length bytes) 80 && is_clear_name bytes
