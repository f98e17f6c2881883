-- Entity tags (RFC 9110, sections 8.8.3 and 13.1.2).
use Rattle.std.specs.Prelude.{ℕ, ◌==◌, ◌&&◌, ◌||◌, not, if◌then◌else◌, Bool, false, nat_eq, List}
use Rattle.std.specs.Prelude.{[], ◌∷◌, ◌++◌, codes, decimal}
use Rattle.std.specs.{List.list_any, List.starts_with, Str.bytes_eq}
use Rattle.http_header.specs.FieldValue.{FieldValue}

-- the position and the name in quotation marks, with a hyphen between them
abbrev pub tag_text : ℕ → List ℕ → List ℕ
tag_text position name = codes "\"" ++ decimal position ++ codes "-" ++ name ++ codes "\""

-- the tag begins here, where no other tag is open
abbrev pub begins : Bool → List ℕ → List ℕ → Bool
begins quoted rest tag = not quoted && starts_with nat_eq rest tag

-- a quotation mark opens a tag, or closes the one that is open
abbrev pub is_open_after : Bool → ℕ → Bool
is_open_after quoted b = if b == 34 then not quoted else quoted

-- the tag begins somewhere in the list
abbrev pub is_listed : Bool → List ℕ → List ℕ → Bool
is_listed quoted [] tag = false
is_listed quoted (b ∷ rest) tag =
    begins quoted (b ∷ rest) tag || is_listed (is_open_after quoted b) rest tag

-- a value of `If-None-Match`
abbrev pub names : List ℕ → List ℕ → Bool
names value tag = bytes_eq value (codes "*") || is_listed false value tag

-- all values that a request has
abbrev pub is_fresh : List FieldValue → List ℕ → Bool
is_fresh values tag = list_any (λ v. names v.bytes tag) values
