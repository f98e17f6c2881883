-- What a browser writes of a form (the HTML standard's encoding of multipart/form-data, over RFC
-- 7578): a Content-Disposition for each part, with the name of a file and a Content-Type where the
-- part is one.
use Rattle.std.specs.Prelude.{◌≡◌, ◌≤◌, ℕ, ◌==◌, not, Bool, true, List, [], ◌∷◌, ◌++◌, length, map}
use Rattle.std.specs.Prelude.{codes, Option, None, Some}
use Rattle.std.specs.List.{list_all, AllByRecursion}
use Rattle.form_data.specs.{Cutting.crlf, Cutting.cut, Headers.is_boundary}
use Rattle.form_data.specs.Bodies.{Found, delimiter, parts_of}

-- the name and the type of a file
pub record File : Type 0 where
  pub name : List ℕ
  pub kind : List ℕ

-- a part that is written
pub record Written : Type 0 where
  pub name : List ℕ
  pub file : Option File
  pub content : List ℕ

abbrev pub file_name : Option File → List ℕ
file_name None = []
file_name (Some file) = codes "; filename=\"" ++ (file.name ++ codes "\"")

-- the first line of a part's header
abbrev pub disposition : Written → List ℕ
disposition part =
    codes "Content-Disposition: form-data; name=\"" ++ (part.name ++ (34 ∷ file_name part.file))

-- the end of the line before it, and its second line, where it has one
abbrev pub type_line : Option File → List ℕ
type_line None = []
type_line (Some file) = crlf ++ (codes "Content-Type: " ++ file.kind)

-- what is after the first dash-boundary: each part and the delimiter after it, and the two dashes
-- of the last delimiter
abbrev pub written_after : List ℕ → List Written → List ℕ
written_after boundary [] = codes "--" ++ crlf
written_after boundary (part ∷ parts) =
    crlf ++ (disposition part ++ (type_line part.file ++ (crlf ++ (crlf
    ++ (part.content ++ (delimiter boundary ++ written_after boundary parts))))))

abbrev pub written : List ℕ → List Written → List ℕ
written boundary parts = codes "--" ++ boundary ++ written_after boundary parts

-- a byte is nowhere in bytes
abbrev pub is_without : ℕ → List ℕ → Bool
is_without b bytes = list_all (λ x. not (b == x)) bytes

-- a carriage return is in neither; browsers write %0D for one in a name
abbrev pub IsPlainFile : Option File → Type 0
IsPlainFile None = Unit {0}
IsPlainFile (Some file) =
    (is_without 13 file.name ≡ true) × (is_without 13 file.kind ≡ true)

-- a part that can be written with this boundary: its name has no quote and no carriage return, its
-- file's neither, and the delimiter is nowhere in its content, nor a dash-boundary at its front
pub record CanWrite (boundary : List ℕ) (part : Written) : Type 0 where
  pub unquoted : is_without 34 part.name ≡ true
  pub one_line : is_without 13 part.name ≡ true
  pub file : IsPlainFile part.file
  pub content : cut (delimiter boundary) (crlf ++ part.content) ≡ None

-- its name and its content
abbrev pub found : Written → Found
found part = (part.name, part.content)

-- what a browser writes of at most 64 parts reads back as these parts
abbrev pub ReadsWritten : Type 0
ReadsWritten =
    (boundary : List ℕ) (parts : List Written) → is_boundary boundary ≡ true
    → AllByRecursion (CanWrite boundary) parts → length parts ≤ 64
    → parts_of boundary (written boundary parts) ≡ Some (map found parts)
