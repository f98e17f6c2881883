-- What a browser writes of a form reads back.
use Rattle.std.proofs.Common.{◌≡◌, refl, sym, ap, subst, ◌∙◌, ℕ, zero, suc, ◌≤◌, true, false, List}
use Rattle.std.proofs.Common.{[], ◌∷◌, ◌++◌, length, map, Option, None, Some, arith}
use Rattle.std.specs.Prelude.{◌==◌, ◌&&◌, not, codes}
use Rattle.std.specs.{List.AllByRecursion, List.list_all, Option.option_map, Option.option_and_then}
use Rattle.std.proofs.lemmas.{Bool.eqb-true, List.append-nil, List.append_assoc}
use Rattle.form_data.specs.Bodies.{Found, after_first, closes, delimiter, next_part, part_of}
use Rattle.form_data.specs.Bodies.{parts_after, with_name, with_part}
use Rattle.form_data.specs.Cutting.{crlf, cut, line_of}
use Rattle.form_data.specs.Headers.{ends_with_space, has_boundary_length, is_boundary}
use Rattle.form_data.specs.Headers.{is_boundary_byte, name_in, parameter_of, quoted_value}
use Rattle.form_data.specs.Written.{CanWrite, File, IsPlainFile, ReadsWritten, Written, disposition}
use Rattle.form_data.specs.Written.{file_name, found, is_without, type_line, written, written_after}
use Rattle.form_data.proofs.Marks.{Parts, both_first, both_second, drop_front, begins_itself}
use Rattle.form_data.proofs.Marks.{finds_mark, glue, skip, skip_none}
use Rattle.form_data.proofs.PartLemmas.{finds_part, onto, onto_none}

without_both : (b : ℕ) (xs ys : List ℕ) → is_without b xs ≡ true → is_without b ys ≡ true
    → is_without b (xs ++ ys) ≡ true
without_both b [] ys h k = k
without_both b (x ∷ xs) ys h k =
    let here : not (b == x) ≡ true = both_first (not (b == x)) (is_without b xs) h in
    let rest : is_without b (xs ++ ys) ≡ true =
    without_both b xs ys (both_second (not (b == x)) (is_without b xs) h) k in
    rw (here, rest) refl

-- A boundary has no carriage return.

byte_plain : (b : ℕ) → is_boundary_byte b ≡ true → not (13 == b) ≡ true
byte_plain b h = elim (13 == b) as (λ t. (13 == b) ≡ t → not t ≡ true) [
  | true ↦ λ e.
      let same : b ≡ 13 = sym (eqb-true 13 b e) in
      let at : is_boundary_byte 13 ≡ true =
      subst (λ (x : ℕ). is_boundary_byte x ≡ true) same h in
      absurd cc
  | false ↦ λ e. refl
] refl

bytes_plain : (bytes : List ℕ) → list_all is_boundary_byte bytes ≡ true → is_without 13 bytes ≡ true
bytes_plain [] h = refl
bytes_plain (b ∷ bytes) h =
    let here : not (13 == b) ≡ true =
    byte_plain b (both_first (is_boundary_byte b) (list_all is_boundary_byte bytes) h) in
    let rest : is_without 13 bytes ≡ true =
    bytes_plain bytes (both_second (is_boundary_byte b) (list_all is_boundary_byte bytes) h) in
    rw (here, rest) refl

boundary_plain : (boundary : List ℕ) → is_boundary boundary ≡ true → is_without 13 boundary ≡ true
boundary_plain boundary h =
    bytes_plain boundary
    (both_second (has_boundary_length boundary) (list_all is_boundary_byte boundary)
    (both_first (has_boundary_length boundary && list_all is_boundary_byte boundary)
    (not (ends_with_space boundary)) h))

-- The lines of a header have none but at their ends.

file_name_plain : (file : Option File) → IsPlainFile file → is_without 13 (file_name file) ≡ true
file_name_plain None h = refl
file_name_plain (Some file) h =
    without_both 13 (codes "; filename=\"") (file.name ++ codes "\"") refl
    (without_both 13 file.name (codes "\"") h.0 refl)

-- what the first line has after its name
abbrev pub value : Written → List ℕ
value part = codes " form-data; name=\"" ++ (part.name ++ (34 ∷ file_name part.file))

value_plain : (boundary : List ℕ) (part : Written) → CanWrite boundary part
    → is_without 13 (value part) ≡ true
value_plain boundary part can =
    without_both 13 (codes " form-data; name=\"") (part.name ++ (34 ∷ file_name part.file)) refl
    (without_both 13 part.name (34 ∷ file_name part.file) can.one_line
    (file_name_plain part.file can.file))

line_plain : (boundary : List ℕ) (part : Written) → CanWrite boundary part
    → is_without 13 (disposition part) ≡ true
line_plain boundary part can = value_plain boundary part can

kind_plain : (file : File) → IsPlainFile (Some file)
    → is_without 13 (codes "Content-Type: " ++ file.kind) ≡ true
kind_plain file h = without_both 13 (codes "Content-Type: ") file.kind refl h.1

-- What is between two delimiters has no delimiter.

-- the end of the header, and the content
abbrev pub ending : List ℕ → List ℕ
ending content = crlf ++ (crlf ++ content)

abbrev pub inner : Written → List ℕ
inner part = crlf ++ (disposition part ++ (type_line part.file ++ ending part.content))

line_none : (boundary : List ℕ) (c : ℕ) (bytes : List ℕ) → (45 == c) ≡ false
    → cut (delimiter boundary) (c ∷ bytes) ≡ None
    → cut (delimiter boundary) (crlf ++ (c ∷ bytes)) ≡ None
line_none boundary c bytes other none = rw (other, none) refl

ending_none : (boundary content : List ℕ) → cut (delimiter boundary) (crlf ++ content) ≡ None
    → cut (delimiter boundary) (ending content) ≡ None
ending_none boundary content none = line_none boundary 13 (10 ∷ content) refl none

type_none : (boundary content : List ℕ) (file : Option File) → IsPlainFile file
    → cut (delimiter boundary) (crlf ++ content) ≡ None
    → cut (delimiter boundary) (type_line file ++ ending content) ≡ None
type_none boundary content None h none = ending_none boundary content none
type_none boundary content (Some file) h none =
    line_none boundary 67 (codes "ontent-Type: " ++ (file.kind ++ ending content)) refl
    (skip_none 13 (10 ∷ 45 ∷ 45 ∷ boundary) (codes "Content-Type: " ++ file.kind) (ending content)
    (kind_plain file h) (ending_none boundary content none))

inner_none : (boundary : List ℕ) (part : Written) → CanWrite boundary part
    → cut (delimiter boundary) (inner part) ≡ None
inner_none boundary part can =
    line_none boundary 67 (codes "ontent-Disposition: form-data; name=\"" ++ ((part.name
    ++ (34 ∷ file_name part.file)) ++ (type_line part.file ++ ending part.content))) refl
    (skip_none 13 (10 ∷ 45 ∷ 45 ∷ boundary) (disposition part)
    (type_line part.file ++ ending part.content) (line_plain boundary part can)
    (type_none boundary part.content part.file can.file can.content))

-- The empty line parts the header and the content.

abbrev pub empty_line : List ℕ
empty_line = crlf ++ crlf

glue_line : (parts : Option Parts) → option_map (λ (p : Parts). (13 ∷ p.0, p.1))
    (option_map (λ (p : Parts). (10 ∷ p.0, p.1)) parts) ≡ glue crlf parts
glue_line None = refl
glue_line (Some p) = refl

type_cut : (content : List ℕ) (file : Option File) → IsPlainFile file
    → cut empty_line (type_line file ++ ending content) ≡ Some (type_line file, content)
type_cut content None h = refl
type_cut content (Some file) h =
    glue_line (cut empty_line ((codes "Content-Type: " ++ file.kind) ++ ending content))
    ∙ ap (glue crlf)
    (skip 13 (10 ∷ 13 ∷ 10 ∷ []) (codes "Content-Type: " ++ file.kind) (ending content)
    (kind_plain file h))
    ∙ ap (λ (line : List ℕ). Some (crlf ++ line, content))
    (append-nil (codes "Content-Type: " ++ file.kind))

inner_cut : (boundary : List ℕ) (part : Written) → CanWrite boundary part
    → cut empty_line (inner part)
    ≡ Some (crlf ++ (disposition part ++ type_line part.file), part.content)
inner_cut boundary part can =
    glue_line (cut empty_line (disposition part ++ (type_line part.file ++ ending part.content)))
    ∙ ap (glue crlf)
    (skip 13 (10 ∷ 13 ∷ 10 ∷ []) (disposition part) (type_line part.file ++ ending part.content)
    (line_plain boundary part can)
    ∙ ap (glue (disposition part)) (type_cut part.content part.file can.file))

-- The name.

line_front : (front : List ℕ) (file : Option File) → is_without 13 front ≡ true
    → line_of (front ++ type_line file) ≡ front
line_front front None h =
    rw (skip 13 (10 ∷ []) front (type_line None) h) (append-nil front)
line_front front (Some file) h =
    rw (skip 13 (10 ∷ []) front (type_line (Some file)) h) (append-nil front)

quoted : (name more : List ℕ) → is_without 34 name ≡ true
    → quoted_value (name ++ (34 ∷ more)) ≡ Some name
quoted name more h =
    ap (option_map (λ (p : Parts). p.0)) (skip 34 [] name (34 ∷ more) h)
    ∙ ap Some (append-nil name)

value_read : (part : Written) → is_without 34 part.name ≡ true
    → parameter_of (codes "form-data") (codes "name=") (value part) ≡ Some part.name
value_read part h = quoted part.name (file_name part.file) h

name_read : (boundary : List ℕ) (part : Written) → CanWrite boundary part
    → name_in (crlf ++ (disposition part ++ type_line part.file)) ≡ Some part.name
name_read boundary part can =
    ap (parameter_of (codes "form-data") (codes "name="))
    (line_front (value part) part.file (value_plain boundary part can))
    ∙ value_read part can.unquoted

-- A part.

part_read : (boundary : List ℕ) (part : Written) → CanWrite boundary part
    → part_of (inner part) ≡ Some (found part)
part_read boundary part can =
    ap (option_and_then with_name) (inner_cut boundary part can)
    ∙ ap (option_map (λ (name : List ℕ). (name, part.content))) (name_read boundary part can)

next_read : (boundary rest : List ℕ) (part : Written) → is_boundary boundary ≡ true
    → CanWrite boundary part
    → next_part (delimiter boundary) (inner part ++ (delimiter boundary ++ rest))
    ≡ Some (found part, rest)
unfolding next_part
next_read boundary rest part h can =
    ap (option_and_then with_part)
    (finds_mark 13 (10 ∷ 45 ∷ 45 ∷ boundary) (inner part) rest (boundary_plain boundary h)
    (inner_none boundary part can))
    ∙ ap (option_map (λ (read : Found). (read, rest))) (part_read boundary part can)

regroup : (part : Written) (after : List ℕ)
    → crlf ++ (disposition part ++ (type_line part.file ++ (crlf ++ (crlf
    ++ (part.content ++ after))))) ≡ inner part ++ after
regroup part after =
    sym (ap (λ (bytes : List ℕ). crlf ++ bytes)
    (append_assoc (disposition part) (type_line part.file ++ ending part.content) after
    ∙ ap (λ (bytes : List ℕ). disposition part ++ bytes)
    (append_assoc (type_line part.file) (ending part.content) after)))

-- All of them.

parts_read : (boundary : List ℕ) (n : ℕ) (parts : List Written) → is_boundary boundary ≡ true
    → AllByRecursion (CanWrite boundary) parts → length parts ≤ n
    → parts_after n (delimiter boundary) (written_after boundary parts) ≡ Some (map found parts)
unfolding parts_after closes
parts_read boundary zero [] h can few = refl
parts_read boundary (suc n) [] h can few = refl
parts_read boundary zero (part ∷ parts) h can few = absurd (omega arith)
parts_read boundary (suc n) (part ∷ parts) h can few =
    let rest : List ℕ = written_after boundary parts in
    let bytes : List ℕ = written_after boundary (part ∷ parts) in
    let mark : List ℕ = delimiter boundary in
    let next : next_part mark bytes ≡ Some (found part, rest) =
    ap (next_part mark) (regroup part (mark ++ rest)) ∙ next_read boundary rest part h can.0 in
    let later : parts_after n mark rest ≡ Some (map found parts) =
    parts_read boundary n parts h can.1 (omega arith) in
    sym (onto_none (parts_after (suc n) mark bytes))
    ∙ sym (finds_part [] n mark bytes rest (found part) refl next)
    ∙ ap (onto (found part ∷ [])) later

pub reads_written : ReadsWritten
reads_written boundary parts h can few =
    let rest : List ℕ = written_after boundary parts in
    let dashes : List ℕ = 45 ∷ 45 ∷ boundary in
    let first : after_first (delimiter boundary) (written boundary parts) ≡ Some rest =
    rw (begins_itself dashes rest) (ap Some (drop_front dashes rest)) in
    ap (option_and_then (parts_after 64 (delimiter boundary))) first
    ∙ parts_read boundary 64 parts h can few
