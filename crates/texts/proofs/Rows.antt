-- What is read by a row is what its values spell, and what they spell is read.
use Rattle.std.proofs.Common.{◌≡◌, ◌+◌, ◌≤◌, not, [], ◌∷◌, map, None, Ok, Err, refl, sym, ap, ◌∙◌}
use Rattle.std.proofs.Common.{ℕ, Bool, true, ◌&&◌, ◌||◌, cond, List, ◌++◌, find, Some, arith, rules}
use Rattle.std.proofs.Common.{nat_le, false, length, bytes_eq, Option, Result, subst, length-append}
use Rattle.std.specs.{List.join_with_byte, List.list_all, List.list_any, Option.ok_or}
use Rattle.std.proofs.lemmas.Bool.{false≢true}
use Rattle.std.proofs.lemmas.{Bool.Decides.nat_tests, List.append-nil}
use Rattle.texts.specs.declared.{reading.CommandFault.CommandFault, value.FieldValue.FieldValue}
use Rattle.texts.specs.{declared.table.FieldKind.FieldKind, declared.table.Tag.Tag, Fields.cut}
use Rattle.texts.specs.Reading.{◌>>=◌, field_of, next_of, value_of, values_of}
use Rattle.texts.specs.Spelling.{AllFit, Fits, standing, value_text, values_text}
use Rattle.texts.specs.Table.{TheRow, has_moves, is_rest, is_rest_last, row_named, row_of, rows}
use Rattle.texts.{specs.model.Returned.Next, proofs.Values.value_plain, proofs.Values.value_short}
use Rattle.texts.proofs.{Bytes.both_pass, Bytes.is_plain, Spelled.bytes_eq-equal, Splits.not-true}
use Rattle.texts.proofs.Cuts.{and-true, behind, cut-behind, cut_spelled, lacks}
use Rattle.texts.proofs.Values.{may_have_mark, most_of, value_found, value_no_space, value_only}
use Rattle.texts.specs.declared.reading.CommandFault.TheVariants as fault
use Rattle.texts.specs.declared.table.Tag.TheVariants as tag

-- a step that went well
abbrev pub Bound : {A B : Type 0} → Result A CommandFault → (A → Result B CommandFault) → B → Type 0
Bound {A = A} r f y = (x : A) × ((r ≡ Ok x) × (f x ≡ Ok y))

pub bound : {A B : Type 0} (r : Result A CommandFault) (f : A → Result B CommandFault) (y : B)
    → (r >>= f) ≡ Ok y → Bound r f y
bound (Ok x) f y h = (x, (refl, h))
bound (Err e) f y h = absurd (let bad : Err e ≡ Ok y = h in cc)

pub taken : {A : Type 0} (o : Option A) (e : CommandFault) (x : A) → ok_or o e ≡ Ok x → o ≡ Some x
taken None e x h = absurd (let bad : Err e ≡ Ok x = h in cc)
taken (Some y) e x h = let same : y ≡ x = cc in ap Some same

pub ok_same : {A : Type 0} (x y : A) → (let r : Result A CommandFault = Ok x in r) ≡ Ok y → x ≡ y
ok_same x y h = cc

-- ---- what is read is spelled so

field_spelled : (k : FieldKind) (bytes : List ℕ)
    → bytes ≡ (field_of k bytes).0 ++ behind 32 (field_of k bytes).1
field_spelled k bytes = step (is_rest k)
  where
    step : (b : Bool) → (let p : List ℕ × Option (List ℕ) = cond b (bytes, None) (cut 32 bytes) in
        bytes ≡ p.0 ++ behind 32 p.1)
    step true = sym (append-nil bytes)
    step false = cut_spelled 32 bytes

next_only : (stands : ℕ) (k : FieldKind) (index : ℕ) (left : Option (List ℕ)) (p : Next)
    → next_of stands k index left ≡ Ok p
    → Fits stands k p.0 × (behind 32 left ≡ 32 ∷ (value_text p.0 ++ behind 32 p.1))
next_only stands k index None p h = absurd (let bad : Err (fault.BadField index) ≡ Ok p = h in cc)
next_only stands k index (Some bytes) p h =
    let of : FieldValue → Result Next CommandFault = λ v. Ok (v, (field_of k bytes).1) in
    let b = bound (ok_or (value_of stands k (field_of k bytes).0) (fault.BadField index)) of p h in
    let read = value_only stands k (field_of k bytes).0 b.0 (taken _ _ b.0 b.1.0) in
    let same : (let n : Next = (b.0, (field_of k bytes).1) in n) ≡ p = ok_same _ p b.1.1 in
    subst
    (λ (q : Next). Fits stands k q.0 × (32 ∷ bytes ≡ 32 ∷ (value_text q.0 ++ behind 32 q.1))) same (
      read.0,
      ap (λ y. 32 ∷ y)
          (field_spelled k bytes ∙ ap (λ y. y ++ behind 32 (field_of k bytes).1) read.1),
    )

pub values_only : (stands : ℕ) (ks : List FieldKind) (index : ℕ) (left : Option (List ℕ))
    (vs : List FieldValue)
    → values_of stands ks index left ≡ Ok vs
    → AllFit stands ks vs × (behind 32 left ≡ values_text vs)
values_only stands [] index None vs h =
    subst (λ (ws : List FieldValue). AllFit stands [] ws × ([] ≡ values_text ws)) (ok_same [] vs h)
    (tt, refl)
values_only stands [] index (Some bytes) vs h =
    absurd (let bad : Err (fault.BadField index) ≡ Ok vs = h in cc)
values_only stands (k ∷ ks) index left vs h =
    let then : Next → List FieldValue → Result (List FieldValue) CommandFault =
    λ next later. Ok (next.0 ∷ later) in
    let n = bound (next_of stands k index left)
    (λ next. values_of (standing stands next.0) ks (index + 1) next.1 >>= then next) vs h in
    let l = bound (values_of (standing stands n.0.0) ks (index + 1) n.0.1) (then n.0) vs n.1.1 in
    let first = next_only stands k index left n.0 n.1.0 in
    let rest = values_only (standing stands n.0.0) ks (index + 1) n.0.1 l.0 l.1.0 in
    subst (λ (ws : List FieldValue). AllFit stands (k ∷ ks) ws × (behind 32 left ≡ values_text ws))
    (ok_same (n.0.0 ∷ l.0) vs l.1.1)
    ((first.0, rest.0), first.1 ∙ ap (λ y. 32 ∷ (value_text n.0.0 ++ y)) rest.1)

-- the word and its values
pub text_is : (word : List ℕ) (vs : List FieldValue)
    → join_with_byte 32 (word ∷ map value_text vs) ≡ word ++ values_text vs
text_is word [] = sym (append-nil word)
text_is word (v ∷ vs) = ap (λ y. word ++ 32 ∷ y) (text_is (value_text v) vs)

-- ---- what is spelled is read so

abbrev pub left_of : List FieldValue → Option (List ℕ)
left_of [] = None
left_of (v ∷ vs) = Some (value_text v ++ values_text vs)

pub left_text : (vs : List FieldValue) → values_text vs ≡ behind 32 (left_of vs)
left_text [] = refl
left_text (v ∷ vs) = refl

next_rest : (stands : ℕ) (k : FieldKind) (index : ℕ) (v : FieldValue) → is_rest k ≡ true
    → Fits stands k v → next_of stands k index (Some (value_text v ++ [])) ≡ Ok (v, None)
next_rest stands k index v rest fits =
    rw append-nil (rw rest (rw (value_found stands k v fits) refl))

next_part : (stands : ℕ) (k : FieldKind) (index : ℕ) (v : FieldValue) (left : Option (List ℕ))
    → is_rest k ≡ false → Fits stands k v
    → next_of stands k index (Some (value_text v ++ behind 32 left)) ≡ Ok (v, left)
next_part stands k index v left part fits =
    rw part
    (rw (cut-behind 32 (value_text v) left (value_no_space stands k v part fits))
    (rw (value_found stands k v fits) refl))

next_last : (stands : ℕ) (k : FieldKind) (index : ℕ) (v : FieldValue) → Fits stands k v
    → next_of stands k index (Some (value_text v ++ [])) ≡ Ok (v, None)
next_last stands k index v fits = step (is_rest k) refl
  where
    step : (b : Bool) → is_rest k ≡ b
        → next_of stands k index (Some (value_text v ++ [])) ≡ Ok (v, None)
    step true is = next_rest stands k index v is fits
    step false is = next_part stands k index v None is fits

pub values_found : (stands : ℕ) (ks : List FieldKind) (index : ℕ) (vs : List FieldValue)
    → AllFit stands ks vs → is_rest_last ks ≡ true
    → values_of stands ks index (left_of vs) ≡ Ok vs
values_found stands [] index [] fits last = refl
values_found stands [] index (v ∷ vs) fits last = absurd fits
values_found stands (k ∷ ks) index [] fits last = absurd fits
values_found stands (k ∷ []) index (v ∷ []) fits last =
    rw (next_last stands k index v fits.0) refl
values_found stands (k ∷ []) index (v ∷ w ∷ vs) fits last = absurd fits.1
values_found stands (k ∷ j ∷ ks) index (v ∷ []) fits last = absurd fits.1
values_found stands (k ∷ j ∷ ks) index (v ∷ w ∷ vs) fits last =
    let both = and-true (not (is_rest k)) (is_rest_last (j ∷ ks)) last in
    let first = next_part stands k index v (left_of (w ∷ vs)) (not-true _ both.0) fits.0 in
    rw first
    (rw (values_found (standing stands v) (j ∷ ks) (index + 1) (w ∷ vs) fits.1 both.1) refl)

-- ---- what is spelled is short

-- the most bytes of fields without moves, each with a space in front
abbrev pub room_of : List FieldKind → ℕ
room_of [] = 0
room_of (k ∷ ks) = 1 + most_of k + room_of ks

pub or-false : (a b : Bool) → (a || b) ≡ false → (a ≡ false) × (b ≡ false)
or-false false b h = (refl, h)
or-false true b h = absurd (false≢true (sym h))

pub values_short : (stands : ℕ) (ks : List FieldKind) (vs : List FieldValue) → AllFit stands ks vs
    → list_any has_moves ks ≡ false → length (values_text vs) ≤ room_of ks
values_short stands [] [] fits none = omega arith
values_short stands [] (v ∷ vs) fits none = absurd fits
values_short stands (k ∷ ks) [] fits none = absurd fits
values_short stands (k ∷ ks) (v ∷ vs) fits none =
    let both = or-false (has_moves k) (list_any has_moves ks) none in
    let first = value_short stands k v both.0 fits.0 in
    let rest = values_short (standing stands v) ks vs fits.1 both.1 in
    let total = length-append (value_text v) (values_text vs) in
    omega arith

-- ---- what is spelled has no `#`

pub values_plain : (stands : ℕ) (ks : List FieldKind) (vs : List FieldValue) → AllFit stands ks vs
    → list_any may_have_mark ks ≡ false → list_all is_plain (values_text vs) ≡ true
values_plain stands [] [] fits none = refl
values_plain stands [] (v ∷ vs) fits none = absurd fits
values_plain stands (k ∷ ks) [] fits none = absurd fits
values_plain stands (k ∷ ks) (v ∷ vs) fits none =
    let both = or-false (may_have_mark k) (list_any may_have_mark ks) none in
    both_pass is_plain (value_text v) (values_text vs) (value_plain stands k v both.0 fits.0)
    (values_plain (standing stands v) ks vs fits.1 both.1)

-- ---- the rows

-- no remark can be after these fields: there are none, or a ` # ` may be in one
abbrev pub bars_remark : List FieldKind → Bool
bars_remark [] = true
bars_remark (k ∷ ks) = list_any may_have_mark (k ∷ ks)

-- the row of a tag: it is there, its word has no space and names it, it has at most six fields, of
-- which only the last may be all that is left, only moves can make what it spells too long, and no
-- field has a ` # ` where a remark may be
pub record IsRow (t : Tag) : Type 0 where
  pub row : TheRow
  pub is : row_of t ≡ Some row
  pub tag : row.tag ≡ t
  pub named : row_named row.word ≡ Some row
  pub word : lacks 32 row.word ≡ true
  pub few : nat_le (length row.fields) 6 ≡ true
  pub last : is_rest_last row.fields ≡ true
  pub room : nat_le (length row.word + room_of row.fields) 600 ≡ true
  pub marks : (row.takes_remark && bars_remark row.fields) ≡ false

pub row_right : (t : Tag) → IsRow t
unfolding rows
row_right tag.Register =
    record {
      row = _;
      is = refl;
      tag = refl;
      named = refl;
      word = refl;
      few = refl;
      last = refl;
      room = refl;
      marks = refl;
    }
row_right _ =
    record {
      row = _;
      is = refl;
      tag = refl;
      named = refl;
      word = refl;
      few = refl;
      last = refl;
      room = refl;
      marks = refl;
    }

-- each row is the one of its tag
abbrev EachRow : List TheRow → Type 0
EachRow [] = Unit {0}
EachRow (row ∷ rs) = (row_of row.tag ≡ Some row) × EachRow rs

rows_of_tags : EachRow rows
unfolding rows
rows_of_tags = search rules

found_row : (word : List ℕ) (rs : List TheRow) (row : TheRow) → EachRow rs
    → find (λ r. bytes_eq r.word word) rs ≡ Some row
    → (row_of row.tag ≡ Some row) × (word ≡ row.word)
found_row word [] row each h = absurd (let bad : None ≡ Some row = h in cc)
found_row word (r ∷ rs) row each h =
    step (found_row word rs row each.1) (bytes_eq r.word word) refl h
  where
    step : (find (λ r. bytes_eq r.word word) rs ≡ Some row
        → (row_of row.tag ≡ Some row) × (word ≡ row.word)) → (b : Bool)
        → bytes_eq r.word word ≡ b
        → cond b (Some r) (find (λ r. bytes_eq r.word word) rs) ≡ Some row
        → (row_of row.tag ≡ Some row) × (word ≡ row.word)
    step later false is e = later e
    step later true is e =
        let same : r ≡ row = cc in
        subst (λ (x : TheRow). (row_of x.tag ≡ Some x) × (word ≡ x.word)) same
        (each.0, sym (bytes_eq-equal r.word word is))

-- what the row of a word is
pub record IsNamed (word : List ℕ) (row : TheRow) : Type 0 where
  pub is : row_of row.tag ≡ Some row
  pub spelled : word ≡ row.word
  pub few : length row.fields ≤ 6
  pub last : is_rest_last row.fields ≡ true
  pub marks : (row.takes_remark && bars_remark row.fields) ≡ false

pub named_row : (word : List ℕ) (row : TheRow) → row_named word ≡ Some row → IsNamed word row
named_row word row is =
    let found = found_row word rows row rows_of_tags is in
    let it = row_right row.tag in
    let same : it.row ≡ row = (let e : Some it.row ≡ Some row = sym it.is ∙ found.0 in cc) in
    let few : length it.row.fields ≤ 6 = grind (arith, nat_tests, it.few) in
    record {
      is = found.0;
      spelled = found.1;
      few = subst (λ (x : TheRow). length x.fields ≤ 6) same few;
      last = subst (λ (x : TheRow). is_rest_last x.fields ≡ true) same it.last;
      marks =
          subst (λ (x : TheRow). (x.takes_remark && bars_remark x.fields) ≡ false) same
          it.marks;
    }

-- where a remark may be no field has a ` # `
pub no_mark : (row : TheRow) → (row.takes_remark && bars_remark row.fields) ≡ false
    → row.takes_remark ≡ true → list_any may_have_mark row.fields ≡ false
no_mark row marks takes = step row.fields row.takes_remark takes marks
  where
    step : (ks : List FieldKind) (t : Bool) → t ≡ true → (t && bars_remark ks) ≡ false
        → list_any may_have_mark ks ≡ false
    step [] t is marks = refl
    step (k ∷ ks) true is marks = marks
    step (k ∷ ks) false is marks = absurd (false≢true is)
