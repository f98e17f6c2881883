-- Each kind of field is read from its one spelling, which has no space unless it is the rest.
use Rattle.std.proofs.Common.{◌≡◌, ℕ, ◌≤◌, Bool, true, false, List, length, decimal, Option, Some}
use Rattle.std.proofs.Common.{None, option_map, refl, ◌∙◌, subst, arith}
use Rattle.std.specs.List.{list_all}
use Rattle.texts.specs.declared.{table.FieldKind.FieldKind, value.FieldValue.FieldValue}
use Rattle.formats.specs.Events.{last_round}
use Rattle.texts.specs.{Fields.number_between, Reading.value_of, Table.has_moves, Table.is_rest}
use Rattle.texts.specs.Spelling.{Fits, IsWithin, last_edition, value_text}
use Rattle.texts.proofs.Bytes.{advance_plain, cutoff_plain, entered_plain, event_plain, was_plain}
use Rattle.texts.proofs.Bytes.{format_plain, is_plain, limit_plain, moves_plain, now_plain}
use Rattle.texts.proofs.{Bytes.number_plain, Bytes.was_no_space, OutcomeSpellings.entered_spelled}
use Rattle.texts.proofs.CardSpellings.{now_spelled, was_short, was_spelled}
use Rattle.texts.proofs.{Cuts.lacks, Spelled.IsSpelled, MoveSpellings.moves_spelled}
use Rattle.texts.proofs.FieldSpellings.{decimal_no_space, advance_no_space, new_name_spelled}
use Rattle.texts.proofs.FieldSpellings.{name_spelled, event_spelled, advance_short, limit_spelled}
use Rattle.texts.proofs.FieldSpellings.{number_short, name_short, format_short, cutoff_short}
use Rattle.texts.proofs.FieldSpellings.{new_name_short, event_short, number_spelled, event_no_space}
use Rattle.texts.proofs.FieldSpellings.{limit_short, format_spelled, cutoff_spelled, limit_no_space}
use Rattle.texts.proofs.FieldSpellings.{format_no_space, cutoff_no_space, advance_spelled}
use Rattle.texts.specs.declared.table.FieldKind.TheVariants as kind
use Rattle.texts.specs.declared.value.FieldValue.TheVariants as value

-- numbers, each in its range

number : IsSpelled (number_between 1 9999) decimal (IsWithin 1 9999)
number = number_spelled 1 9999 (omega arith)

round : IsSpelled (number_between 1 last_round) decimal (IsWithin 1 last_round)
round = number_spelled 1 last_round (omega arith)

attempt : IsSpelled (number_between 1 5) decimal (IsWithin 1 5)
attempt = number_spelled 1 5 (omega arith)

edition : IsSpelled (number_between 2 last_edition) decimal (IsWithin 2 last_edition)
edition = number_spelled 2 last_edition (omega arith)

-- what was read in one way is what it spells in the other
only_by : {A : Type 0} {of : List ℕ → Option A} {text : A → List ℕ} {F : A → Type 0}
    → IsSpelled of text F → (con : A → FieldValue) (G : FieldValue → Type 0)
    → ((x : A) → F x → G (con x)) → ((x : A) → text x ≡ value_text (con x))
    → (bytes : List ℕ) (v : FieldValue) → option_map con (of bytes) ≡ Some v
    → G v × (bytes ≡ value_text v)
only_by {A = A} {of = of} s con G fits texts bytes v h = step (of bytes) refl h
  where
    step : (o : Option A) → of bytes ≡ o → option_map con o ≡ Some v → G v × (bytes ≡ value_text v)
    step None is e = absurd (let bad : None ≡ Some v = e in cc)
    step (Some x) is e =
        let read = s.only bytes x is in
        let same : con x ≡ v = cc in
        subst (λ (w : FieldValue). G w × (bytes ≡ value_text w)) same
        (fits x read.0, read.1 ∙ texts x)

pub value_only : (stands : ℕ) (k : FieldKind) (bytes : List ℕ) (v : FieldValue)
    → value_of stands k bytes ≡ Some v → Fits stands k v × (bytes ≡ value_text v)
value_only stands kind.Number = only_by number value.Number _ (λ x h. h) (λ x. refl)
value_only stands kind.Name = only_by name_spelled value.Name _ (λ x h. h) (λ x. refl)
value_only stands kind.NewName = only_by new_name_spelled value.Name _ (λ x h. h) (λ x. refl)
value_only stands kind.Event = only_by event_spelled value.Event _ (λ x h. h) (λ x. refl)
value_only stands kind.Round = only_by round value.Round _ (λ x h. h) (λ x. refl)
value_only stands kind.Format = only_by format_spelled value.Format _ (λ x h. h) (λ x. refl)
value_only stands kind.Cutoff = only_by cutoff_spelled value.Cutoff _ (λ x h. h) (λ x. refl)
value_only stands kind.Limit = only_by limit_spelled value.Limit _ (λ x h. h) (λ x. refl)
value_only stands kind.Advance = only_by advance_spelled value.Advance _ (λ x h. h) (λ x. refl)
value_only stands kind.Attempt = only_by attempt value.Attempt _ (λ x h. h) (λ x. refl)
value_only stands kind.Moves = only_by moves_spelled value.Moves _ (λ x h. h) (λ x. refl)
value_only stands kind.Outcome = only_by entered_spelled value.Outcome _ (λ x h. h) (λ x. refl)
value_only stands kind.Edition = only_by edition value.Edition _ (λ x h. h) (λ x. refl)
value_only stands kind.Was = only_by was_spelled value.Was _ (λ x h. h) (λ x. refl)
value_only stands kind.Now = only_by (now_spelled stands) value.Now _ (λ x h. h) (λ x. refl)

pub value_found : (stands : ℕ) (k : FieldKind) (v : FieldValue) → Fits stands k v
    → value_of stands k (value_text v) ≡ Some v
value_found stands kind.Number (value.Number n) fits = rw (number.found n fits) refl
value_found stands kind.Name (value.Name name) fits = rw (name_spelled.found name fits) refl
value_found stands kind.NewName (value.Name name) fits = rw (new_name_spelled.found name fits) refl
value_found stands kind.Event (value.Event event) fits = rw (event_spelled.found event fits) refl
value_found stands kind.Round (value.Round n) fits = rw (round.found n fits) refl
value_found stands kind.Format (value.Format form) fits = rw (format_spelled.found form fits) refl
value_found stands kind.Cutoff (value.Cutoff c) fits = rw (cutoff_spelled.found c fits) refl
value_found stands kind.Limit (value.Limit limit) fits = rw (limit_spelled.found limit fits) refl
value_found stands kind.Advance (value.Advance a) fits = rw (advance_spelled.found a fits) refl
value_found stands kind.Attempt (value.Attempt n) fits = rw (attempt.found n fits) refl
value_found stands kind.Moves (value.Moves moves) fits = rw (moves_spelled.found moves fits) refl
value_found stands kind.Outcome (value.Outcome o) fits = rw (entered_spelled.found o fits) refl
value_found stands kind.Edition (value.Edition n) fits = rw (edition.found n fits) refl
value_found stands kind.Was (value.Was was) fits = rw (was_spelled.found was fits) refl
value_found stands kind.Now (value.Now now) fits = rw ((now_spelled stands).found now fits) refl
value_found _ _ _ fits = absurd fits

pub value_no_space : (stands : ℕ) (k : FieldKind) (v : FieldValue) → is_rest k ≡ false
    → Fits stands k v → lacks 32 (value_text v) ≡ true
value_no_space stands kind.Number (value.Number n) part fits = decimal_no_space n (omega arith)
value_no_space stands kind.Event (value.Event event) part fits = event_no_space event
value_no_space stands kind.Round (value.Round n) part fits = decimal_no_space n (omega arith)
value_no_space stands kind.Format (value.Format form) part fits = format_no_space form
value_no_space stands kind.Cutoff (value.Cutoff cutoff) part fits = cutoff_no_space cutoff fits
value_no_space stands kind.Limit (value.Limit limit) part fits = limit_no_space limit fits
value_no_space stands kind.Advance (value.Advance a) part fits = advance_no_space a fits
value_no_space stands kind.Attempt (value.Attempt n) part fits = decimal_no_space n (omega arith)
value_no_space stands kind.Edition (value.Edition n) part fits = decimal_no_space n (omega arith)
value_no_space stands kind.Was (value.Was was) part fits = was_no_space was fits.1
value_no_space stands kind.Name _ part fits = absurd (let bad : true ≡ false = part in cc)
value_no_space stands kind.NewName _ part fits = absurd (let bad : true ≡ false = part in cc)
value_no_space stands kind.Moves _ part fits = absurd (let bad : true ≡ false = part in cc)
value_no_space stands kind.Outcome _ part fits = absurd (let bad : true ≡ false = part in cc)
value_no_space stands kind.Now _ part fits = absurd (let bad : true ≡ false = part in cc)
value_no_space _ _ _ part fits = absurd fits

-- the most bytes of a value that has no moves
abbrev pub most_of : FieldKind → ℕ
most_of kind.Name = 160
most_of kind.NewName = 160
most_of _ = 80

pub value_short : (stands : ℕ) (k : FieldKind) (v : FieldValue) → has_moves k ≡ false
    → Fits stands k v → length (value_text v) ≤ most_of k
value_short stands kind.Number (value.Number n) none fits = number_short n (omega arith)
value_short stands kind.Name (value.Name name) none fits = name_short name fits
value_short stands kind.NewName (value.Name name) none fits = new_name_short name fits
value_short stands kind.Event (value.Event event) none fits = event_short event
value_short stands kind.Round (value.Round n) none fits = number_short n (omega arith)
value_short stands kind.Format (value.Format form) none fits = format_short form
value_short stands kind.Cutoff (value.Cutoff cutoff) none fits = cutoff_short cutoff fits
value_short stands kind.Limit (value.Limit limit) none fits = limit_short limit fits
value_short stands kind.Advance (value.Advance a) none fits = advance_short a fits
value_short stands kind.Attempt (value.Attempt n) none fits = number_short n (omega arith)
value_short stands kind.Edition (value.Edition n) none fits = number_short n (omega arith)
value_short stands kind.Was (value.Was was) none fits = was_short was fits
value_short stands kind.Moves _ none fits = absurd (let bad : true ≡ false = none in cc)
value_short stands kind.Outcome _ none fits = absurd (let bad : true ≡ false = none in cc)
value_short stands kind.Now _ none fits = absurd (let bad : true ≡ false = none in cc)
value_short _ _ _ none fits = absurd fits

-- ` # ` may be in it
abbrev pub may_have_mark : FieldKind → Bool
may_have_mark kind.Name = true
may_have_mark kind.NewName = true
may_have_mark _ = false

-- no other field has a control character or a `#`
pub value_plain : (stands : ℕ) (k : FieldKind) (v : FieldValue) → may_have_mark k ≡ false
    → Fits stands k v → list_all is_plain (value_text v) ≡ true
value_plain stands kind.Number (value.Number n) none fits = number_plain n (omega arith)
value_plain stands kind.Event (value.Event event) none fits = event_plain event
value_plain stands kind.Round (value.Round n) none fits = number_plain n (omega arith)
value_plain stands kind.Format (value.Format form) none fits = format_plain form
value_plain stands kind.Cutoff (value.Cutoff cutoff) none fits = cutoff_plain cutoff fits
value_plain stands kind.Limit (value.Limit limit) none fits = limit_plain limit fits
value_plain stands kind.Advance (value.Advance a) none fits = advance_plain a fits
value_plain stands kind.Attempt (value.Attempt n) none fits = number_plain n (omega arith)
value_plain stands kind.Moves (value.Moves moves) none fits = moves_plain moves
value_plain stands kind.Outcome (value.Outcome o) none fits = entered_plain o fits
value_plain stands kind.Edition (value.Edition n) none fits = number_plain n (omega arith)
value_plain stands kind.Was (value.Was was) none fits = was_plain was fits.1
value_plain stands kind.Now (value.Now now) none fits = now_plain now fits.1
value_plain stands kind.Name _ none fits = absurd (let bad : true ≡ false = none in cc)
value_plain stands kind.NewName _ none fits = absurd (let bad : true ≡ false = none in cc)
value_plain _ _ _ none fits = absurd fits
