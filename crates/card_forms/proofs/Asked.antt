-- The command that a form asks for.
use Rattle.std.proofs.Common.{◌≡◌, ℕ, ◌≤◌, Bool, true, List, [], ◌∷◌, ◌++◌, length, drop, Option}
use Rattle.std.proofs.Common.{Some, refl, sym, ap, ◌∙◌, subst}
use Rattle.std.{specs.Prelude.slice_get, proofs.lemmas.List.append-nil, proofs.lemmas.List.drop_all}
use Rattle.texts.specs.declared.{command.Command.Command, value.FieldValue.FieldValue}
use Rattle.texts.specs.declared.table.{FieldKind.FieldKind, Tag.Tag}
use Rattle.texts.specs.{Parts.Parts, Parts.made_of, Parts.parts, Spelling.words_by}
use Rattle.texts.specs.Table.{TheRow, fields_in, row_named, row_of, rows}
use Rattle.texts.proofs.{Rows.named_row, Words.IsMade}
use Rattle.card_forms.specs.declared.pairs.Pair.{Pair}
use Rattle.card_forms.specs.Asking.{HasAll, HasParts, HasValue, HasValues, IsAsked, has_form}
use Rattle.texts.specs.declared.table.FieldKind.TheVariants as kind
use Rattle.texts.specs.declared.table.Tag.TheVariants as tag
use Rattle.texts.specs.declared.value.FieldValue.TheVariants as value

-- ---- values of the kinds of fields

-- what a value of a kind is made of, and how
abbrev Holder : Type 1
Holder = (T : Type 0) × (T → FieldValue)

abbrev holder : FieldKind → Holder
holder kind.Number = (_, value.Number)
holder kind.Name = (_, value.Name)
holder kind.NewName = (_, value.Name)
holder kind.Event = (_, value.Event)
holder kind.Round = (_, value.Round)
holder kind.Format = (_, value.Format)
holder kind.Cutoff = (_, value.Cutoff)
holder kind.Limit = (_, value.Limit)
holder kind.Advance = (_, value.Advance)
holder kind.Attempt = (_, value.Attempt)
holder kind.Moves = (_, value.Moves)
holder kind.Outcome = (_, value.Outcome)
holder kind.Edition = (_, value.Edition)
holder kind.Was = (_, value.Was)
holder kind.Now = (_, value.Now)

-- the same of fields, one each in order
abbrev AllHeld : List FieldKind → Type 0
AllHeld [] = Unit {0}
AllHeld (k ∷ ks) = (holder k).0 × AllHeld ks

abbrev all_held : (ks : List FieldKind) → AllHeld ks → List FieldValue
all_held [] h = []
all_held (k ∷ ks) h = (holder k).1 h.0 ∷ all_held ks h.1

-- values of the kinds of a row's fields make a command, which has these values
makes : (t : Tag) (h : AllHeld (fields_in (row_of t)))
    → IsMade (t, all_held (fields_in (row_of t)) h)
unfolding rows
makes tag.Register h = record { command = _; is = refl; parts = refl }
makes _ h = record { command = _; is = refl; parts = refl }

-- values are of these kinds
abbrev AreOf : List FieldKind → List FieldValue → Type 0
AreOf ks vs = (h : AllHeld ks) × (vs ≡ all_held ks h)

-- ---- the values of a form

-- the value of a form's field is of its kind
is_of : (b : Bool) (pairs : List Pair) (k : FieldKind) (v : FieldValue) → HasValue b pairs k v
    → (x : (holder k).0) × (v ≡ (holder k).1 x)
is_of b pairs kind.Number (value.Number x) has = (x, refl)
is_of b pairs kind.Name (value.Name x) has = (x, refl)
is_of b pairs kind.NewName (value.Name x) has = (x, refl)
is_of b pairs kind.Event (value.Event x) has = (x, refl)
is_of b pairs kind.Round (value.Round x) has = (x, refl)
is_of b pairs kind.Format (value.Format x) has = (x, refl)
is_of b pairs kind.Cutoff (value.Cutoff x) has = (x, refl)
is_of b pairs kind.Limit (value.Limit x) has = (x, refl)
is_of b pairs kind.Advance (value.Advance x) has = (x, refl)
is_of b pairs kind.Attempt (value.Attempt x) has = (x, refl)
is_of b pairs kind.Moves (value.Moves x) has = (x, refl)
is_of b pairs kind.Edition (value.Edition x) has = (x, refl)
is_of _ _ _ _ has = absurd has

are_of : (b : Bool) (pairs : List Pair) (ks : List FieldKind) (vs : List FieldValue)
    → HasValues b pairs ks vs → AreOf ks vs
are_of b pairs [] [] has = (tt, refl)
are_of b pairs (k ∷ ks) (v ∷ vs) has =
    let first = is_of b pairs k v has.0 in
    let later = are_of b pairs ks vs has.1 in (
      (first.0, later.0),
      ap (λ x. x ∷ vs) first.1 ∙ ap (λ xs. (holder k).1 first.0 ∷ xs) later.1,
    )
are_of _ _ _ _ has = absurd has

-- values so far, before which later ones fill all fields
abbrev pub Fills : Bool → List Pair → List FieldKind → List FieldKind → List FieldValue → Type 0
Fills b pairs ks left vs =
    (ws : List FieldValue) → HasValues b pairs left ws → HasValues b pairs ks (vs ++ ws)

pub fills_all : (b : Bool) (pairs : List Pair) (ks : List FieldKind) (i : ℕ) (vs : List FieldValue)
    → length ks ≤ i → Fills b pairs ks (drop i ks) vs → HasValues b pairs ks vs
fills_all b pairs ks i vs end so_far =
    let none : HasValues b pairs (drop i ks) [] =
    subst (λ (js : List FieldKind). HasValues b pairs js []) (sym (drop_all i ks end)) tt in
    subst (HasValues b pairs ks) (append-nil vs) (so_far [] none)

-- ---- the command of a form

-- values of a row's fields make a command
pub always_made : (pairs : List Pair) (word : List ℕ) (row : TheRow) (vs : List FieldValue)
    → row_named word ≡ Some row → HasAll pairs row.fields vs → IsMade (row.tag, vs)
always_made pairs word row vs is has =
    let it = named_row word row is in
    let of : AreOf (fields_in (row_of row.tag)) vs =
    subst (λ (o : Option TheRow). AreOf (fields_in o) vs) (sym it.is)
    (are_of _ pairs row.fields vs has) in
    subst (λ (ws : List FieldValue). IsMade (row.tag, ws)) (sym of.1) (makes row.tag of.0)

-- the command that these values make is the one that is asked for
pub asked : (pairs : List Pair) (word : List ℕ) (row : TheRow) (vs : List FieldValue)
    (command : Command)
    → row_named word ≡ Some row → has_form row.tag ≡ true → HasAll pairs row.fields vs
    → made_of (row.tag, vs) ≡ Some command → IsAsked pairs word command
asked pairs word row vs command is form has made =
    let it = named_row word row is in
    let m : IsMade (row.tag, vs) = always_made pairs word row vs is has in
    let same : m.command ≡ command =
    (let e : Some m.command ≡ Some command = sym m.is ∙ made in cc) in
    let parts_are : (let p : Parts = (row.tag, vs) in p) ≡ parts command =
    sym m.parts ∙ ap parts same in
    let first : slice_get (words_by (row.tag, vs)) 0 ≡ Some word =
    rw it.is (ap Some (sym it.spelled)) in
    let all : HasParts pairs (row.tag, vs) =
    (form, subst (λ (o : Option TheRow). HasAll pairs (fields_in o) vs) (sym it.is) has) in
    subst (λ (p : Parts). (slice_get (words_by p) 0 ≡ Some word) × HasParts pairs p) parts_are
    (first, all)
