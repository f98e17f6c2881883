-- What is said of a form that asks for no command.
use Rattle.std.proofs.Common.{◌≡◌, ◌∙◌, ℕ, Bool, true, false, List, Option, None, Some, Result, Ok}
use Rattle.std.proofs.Common.{Err, ap, codes, inr, refl, subst, sym}
use Rattle.std.specs.Prelude.{IfErr, IfOk, IsTrue}
use Rattle.texts.specs.declared.{command.Command.Command, table.FieldKind.FieldKind}
use Rattle.texts.specs.{declared.value.FieldValue.FieldValue, Parts.made_of}
use Rattle.texts.specs.Table.{TheRow, row_named}
use Rattle.card_forms.specs.declared.{asking.UncheckedCommand.UncheckedCommand, pairs.Pair.Pair}
use Rattle.card_forms.specs.{declared.asking.CommandForm.CommandForm, Asking.has_form}
use Rattle.card_forms.specs.declared.command_faults.CommandFormFault.{CommandFormFault}
use Rattle.card_forms.specs.{declared.command_faults.FieldFault.FieldFault, Faults.may_be_asked}
use Rattle.card_forms.specs.Asking.{AsksBy, FieldsAsk, HasAll, WordAsks, field as value_in}
use Rattle.card_forms.specs.Faults.{Blames, IsFault, IsNoCommand, IsSaid, IsWrong, IsWrongBy}
use Rattle.card_forms.specs.Faults.{IsWrongIf, IsWrongRow, Said, blamed, blamed_in, form_fault}
use Rattle.card_forms.proofs.{Asked.always_made, Lacking.said_by}
use Rattle.card_forms.specs.declared.command_faults.Field.TheVariants as field
use Rattle.card_forms.specs.declared.command_faults.FieldFault.TheVariants as at
use Rattle.card_forms.specs.declared.command_faults.FieldError.TheVariants as wrong

abbrev pub NoForm : Said
NoForm = (field.Command, wrong.NoSuchCommand)

module _ (pairs : List Pair) where
  -- ---- a command, by its row

  pub unmade_row : (word : List ℕ) (row : TheRow) (vs : List FieldValue)
      → row_named word ≡ Some row → HasAll pairs row.fields vs → made_of (row.tag, vs) ≡ None
      → (P : Type 0) → P
  unmade_row word row vs is has none P =
      let m = always_made pairs word row vs is has in absurd (let e = m.is in cc)

  abbrev word : List ℕ
  word = value_in (codes "command") pairs

  module _ (w : List ℕ) (same : w ≡ word) where
    pub no_row : None ≡ row_named w → (f : FieldFault) → f ≡ at.Wrong NoForm.0 NoForm.1
        → IsSaid (IsWrongBy true pairs) f
    no_row none f is =
        subst (IsSaid (IsWrongBy true pairs)) (sym is)
        (subst (λ (o : Option TheRow). IsWrongRow o pairs NoForm) (none ∙ ap row_named same) refl)

    module _ (row : TheRow) (is : Some row ≡ row_named w)
        (r : Result UncheckedCommand FieldFault) where
      pub row_asks : IfOk r (λ asked. WordAsks pairs w asked.text.items)
          → IfOk r (λ asked. FieldsAsk pairs asked.text.items)
      row_asks asks =
          subst (λ (v : List ℕ). IfOk r (λ asked. WordAsks pairs v asked.text.items)) same asks

    blames_by : (row : TheRow) → Some row ≡ row_named word → (it : Said) → it ≡ blamed row.fields
        → has_form row.tag ≡ true → Blames true pairs it
    blames_by row is it same-as form =
        subst (λ (o : Option TheRow). IsTrue (may_be_asked o) × (it ≡ blamed_in o)) is
        (form, same-as)

    pub row_blames : (row : TheRow) → Some row ≡ row_named w
        → (r : Result UncheckedCommand FieldFault)
        → IfOk r (λ asked. asked.blamed ≡ blamed row.fields)
        → IfOk r (λ asked. has_form row.tag ≡ true)
        → IfOk r (λ asked. Blames true pairs asked.blamed)
    row_blames row is (Ok asked) said form =
        blames_by row (is ∙ ap row_named same) asked.blamed said form
    row_blames row is (Err f) said form = tt

    pub row_wrong : (row : TheRow) → Some row ≡ row_named w
        → (r : Result UncheckedCommand FieldFault)
        → IfErr r (IsSaid (IsWrongIf (has_form row.tag) pairs row.fields))
        → IfErr r (IsSaid (IsWrongBy true pairs))
    row_wrong row is (Ok asked) said = tt
    row_wrong row is (Err f) said =
        subst (λ (o : Option TheRow). IsSaid (IsWrongRow o pairs) f) (is ∙ ap row_named same) said

  -- ---- a text that is no command

  module _ (text : List ℕ) (blame it : Said) (no : IsNoCommand blame text it) where
    if_form : (form : Bool) (ks : List FieldKind) → IsTrue form → FieldsAsk pairs text
        → blame ≡ blamed ks → IsWrongIf form pairs ks it
    if_form false ks may asks same = absurd (cc)
    if_form true ks may asks same =
        inr (text, asks, subst (λ (s : Said). IsNoCommand s text it) same no)

    refused_row : (o : Option TheRow) → FieldsAsk pairs text → IsTrue (may_be_asked o)
        → blame ≡ blamed_in o → IsWrongRow o pairs it
    refused_row None asks may same = absurd (cc)
    refused_row (Some row) asks may same = if_form (has_form row.tag) row.fields may asks same

    pub refused_text : (empty : Bool) → AsksBy empty pairs text → Blames empty pairs blame
        → IsWrongBy empty pairs it
    refused_text true asks blames = refused_row (row_named word) asks blames.0 blames.1
    refused_text false asks blames =
        subst (λ (s : List ℕ). IsNoCommand (field.Text, wrong.NotACommand) s it) asks
        (subst (λ (s : Said). IsNoCommand s text it) blames no)

  pub refused_as : (text : List ℕ) (blame : Said) (empty : Bool) → AsksBy empty pairs text
      → Blames empty pairs blame → (f : FieldFault) → IsSaid (IsNoCommand blame text) f
      → IsSaid (IsWrongBy empty pairs) f
  refused_as text blame empty asks blames f is =
      said_by (IsNoCommand blame text) (IsWrongBy empty pairs)
      (λ it no. refused_text text blame it no empty asks blames) f is

  -- the fault of a form is that of its field
  pub is_fault : (f : FieldFault) → IsSaid (IsWrong pairs) f → IsFault pairs (form_fault f)
  is_fault (at.Wrong field why) is = is
  is_fault at.NoMemory is = tt

  pub fault_by : (r : Result CommandForm CommandFormFault) (f : FieldFault)
      → r ≡ Err (form_fault f) → IsFault pairs (form_fault f) → IfErr r (IsFault pairs)
  fault_by r f is holds =
      subst (λ (s : Result CommandForm CommandFormFault). IfErr s (IsFault pairs)) (sym is) holds
