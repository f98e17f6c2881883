-- Fields of a command's form that have no value.
use Rattle.std.proofs.Common.{◌≡◌, ◌∙◌, ℕ, ◌≤◌, ◌==◌, ◌&&◌, Bool, true, false, List, if◌then◌else◌}
use Rattle.std.proofs.Common.{codes, inl, inr, nat_le, Option, None, Some, Result, Ok, Err, ap}
use Rattle.std.proofs.Common.{refl, subst, sym}
use Rattle.std.specs.{Prelude.IfErr, Prelude.IfSome, Prelude.length, Option.ok_or}
use Rattle.std.proofs.lemmas.Bool.{eqb-true, le-leb, leb-true}
use Rattle.cube.specs.declared.{moves.Move.Move, notation.reading.NotationFault.NotationFault}
use Rattle.cube.specs.notation.Notation.{IsUnlessNoMemory, Spells as SpellsMoves}
use Rattle.formats.specs.declared.events.Event.{Event}
use Rattle.scorecard.specs.{declared.fault.ScorecardFault.ScorecardFault, Reading.IsReadAs}
use Rattle.scorecard.specs.Spelling.{Spells}
use Rattle.texts.specs.declared.{command.Entered.Entered, table.FieldKind.FieldKind}
use Rattle.card_forms.specs.declared.{command_faults.FieldFault.FieldFault, pairs.Pair.Pair}
use Rattle.card_forms.specs.Asking.{HasLimit, HasMoves, IsClock, field as value_in, is_none}
use Rattle.card_forms.specs.Faults.{IsFirstLacking, IsSaid, Lacks, LacksAs, Said, clock_of}
use Rattle.card_forms.specs.Faults.{event_by, fault_of, moves_fault, said_of_event}
use Rattle.attempts.specs.declared.Unit.TheVariants as measure
use Rattle.cube.specs.declared.notation.reading.NotationFault.TheVariants as read
use Rattle.texts.specs.declared.command.Entered.TheVariants as entered
use Rattle.card_forms.specs.declared.command_faults.Field.TheVariants as field
use Rattle.card_forms.specs.declared.command_faults.FieldFault.TheVariants as at
use Rattle.card_forms.specs.declared.command_faults.FieldError.TheVariants as wrong

-- ---- times

pub clock_value : (text : List ℕ) (r : Result Entered ScorecardFault)
    → ((x : Entered) → r ≡ Ok x → Spells measure.Time text x) → IfSome (clock_of r) (IsClock text)
clock_value text (Ok (entered.Time time penalties)) found =
    by (penalties == 0) refl (nat_le time 360000) refl
  where
    by : (none : Bool) → (penalties == 0) ≡ none → (low : Bool) → nat_le time 360000 ≡ low
        → IfSome (if none && low then Some time else None) (IsClock text)
    by true none true low = (
      subst (λ (n : ℕ). Spells measure.Time text (entered.Time time n))
          (eqb-true penalties 0 none) (found (entered.Time time penalties) refl),
      leb-true time 360000 low,
    )
    by true none false low = tt
    by false none low so = tt
clock_value text _ found = tt

pub clock_lacks : (text : List ℕ) (r : Result Entered ScorecardFault)
    → ((x : Entered) → Spells measure.Time text x → IsReadAs measure.Time x r)
    → clock_of r ≡ None → Lacks (IsClock text)
clock_lacks text r only none time is = by (only (entered.Time time 0) is.0)
  where
    by : IsReadAs measure.Time (entered.Time time 0) r → ⊥
    by (inl same) =
        let low : nat_le time 360000 ≡ true = le-leb time 360000 is.1 in
        let some : clock_of r ≡ Some time =
        ap clock_of same ∙ ap (λ (b : Bool). if b then Some time else None) low in
        absurd (cc)
    by (inr moves) = absurd (let e = moves.0 in cc)

-- ---- fields of a form

pub no_number : (o it : Option ℕ) → o ≡ it → o ≡ None → (n : ℕ) → it ≡ Some n → ⊥
no_number o it same none n is = absurd (let e : None ≡ Some n = sym none ∙ same ∙ is in cc)

pub ok_or_lacks : (T : Type 0) (o it : Option T) → o ≡ it → (f g : FieldFault) → f ≡ g
    → (r : Result T FieldFault) → r ≡ ok_or o f → IfErr r (λ why. (why ≡ g) × (it ≡ None))
ok_or_lacks T None it of f g same r is =
    subst (λ (s : Result T FieldFault). IfErr s (λ why. (why ≡ g) × (it ≡ None))) (sym is)
    (same, sym of)
ok_or_lacks T (Some x) it of f g same r is =
    subst (λ (s : Result T FieldFault). IfErr s (λ why. (why ≡ g) × (it ≡ None))) (sym is) tt

pub event_lacks : (pairs : List Pair) (b : Bool) → b ≡ false → (r : Result Event FieldFault)
    → IfErr r (λ why. (why ≡ fault_of (said_of_event false)) × (event_by false pairs ≡ None))
    → IfErr r (λ why. (why ≡ fault_of (said_of_event b)) × (event_by b pairs ≡ None))
event_lacks pairs b is r lacks =
    subst (λ (c : Bool).
    IfErr r (λ why. (why ≡ fault_of (said_of_event c)) × (event_by c pairs ≡ None))) (sym is) lacks

module _ (pairs : List Pair) (text : List ℕ) (same : text ≡ value_in (codes "moves") pairs)
    (r : Result (List Move) NotationFault)
    (only : (moves : List Move) → SpellsMoves text moves → length moves ≤ 400
    → IsUnlessNoMemory r (Ok moves)) where
  no_moves : (f : NotationFault) → r ≡ Err f → (f ≡ read.NoMemory → ⊥) → Lacks (HasMoves pairs)
  no_moves f is other moves has =
      by (only moves (subst (λ (t : List ℕ). SpellsMoves t moves) (sym same) has.0) has.1)
    where
      by : IsUnlessNoMemory r (Ok moves) → ⊥
      by (inl found) =
          absurd (let e : Err f ≡ Ok moves = sym is ∙ found in cc)
      by (inr none) = other (let e : Err f ≡ Err read.NoMemory = sym is ∙ none in cc)

  pub moves_lacking : (f : NotationFault) → r ≡ Err f
      → LacksAs (HasMoves pairs) (field.Moves, wrong.NotMoves) (moves_fault f)
  moves_lacking read.NoMemory is = tt
  moves_lacking read.Empty is = (no_moves read.Empty is (λ e. absurd (cc)), refl)
  moves_lacking (read.BadToken i) is =
      (no_moves (read.BadToken i) is (λ e. absurd (cc)), refl)
  moves_lacking read.TooMany is = (no_moves read.TooMany is (λ e. absurd (cc)), refl)

module _ (pairs : List Pair) where
  pub no_limit : (text : List ℕ) → text ≡ value_in (codes "limit") pairs
      → is_none text ≡ false → Lacks (IsClock text) → Lacks (HasLimit pairs)
  no_limit text same some none None has =
      absurd (let e : true ≡ false = sym has ∙ ap is_none (sym same) ∙ some in cc)
  no_limit text same some none (Some limit) has =
      none limit (subst (λ (t : List ℕ). IsClock t limit) (sym same) has)

-- ---- what is said of the fields of a command, in order

-- what is said of one holds of the other
pub said_by : (P Q : Said → Type 0) → ((it : Said) → P it → Q it) → (f : FieldFault)
    → IsSaid P f → IsSaid Q f
said_by P Q more (at.Wrong field why) is = more (field, why) is
said_by P Q more at.NoMemory is = tt

-- what is said of a later field is said of the first that lacks a value, since the fields before
-- have theirs
abbrev pub Leads : Bool → List Pair → List FieldKind → List FieldKind → Type 0
Leads b pairs ks left =
    (it : Said) → IsFirstLacking b pairs left it → IsFirstLacking b pairs ks it
