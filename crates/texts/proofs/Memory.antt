-- Where memory may run out: at a field that it is taken for while it is read, or at a name.
use Rattle.std.proofs.Common.{◌≡◌, ℕ, zero, suc, ◌+◌, ◌<◌, ◌≤◌, ◌⊎◌, inl, inr, Bool, true, false}
use Rattle.std.proofs.Common.{◌||◌, not, cond, List, [], ◌∷◌, ◌++◌, length, drop, Option, Some}
use Rattle.std.proofs.Common.{None, option_map, Result, Ok, Err, refl, sym, ap, ◌∙◌, subst, arith}
use Rattle.std.specs.{Prelude.IsTrue, List.list_any, Option.ok_or}
use Rattle.std.proofs.lemmas.Bool.{false≢true}
use Rattle.cube.specs.declared.moves.Move.{Move}
use Rattle.attempts.specs.declared.Value.{Value}
use Rattle.texts.specs.declared.{command.Entered.Entered, reading.CommandFault.CommandFault}
use Rattle.texts.specs.declared.{table.FieldKind.FieldKind, value.FieldValue.FieldValue}
use Rattle.texts.specs.Fields.{entered_of, moves_of, name_of, new_name_of, now_of, was_of}
use Rattle.texts.specs.{Names.is_name, Names.is_name_in, Reading.values_of}
use Rattle.texts.specs.Reading.{◌>>=◌, field_of, next_of, no_field, takes_memory, value_of}
use Rattle.texts.specs.Spelling.{AllFit, Fits, standing}
use Rattle.texts.specs.Table.{is_kept, is_rest, is_rest_last, kept_at}
use Rattle.texts.specs.model.Returned.{GivesNext, GivesValues, MayBeSolution, Next, TakesForNext}
use Rattle.texts.specs.model.Returned.{TakesForValue, TakesForValues, after}
use Rattle.texts.proofs.{Cuts.and-true, Rows.or-false, Splits.not-true, Values.may_have_mark}
use Rattle.texts.specs.declared.command.Entered.TheVariants as entered
use Rattle.texts.specs.declared.reading.CommandFault.TheVariants as fault
use Rattle.texts.specs.declared.table.FieldKind.TheVariants as kind
use Rattle.texts.specs.declared.value.FieldValue.TheVariants as value

-- ---- one value

pub name_takes : (bytes : List ℕ) → is_name bytes ≡ true
    → TakesForValue kind.Name (value_of 0 kind.Name bytes)
unfolding name_of
name_takes bytes right = rw right (refl, inr refl)

pub new_name_takes : (bytes : List ℕ) → is_name_in 3 bytes ≡ true
    → TakesForValue kind.NewName (value_of 0 kind.NewName bytes)
unfolding new_name_of
new_name_takes bytes right = rw right (refl, inr refl)

pub moves_take : (bytes : List ℕ) → TakesForValue kind.Moves (value_of 0 kind.Moves bytes)
moves_take bytes = step (moves_of bytes)
  where
    step : (o : Option (List Move)) → TakesForValue kind.Moves (option_map value.Moves o)
    step None = refl
    step (Some moves) = (refl, inl refl)

pub outcome_takes : (bytes : List ℕ) → MayBeSolution (entered_of bytes)
    → TakesForValue kind.Outcome (value_of 0 kind.Outcome bytes)
outcome_takes bytes h = step (entered_of bytes) h
  where
    step : (o : Option Entered) → MayBeSolution o
        → TakesForValue kind.Outcome (option_map value.Outcome o)
    step None h = refl
    step (Some (entered.Solution moves)) h = (refl, inl refl)
    step (Some (entered.Time time penalties)) h = absurd h
    step (Some (entered.Multi solved attempted seconds)) h = absurd h
    step (Some entered.Dnf) h = absurd h
    step (Some entered.Dns) h = absurd h

pub was_takes : (bytes : List ℕ) → TakesForValue kind.Was (value_of 0 kind.Was bytes)
was_takes bytes = step (was_of bytes)
  where
    step : (o : Option (List Value)) → TakesForValue kind.Was (option_map value.Was o)
    step None = refl
    step (Some was) = (refl, inl refl)

pub now_takes : (stands : ℕ) (bytes : List ℕ)
    → TakesForValue kind.Now (value_of stands kind.Now bytes)
now_takes stands bytes = step (now_of stands bytes)
  where
    step : (o : Option (List (Option Entered))) → TakesForValue kind.Now (option_map value.Now o)
    step None = refl
    step (Some now) = (refl, inl refl)

-- ---- the next field

pub next_takes : (stands : ℕ) (k : FieldKind) (index : ℕ) (bytes : List ℕ)
    → TakesForValue k (value_of stands k (field_of k bytes).0)
    → TakesForNext k index (next_of stands k index (Some bytes))
next_takes stands k index bytes h = step (value_of stands k (field_of k bytes).0) h
  where
    none : is_rest k ≡ true → (field_of k bytes).1 ≡ None
    none is = rw is refl

    of : FieldValue → Result Next CommandFault
    of v = Ok (v, (field_of k bytes).1)

    ends : IsTrue (is_kept k) ⊎ IsTrue (is_rest k)
        → IsTrue (is_kept k) ⊎ (IsTrue (is_rest k) × ((field_of k bytes).1 ≡ None))
    ends (inl kept) = inl kept
    ends (inr rest) = inr (rest, none rest)

    step : (o : Option FieldValue) → TakesForValue k o
        → TakesForNext k index (ok_or o (fault.BadField index) >>= of)
    step None h = (h, refl)
    step (Some v) h = (h.0, ends h.1)

-- ---- what is read of fields

-- the values, or a field at fault, which is no earlier one than this
abbrev pub IsFrom : {A : Type 0} → ℕ → Result A CommandFault → Type 0
IsFrom index (Ok x) = Unit {0}
IsFrom index (Err (fault.BadField i)) = index ≤ i
IsFrom index _ = ⊥

then : {A B : Type 0} (index : ℕ) (r : Result A CommandFault) (f : A → Result B CommandFault)
    → IsFrom index r → ((x : A) → IsFrom index (f x)) → IsFrom index (r >>= f)
then index (Ok x) f h each = each x
then index (Err (fault.BadField i)) f h each = h
then index (Err fault.TooLong) f h each = absurd h
then index (Err fault.NotACommand) f h each = absurd h
then index (Err fault.NoMemory) f h each = absurd h

pub later : {A : Type 0} (index : ℕ) (r : Result A CommandFault) → IsFrom (index + 1) r
    → IsFrom index r
later index (Ok x) h = tt
later index (Err (fault.BadField i)) h = omega arith
later index (Err fault.TooLong) h = absurd h
later index (Err fault.NotACommand) h = absurd h
later index (Err fault.NoMemory) h = absurd h

given : {A : Type 0} (o : Option A) (index : ℕ)
    → IsFrom index (ok_or o (let e : CommandFault = fault.BadField index in e))
given None index = omega arith
given (Some x) index = tt

next_from : (stands : ℕ) (k : FieldKind) (index : ℕ) (left : Option (List ℕ))
    → IsFrom index (next_of stands k index left)
next_from stands k index None = omega arith
next_from stands k index (Some bytes) =
    then index _ _ (given (value_of stands k (field_of k bytes).0) index) (λ v. tt)

none_from : (index : ℕ) (left : Option (List ℕ)) → IsFrom index (no_field index left)
none_from index None = tt
none_from index (Some bytes) = omega arith

pub values_from : (stands : ℕ) (ks : List FieldKind) (index : ℕ) (left : Option (List ℕ))
    → IsFrom index (values_of stands ks index left)
values_from stands [] index left = then index _ _ (none_from index left) (λ end. tt)
values_from stands (k ∷ ks) index left =
    then index _ _ (next_from stands k index left)
    (λ n. then index _ _
    (later index _ (values_from (standing stands n.0) ks (index + 1) n.1)) (λ more. tt))

-- ---- all fields

-- of two fields in front the first is not the rest
first_part : (k j : FieldKind) (ks : List FieldKind) → is_rest_last (k ∷ j ∷ ks) ≡ true
    → (is_rest k ≡ false) × (is_rest_last (j ∷ ks) ≡ true)
first_part k j ks last =
    let both = and-true (not (is_rest k)) (is_rest_last (j ∷ ks)) last in
    (not-true _ both.0, both.1)

-- nothing is after a field that is the rest
nothing_after : (ks : List FieldKind) (i : ℕ) (k : FieldKind) (rest : List FieldKind)
    → is_rest_last ks ≡ true → drop i ks ≡ k ∷ rest → is_rest k ≡ true → rest ≡ []
nothing_after [] zero k rest last at is = absurd (let bad : [] ≡ k ∷ rest = at in cc)
nothing_after [] (suc i) k rest last at is = absurd (let bad : [] ≡ k ∷ rest = at in cc)
nothing_after (j ∷ []) zero k rest last at is = cc
nothing_after (j ∷ []) (suc i) k rest last at is = nothing_after [] i k rest last at is
nothing_after (j ∷ l ∷ ks) zero k rest last at is =
    let same : j ≡ k = cc in
    absurd (false≢true (sym (first_part j l ks last).0 ∙ ap is_rest same ∙ is))
nothing_after (j ∷ l ∷ ks) (suc i) k rest last at is =
    nothing_after (l ∷ ks) i k rest (first_part j l ks last).1 at is

-- there is a first field that memory is taken for while it is read, and it is no later than this
abbrev KeptBy : List FieldKind → ℕ → ℕ → Type 0
KeptBy ks index i = (0 < kept_at index ks) × (kept_at index ks ≤ i)

kept_here : (ks : List FieldKind) (index i : ℕ) (k : FieldKind) (rest : List FieldKind)
    → 0 < index → drop i ks ≡ k ∷ rest → is_kept k ≡ true → KeptBy ks index (index + i)
kept_here [] index zero k rest some at is = absurd (let bad : [] ≡ k ∷ rest = at in cc)
kept_here [] index (suc i) k rest some at is = absurd (let bad : [] ≡ k ∷ rest = at in cc)
kept_here (j ∷ ks) index zero k rest some at is =
    let same : j ≡ k = cc in
    let here : is_kept j ≡ true = ap is_kept same ∙ is in
    rw here (some, omega arith)
kept_here (j ∷ ks) index (suc i) k rest some at is =
    step (is_kept j) (kept_here ks (index + 1) i k rest (omega arith) at is)
  where
    step : (b : Bool) → KeptBy ks (index + 1) (index + 1 + i)
        → (let n : ℕ = cond b index (kept_at (index + 1) ks) in (0 < n) × (n ≤ index + suc i))
    step true h = (some, omega arith)
    step false h = (h.0, let few = h.1 in omega arith)

any_among : (vs ws : List FieldValue) (v : FieldValue) → takes_memory v ≡ true
    → list_any takes_memory (vs ++ v ∷ ws) ≡ true
any_among [] ws v h = rw h refl
any_among (w ∷ vs) ws v h = step (takes_memory w) (any_among vs ws v h)
  where
    step : (b : Bool) → list_any takes_memory (vs ++ v ∷ ws) ≡ true
        → (b || list_any takes_memory (vs ++ v ∷ ws)) ≡ true
    step true later = refl
    step false later = later

-- a field was read, and memory ran out for it: nothing is left, or it is one that memory is taken
-- for while it is read
ended : (ks rest : List FieldKind) (stands index : ℕ) (vs : List FieldValue) (n : Next) → rest ≡ []
    → n.1 ≡ None → takes_memory n.0 ≡ true
    → TakesForValues ks
    (after vs (values_of stands rest (index + 1) n.1 >>= (λ more. Ok (n.0 ∷ more))))
ended ks rest stands index vs n none end takes =
    rw (none, end) (any_among vs [] n.0 takes)

kept_on : (ks rest : List FieldKind) (stands index : ℕ) (vs : List FieldValue) (n : Next)
    → KeptBy ks 1 index → takes_memory n.0 ≡ true
    → TakesForValues ks
    (after vs (values_of stands rest (index + 1) n.1 >>= (λ more. Ok (n.0 ∷ more))))
kept_on ks rest stands index vs n kept takes =
    step (values_of stands rest (index + 1) n.1) (values_from stands rest (index + 1) n.1)
  where
    step : (r : Result (List FieldValue) CommandFault) → IsFrom (index + 1) r
        → TakesForValues ks (after vs (r >>= (λ more. Ok (n.0 ∷ more))))
    step (Ok more) h = any_among vs more n.0 takes
    step (Err (fault.BadField i)) h = (kept.0, let few = kept.1 in omega (arith, few, h))
    step (Err fault.TooLong) h = absurd h
    step (Err fault.NotACommand) h = absurd h
    step (Err fault.NoMemory) h = absurd h

-- where the reading of fields stops at one of them
pub stops : {X : Type 0} (view : X → List FieldValue) (ks : List FieldKind) (i index stands : ℕ)
    (k : FieldKind) (rest : List FieldKind) (vs : List FieldValue) (left ahead : Option (List ℕ))
    (e : CommandFault)
    → is_rest_last ks ≡ true → drop i ks ≡ k ∷ rest → index ≡ i + 1
    → values_of 0 ks 1 left ≡ after vs (values_of stands (drop i ks) index ahead)
    → GivesNext k index (Err e) (next_of stands k index ahead)
    → GivesValues view ks (Err e) (values_of 0 ks 1 left)
stops view ks i index stands k rest vs left ahead e last at place so_far h =
    subst (GivesValues view ks (Err e)) (sym so_far) (given_so e h)
  where
    onward : Next → Result (List FieldValue) CommandFault
    onward next =
        values_of (standing stands next.0) rest (index + 1) next.1 >>= (λ more. Ok (next.0 ∷ more))

    said : Result Next CommandFault → Result (List FieldValue) CommandFault
    said r = after vs (r >>= onward)

    whole : said (next_of stands k index ahead)
        ≡ after vs (values_of stands (drop i ks) index ahead)
    whole = ap (λ js. after vs (values_of stands js index ahead)) (sym at)

    kept : is_kept k ≡ true → KeptBy ks 1 index
    kept is =
        let here = kept_here ks 1 i k rest (omega arith) at is in
        (here.0, let few = here.1 in omega (arith, few, place))

    taken : (r : Result Next CommandFault) → TakesForNext k index r → TakesForValues ks (said r)
    taken (Ok n) t = by_kind n t.0 t.1
      where
        by_kind : (n : Next) → takes_memory n.0 ≡ true
            → IsTrue (is_kept k) ⊎ (IsTrue (is_rest k) × (n.1 ≡ None))
            → TakesForValues ks (said (Ok n))
        by_kind n takes (inl is) = kept_on ks rest (standing stands n.0) index vs n (kept is) takes
        by_kind n takes (inr end) =
            ended ks rest (standing stands n.0) index vs n
            (nothing_after ks i k rest last at end.0) end.1 takes
    taken (Err f) t =
        subst (λ (f : CommandFault). TakesForValues ks (said (Err f))) (sym t.1) (kept t.0)

    given_so : (e : CommandFault) → GivesNext k index (Err e) (next_of stands k index ahead)
        → GivesValues view ks (Err e) (after vs (values_of stands (drop i ks) index ahead))
    given_so fault.NoMemory h =
        subst (TakesForValues ks) whole (taken (next_of stands k index ahead) h)
    given_so _ h = sym whole ∙ ap said h

-- ---- before a remark

-- memory is taken for a field while it is read, where it has no ` # `
kept_value : (stands : ℕ) (k : FieldKind) (v : FieldValue) → may_have_mark k ≡ false
    → Fits stands k v → takes_memory v ≡ true → is_kept k ≡ true
kept_value stands kind.Moves _ plain fits takes = refl
kept_value stands kind.Outcome _ plain fits takes = refl
kept_value stands kind.Was _ plain fits takes = refl
kept_value stands kind.Now _ plain fits takes = refl
kept_value stands kind.Name _ plain fits takes = absurd (false≢true (sym plain))
kept_value stands kind.NewName _ plain fits takes = absurd (false≢true (sym plain))
kept_value stands kind.Number (value.Number n) plain fits takes = absurd (false≢true takes)
kept_value stands kind.Event (value.Event event) plain fits takes = absurd (false≢true takes)
kept_value stands kind.Round (value.Round n) plain fits takes = absurd (false≢true takes)
kept_value stands kind.Format (value.Format form) plain fits takes = absurd (false≢true takes)
kept_value stands kind.Cutoff (value.Cutoff cutoff) plain fits takes = absurd (false≢true takes)
kept_value stands kind.Limit (value.Limit limit) plain fits takes = absurd (false≢true takes)
kept_value stands kind.Advance (value.Advance a) plain fits takes = absurd (false≢true takes)
kept_value stands kind.Attempt (value.Attempt n) plain fits takes = absurd (false≢true takes)
kept_value stands kind.Edition (value.Edition n) plain fits takes = absurd (false≢true takes)
kept_value _ _ _ plain fits takes = absurd fits

-- where memory was taken for one of such fields, the first one is among them
pub kept_fields : (stands index : ℕ) (ks : List FieldKind) (vs : List FieldValue)
    → 0 < index → AllFit stands ks vs → list_any may_have_mark ks ≡ false
    → list_any takes_memory vs ≡ true
    → (0 < kept_at index ks) × (kept_at index ks ≤ index + length ks)
kept_fields stands index [] [] some fits plain takes = absurd (false≢true takes)
kept_fields stands index [] (v ∷ vs) some fits plain takes = absurd fits
kept_fields stands index (k ∷ ks) [] some fits plain takes = absurd fits
kept_fields stands index (k ∷ ks) (v ∷ vs) some fits plain takes =
    step (takes_memory v) refl
    (λ h. kept_fields (standing stands v) (index + 1) ks vs (omega arith) fits.1 both.1 h) takes
  where
    both : (may_have_mark k ≡ false) × (list_any may_have_mark ks ≡ false)
    both = or-false (may_have_mark k) (list_any may_have_mark ks) plain

    here : (b : Bool)
        → (0 < kept_at (index + 1) ks) × (kept_at (index + 1) ks ≤ index + 1 + length ks)
        → (let n : ℕ = cond b index (kept_at (index + 1) ks) in
        (0 < n) × (n ≤ index + length (k ∷ ks)))
    here true h = (some, omega arith)
    here false h = (h.0, let few = h.1 in omega (arith, few))

    step : (b : Bool) → takes_memory v ≡ b
        → (list_any takes_memory vs ≡ true
        → (0 < kept_at (index + 1) ks) × (kept_at (index + 1) ks ≤ index + 1 + length ks))
        → (b || list_any takes_memory vs) ≡ true
        → (0 < kept_at index (k ∷ ks)) × (kept_at index (k ∷ ks) ≤ index + length (k ∷ ks))
    step true is more h = rw (kept_value stands k v both.0 fits.0 is) (some, omega arith)
    step false is more h = here (is_kept k) (more h)
