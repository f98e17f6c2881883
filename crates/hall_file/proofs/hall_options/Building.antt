-- Options as they are built, step by step.
use Rattle.std.proofs.Common.{◌≡◌, ◌+◌, ◌++◌, ◌∷◌, ◌&&◌, ◌∙◌, [], ap, arith, false, length, refl}
use Rattle.std.proofs.Common.{true, not, Bool, Bor, List, map, max, ℕ, Option, None, Some, subst}
use Rattle.std.{proofs.Common.option_map, proofs.Common.sym, specs.Prelude.IsSomeAnd}
use Rattle.std.proofs.lemmas.{Bool.ne_eqb, List.length-append, List.map-append}
use Rattle.clap.specs.{Adds.AddsConflicts, Adds.AddsRequirements, Walk.is_empty, Walk.is_free_arg}
use Rattle.clap.specs.Words.{Rule, Text, items_of, rule_of}
use Rattle.clap.specs.declared.builder.arg.{Arg.Arg, ArgPredicate.TheVariants.IsPresent}
use Rattle.clap.specs.declared.builder.range.ValueRange.{ValueRange}
use Rattle.hall_file.specs.hall_options.Options.{Described, IsOption, bound, condition_of}
use Rattle.hall_file.specs.hall_options.Options.{excluding, needing, up_to_five, whenever_used}

never_empty : {X : Type 0} (xs : List X) (x : X) → is_empty (xs ++ x ∷ []) ≡ false
never_empty xs x = ne_eqb (length (xs ++ x ∷ [])) 0 (λ none.
    let more : length (xs ++ x ∷ []) ≡ length xs + 1 = length-append xs (x ∷ []) in
    omega (arith, none, more))

and_false : (b : Bool) → (b && false) ≡ false
and_false true = refl
and_false false = refl

now_bound : (old new : Arg) → rule_of new ≡ record (rule_of old) { is_free = is_free_arg new }
    → is_free_arg new ≡ false → rule_of new ≡ bound (rule_of old)
now_bound old new is free = is ∙ ap (λ f. record (rule_of old) { is_free = f }) free

-- one more that it excludes
pub excludes : (d : Described) (old new : Arg) (other : Bor Text) → IsOption d old
    → AddsConflicts old new (other ∷ []) → IsOption (excluding (d.excluded ++ other.now ∷ []) d) new
excludes d old new other is adds =
    let some : is_empty new.conflicts.items ≡ false =
    ap is_empty adds.1 ∙ never_empty old.conflicts.items other in
    let free : is_free_arg new ≡ false = rw some (and_false (not new.exclusive)) in
    record {
      rule =
          now_bound old new
          (ap (λ (r : Rule). record r { is_free = is_free_arg new }) (ap rule_of adds.0)) free
          ∙ ap bound is.rule;
      name = ap (λ (a : Arg). map (λ t. t.now) (items_of a.val_names)) adds.0 ∙ is.name;
      help = ap (λ (a : Arg). option_map (λ t. t.now) a.help) adds.0 ∙ is.help;
      excluded =
          ap (map (λ t. t.now)) adds.1 ∙ map-append (λ t. t.now) old.conflicts.items (other ∷ [])
          ∙ ap (λ xs. xs ++ other.now ∷ []) is.excluded;
      needed = ap (λ (a : Arg). map condition_of a.needs.items) adds.0 ∙ is.needed;
      local = ap (λ (a : Arg). a.global) adds.0 ∙ is.local;
    }

-- one more that it needs
pub needs : (d : Described) (old new : Arg) (other : Bor Text) → IsOption d old
    → AddsRequirements old new ((IsPresent, other) ∷ [])
    → IsOption (needing (d.needed ++ other.now ∷ []) d) new
needs d old new other is adds =
    let some : is_empty new.needs.items ≡ false =
    ap is_empty adds.1 ∙ never_empty old.needs.items (IsPresent, other) in
    let free : is_free_arg new ≡ false =
    rw some (ap (λ b. not new.exclusive && b) (and_false (is_empty new.conflicts.items))
    ∙ and_false (not new.exclusive)) in
    record {
      rule =
          now_bound old new
          (ap (λ (r : Rule). record r { is_free = is_free_arg new }) (ap rule_of adds.0)) free
          ∙ ap bound is.rule;
      name = ap (λ (a : Arg). map (λ t. t.now) (items_of a.val_names)) adds.0 ∙ is.name;
      help = ap (λ (a : Arg). option_map (λ t. t.now) a.help) adds.0 ∙ is.help;
      excluded = ap (λ (a : Arg). map (λ t. t.now) a.conflicts.items) adds.0 ∙ is.excluded;
      needed =
          ap (map condition_of) adds.1
          ∙ map-append condition_of old.needs.items ((IsPresent, other) ∷ [])
          ∙ ap (λ xs. xs ++ (IsPresent, other.now) ∷ []) is.needed
          ∙ sym (map-append whenever_used d.needed (other.now ∷ []));
      local = ap (λ (a : Arg). a.global) adds.0 ∙ is.local;
    }

some_and : (o : Option ValueRange) (r : ValueRange) → IsSomeAnd o (λ x. x ≡ r) → o ≡ Some r
some_and None r h = absurd h
some_and (Some x) r h = ap (λ y. Some y) h

-- it gets one to five values
pub grows : (d : Described) (old new : Arg) (first last : ℕ) → IsOption d old
    → first ≡ 1 → last ≡ 5 → new ≡ record old { num_vals = new.num_vals } → IsSomeAnd new.num_vals
    (λ r. r ≡ record { start_inclusive = first; end_inclusive = max last first })
    → IsOption (up_to_five d) new
grows d old new first last is begins ends same given =
    let P : ℕ → ℕ → Type 0 =
    λ m n. IsSomeAnd new.num_vals
    (λ r. r ≡ record { start_inclusive = m; end_inclusive = max n m }) in
    let range : new.num_vals ≡ Some (record { start_inclusive = 1; end_inclusive = 5 }) =
    some_and new.num_vals _ (subst (λ n. P 1 n) ends (subst (λ m. P m last) begins given)) in
    record {
      rule =
          ap rule_of same ∙ ap (λ range. record (rule_of old) { range = range }) range
          ∙ ap (λ (r : Rule). record r {
            range = Some (record { start_inclusive = 1; end_inclusive = 5 });
          }) is.rule;
      name = ap (λ (a : Arg). map (λ t. t.now) (items_of a.val_names)) same ∙ is.name;
      help = ap (λ (a : Arg). option_map (λ t. t.now) a.help) same ∙ is.help;
      excluded = ap (λ (a : Arg). map (λ t. t.now) a.conflicts.items) same ∙ is.excluded;
      needed = ap (λ (a : Arg). map condition_of a.needs.items) same ∙ is.needed;
      local = ap (λ (a : Arg). a.global) same ∙ is.local;
    }
