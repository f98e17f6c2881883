-- Arguments and subcommands that tables describe.
use Rattle.std.proofs.Common.{◌≡◌, ◌∙◌, ◌+◌, ◌<◌, ◌≤◌, ◌==◌, ◌++◌, ◌&&◌, [], ◌∷◌, ap, arith, refl}
use Rattle.std.proofs.Common.{sym, false, true, not, Bool, Bor, IfOk, List, ℕ, Result, Ok, Err, map}
use Rattle.std.proofs.Common.{drop, get_or, length}
use Rattle.std.{specs.List.fold, proofs.Math.Bool.and_comm, proofs.lemmas.Bool.ne_eqb}
use Rattle.std.proofs.lemmas.List.{length-map, at_drop_all, at_drop_more}
use Rattle.clap.specs.{Adds.AddsConflicts, Adds.AddsRequirements, Walk.is_empty, Walk.is_free_arg}
use Rattle.clap.specs.Words.{App, Rule, app_of, rule_of, with_subcommand}
use Rattle.clap.specs.declared.builder.arg.{Arg.Arg, ArgPredicate.ArgPredicate}
use Rattle.clap.specs.declared.builder.command.Command.{Command, TheViews.out-Command as fields_of}
use Rattle.arguments.specs.{Arguments.IsCommand, Tables.bound_rule}
use Rattle.arguments.specs.declared.described.Argument.{Argument}

-- ---- one after the other

pub fold_on : {A : Type 0} (f : App → A → App) (before old new : App) (xs : List A) (i : ℕ) (d : A)
    → i < length xs → fold f old (drop i xs) ≡ fold f before xs → new ≡ f old (get_or xs i d)
    → fold f new (drop (i + 1) xs) ≡ fold f before xs
fold_on f before old new xs i d within h is =
    ap (λ app. fold f app (drop (i + 1) xs)) is ∙ sym (at_drop_more (fold f old) xs i d within) ∙ h

pub fold_all : {A : Type 0} (f : App → A → App) (before old : App) (xs : List A) (i : ℕ)
    → length xs ≤ i → fold f old (drop i xs) ≡ fold f before xs → old ≡ fold f before xs
fold_all f before old xs i ended h = sym (at_drop_all (fold f old) xs i ended) ∙ h

pub grown : {E : Type 0} (r : Result Command E) (old : Command) (app : App) (f : App → App)
    → IsCommand old app → IfOk r (λ c. app_of c ≡ f (app_of old))
    → IfOk r (λ c. (fields_of c).has_globals ≡ (fields_of old).has_globals)
    → IfOk r (λ c. IsCommand c (f app))
grown (Ok new) old app f h is local = (is ∙ ap f h.0, local ∙ h.1)
grown (Err e) old app f h is local = tt

abbrev pub on : App → App → App
on sub app = with_subcommand app sub.top

-- ---- arguments that bind others

one_out : (a b x r : Bool) → (a && ((b && x) && r)) ≡ ((a && (b && r)) && x)
one_out false b x r = refl
one_out true false x r = refl
one_out true true x r = and_comm x r

two_out : (a b c x r : Bool) → (a && (b && ((c && x) && r))) ≡ ((a && (b && (c && r))) && x)
two_out false b c x r = refl
two_out true b c x r = one_out b c x r

some_there : {X : Type 0} (x : X) (xs : List X) → is_empty (x ∷ xs) ≡ false
some_there x xs =
    let some : 1 ≤ length (x ∷ xs) = omega arith in
    ne_eqb (length (x ∷ xs)) 0 (λ none. omega (arith, some, none))

empty_append : {X : Type 0} (xs ys : List X) → is_empty (xs ++ ys) ≡ (is_empty xs && is_empty ys)
empty_append [] ys = refl
empty_append (x ∷ xs) ys =
    some_there x (xs ++ ys) ∙ sym (ap (λ b. b && is_empty ys) (some_there x xs))

excluded : (old new : Arg) (others : List (Bor (List ℕ))) → AddsConflicts old new others
    → rule_of new ≡ record (rule_of old) { is_free = is_free_arg old && is_empty others }
excluded old new others h =
    let rest : Bool =
    is_empty old.needs.items && (is_empty old.r_ifs.items && (is_empty old.r_ifs_all.items
    && (is_empty old.r_unless.items && is_empty old.r_unless_all.items))) in
    let free : is_free_arg new ≡ (is_free_arg old && is_empty others) =
    ap is_free_arg h.0 ∙ ap (λ e. not old.exclusive && (e && rest))
    (ap is_empty h.1 ∙ empty_append old.conflicts.items others)
    ∙ one_out (not old.exclusive) (is_empty old.conflicts.items) (is_empty others) rest in
    ap (λ (r : Rule). record r { is_free = is_free_arg new }) (ap rule_of h.0)
    ∙ ap (λ free. record (rule_of old) { is_free = free }) free

needing : (old new : Arg) (others : List (ArgPredicate × Bor (List ℕ)))
    → AddsRequirements old new others
    → rule_of new ≡ record (rule_of old) { is_free = is_free_arg old && is_empty others }
needing old new others h =
    let rest : Bool =
    is_empty old.r_ifs.items && (is_empty old.r_ifs_all.items
    && (is_empty old.r_unless.items && is_empty old.r_unless_all.items)) in
    let free : is_free_arg new ≡ (is_free_arg old && is_empty others) =
    ap is_free_arg h.0
    ∙ ap (λ e. not old.exclusive && (is_empty old.conflicts.items && (e && rest)))
    (ap is_empty h.1 ∙ empty_append old.needs.items others)
    ∙ two_out (not old.exclusive) (is_empty old.conflicts.items) (is_empty old.needs.items)
    (is_empty others) rest in
    ap (λ (r : Rule). record r { is_free = is_free_arg new }) (ap rule_of h.0)
    ∙ ap (λ free. record (rule_of old) { is_free = free }) free

pub bound : (a : Argument) (r : Rule) (first plain alone last : Arg)
    (named : Bor (List ℕ) → ArgPredicate × Bor (List ℕ))
    → rule_of first ≡ r → plain ≡ record first { required = a.required }
    → AddsConflicts plain alone a.without.now → AddsRequirements alone last (map named a.needs.now)
    → rule_of last ≡ bound_rule a r
bound a r first plain alone last named is required conflicts needs =
    let one : rule_of plain ≡ record r { required = a.required } =
    ap rule_of required ∙ ap (λ (r : Rule). record r { required = a.required }) is in
    let two : rule_of alone ≡
    record r { required = a.required; is_free = r.is_free && is_empty a.without.now } =
    excluded plain alone a.without.now conflicts
    ∙ ap (λ (r : Rule). record r { is_free = r.is_free && is_empty a.without.now }) one in
    needing alone last (map named a.needs.now) needs
    ∙ ap (λ (r : Rule). record r { is_free = r.is_free && is_empty (map named a.needs.now) }) two
    ∙ ap (λ n. record r {
      required = a.required;
      is_free = (r.is_free && is_empty a.without.now) && (n == 0);
    }) (length-map a.needs.now named)
