-- Looking up what commands say, after one more command.
use Rattle.std.proofs.Common.{◌≡◌, ℕ, zero, suc, List, [], ◌∷◌, ◌++◌, length, slice_get, Option}
use Rattle.std.proofs.Common.{Some, None, option_map, is_some, unwrap_or, Bool, true, false, cond}
use Rattle.std.proofs.Common.{Result, Ok, Err, OnErr, ap, ◌∙◌, refl, sym}
use Rattle.std.specs.Option.{option_or, option_and_then}
use Rattle.std.proofs.lemmas.Bool.{false≢true}
use Rattle.texts.specs.declared.command.Command.{Command}
use Rattle.commands.specs.Accepted.{last_of, standing}

pub or_assoc : {X : Type 0} (a b c : Option X)
    → option_or a (option_or b c) ≡ option_or (option_or a b) c
or_assoc None b c = refl
or_assoc (Some x) b c = refl

pub or_none : {X : Type 0} (a : Option X) → option_or a None ≡ a
or_none None = refl
or_none (Some x) = refl

pub none_from : {X : Type 0} (o : Option X) → is_some o ≡ false → o ≡ None
none_from None h = refl
none_from (Some x) h = absurd (false≢true (sym h))

-- nothing, either way
pub none_either : {X : Type 0} (b : Bool) (x : Option X) → x ≡ None → x ≡ cond b None x
none_either true x is = is
none_either false x is = refl

-- what is asked of one of two
pub of_either : {X Y : Type 0} (f : X → Y) (b : Bool) (x y : X)
    → f (cond b x y) ≡ cond b (f x) (f y)
of_either f true x y = refl
of_either f false x y = refl

pub some≢none : {X : Type 0} (x : X) → Some x ≡ None → ⊥
some≢none x h = false≢true (sym (ap is_some h))

-- what holds whatever is answered holds where memory ran out
pub on_err : {T E P : Type 0} (r : Result T E) → P → OnErr r P
on_err (Ok x) p = tt
on_err (Err e) p = p

pub last_push : {X : Type 0} (f : Command → Option X) (cs : List Command) (c : Command)
    → last_of f (cs ++ c ∷ []) ≡ option_or (f c) (last_of f cs)
last_push f [] c = sym (or_none (f c))
last_push f (d ∷ ds) c =
    ap (λ o. option_or o (f d)) (last_push f ds c) ∙ sym (or_assoc (f c) (last_of f ds) (f d))

-- what is after one more command: what it puts in the place of what stood, or what it gives where
-- nothing did
abbrev pub stands : {X : Type 0} → Option X → Option X → Option X → Option X
stands given other None = given
stands given other (Some x) = Some (unwrap_or other x)

pub standing_push : {X : Type 0} (given other : Command → Option X) (cs : List Command)
    (c : Command)
    → standing given other (cs ++ c ∷ []) ≡ stands (given c) (other c) (standing given other cs)
standing_push {X} given other [] c = step (given c)
  where
    step : (o : Option X) → option_or (option_map (unwrap_or None) o) None ≡ o
    step None = refl
    step (Some x) = refl
standing_push {X} given other (d ∷ ds) c =
    ap (λ o. option_or (option_map (unwrap_or o) (given d)) (standing given other (ds ++ c ∷ [])))
    (last_push other ds c)
    ∙ step (given d) (other c) (standing_push given other ds c)
  where
    later : (o l : Option X) (x : X) → unwrap_or (option_or o l) x ≡ unwrap_or o (unwrap_or l x)
    later None l x = refl
    later (Some y) l x = refl

    step : (o p : Option X)
        → standing given other (ds ++ c ∷ []) ≡ stands (given c) p (standing given other ds)
        → option_or (option_map (unwrap_or (option_or p (last_of other ds))) o)
        (standing given other (ds ++ c ∷ [])) ≡ stands (given c) p
        (option_or (option_map (unwrap_or (last_of other ds)) o) (standing given other ds))
    step None p h = h
    step (Some x) p h = ap Some (later p (last_of other ds) x)

-- a command that says neither leaves what counts
pub standing_kept : {X : Type 0} (given other : Command → Option X) (cs : List Command)
    (c : Command) → given c ≡ None → other c ≡ None
    → standing given other (cs ++ c ∷ []) ≡ standing given other cs
standing_kept {X} given other cs c none same =
    standing_push given other cs c ∙ rw (none, same) (step (standing given other cs))
  where
    step : (o : Option X) → stands None None o ≡ o
    step None = refl
    step (Some x) = refl

pub at_end : (cs : List Command) (c : Command) → slice_get (cs ++ c ∷ []) (length cs) ≡ Some c
at_end [] c = refl
at_end (d ∷ ds) c = at_end ds c

-- a command that does not say it changes no look-up of it
said_push : {X : Type 0} (f : Command → Option X) (cs : List Command) (c : Command) (i : ℕ)
    → f c ≡ None
    → option_and_then f (slice_get (cs ++ c ∷ []) i) ≡ option_and_then f (slice_get cs i)
said_push f [] c zero none = none
said_push f [] c (suc i) none = refl
said_push f (d ∷ ds) c zero none = refl
said_push f (d ∷ ds) c (suc i) none = said_push f ds c i none

pub found_push : {X : Type 0} (f : Command → Option X) (cs : List Command) (c : Command)
    (place : Option ℕ) → f c ≡ None
    → option_and_then (λ (i : ℕ). option_and_then f (slice_get (cs ++ c ∷ []) i)) place
    ≡ option_and_then (λ (i : ℕ). option_and_then f (slice_get cs i)) place
found_push f cs c None none = refl
found_push f cs c (Some i) none = said_push f cs c i none
