-- A name is of one event or of one format, and a number of one event.
use Rattle.std.proofs.Common.{◌≡◌, ◌↔◌, refl, ap, subst, sym, ℕ, Bool, true, false, cond, List, []}
use Rattle.std.proofs.Common.{◌∷◌, Option, Some, unwrap_or, bytes_eq, find, ◌==◌, eqb-true}
use Rattle.std.proofs.lemmas.Slice.Eq.{bytes_eq-Decides}
use Rattle.formats.specs.declared.events.Event.{Event, TheVariants.Cube3}
use Rattle.formats.specs.declared.events.Format.{Format, TheVariants.Ao5}
use Rattle.formats.specs.Events.{all_events, event_name, event_of_name, event_number}
use Rattle.formats.specs.Events.{event_of_number, formats, format_name, format_named}

found_first : {X : Type 0} (p : X → Bool) (x y : X) (rest : Option X) (b : Bool) → p x ≡ b
    → (rest ≡ Some y → p y ≡ true) → cond b (Some x) rest ≡ Some y → p y ≡ true
found_first p x y rest true e later h = subst (λ z. p z ≡ true) (ap (λ o. unwrap_or o x) h) e
found_first p x y rest false e later h = later h

-- what is found passes the test
find-passes : {X : Type 0} (p : X → Bool) (xs : List X) (y : X) → find p xs ≡ Some y → p y ≡ true
find-passes p [] y h = cc
find-passes p (x ∷ xs) y h = found_first p x y (find p xs) (p x) refl (find-passes p xs y) h

equal_bytes : (xs ys : List ℕ) → bytes_eq xs ys ≡ true → xs ≡ ys
equal_bytes xs ys h = (bytes_eq-Decides xs ys).0 h

event_of_name-event_name : (e : Event) → event_of_name (event_name e) ≡ Some e
unfolding event_of_name
event_of_name-event_name Cube3 = refl
event_of_name-event_name _ = refl

event_of_name-found : (text : List ℕ) (e : Event) → event_of_name text ≡ Some e → text
    ≡ event_name e
unfolding event_of_name
event_of_name-found text e h =
    sym (equal_bytes (event_name e) text
    (find-passes (λ event. bytes_eq (event_name event) text) all_events e h))

event_of_name-name : (text : List ℕ) (e : Event) → text ≡ event_name e → event_of_name text ≡ Some e
event_of_name-name text e h =
    subst (λ name. event_of_name name ≡ Some e) (sym h) (event_of_name-event_name e)

-- a text names the event just where it is the event's name
pub only_name-event : (e : Event) (text : List ℕ) → (event_of_name text ≡ Some e)
    ↔ (text ≡ event_name e)
only_name-event e text = (event_of_name-found text e, event_of_name-name text e)

pub ruleset event_names = only_name-event

event_of_number-event_number : (e : Event) → event_of_number (event_number e) ≡ Some e
unfolding event_of_number
event_of_number-event_number Cube3 = refl
event_of_number-event_number _ = refl

event_of_number-found : (number : ℕ) (e : Event) → event_of_number number ≡ Some e
    → number ≡ event_number e
unfolding event_of_number
event_of_number-found number e h =
    sym (eqb-true (event_number e) number
    (find-passes (λ event. event_number event == number) all_events e h))

event_of_number-number : (number : ℕ) (e : Event) → number ≡ event_number e
    → event_of_number number ≡ Some e
event_of_number-number number e h =
    subst (λ n. event_of_number n ≡ Some e) (sym h) (event_of_number-event_number e)

-- a number is an event's just where it is the number of the event
pub only_number-event : (e : Event) (number : ℕ) → (event_of_number number ≡ Some e)
    ↔ (number ≡ event_number e)
only_number-event e number = (event_of_number-found number e, event_of_number-number number e)

pub ruleset event_numbers = only_number-event

format_named-format_name : (f : Format) → format_named (format_name f) ≡ Some f
unfolding format_named
format_named-format_name Ao5 = refl
format_named-format_name _ = refl

format_named-found : (text : List ℕ) (f : Format) → format_named text ≡ Some f
    → text ≡ format_name f
unfolding format_named
format_named-found text f h =
    sym (equal_bytes (format_name f) text
    (find-passes (λ format. bytes_eq (format_name format) text) formats f h))

format_named-name : (text : List ℕ) (f : Format) → text ≡ format_name f → format_named text ≡ Some f
format_named-name text f h =
    subst (λ name. format_named name ≡ Some f) (sym h) (format_named-format_name f)

-- a text names the format just where it is the format's name
pub only_name-format : (f : Format) (text : List ℕ) → (format_named text ≡ Some f)
    ↔ (text ≡ format_name f)
only_name-format f text = (format_named-found text f, format_named-name text f)

pub ruleset format_names = only_name-format
