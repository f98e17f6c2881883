-- The id of a round is of no other round.
use Rattle.std.proofs.Common.{◌≡◌, refl, sym, ap, ◌∙◌, ℕ, zero, suc, ◌<◌, ◌≤◌, Bool, true, false}
use Rattle.std.proofs.Common.{cond, ◌==◌, ◌||◌, List, [], ◌∷◌, ◌++◌, length, flat_map, find, codes}
use Rattle.std.proofs.Common.{decimal, bytes_eq, arith, Option, Some, None, unwrap_or, subst}
use Rattle.std.proofs.{Common.length-append, Common.option_map, lemmas.Fmt.digits_value-decimal}
use Rattle.std.{proofs.Common.eqb-true, specs.Str.Parse.digits_value, specs.Str.Parse.AllDigits}
use Rattle.wcif.{proofs.Found.found_by, proofs.Found.found_some, specs.Rounds.round_id}
use Rattle.std.proofs.lemmas.{Slice.Eq.bytes_eq-Decides, List.Folds.list_any-append}
use Rattle.std.specs.{Prelude.option_to_list, List.list_any, List.AllByRecursion}
use Rattle.std.proofs.lemmas.Bool.{false≢true, or_left, or_right}
use Rattle.std.proofs.lemmas.Str.Parse.{IsNumeralModel, numerals_by_value, tells_digits}
use Rattle.formats.specs.declared.events.Event.{Event, TheVariants.Cube3}
use Rattle.formats.specs.Events.{all_events, event_name, same_event, event_of_name}
use Rattle.formats.proofs.{Naming.only_name-event, SameEvent.same_event-equal}
use Rattle.rounds.specs.Tables.{Table}
use Rattle.texts.specs.declared.command.{Command.Command, Settings.Settings}
use Rattle.commands.{specs.Accepted.round_of, proofs.Sizes.all_append, proofs.Sizes.all_flat_map}
use Rattle.wcif_results.specs.MeetRounds.{MeetRound, meet_round, round_at, round_numbers}
use Rattle.wcif_results.specs.MeetRounds.{event_rounds, meet_rounds, round_named}

pub own : IsNumeralModel (AllDigits 10) (digits_value 10)
own = numerals_by_value (AllDigits 10) tells_digits

-- The parts of an id

-- what is in front of the first dash, and behind it
abbrev front : List ℕ → List ℕ
front [] = []
front (x ∷ xs) = cond (x == 45) [] (x ∷ front xs)

abbrev back : List ℕ → List ℕ
back [] = []
back (x ∷ xs) = cond (x == 45) xs (back xs)

front_id : (e : Event) (n : ℕ) → front (round_id e n) ≡ event_name e
front_id Cube3 n = refl
front_id _ n = refl

back_id : (e : Event) (n : ℕ) → back (round_id e n) ≡ 114 ∷ decimal n
back_id Cube3 n = refl
back_id _ n = refl

pub id_nonempty : (e : Event) (n : ℕ) → 0 < length (round_id e n)
id_nonempty e n =
    omega (
      arith,
      length-append (event_name e ++ codes "-r") (decimal n),
      length-append (event_name e) (codes "-r"),
    )

same_name : (e f : Event) → event_name e ≡ event_name f → e ≡ f
same_name e f h =
    let one : event_of_name (event_name e) ≡ Some e = (only_name-event e (event_name e)).1 refl in
    let other : event_of_name (event_name e) ≡ Some f = (only_name-event f (event_name e)).1 h in
    let same : Some e ≡ Some f = sym one ∙ other in cc

id_event : (e f : Event) (m n : ℕ) → round_id e m ≡ round_id f n → e ≡ f
id_event e f m n h = same_name e f (sym (front_id e m) ∙ ap front h ∙ front_id f n)

id_number : (e f : Event) (m n : ℕ) → m ≤ 4 → n ≤ 4 → round_id e m ≡ round_id f n → m ≡ n
id_number e f m n few_m few_n h =
    let ids : 114 ∷ decimal m ≡ 114 ∷ decimal n = sym (back_id e m) ∙ ap back h ∙ back_id f n in
    let same : decimal m ≡ decimal n = cc in
    sym (digits_value-decimal own m (omega arith)) ∙ ap (digits_value 10) same
    ∙ digits_value-decimal own n (omega arith)

-- What a meet's rounds are

pub record IsRound (cs : List Command) (r : MeetRound) : Type 0 where
  pub settings : Settings
  pub opened : round_of cs r.event r.number ≡ Some (settings, r.table)
  pub id : r.id ≡ round_id r.event r.number
  pub few : r.number ≤ 4

of_round : (cs : List Command) (e : Event) (n : ℕ) (o : Option (Settings × Table)) → n ≤ 4
    → round_of cs e n ≡ o
    → AllByRecursion (IsRound cs) (option_to_list (option_map (meet_round e n) o))
of_round cs e n None few is = tt
of_round cs e n (Some x) few is =
    (record { settings = x.0; opened = is; id = refl; few = few }, tt)

at_number : (cs : List Command) (e : Event) (n : ℕ) → n ≤ 4
    → AllByRecursion (IsRound cs) (round_at cs e n)
at_number cs e n few = of_round cs e n (round_of cs e n) few refl

of_event : (cs : List Command) (e : Event) → AllByRecursion (IsRound cs) (event_rounds cs e)
of_event cs e =
    all_append (IsRound cs) (round_at cs e 1) _ (at_number cs e 1 (omega arith))
    (all_append (IsRound cs) (round_at cs e 2) _ (at_number cs e 2 (omega arith))
    (all_append (IsRound cs) (round_at cs e 3) _ (at_number cs e 3 (omega arith))
    (all_append (IsRound cs) (round_at cs e 4) _ (at_number cs e 4 (omega arith)) tt)))

pub are_rounds : (cs : List Command) → AllByRecursion (IsRound cs) (meet_rounds cs)
unfolding meet_rounds
are_rounds cs = all_flat_map (IsRound cs) (event_rounds cs) (of_event cs) all_events

-- A round that was opened is among them

any_flat_map : {X Y : Type 0} (p : Y → Bool) (f : X → List Y) (q : X → Bool)
    → ((x : X) → q x ≡ true → list_any p (f x) ≡ true) → (xs : List X) → list_any q xs ≡ true
    → list_any p (flat_map f xs) ≡ true
any_flat_map p f q each [] h = absurd (false≢true h)
any_flat_map {X} {Y} p f q each (x ∷ xs) h = go (q x) refl h (any_flat_map p f q each xs)
  where
    go : (b : Bool) → q x ≡ b → (b || list_any q xs) ≡ true
        → (list_any q xs ≡ true → list_any p (flat_map f xs) ≡ true)
        → list_any p (f x ++ flat_map f xs) ≡ true
    go true is h later = list_any-append p (f x) (flat_map f xs) ∙ or_left _ _ (each x is)
    go false is h later = list_any-append p (f x) (flat_map f xs) ∙ or_right _ _ (later h)

event_there : (e : Event) → list_any (λ f. same_event e f) all_events ≡ true
event_there Cube3 = refl
event_there _ = refl

number_there : (n : ℕ) → 1 ≤ n → n ≤ 4 → list_any (λ m. n == m) round_numbers ≡ true
number_there zero h k = absurd (omega arith)
number_there (suc zero) h k = refl
number_there (suc (suc zero)) h k = refl
number_there (suc (suc (suc zero))) h k = refl
number_there (suc (suc (suc (suc zero)))) h k = refl
number_there (suc (suc (suc (suc (suc n))))) h k = absurd (omega arith)

abbrev has_id : List ℕ → MeetRound → Bool
has_id id r = bytes_eq r.id id

at_its_number : (cs : List Command) (e : Event) (n : ℕ) (x : Settings × Table)
    → round_of cs e n ≡ Some x → list_any (has_id (round_id e n)) (round_at cs e n) ≡ true
at_its_number cs e n x is = rw (is, (bytes_eq-Decides (round_id e n) (round_id e n)).1 refl) refl

in_its_event : (cs : List Command) (e : Event) (n : ℕ) (x : Settings × Table) → 1 ≤ n → n ≤ 4
    → round_of cs e n ≡ Some x → list_any (has_id (round_id e n)) (event_rounds cs e) ≡ true
in_its_event cs e n x low high is =
    any_flat_map (has_id (round_id e n)) (round_at cs e) (λ m. n == m)
    (λ m same. let number : n ≡ m = eqb-true n m same in
    let P : ℕ → Type 0 = λ k. list_any (has_id (round_id e n)) (round_at cs e k) ≡ true in
    subst P number (at_its_number cs e n x is)) round_numbers (number_there n low high)

pub in_meet : (cs : List Command) (e : Event) (n : ℕ) (x : Settings × Table) → 1 ≤ n → n ≤ 4
    → round_of cs e n ≡ Some x → list_any (has_id (round_id e n)) (meet_rounds cs) ≡ true
unfolding meet_rounds
in_meet cs e n x low high is =
    any_flat_map (has_id (round_id e n)) (event_rounds cs) (λ f. same_event e f)
    (λ f same. let event : e ≡ f = same_event-equal e f same in
    let P : Event → Type 0 = λ g. list_any (has_id (round_id e n)) (event_rounds cs g) ≡ true in
    subst P event (in_its_event cs e n x low high is)) all_events (event_there e)

-- and its id finds it

pub found_holds : {X : Type 0} (P : X → Type 0) (p : X → Bool) (xs : List X) (x : X)
    → AllByRecursion P xs → find p xs ≡ Some x → P x × (p x ≡ true)
found_holds P p [] x all h = absurd (cc)
found_holds {X} P p (y ∷ ys) x all h =
    let Q : X → Type 0 = λ z. P z × (p z ≡ true) in
    found_by (p y) y x (find p ys) h (λ is same. subst Q same (all.0, is))
    (found_holds P p ys x all.1)

-- the round with an id has the table of the round
pub record Named (cs : List Command) (e : Event) (n : ℕ) (t : Table) : Type 0 where
  pub round : MeetRound
  pub named : round_named (meet_rounds cs) (round_id e n) ≡ Some round
  pub table : round.table ≡ t

pub its_round : (cs : List Command) (e : Event) (n : ℕ) (x : Settings × Table) → 1 ≤ n → n ≤ 4
    → round_of cs e n ≡ Some x → Named cs e n x.1
its_round cs e n x low high is =
    let it = found_some (has_id (round_id e n)) (meet_rounds cs) (in_meet cs e n x low high is) in
    let r = it.0 in
    let holds = found_holds (IsRound cs) (has_id (round_id e n)) (meet_rounds cs) r
    (are_rounds cs) it.1 in
    let ids : round_id r.event r.number ≡ round_id e n =
    sym holds.0.id ∙ (bytes_eq-Decides r.id (round_id e n)).0 holds.1 in
    let event : r.event ≡ e = id_event r.event e r.number n ids in
    let number : r.number ≡ n = id_number r.event e r.number n holds.0.few high ids in
    let both : Some (holds.0.settings, r.table) ≡ Some x = sym holds.0.opened
    ∙ ap (λ f. round_of cs f r.number) event ∙ ap (λ m. round_of cs e m) number ∙ is in
    record { round = r; named = it.1; table = ap (λ o. (unwrap_or o x).1) both }
