-- Over nothing a card is refused as the first of its attempts.
use Rattle.std.proofs.Common.{◌≡◌, ℕ, suc, ◌+◌, Bool, true, false, not, cond, nat_le, List, [], ◌∷◌}
use Rattle.std.proofs.Common.{◌++◌, map, length, Option, Some, None, option_map, is_some, refl, sym}
use Rattle.std.proofs.Common.{ap, ◌∙◌, arith, append_assoc, append-nil, eq-eqb, ◌<◌, ◌≤◌}
use Rattle.std.proofs.{Common.length-append, lemmas.List.Elements.recursion_from_All}
use Rattle.std.{specs.Option.option_or, proofs.Math.Path.fun_ext}
use Rattle.std.proofs.lemmas.Bool.{Decides.nat_tests, or_parts}
use Rattle.cube.specs.declared.moves.Move.{Move}
use Rattle.attempts.specs.declared.Value.{Value}
use Rattle.formats.specs.declared.events.{Event.Event, Format.Format}
use Rattle.formats.specs.Events.{unit_of}
use Rattle.texts.specs.declared.{answer.Code.Code, command.RoundId.RoundId, command.Entered.Entered}
use Rattle.texts.specs.{declared.command.Settings.Settings, Fields.attempt_entry}
use Rattle.texts.specs.declared.command.Command.{Command, TheVariants.Attempt, TheVariants.Card}
use Rattle.rounds.specs.Tables.{Entrant, Table, IsCutoff, has_number, entrant, allotted, fits}
use Rattle.rounds.specs.Tables.{list_fault}
use Rattle.commands.specs.Accepted.{round_of, scramble_of, is_registered, is_wrong, lacks_scramble}
use Rattle.commands.specs.Accepted.{refusal, entered_refusal, unfit_refusal, put_refusal, put_code}
use Rattle.commands.specs.Accepted.{set_code, name_given, renaming, has_outcome, unfit_card_refusal}
use Rattle.commands.specs.Accepted.{counts_in, values_now, seen_refusal, card_refusal}
use Rattle.commands.specs.model.Kept.{with_attempt}
use Rattle.commands.proofs.{EachCommand.round_attempt, OneMore.scramble_kept}
use Rattle.commands.proofs.Lookups.{standing_kept, some≢none}
use Rattle.card_laws.{specs.Accepting.first_refusal, proofs.Taking.own_round}
use Rattle.card_laws.specs.OverNothing.{attempts_from, StandsBare, HasRules, first_card}
use Rattle.card_laws.specs.OverNothing.{CardIsRefusedAsAttempts, CardIsAcceptedAsAttempts}
use Rattle.card_laws.proofs.{Accepted.none_first, Accepted.none_second, Entrants.found_bare}
use Rattle.card_laws.proofs.{Entrants.found_made, Outcomes.outcomes, Outcomes.over_nothing}
use Rattle.card_laws.proofs.Room.{room_before, next_check, fits_from, within_from}
use Rattle.texts.specs.declared.answer.Code.TheVariants as code
use Rattle.rounds.specs.declared.fault.PutFault.TheVariants as put
use Rattle.rounds.specs.declared.fault.SetFault.TheVariants as set

-- One attempt after the other, over a round

abbrev one_refusal : Bool → Event → (ℕ → Option (List Move)) → ℕ → ℕ → Entered
    → Option (Settings × Table) → Option Code
one_refusal registered e scrambles n k x o =
    cond (not registered) (Some code.UnknownCompetitor)
    (entered_refusal e x (scrambles k) (put_refusal n k) o)

abbrev first_on : Bool → Event → (ℕ → Option (List Move)) → ℕ → ℕ → List Entered
    → Option (Settings × Table) → Option Code
first_on registered e scrambles n k [] o = None
first_on registered e scrambles n k (x ∷ xs) o =
    option_or (one_refusal registered e scrambles n k x o)
    (first_on registered e scrambles n (suc k) xs (option_map (with_attempt n (scrambles k) x) o))

registered_still : (cs : List Command) (n : ℕ) (id : RoundId) (k m : ℕ) (x : Entered)
    → is_registered (cs ++ Attempt (attempt_entry id k m x) ∷ []) n ≡ is_registered cs n
registered_still cs n id k m x =
    ap is_some
    (standing_kept (name_given n) (renaming n) cs (Attempt (attempt_entry id k m x)) refl refl)

first_is : (cs : List Command) (id : RoundId) (n k : ℕ) (xs : List Entered)
    → first_refusal cs (attempts_from id n k xs)
    ≡ first_on (is_registered cs n) id.event (scramble_of cs id.event id.round) n k xs
    (round_of cs id.event id.round)
first_is cs id n k [] = refl
first_is cs id n k (x ∷ xs) =
    ap (option_or (refusal cs c)) (first_is later id n (suc k) xs
    ∙ ap (λ (b : Bool).
    first_on b id.event (scramble_of later id.event id.round) n (suc k) xs
    (round_of later id.event id.round)) (registered_still cs n id k n x)
    ∙ ap (λ (s : ℕ → Option (List Move)).
    first_on (is_registered cs n) id.event s n (suc k) xs (round_of later id.event id.round))
    (fun_ext (λ j. scramble_kept id.event id.round j cs c refl refl refl))
    ∙ ap (first_on (is_registered cs n) id.event (scramble_of cs id.event id.round) n (suc k) xs)
    (round_attempt id.event id.event id.round id.round k n x cs
    ∙ ap (λ (b : Bool).
    cond b (option_map (with_attempt n (scramble_of cs id.event id.round k) x)
    (round_of cs id.event id.round)) (round_of cs id.event id.round)) (own_round id)))
  where
    c : Command
    c = Attempt (attempt_entry id k n x)

    later : List Command
    later = cs ++ c ∷ []

-- Where the event allows all

-- the event allows the outcomes from attempt k on, and each has its scramble where it needs one
abbrev AreFit : Event → (ℕ → Option (List Move)) → ℕ → List (Option Entered) → Type 0
AreFit e scrambles k now =
    (has_outcome (λ j x. is_wrong (unit_of e) x) k now ≡ false)
    × (has_outcome (λ j x. lacks_scramble (scrambles j) x) k now ≡ false)

-- of the first of them, and of those after it
fit_parts : (e : Event) (scrambles : ℕ → Option (List Move)) (k : ℕ) (x : Entered)
    (xs : List Entered) → AreFit e scrambles k (map Some (x ∷ xs))
    → ((is_wrong (unit_of e) x ≡ false) × (lacks_scramble (scrambles k) x ≡ false))
    × AreFit e scrambles (suc k) (map Some xs)
fit_parts e scrambles k x xs are =
    let right = or_parts (is_wrong (unit_of e) x) _ are.0 in
    let scrambled = or_parts (lacks_scramble (scrambles k) x) _ are.1 in
    ((right.0, scrambled.0), (right.1, scrambled.1))

first_is_fit : (e : Event) (scrambles : ℕ → Option (List Move)) (k : ℕ) (x : Entered)
    (xs : List Entered) → AreFit e scrambles k (map Some (x ∷ xs))
    → unfit_refusal e (scrambles k) x ≡ None
first_is_fit e scrambles k x xs are =
    let first = (fit_parts e scrambles k x xs are).0 in rw (first.0, first.1) refl

-- an entrant with one more value
abbrev longer : Value → Entrant → Entrant
longer v e = record e { values = e.values ++ v ∷ [] }

-- one attempt, and those after it
left_step : (f : Format) (c : Option (ℕ × ℕ)) (vs : List Value) (v : Value) (os : List Value)
    (unfit put rest : Option Code) → IsCutoff f c → unfit ≡ None
    → put ≡ cond (nat_le (allotted f c vs) (length vs)) (Some code.NoMoreAttempts) None
    → (fits f c (vs ++ v ∷ []) ≡ true
    → rest ≡ cond (fits f c ((vs ++ v ∷ []) ++ os)) None (Some code.NoMoreAttempts))
    → option_or (option_or unfit put) rest
    ≡ cond (fits f c (vs ++ v ∷ os)) None (Some code.NoMoreAttempts)
left_step f c vs v os unfit put rest rules taken tested later =
    step (nat_le (allotted f c vs) (length vs)) refl
  where
    full : (b : Bool) → fits f c (vs ++ v ∷ os) ≡ b
        → nat_le (allotted f c vs) (length vs) ≡ true → fits f c (vs ++ v ∷ os) ≡ false
    full false h is = h
    full true h is =
        let room : length vs < allotted f c vs =
        room_before f c vs v os rules (within_from f c (vs ++ v ∷ os) h) in
        let none : allotted f c vs ≤ length vs = grind (arith, nat_tests) in
        absurd (omega (arith, room, none))

    step : (b : Bool) → nat_le (allotted f c vs) (length vs) ≡ b
        → option_or (option_or unfit put) rest
        ≡ cond (fits f c (vs ++ v ∷ os)) None (Some code.NoMoreAttempts)
    step true is =
        rw (
          taken,
          tested ∙ ap (λ (b : Bool). cond b (Some code.NoMoreAttempts) None) is,
          full (fits f c (vs ++ v ∷ os)) refl is,
        ) refl
    step false is =
        rw (taken, tested ∙ ap (λ (b : Bool). cond b (Some code.NoMoreAttempts) None) is)
        (later (next_check f c vs v rules ∙ ap not is) ∙ rw (append_assoc vs (v ∷ []) os) refl)

put_is : (n k : ℕ) (round : Settings × Table) (one : Entrant) → round.1.is_closed ≡ false
    → entrant round.1 n ≡ Some one → k ≡ length one.values + 1 → put_refusal n k round ≡ cond
    (nat_le (allotted round.1.format round.1.cutoff one.values) (length one.values))
    (Some code.NoMoreAttempts) None
put_is n k round one opened is next =
    rw (opened, is, eq-eqb k (length one.values + 1) next)
    (split (nat_le (allotted round.1.format round.1.cutoff one.values) (length one.values)))
  where
    split : (b : Bool) → option_map put_code (cond b (Some put.NoMoreAttempts) None)
        ≡ cond b (Some code.NoMoreAttempts) None
    split true = refl
    split false = refl

-- the first refusal of attempts over a round that is open, for one who is in it
left_over : (e : Event) (scrambles : ℕ → Option (List Move)) (n k : ℕ) (xs : List Entered)
    (round : Settings × Table) (one : Entrant)
    → IsCutoff round.1.format round.1.cutoff → round.1.is_closed ≡ false
    → entrant round.1 n ≡ Some one → k ≡ length one.values + 1
    → fits round.1.format round.1.cutoff one.values ≡ true → AreFit e scrambles k (map Some xs)
    → first_on true e scrambles n k xs (Some round) ≡ cond (fits round.1.format round.1.cutoff
    (one.values ++ outcomes (counts_in round.0 scrambles) k xs)) None (Some code.NoMoreAttempts)
left_over e scrambles n k [] round one rules opened is next fit are =
    sym (ap (λ (ws : List Value).
    cond (fits round.1.format round.1.cutoff ws) None (Some code.NoMoreAttempts))
    (append-nil one.values)
    ∙ ap (λ (b : Bool). cond b None (Some code.NoMoreAttempts)) fit)
left_over e scrambles n k (x ∷ xs) round one rules opened is next fit are =
    left_step round.1.format round.1.cutoff one.values (counts_in round.0 scrambles k x)
    (outcomes (counts_in round.0 scrambles) (suc k) xs) (unfit_refusal e (scrambles k) x)
    (put_refusal n k round)
    (first_on true e scrambles n (suc k) xs (Some (with_attempt n (scrambles k) x round))) rules
    (first_is_fit e scrambles k x xs are) (put_is n k round one opened is next) (λ fits_now.
    left_over e scrambles n (suc k) xs (with_attempt n (scrambles k) x round)
    (longer (counts_in round.0 scrambles k x) one) rules opened
    (found_made n (λ vs. vs ++ counts_in round.0 scrambles k x ∷ []) round.1.entrants one is)
    (more one.values (counts_in round.0 scrambles k x)) fits_now
    (fit_parts e scrambles k x xs are).1)
  where
    more : (vs : List Value) (v : Value) → suc k ≡ length (one.values ++ v ∷ []) + 1
    more vs v = let long = length-append one.values (v ∷ []) in omega (arith, long, next)

-- Over a round

module _ (e : Event) (scrambles : ℕ → Option (List Move)) (n : ℕ) (x : Entered)
    (xs : List Entered) (round : Settings × Table) where
  abbrev rest : Option Code
  rest = first_on true e scrambles n 2 xs (Some (with_attempt n (scrambles 1) x round))

  -- the values that the card leaves
  abbrev left : List Value
  left = values_now (counts_in round.0 scrambles) 1 (map Some (x ∷ xs)) []

  -- what is left of the checks of a card once the event allows it, and of its attempts
  abbrev table_left : Bool → Option Entrant → Option Code
  table_left closed o =
      option_map set_code
      (cond closed (Some set.Closed) (list_fault round.1.format round.1.cutoff left o))

  abbrev card_left : Bool → Option Entrant → Option Code
  card_left closed o =
      cond closed (Some code.Closed) (option_or (seen_refusal [] o) (table_left closed o))

  abbrev first_left : Option Code
  first_left = option_or (option_or (unfit_refusal e (scrambles 1) x) (put_refusal n 1 round)) rest

  -- what the table says of a card by one who saw that nothing counts
  bare_left : (one : Entrant) (b : Bool) → one.values ≡ []
      → fits round.1.format round.1.cutoff left ≡ b
      → card_left false (Some one) ≡ cond b None (Some code.NoMoreAttempts)
  bare_left one b bare fit = rw (bare, fit) (split b)
    where
      split : (t : Bool) → option_map set_code (cond t None (Some set.NoMoreAttempts))
          ≡ cond t None (Some code.NoMoreAttempts)
      split true = refl
      split false = refl

  at_one : (one : Entrant) → IsCutoff round.1.format round.1.cutoff → round.1.is_closed ≡ false
      → entrant round.1 n ≡ Some one → one.values ≡ [] → AreFit e scrambles 1 (map Some (x ∷ xs))
      → card_left round.1.is_closed (entrant round.1 n) ≡ first_left
  at_one one rules opened is bare are =
      ap (λ (b : Bool). card_left b (entrant round.1 n)) opened
      ∙ ap (card_left false) is
      ∙ bare_left one (fits round.1.format round.1.cutoff left) bare refl
      ∙ ap (λ (vs : List Value).
      cond (fits round.1.format round.1.cutoff vs) None (Some code.NoMoreAttempts))
      (over_nothing (counts_in round.0 scrambles) 1 (x ∷ xs)
      ∙ ap (λ (vs : List Value). vs ++ outcomes (counts_in round.0 scrambles) 1 (x ∷ xs))
      (sym bare))
      ∙ sym (left_over e scrambles n 1 (x ∷ xs) round one rules opened is
      (ap (λ (vs : List Value). length vs + 1) (sym bare))
      (ap (fits round.1.format round.1.cutoff) bare
      ∙ fits_from round.1.format round.1.cutoff [] (omega arith)) are)

-- Cards whose outcomes the event allows

-- what makes two checks pass
both_none : (a b : Bool) (c d : Code) → cond a (Some c) (cond b (Some d) None) ≡ None
    → (a ≡ false) × (b ≡ false)
both_none true b c d h = absurd (some≢none c h)
both_none false true c d h = absurd (some≢none d h)
both_none false false c d h = (refl, refl)

card_on : (b : Bool) (scrambles : ℕ → Option (List Move)) (id : RoundId) (n : ℕ) (x : Entered)
    (xs : List Entered) (o : Option (Settings × Table)) → HasRules o → StandsBare n o
    → unfit_card_refusal id.event scrambles (map Some (x ∷ xs)) ≡ None
    → cond (not b) (Some code.UnknownCompetitor)
    (card_refusal id.event scrambles (first_card id n (x ∷ xs)) o)
    ≡ first_on b id.event scrambles n 1 (x ∷ xs) o
card_on false scrambles id n x xs o rules bare fit = refl
card_on true scrambles id n x xs None rules bare fit = refl
card_on true scrambles id n x xs (Some round) rules bare fit =
    rw fit (step round.1.is_closed refl (entrant round.1 n) refl)
  where
    are : AreFit id.event scrambles 1 (map Some (x ∷ xs))
    are = both_none _ _ code.WrongOutcome code.NoScramble fit

    taken : unfit_refusal id.event (scrambles 1) x ≡ None
    taken = first_is_fit id.event scrambles 1 x xs are

    step : (closed : Bool) → round.1.is_closed ≡ closed → (o : Option Entrant)
        → entrant round.1 n ≡ o
        → card_left id.event scrambles n x xs round round.1.is_closed (entrant round.1 n)
        ≡ first_left id.event scrambles n x xs round
    step true closed o is = rw (closed, taken) refl
    step false opened None is = rw (opened, is, taken) refl
    step false opened (Some one) is =
        at_one id.event scrambles n x xs round one rules opened is
        (found_bare n round.1.entrants one
        (recursion_from_All (λ d. has_number n d ≡ true → d.values ≡ []) round.1.entrants bare) is)
        are

pub card_is_refused_as_attempts : CardIsRefusedAsAttempts
card_is_refused_as_attempts cs id n x xs rules bare fit =
    card_on (is_registered cs n) (scramble_of cs id.event id.round) id n x xs
    (round_of cs id.event id.round) rules bare fit
    ∙ sym (first_is cs id n 1 (x ∷ xs))

-- What is accepted is fit

-- a card that is accepted has outcomes that the event allows
card_fit : (b : Bool) (scrambles : ℕ → Option (List Move)) (id : RoundId) (n : ℕ)
    (xs : List Entered) (o : Option (Settings × Table)) → cond (not b) (Some code.UnknownCompetitor)
    (card_refusal id.event scrambles (first_card id n xs) o) ≡ None
    → unfit_card_refusal id.event scrambles (map Some xs) ≡ None
card_fit false scrambles id n xs o h = absurd (some≢none code.UnknownCompetitor h)
card_fit true scrambles id n xs None h = absurd (some≢none code.RoundUnknown h)
card_fit true scrambles id n xs (Some round) h =
    none_first (unfit_card_refusal id.event scrambles (map Some xs)) _ h

-- attempts that are accepted have outcomes that the event allows
first_fit : (b : Bool) (e : Event) (scrambles : ℕ → Option (List Move)) (n k : ℕ)
    (xs : List Entered) (o : Option (Settings × Table)) → first_on b e scrambles n k xs o ≡ None
    → AreFit e scrambles k (map Some xs)
first_fit b e scrambles n k [] o h = (refl, refl)
first_fit false e scrambles n k (x ∷ xs) o h = absurd (some≢none code.UnknownCompetitor h)
first_fit true e scrambles n k (x ∷ xs) None h = absurd (some≢none code.RoundUnknown h)
first_fit true e scrambles n k (x ∷ xs) (Some round) h =
    let one : option_or (unfit_refusal e (scrambles k) x) (put_refusal n k round) ≡ None =
    none_first (option_or (unfit_refusal e (scrambles k) x) (put_refusal n k round))
    (first_on true e scrambles n (suc k) xs (Some (with_attempt n (scrambles k) x round))) h in
    let fit = both_none (is_wrong (unit_of e) x) (lacks_scramble (scrambles k) x) code.WrongOutcome
    code.NoScramble (none_first (unfit_refusal e (scrambles k) x) (put_refusal n k round) one) in
    let later =
    first_fit true e scrambles n (suc k) xs (Some (with_attempt n (scrambles k) x round))
    (none_second (option_or (unfit_refusal e (scrambles k) x) (put_refusal n k round))
    (first_on true e scrambles n (suc k) xs (Some (with_attempt n (scrambles k) x round))) h) in
    (rw (fit.0, later.0) refl, rw (fit.1, later.1) refl)

pub card_is_accepted_as_attempts : CardIsAcceptedAsAttempts
card_is_accepted_as_attempts cs id n x xs rules bare = (forth, back)
  where
    forth : refusal cs (Card (first_card id n (x ∷ xs))) ≡ None
        → first_refusal cs (attempts_from id n 1 (x ∷ xs)) ≡ None
    forth h =
        sym (card_is_refused_as_attempts cs id n x xs rules bare
        (card_fit (is_registered cs n) (scramble_of cs id.event id.round) id n (x ∷ xs)
        (round_of cs id.event id.round) h))
        ∙ h

    back : first_refusal cs (attempts_from id n 1 (x ∷ xs)) ≡ None
        → refusal cs (Card (first_card id n (x ∷ xs))) ≡ None
    back h =
        let fit =
        first_fit (is_registered cs n) id.event (scramble_of cs id.event id.round) n 1 (x ∷ xs)
        (round_of cs id.event id.round) (sym (first_is cs id n 1 (x ∷ xs)) ∙ h) in
        card_is_refused_as_attempts cs id n x xs rules bare (rw (fit.0, fit.1) refl)
        ∙ h
