-- What a card that is accepted says counts, and what counts after it.
use Rattle.std.proofs.Common.{◌≡◌, ◌≢◌, ℕ, suc, ◌+◌, Bool, true, false, not, ◌==◌, cond, nat_le}
use Rattle.std.proofs.Common.{List, [], ◌∷◌, ◌++◌, find, length, Option, Some, None, eq-eqb}
use Rattle.std.proofs.Common.{option_map, is_some, refl, sym, ap, ◌∙◌, arith, append_assoc}
use Rattle.std.{proofs.Common.append-nil, proofs.Common.eqb-true, specs.List.AllByRecursion}
use Rattle.std.proofs.lemmas.{List.Elements.recursion_from_All, Bool.Decides.nat_tests}
use Rattle.std.proofs.lemmas.Bool.{false≢true, and_parts}
use Rattle.cube.specs.declared.moves.Move.{Move}
use Rattle.attempts.specs.declared.Value.{Value}
use Rattle.formats.{specs.declared.events.Event.Event, proofs.SameEvent.same_event-equal}
use Rattle.formats.specs.Events.{same_event, event_number}
use Rattle.texts.specs.declared.{answer.Code.Code, command.RoundId.RoundId}
use Rattle.texts.specs.declared.command.{Settings.Settings, Command.Command, CardEntry.CardEntry}
use Rattle.texts.specs.declared.command.Command.TheVariants.{Card, Fix, Cancel}
use Rattle.rounds.specs.Tables.{Entrant, Table, has_number, has_done, is_attempted}
use Rattle.commands.specs.Accepted.{refusal, round_of, round_by, scramble_of, is_of, is_cancelled}
use Rattle.commands.specs.Accepted.{is_registered, are_values, seen_refusal, unfit_card_refusal}
use Rattle.commands.specs.Accepted.{card_refusal, fix_refusal, cancel_refusal, competitors_seen}
use Rattle.commands.specs.Accepted.{values_now, counts_in, card_values}
use Rattle.commands.specs.model.Cards.{scrambles_of, with_outcomes}
use Rattle.commands.proofs.CardRounds.{IsOfCard, card_is, fix_is, round_dealt}
use Rattle.commands.proofs.CardSteps.{same_values}
use Rattle.commands.proofs.Lookups.{some≢none}
use Rattle.card_laws.specs.Accepting.{first_refusal, AreAccepted}
use Rattle.card_laws.specs.Holding.{held, names, values_left, entrant_with, CardStands, FixStands}
use Rattle.card_laws.specs.{Holding.StandsUntilNamed, GivingBack.has_values, GivingBack.is_shown}
use Rattle.card_laws.proofs.{Accepted.none_first, Accepted.none_second, Staying.one_more}
use Rattle.card_laws.proofs.Entrants.{any_found, found_made, found_number}
use Rattle.texts.specs.declared.answer.Code.TheVariants as code

-- A card that is accepted

-- a check that does not fail
passed : (b : Bool) (why : Code) (rest : Option Code) → cond b (Some why) rest ≡ None → rest ≡ None
passed true why rest h = absurd (some≢none why h)
passed false why rest h = h

has_seen : (was : List Value) (o : Option Entrant) → seen_refusal was o ≡ None
    → has_values was o ≡ true
has_seen was None h = absurd (some≢none code.NotEntered h)
has_seen was (Some one) h = step (are_values was one.values) h
  where
    step : (b : Bool) → cond b None (Some code.Changed) ≡ None → b ≡ true
    step true h = refl
    step false h = absurd (some≢none code.Changed h)

card_sees : (scrambles : ℕ → Option (List Move)) (card : CardEntry) (o : Option (Settings × Table))
    → card_refusal card.id.event scrambles card o ≡ None
    → has_values card.was (held card.number o) ≡ true
card_sees scrambles card None h = absurd (some≢none code.RoundUnknown h)
card_sees scrambles card (Some round) h =
    has_seen card.was (held card.number (Some round)) (none_first _ _
    (passed round.1.is_closed code.Closed _
    (none_second (unfit_card_refusal card.id.event scrambles card.now) _ h)))

fix_sees : (scrambles : ℕ → Option (List Move)) (card : CardEntry) (competitors : ℕ → ℕ)
    (next : Bool) (o : Option (Settings × Table))
    → fix_refusal card.id.event scrambles card competitors next o ≡ None
    → has_values card.was (held card.number o) ≡ true
fix_sees scrambles card competitors next None h = absurd (some≢none code.RoundUnknown h)
fix_sees scrambles card competitors next (Some round) h =
    has_seen card.was (held card.number (Some round)) (none_first _ _
    (passed (not round.1.is_closed) code.NotClosed _
    (none_second (unfit_card_refusal card.id.event scrambles card.now) _ h)))

-- a card that is accepted says what counts
pub card_shown : (cs : List Command) (card : CardEntry) → refusal cs (Card card) ≡ None
    → is_shown cs card ≡ true
card_shown cs card h =
    card_sees (scramble_of cs card.id.event card.id.round) card (round_by cs card.id)
    (passed (not (is_registered cs card.number)) code.UnknownCompetitor _ h)

pub fix_shown : (cs : List Command) (card : CardEntry) → refusal cs (Fix card) ≡ None
    → is_shown cs card ≡ true
fix_shown cs card h =
    fix_sees (scramble_of cs card.id.event card.id.round) card (competitors_seen cs card.id.event)
    (is_some (round_of cs card.id.event (card.id.round + 1))) (round_by cs card.id)
    (passed (not (is_registered cs card.number)) code.UnknownCompetitor _ h)

-- What is after it

same_event_self : (e : Event) → same_event e e ≡ true
same_event_self e = eq-eqb (event_number e) (event_number e) refl

-- the round of an id is that of its event and number
pub own_round : (id : RoundId) → is_of id.event id.round id ≡ true
own_round id = rw (same_event_self id.event, eq-eqb id.round id.round refl) refl

-- a round in which a card is entered over what counts
entered : (scrambles : ℕ → Option (List Move)) (card : CardEntry) (round : Settings × Table)
    → has_values card.was (held card.number (Some round)) ≡ true
    → held card.number (Some (with_outcomes scrambles card round))
    ≡ Some (entrant_with card.number (card_values scrambles card round.0))
entered scrambles card round shown =
    step (find (has_number card.number) round.1.entrants) refl shown
  where
    change : List Value → List Value
    change = values_now (counts_in round.0 scrambles) 1 card.now

    step : (o : Option Entrant) → find (has_number card.number) round.1.entrants ≡ o
        → has_values card.was o ≡ true
        → held card.number (Some (with_outcomes scrambles card round))
        ≡ Some (entrant_with card.number (card_values scrambles card round.0))
    step None is h = absurd (false≢true h)
    step (Some one) is h =
        found_made card.number change round.1.entrants one is ∙ rw (
          sym (found_number card.number round.1.entrants one is),
          sym (same_values card.was one.values h),
        ) refl

-- after a command that enters a card over what counts
entered_by : (cs : List Command) (c : Command) (card : CardEntry) → IsOfCard c card
    → (round : Settings × Table) → round_by cs card.id ≡ Some round → is_shown cs card ≡ true
    → held card.number (round_by (cs ++ c ∷ []) card.id)
    ≡ Some (entrant_with card.number (values_left cs card round))
entered_by cs c card is round there shown =
    ap (held card.number) (round_dealt c card is card.id.event card.id.round cs
    ∙ ap (λ (b : Bool).
    cond b (option_map (with_outcomes (scrambles_of cs card.id) card) (round_by cs card.id))
    (round_by cs card.id)) (own_round card.id)
    ∙ ap (option_map (with_outcomes (scrambles_of cs card.id) card)) there)
    ∙ entered (scrambles_of cs card.id) card round
    (ap (λ (o : Option (Settings × Table)). has_values card.was (held card.number o)) (sym there)
    ∙ shown)

-- Whoever has an attempt keeps the round

some_done : (one : Entrant) → one.values ≢ [] → has_done 1 one ≡ true
some_done one some = step one.values refl
  where
    step : (vs : List Value) → one.values ≡ vs → nat_le 1 (length one.values) ≡ true
    step [] is = absurd (some is)
    step (v ∷ vs) is = ap (λ (ws : List Value). nat_le 1 (length ws)) is ∙ enough
      where
        enough : nat_le 1 (suc (length vs)) ≡ true
        enough = grind (arith, nat_tests)

not_cancelled : (next o : Option (Settings × Table)) (n : ℕ) (one : Entrant)
    → held n o ≡ Some one → one.values ≢ [] → cancel_refusal next o ≡ None → ⊥
not_cancelled next None n one h some none = some≢none code.RoundUnknown none
not_cancelled next (Some round) n one h some none =
    step (is_some next) (is_attempted round.1 1) refl none
  where
    step : (a b : Bool) → is_attempted round.1 1 ≡ b
        → cond a (Some code.RoundOpen) (cond b (Some code.HasAttempts) None) ≡ None → ⊥
    step true b is none = some≢none code.RoundOpen none
    step false true is none = some≢none code.HasAttempts none
    step false false is none =
        false≢true (sym is ∙ any_found n (has_done 1) round.1.entrants one h (some_done one some))

-- a command that is accepted does not take back a round in which somebody has an attempt
stays_open : (cs : List Command) (c : Command) (e : Event) (r n : ℕ) (one : Entrant)
    → held n (round_of cs e r) ≡ Some one → one.values ≢ [] → refusal cs c ≡ None
    → is_cancelled e r c ≡ false
stays_open cs (Cancel id) e r n one h some accepted = step (is_of e r id) refl
  where
    step : (b : Bool) → is_of e r id ≡ b → b ≡ false
    step false is = refl
    step true is =
        let event : e ≡ id.event =
        same_event-equal e id.event (and_parts (same_event e id.event) (r == id.round) is).0 in
        let round : r ≡ id.round =
        eqb-true r id.round (and_parts (same_event e id.event) (r == id.round) is).1 in
        absurd (not_cancelled (round_of cs id.event (id.round + 1)) (round_by cs id) n one (sym
        (ap (λ (f : Event). held n (round_of cs f r)) event
        ∙ ap (λ (s : ℕ). held n (round_of cs id.event s)) round)
        ∙ h) some accepted)
stays_open cs _ e r n one h some accepted = refl

-- of an entrant with an attempt what counts stays, while no accepted command names it
stands : (cs later : List Command) (e : Event) (r n : ℕ) (one : Entrant)
    → held n (round_of cs e r) ≡ Some one → one.values ≢ []
    → AllByRecursion (λ c. names e r n c ≡ false) later → AreAccepted cs later
    → held n (round_of (cs ++ later) e r) ≡ Some one
stands cs [] e r n one h some unnamed accepted = rw (append-nil cs) h
stands cs (c ∷ later) e r n one h some unnamed accepted =
    let now : refusal cs c ≡ None =
    none_first (refusal cs c) (first_refusal (cs ++ c ∷ []) later) accepted in
    ap (λ (ds : List Command). held n (round_of ds e r)) (sym (append_assoc cs (c ∷ []) later))
    ∙ stands (cs ++ c ∷ []) later e r n one
    (one_more cs c e r n one h unnamed.0 (stays_open cs c e r n one h some now)) some unnamed.1
    (none_second (refusal cs c) (first_refusal (cs ++ c ∷ []) later) accepted)

-- the same of each of the two commands with a card
either_stands : (command : CardEntry → Command)
    → ((card : CardEntry) → IsOfCard (command card) card)
    → ((cs : List Command) (card : CardEntry) → refusal cs (command card) ≡ None
    → is_shown cs card ≡ true) → StandsUntilNamed command
either_stands command is shown cs later card round there accepted unnamed some =
    let c : Command = command card in
    let now = entered_by cs c card (is card) round there
    (shown cs card (none_first (refusal cs c) (first_refusal (cs ++ c ∷ []) later) accepted)) in
    rw (sym (append_assoc cs (c ∷ []) later))
    (stands (cs ++ c ∷ []) later card.id.event card.id.round card.number
    (entrant_with card.number (values_left cs card round)) now some
    (recursion_from_All (λ d. names card.id.event card.id.round card.number d ≡ false) later
    unnamed) (none_second (refusal cs c) (first_refusal (cs ++ c ∷ []) later) accepted))

pub card_stands : CardStands
card_stands = either_stands Card card_is card_shown

pub fix_stands : FixStands
fix_stands = either_stands Fix fix_is fix_shown
