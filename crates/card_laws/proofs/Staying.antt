-- What a round holds of an entrant, it holds until a command names that one.
use Rattle.std.proofs.Common.{◌≡◌, ℕ, zero, suc, Bool, true, false, ◌==◌, ◌&&◌, cond, List, [], ◌∷◌}
use Rattle.std.proofs.Common.{◌++◌, find, Option, Some, None, option_map, refl, sym, ap, ◌∙◌}
use Rattle.std.proofs.{Common.append_assoc, lemmas.List.Elements.recursion_from_All}
use Rattle.std.{proofs.Common.append-nil, specs.List.AllByRecursion, specs.Option.option_and_then}
use Rattle.std.proofs.lemmas.Bool.{false≢true}
use Rattle.formats.specs.{declared.events.Event.Event, Events.same_event}
use Rattle.texts.specs.declared.command.{Command.Command, CardEntry.CardEntry, RoundId.RoundId}
use Rattle.texts.specs.declared.command.Command.TheVariants.{Open, Enter, Attempt, Correct, Strike}
use Rattle.texts.specs.declared.command.Command.TheVariants.{Withdraw, Card, Fix, Cancel}
use Rattle.texts.specs.declared.command.Settings.{Settings}
use Rattle.rounds.specs.Tables.{Entrant, Table, entrant, has_number, replaced, without_last}
use Rattle.commands.specs.Accepted.{Opened, opened, opened_by, is_cancelled, is_of, round_at}
use Rattle.commands.specs.Accepted.{round_in, round_of, scramble_of, settled, values_now, counts_in}
use Rattle.commands.specs.model.Cards.{scrambles_of, with_outcomes}
use Rattle.commands.specs.model.Kept.{with_attempt, with_correction, with_strike, with_entry}
use Rattle.commands.specs.model.Kept.{with_exit, waiting_of, first_of_all}
use Rattle.commands.proofs.CardRounds.{IsOfCard, card_is, fix_is, round_dealt}
use Rattle.commands.proofs.EachCommand.{round_attempt, round_correct, round_strike, round_enter}
use Rattle.commands.proofs.{EachCommand.round_cancel, Exits.round_exit}
use Rattle.commands.proofs.Lookups.{some≢none}
use Rattle.commands.proofs.OneMore.{opened_push, others_kept, still}
use Rattle.card_laws.specs.Holding.{held, names, HoldsUntilNamed}
use Rattle.card_laws.proofs.Entrants.{found_append, found_changed, found_exit}

-- Rounds

-- a change of one round that keeps the entrant
kept : (n : ℕ) (one : Entrant) (b : Bool) (change : Settings × Table → Settings × Table)
    (o : Option (Settings × Table))
    → (b ≡ true → (round : Settings × Table) → entrant round.1 n ≡ Some one
    → entrant (change round).1 n ≡ Some one)
    → held n o ≡ Some one → held n (cond b (option_map change o) o) ≡ Some one
kept n one true change None keeps h = h
kept n one true change (Some round) keeps h = keeps refl round h
kept n one false change o keeps h = h

-- the number is another one, in this round
other_in : (a b : Bool) → (a && b) ≡ false → a ≡ true → b ≡ false
other_in true b h is = h
other_in false b h is = absurd (false≢true is)

-- an opening leaves a round that is open
open_kept : (cs : List Command) (id : RoundId) (settings : Settings) (e : Event) (r n : ℕ)
    (one : Entrant) → held n (round_of cs e r) ≡ Some one
    → held n (round_of (cs ++ Open id settings ∷ []) e r) ≡ Some one
unfolding round_in
open_kept cs id settings e zero n one h = absurd (some≢none one (sym h))
open_kept cs id settings e (suc r) n one h =
    rw (opened_push e (suc r) cs (Open id settings)) (step (opened e (suc r) [] cs) h)
  where
    at : Opened → Settings × Table
    at o = round_at e (suc r) (round_in e r o.before) o

    step : (o : Option Opened) → held n (option_map at o) ≡ Some one
        → held n (option_map at (opened_by e (suc r) cs o (Open id settings))) ≡ Some one
    step None h = absurd (some≢none one (sym h))
    step (Some o) h =
        ap (λ (round : Settings × Table). entrant round.1 n)
        (still e (suc r) (round_in e r o.before) (Open id settings) o (λ s. refl) refl
        (λ waiting earlier. refl) (λ m. refl) (λ s earlier x. refl))
        ∙ h

-- a card of another number leaves the entrant
dealt_kept : (cs : List Command) (c : Command) (card : CardEntry) → IsOfCard c card → (e : Event)
    (r n : ℕ) (one : Entrant) → held n (round_of cs e r) ≡ Some one
    → (is_of e r card.id && card.number == n) ≡ false
    → held n (round_of (cs ++ c ∷ []) e r) ≡ Some one
dealt_kept cs c card is e r n one h unnamed =
    ap (held n) (round_dealt c card is e r cs)
    ∙ kept n one (is_of e r card.id) (with_outcomes (scrambles_of cs card.id) card)
    (round_of cs e r) (λ here round found.
    found_changed card.number n
    (values_now (counts_in round.0 (scrambles_of cs card.id)) 1 card.now)
    round.1.entrants one (other_in (is_of e r card.id) (card.number == n) unnamed here) found) h

pub one_more : (cs : List Command) (c : Command) (e : Event) (r n : ℕ) (one : Entrant)
    → held n (round_of cs e r) ≡ Some one → names e r n c ≡ false → is_cancelled e r c ≡ false
    → held n (round_of (cs ++ c ∷ []) e r) ≡ Some one
one_more cs (Attempt entry) e r n one h unnamed stays =
    ap (held n)
    (round_attempt e entry.id.event r entry.id.round entry.attempt entry.number entry.outcome cs)
    ∙ kept n one (is_of e r entry.id) (with_attempt entry.number
    (scramble_of cs entry.id.event entry.id.round entry.attempt) entry.outcome) (round_of cs e r)
    (λ here round found.
    found_changed entry.number n (λ vs.
    vs
    ++ settled round.0 (scramble_of cs entry.id.event entry.id.round entry.attempt) entry.outcome
    ∷ [])
    round.1.entrants one (other_in (is_of e r entry.id) (entry.number == n) unnamed here) found) h
one_more cs (Correct entry) e r n one h unnamed stays =
    ap (held n)
    (round_correct e entry.id.event r entry.id.round entry.attempt entry.number entry.outcome cs)
    ∙ kept n one (is_of e r entry.id) (with_correction entry.number entry.attempt
    (scramble_of cs entry.id.event entry.id.round entry.attempt) entry.outcome) (round_of cs e r)
    (λ here round found.
    found_changed entry.number n (replaced entry.attempt
    (settled round.0 (scramble_of cs entry.id.event entry.id.round entry.attempt) entry.outcome))
    round.1.entrants one (other_in (is_of e r entry.id) (entry.number == n) unnamed here) found) h
one_more cs (Strike id m) e r n one h unnamed stays =
    ap (held n) (round_strike e id.event r id.round m cs)
    ∙ kept n one (is_of e r id) (with_strike m) (round_of cs e r) (λ here round found.
    found_changed m n without_last round.1.entrants one
    (other_in (is_of e r id) (m == n) unnamed here) found) h
one_more cs (Withdraw id m) e r n one h unnamed stays =
    ap (held n) (round_exit e id.event r id.round m cs)
    ∙ kept n one (is_of e r id)
    (with_exit m (option_and_then first_of_all (waiting_of cs id.event id.round))) (round_of cs e r)
    (λ here round found.
    found_exit m n round.1 (option_and_then first_of_all (waiting_of cs id.event id.round)) one
    (other_in (is_of e r id) (m == n) unnamed here) found) h
one_more cs (Card card) e r n one h unnamed stays =
    dealt_kept cs (Card card) card (card_is card) e r n one h unnamed
one_more cs (Fix card) e r n one h unnamed stays =
    dealt_kept cs (Fix card) card (fix_is card) e r n one h unnamed
one_more cs (Cancel id) e r n one h unnamed stays =
    rw (round_cancel e id.event r id.round cs, stays) h
one_more cs (Open id settings) e r n one h unnamed stays = open_kept cs id settings e r n one h
one_more cs (Enter f m) e r n one h unnamed stays =
    ap (held n) (round_enter e f r m cs)
    ∙ kept n one (same_event e f && r == 1) (with_entry m) (round_of cs e r) (λ here round found.
    found_append n round.1.entrants (record { number = m; values = [] } ∷ []) one found) h
one_more cs c e r n one h unnamed stays =
    others_kept (held n) cs c e r
    (λ x y same. ap (λ (es : List Entrant). find (has_number n) es) same) refl
    (λ waiting earlier. refl) (λ m. refl) (λ settings earlier x. refl)
    ∙ h

holds : (cs later : List Command) (e : Event) (r n : ℕ) (one : Entrant)
    → held n (round_of cs e r) ≡ Some one → AllByRecursion (λ c. names e r n c ≡ false) later
    → AllByRecursion (λ c. is_cancelled e r c ≡ false) later
    → held n (round_of (cs ++ later) e r) ≡ Some one
holds cs [] e r n one h unnamed stays = rw (append-nil cs) h
holds cs (c ∷ later) e r n one h unnamed stays =
    ap (λ (ds : List Command). held n (round_of ds e r)) (sym (append_assoc cs (c ∷ []) later))
    ∙ holds (cs ++ c ∷ []) later e r n one (one_more cs c e r n one h unnamed.0 stays.0) unnamed.1
    stays.1

pub holds_until_named : HoldsUntilNamed
holds_until_named cs later e r n one h unnamed stays =
    holds cs later e r n one h (recursion_from_All (λ c. names e r n c ≡ false) later unnamed)
    (recursion_from_All (λ c. is_cancelled e r c ≡ false) later stays)
