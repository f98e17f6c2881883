-- A card that is reported as saved is in the log as it was typed, over what its page showed.
use Rattle.std.proofs.Common.{◌≡◌, ◌∙◌, ◌+◌, ◌==◌, ◌++◌, ◌∷◌, [], Bool, true, false, ℕ, List, ap}
use Rattle.std.proofs.Common.{cond, eq-eqb, find, map, Option, None, Some, option_map, refl, subst}
use Rattle.std.proofs.Common.{sym, take, Result, Ok, Err}
use Rattle.std.specs.Prelude.{slice_get, unwrap_or}
use Rattle.std.proofs.lemmas.{List.take_more, Option.get_or_from_slice_get, Option.slice_get_within}
use Rattle.acceptor.specs.declared.entry.Entry.{Entry}
use Rattle.attempts.specs.declared.Value.{Value}
use Rattle.card_forms.{specs.Entries.card_in, specs.Entries.card_told, proofs.SameCards.card_is_of}
use Rattle.commands.specs.Accepted.{are_values, card_values, counts_in, is_of, round_by, round_of}
use Rattle.commands.specs.Accepted.{scramble_of, values_now}
use Rattle.commands.specs.model.Cards.{scrambles_of, with_outcomes}
use Rattle.commands.proofs.{CardRounds.card_is, CardRounds.round_dealt, CardSteps.same_values}
use Rattle.formats.specs.Events.{event_number, same_event}
use Rattle.outbox.specs.Cards.{AreSeen, SavedCardIsOverWhatWasSeen, SavedIsEntered, Says}
use Rattle.outbox.specs.Laws.{IsSo, NeverByGuess}
use Rattle.outbox.specs.{States.state_of, declared.state.ItemState.ItemState}
use Rattle.rounds.specs.Tables.{Entrant, Table, changed, changed_of, entrant, has_number}
use Rattle.table_views.specs.{Logs.accepted_in, Standing.values_of}
use Rattle.texts.specs.{Reading.command_of, declared.reading.CommandFault.CommandFault}
use Rattle.texts.specs.declared.command.{CardEntry.CardEntry, RemarkedCommand.RemarkedCommand}
use Rattle.texts.specs.declared.command.Command.{Command, TheVariants.Card}
use Rattle.texts.specs.declared.command.{RoundId.RoundId, Settings.Settings}
use Rattle.table_service.specs.Laws.{IsSavedCard, SavedIsTheCard, StandsAt}
use Rattle.outbox.specs.declared.state.ItemState.TheVariants as state

-- ---- what a card leaves

module _ (n : ℕ) (change : List Value → List Value) where
  abbrev made : Entrant → Entrant
  made e = record e { values = change e.values }

  -- the values of the number are changed
  found_values : (es : List Entrant)
      → option_map (λ e. e.values) (find (has_number n) (map (changed_of n change) es))
      ≡ option_map (λ e. change e.values) (find (has_number n) es)
  found_values [] = refl
  found_values (d ∷ ds) = step (has_number n d) refl (found_values ds)
    where
      step : (b : Bool) → has_number n d ≡ b
          → option_map (λ e. e.values) (find (has_number n) (map (changed_of n change) ds))
          ≡ option_map (λ e. change e.values) (find (has_number n) ds) → option_map (λ e. e.values)
          (cond (has_number n (cond b (made d) d)) (Some (cond b (made d) d))
          (find (has_number n) (map (changed_of n change) ds)))
          ≡ option_map (λ e. change e.values) (cond b (Some d) (find (has_number n) ds))
      step true is later =
          ap (λ (c : Bool).
          option_map (λ e. e.values)
          (cond c (Some (made d)) (find (has_number n) (map (changed_of n change) ds)))) is
      step false is later =
          ap (λ (c : Bool).
          option_map (λ e. e.values)
          (cond c (Some d) (find (has_number n) (map (changed_of n change) ds)))) is
          ∙ later

module _ (before : List Command) (card : CardEntry) (seen : AreSeen before card) where
  abbrev After : Settings × Table
  After = with_outcomes (scrambles_of before card.id) card seen.round

  own_round : is_of card.id.event card.id.round card.id ≡ true
  own_round =
      rw (
        eq-eqb (event_number card.id.event) (event_number card.id.event) refl,
        eq-eqb card.id.round card.id.round refl,
      )
      refl

  leaves : round_by (before ++ Card card ∷ []) card.id ≡ Some After
  leaves =
      round_dealt (Card card) card (card_is card) card.id.event card.id.round before
      ∙ ap (λ (b : Bool).
      cond b
      (option_map (with_outcomes (scrambles_of before card.id) card) (round_by before card.id))
      (round_by before card.id)) own_round
      ∙ ap (option_map (with_outcomes (scrambles_of before card.id) card)) seen.opened

  abbrev change : List Value → List Value
  change = values_now (counts_in seen.round.0 (scrambles_of before card.id)) 1 card.now

  are : values_of After.1 card.number
      ≡ card_values (scramble_of before card.id.event card.id.round) card seen.round.0
  are =
      ap (λ (o : Option (List Value)). unwrap_or o [])
      (found_values card.number change seen.round.1.entrants)
      ∙ ap (λ (o : Option Entrant). unwrap_or (option_map (λ e. change e.values) o) []) seen.held
      ∙ ap change (sym (same_values card.was seen.one.values seen.seen))

  saved_over : IsSavedCard before card
  saved_over = record {
    round = seen.round;
    opened = seen.opened;
    were = ap
        (λ (o : Option Entrant). are_values card.was (unwrap_or (option_map (λ e. e.values) o) []))
        seen.held
        ∙ seen.seen;
    after = After;
    leaves = leaves;
    are = are;
  }

-- ---- what is reported

says_by : (entry : Entry) (card : CardEntry) (r : Result RemarkedCommand CommandFault)
    → command_of entry.text ≡ r → card_told r ≡ Some card → Says entry (Card card)
says_by entry card (Err why) reads is = absurd (cc)
says_by entry card (Ok told) reads is =
    record { told = told; reads = reads; is = card_is_of told.command card is }

stands_at : (log : List Entry) (position : ℕ) (entry : Entry)
    → slice_get log position ≡ Some entry → StandsAt log position entry
stands_at log position entry there =
    take_more log position entry (slice_get_within log position entry there)
    ∙ ap (λ (e : Entry). take position log ++ e ∷ [])
    (get_or_from_slice_get log position entry entry there)

pub saved_is_the_card : NeverByGuess → SavedCardIsOverWhatWasSeen → SavedIsTheCard
saved_is_the_card told seen held log entry card position begins is saved =
    let so : IsSo log entry (state.Saved position) =
    subst (λ (s : ItemState). IsSo log entry s) saved (told held log entry begins) in (
      stands_at log position entry so.there,
      saved_over (accepted_in (take position log)) card
          (seen held log entry position card begins saved
          (says_by entry card (command_of entry.text) refl is)),
    )
