-- What is reported as saved was entered: the command of its text was accepted there.
use Rattle.std.proofs.Common.{◌≡◌, ℕ, ◌+◌, Bool, true, false, not, List, [], ◌∷◌, ◌++◌, Option}
use Rattle.std.proofs.Common.{Some, None, Result, Ok, take, refl, sym, ap, ◌∙◌, subst}
use Rattle.std.proofs.Common.{if◌then◌else◌, add-one}
use Rattle.std.{specs.Option.option_map, specs.Option.option_or, proofs.lemmas.List.map-append}
use Rattle.acceptor.specs.declared.entry.Entry.{Entry}
use Rattle.answers.specs.{Answers.texts, Transcripts.answer_after}
use Rattle.commands.specs.Accepted.{are_values, card_refusal, edition_in, fix_refusal}
use Rattle.commands.specs.Accepted.{is_registered, refusal, round_by, scramble_of, seen_refusal}
use Rattle.commands.specs.Accepted.{unfit_card_refusal}
use Rattle.commands.specs.History.{History, added_read, after, answer_of, answer_to, history}
use Rattle.commands.specs.History.{is_seen, knows, read_refusal, read_refusal_in, spelled_refusal}
use Rattle.learner.specs.Laws.{IsPrefix}
use Rattle.rounds.specs.Tables.{Entrant, Table, entrant}
use Rattle.texts.specs.{Editions.is_spelled_in, Reading.command_of, Spelling.last_edition}
use Rattle.texts.specs.declared.{answer.Answer.Answer, command.RemarkedCommand.RemarkedCommand}
use Rattle.texts.specs.declared.{answer.Code.Code, reading.CommandFault.CommandFault}
use Rattle.texts.specs.declared.command.{CardEntry.CardEntry, Command.Command, Settings.Settings}
use Rattle.texts.specs.declared.command.Command.TheVariants.{Card, Fix}
use Rattle.outbox.specs.Cards.{AreSeen, SavedCardIsOverWhatWasSeen, SavedIsEntered, accepted_of}
use Rattle.outbox.specs.{Cards.SavedFixIsOverWhatWasSeen, Laws.IsSo, Laws.StandsAs, States.state_of}
use Rattle.commands.proofs.Entries.{accepted_new, answer_new, stands_more}
use Rattle.outbox.proofs.{Looking.take_more, Once.repeats, Told.never_by_guess}
use Rattle.texts.specs.declared.answer.Answer.TheVariants as answer
use Rattle.texts.specs.declared.answer.Code.TheVariants as code
use Rattle.outbox.specs.declared.state.ItemState.TheVariants as state

-- ---- a check that passes

none_of : (refused : Option Code) → answer_of refused ≡ answer.Done → refused ≡ None
none_of None h = refl
none_of (Some why) h = absurd cc

unless : (test : Bool) (why : Code) (others : Option Code)
    → (if test then Some why else others) ≡ None → others ≡ None
unless true why others h = absurd cc
unless false why others h = h

provided : (test : Bool) (why : Code) (others : Option Code)
    → (if test then others else Some why) ≡ None → others ≡ None
provided true why others h = h
provided false why others h = absurd cc

first_none : (one other : Option Code) → option_or one other ≡ None → one ≡ None
first_none None other h = refl
first_none (Some why) other h = absurd cc

second_none : (one other : Option Code) → option_or one other ≡ None → other ≡ None
second_none None other h = h
second_none (Some why) other h = absurd cc

-- ---- an entry that was answered Done

record IsPassed (h : History) (id : ℕ) (text : List ℕ) : Type 0 where
  new : is_seen h id ≡ false
  read : read_refusal_in last_edition h.accepted (command_of text) ≡ None

passed : (h : History) (id : ℕ) (text : List ℕ) → answer_to h id text ≡ answer.Done
    → IsPassed h id text
passed h id text done = go (is_seen h id) refl
  where
    go : (seen : Bool) → is_seen h id ≡ seen → IsPassed h id text
    go true seen = absurd (let k = sym (repeats h id text seen) ∙ done in cc)
    go false new = record {
      new = new;
      read =
          none_of (read_refusal h.accepted (command_of text))
          (sym (answer_new h id text new) ∙ done);
    }

accepted_by : (cs : List Command) (told : RemarkedCommand)
    (read : Result RemarkedCommand CommandFault)
    → read ≡ Ok told → read_refusal_in last_edition cs read ≡ None → refusal cs told.command ≡ None
accepted_by cs told read is e =
    provided (is_spelled_in (edition_in cs) told) code.Unread (refusal cs told.command)
    (provided (knows last_edition told.command) code.Unread (spelled_refusal cs told)
    (subst (λ (r : Result RemarkedCommand CommandFault). read_refusal_in last_edition cs r ≡ None)
    is e))

after_passed : (h : History) (id : ℕ) (text : List ℕ) (told : RemarkedCommand)
    → command_of text ≡ Ok told → IsPassed h id text
    → (after h id text).accepted ≡ h.accepted ++ told.command ∷ []
after_passed h id text told reads p =
    accepted_new h id text p.new
    ∙ ap (λ r. h.accepted ++ added_read r (command_of text)) p.read
    ∙ ap (λ (r : Result RemarkedCommand CommandFault). h.accepted ++ added_read None r) reads

some_same : (a b : Answer) → Some a ≡ Some b → a ≡ b
some_same a b h = cc

-- ---- what is reported as saved

record IsDone (log : List Entry) (position : ℕ) (entry : Entry) : Type 0 where
  passes : IsPassed (history (texts (take position log))) entry.id entry.text
  longer : take (position + 1) log ≡ take position log ++ entry ∷ []

is_done : (log : List Entry) (position : ℕ) (entry : Entry)
    → StandsAs log position entry answer.Done → IsDone log position entry
is_done log position entry stands =
    let before : List Entry = take position log in
    record {
      passes =
          passed (history (texts before)) entry.id entry.text
          (some_same (answer_after before entry) answer.Done
          (sym (ap (option_map (answer_after before)) stands.there) ∙ stands.answered));
      longer =
          ap (λ n. take n log) (add-one position) ∙ take_more log position entry stands.there;
    }

saved_is_done : (held log : List Entry) (entry : Entry) (position : ℕ) → IsPrefix held log
    → state_of held entry ≡ state.Saved position → IsDone log position entry
saved_is_done held log entry position front told =
    is_done log position entry (subst (IsSo log entry) told (never_by_guess held log entry front))

pub saved_is_entered : SavedIsEntered
saved_is_entered held log entry position command front told says =
    let done = saved_is_done held log entry position front told in
    let before : List Entry = take position log in
    let h : History = history (texts before) in
    record {
      accepted =
          subst (λ (c : Command). refusal h.accepted c ≡ None) says.is
          (accepted_by h.accepted says.told (command_of entry.text) says.reads done.passes.read);
      added =
          ap (λ (es : List Entry). (history (texts es)).accepted) done.longer
          ∙ ap (λ (ts : List (ℕ × List ℕ)). (history ts).accepted)
          (map-append (λ (e : Entry). (e.id, e.text)) before (entry ∷ []))
          ∙ ap (λ (x : History). x.accepted)
          (sym (stands_more h _ entry.id entry.text refl (texts before) refl))
          ∙ after_passed h entry.id entry.text says.told says.reads done.passes
          ∙ ap (λ (c : Command). h.accepted ++ c ∷ []) says.is;
    }

-- ---- what its writer saw

module _ (cs : List Command) (card : CardEntry) where
  seen_by : (test : Bool) → (if test then None else Some code.Changed) ≡ None → test ≡ true
  seen_by true h = refl
  seen_by false h = absurd cc

  by_entrant : (round : Settings × Table) → round_by cs card.id ≡ Some round
      → (o : Option Entrant) → entrant round.1 card.number ≡ o → seen_refusal card.was o ≡ None
      → AreSeen cs card
  by_entrant round opened None held h = absurd cc
  by_entrant round opened (Some one) held h = record {
    round = round;
    one = one;
    opened = opened;
    held = held;
    seen = seen_by (are_values card.was one.values) h;
  }

  card_seen : (o : Option (Settings × Table)) → round_by cs card.id ≡ o
      → card_refusal card.id.event (scramble_of cs card.id.event card.id.round) card o ≡ None
      → AreSeen cs card
  card_seen None opened h = absurd cc
  card_seen (Some round) opened h =
      by_entrant round opened (entrant round.1 card.number) refl
      (first_none (seen_refusal card.was (entrant round.1 card.number)) _
      (unless round.1.is_closed code.Closed _ (second_none
      (unfit_card_refusal card.id.event (scramble_of cs card.id.event card.id.round) card.now) _
      h)))

  fix_seen : (competitors : ℕ → ℕ) (next : Bool) (o : Option (Settings × Table))
      → round_by cs card.id ≡ o
      → fix_refusal card.id.event (scramble_of cs card.id.event card.id.round) card competitors
      next o ≡ None → AreSeen cs card
  fix_seen competitors next None opened h = absurd cc
  fix_seen competitors next (Some round) opened h =
      by_entrant round opened (entrant round.1 card.number) refl
      (first_none (seen_refusal card.was (entrant round.1 card.number)) _
      (unless (not round.1.is_closed) code.NotClosed _ (second_none
      (unfit_card_refusal card.id.event (scramble_of cs card.id.event card.id.round) card.now) _
      h)))

pub saved_card_is_seen : SavedCardIsOverWhatWasSeen
saved_card_is_seen held log entry position card front told says =
    let cs = accepted_of log position in
    let e = saved_is_entered held log entry position (Card card) front told says in
    card_seen cs card (round_by cs card.id) refl
    (unless (not (is_registered cs card.number)) code.UnknownCompetitor _ e.accepted)

pub saved_fix_is_seen : SavedFixIsOverWhatWasSeen
saved_fix_is_seen held log entry position card front told says =
    let cs = accepted_of log position in
    let e = saved_is_entered held log entry position (Fix card) front told says in
    fix_seen cs card _ _ (round_by cs card.id) refl
    (unless (not (is_registered cs card.number)) code.UnknownCompetitor _ e.accepted)
