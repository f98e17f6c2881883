-- What a card makes of each round, as the accepted commands have it.
use Rattle.std.proofs.Common.{◌≡◌, ℕ, Bool, true, false, ◌&&◌, ◌==◌, cond, unwrap_or, List, [], ◌∷◌}
use Rattle.std.proofs.Common.{◌++◌, Option, Some, None, option_map, is_some, refl, ap, ◌∙◌}
use Rattle.cube.specs.declared.moves.Move.{Move}
use Rattle.attempts.specs.declared.Value.{Value}
use Rattle.formats.specs.declared.events.Event.{Event}
use Rattle.rounds.specs.Tables.{Entrant, Table, changed_of, has_number}
use Rattle.texts.specs.declared.command.{CardEntry.CardEntry, Command.Command, Settings.Settings}
use Rattle.texts.specs.declared.command.Command.TheVariants.{Card, Fix}
use Rattle.commands.specs.Accepted.{Opened, opened, plus_command, is_of, settings_by, settings_now}
use Rattle.commands.specs.Accepted.{is_cancelled, closing, entering, takes_out, scramble_since}
use Rattle.commands.specs.Accepted.{solving, solving_at, is_solved, settled, value_counted}
use Rattle.commands.specs.Accepted.{values_now, counts_in, round_at, round_of}
use Rattle.commands.specs.model.Cards.{scrambles_of, with_outcomes}
use Rattle.commands.proofs.{CardSteps.values_alike, Solved.solved_same, Solved.solved_entered}
use Rattle.commands.proofs.EachCommand.{values_changed, scramble_here}
use Rattle.commands.proofs.OneMore.{keeps_open, cancels_none, one_more, map_alike, round_changed}
use Rattle.commands.proofs.OneMore.{Besides, EntersOnly}

-- a command changes the values of one number as a card says, and does nothing else
pub record IsOfCard (c : Command) (card : CardEntry) : Type 0 where
  pub values : (e : Event) (r : ℕ) (settings : Settings) (earlier : List Command) (x : Entrant)
      → one_more e r settings earlier c x ≡ (let y : Entrant =
      record {
        number = x.number;
        values =
            cond (is_of e r card.id && card.number == x.number)
            (values_now (value_counted e r settings earlier) 1 card.now x.values) x.values;
      } in
      y)
  pub solves : (e : Event) (r k n : ℕ) → solving e r k n c
      ≡ cond (is_of e r card.id && n == card.number) (solving_at k 1 card.now) None
  pub settings : (e : Event) (r : ℕ) (s : Settings) → settings_by e r c s ≡ s
  pub closes : (e : Event) (r : ℕ) → closing e r c ≡ None
  pub enters : (e : Event) (r : ℕ) (waiting : List ℕ) (earlier : List Command)
      → entering e r waiting earlier c ≡ None
  pub leaves : (e : Event) (r n : ℕ) → takes_out e r n c ≡ false
  pub only : EntersOnly c

pub card_is : (card : CardEntry) → IsOfCard (Card card) card
card_is card = record {
  values = λ e r settings earlier x. refl;
  solves = λ e r k n. refl;
  settings = λ e r s. refl;
  closes = λ e r. refl;
  enters = λ e r waiting earlier. refl;
  leaves = λ e r n. refl;
  only = λ e r k n. refl;
}

pub fix_is : (card : CardEntry) → IsOfCard (Fix card) card
fix_is card = record {
  values = λ e r settings earlier x. refl;
  solves = λ e r k n. refl;
  settings = λ e r s. refl;
  closes = λ e r. refl;
  enters = λ e r waiting earlier. refl;
  leaves = λ e r n. refl;
  only = λ e r k n. refl;
}

-- by scrambles that are alike
outcomes_alike : (f g : ℕ → Option (List Move)) → ((k : ℕ) → f k ≡ g k) → (card : CardEntry)
    (round : Settings × Table) → with_outcomes f card round ≡ with_outcomes g card round
outcomes_alike f g each card round =
    ap (λ (es : List Entrant).
    let t : Table = record round.1 { entrants = es } in
    let new : Settings × Table = (round.0, t) in
    new) (map_alike (changed_of card.number (values_now (counts_in round.0 f) 1 card.now))
    (changed_of card.number (values_now (counts_in round.0 g) 1 card.now)) one round.1.entrants)
  where
    one : (x : Entrant) → changed_of card.number (values_now (counts_in round.0 f) 1 card.now) x
        ≡ changed_of card.number (values_now (counts_in round.0 g) 1 card.now) x
    one x =
        ap (λ (vs : List Value). cond (has_number card.number x) (record x { values = vs }) x)
        (values_alike (counts_in round.0 f) (counts_in round.0 g)
        (λ k y. ap (λ (o : Option (List Move)). settled round.0 o y) (each k)) 1 card.now x.values)

module _ (c : Command) (card : CardEntry) (is : IsOfCard c card) where
  opens : (e : Event) (r : ℕ) → keeps_open e r c ≡ true
  opens e r = ap (λ (x : Besides). x.4) (is.only e r 0 0)

  -- it changes the values in its round, and no other round
  pub round_dealt : (e : Event) (r : ℕ) (cs : List Command) → round_of (cs ++ c ∷ []) e r
      ≡ cond (is_of e r card.id)
      (option_map (with_outcomes (scrambles_of cs card.id) card) (round_of cs e r))
      (round_of cs e r)
  round_dealt e r cs =
      round_changed e r cs c (is_of e r card.id) (with_outcomes (scrambles_of cs card.id) card)
      (opens e r) changes
    where
      under : (o : Opened) (before : Option (Settings × Table)) → opened e r [] cs ≡ Some o
          → (b : Bool) → is_of e r card.id ≡ b
          → cond b (with_outcomes (λ k. scramble_since e r k o) card (round_at e r before o))
          (round_at e r before o)
          ≡ cond b (with_outcomes (scrambles_of cs card.id) card (round_at e r before o))
          (round_at e r before o)
      under o before made true here =
          outcomes_alike (λ k. scramble_since e r k o) (scrambles_of cs card.id)
          (λ k. scramble_here e card.id.event r card.id.round k cs o made here) card
          (round_at e r before o)
      under o before made false here = refl

      changes : (o : Opened) (before : Option (Settings × Table)) → opened e r [] cs ≡ Some o
          → round_at e r before (plus_command c o) ≡ cond (is_of e r card.id)
          (with_outcomes (scrambles_of cs card.id) card (round_at e r before o))
          (round_at e r before o)
      changes o before made =
          values_changed e r before c o card.number
          (values_now (counts_in (settings_now e r o) (λ k. scramble_since e r k o)) 1 card.now)
          (is_of e r card.id) (is.settings e r) (is.closes e r) (is.enters e r) (is.leaves e r)
          (is.values e r o.settings o.since)
          ∙ under o before made (is_of e r card.id) refl

  -- and what it enters is a solution or not, in a round that is open
  pub solved_dealt : (e : Event) (r k n : ℕ) (cs : List Command)
      → (is_of e r card.id ≡ true → is_some (round_of cs e r) ≡ true)
      → is_solved (cs ++ c ∷ []) e r k n ≡ cond (is_of e r card.id && n == card.number)
      (unwrap_or (solving_at k 1 card.now) (is_solved cs e r k n)) (is_solved cs e r k n)
  solved_dealt e r k n cs there =
      step (is_of e r card.id) (n == card.number) (solving_at k 1 card.now) refl (is.solves e r k n)
    where
      stands : is_cancelled e r c ≡ false
      stands = cancels_none e r c (opens e r)

      step : (a b : Bool) (o : Option Bool) → is_of e r card.id ≡ a
          → solving e r k n c ≡ cond (a && b) o None → is_solved (cs ++ c ∷ []) e r k n
          ≡ cond (a && b) (unwrap_or o (is_solved cs e r k n)) (is_solved cs e r k n)
      step true true None here says = solved_same e r k n cs c stands says
      step true true (Some s) here says =
          solved_entered e r k n cs c true s stands says (λ h. there here)
      step true false o here says = solved_same e r k n cs c stands says
      step false b o here says = solved_same e r k n cs c stands says
