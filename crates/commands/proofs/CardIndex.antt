-- What a card makes of the index, and how it is refused there.
use Rattle.std.proofs.Common.{◌≡◌, ℕ, suc, ◌+◌, ◌≤◌, Bool, true, false, not, ◌&&◌, ◌==◌, cond}
use Rattle.std.proofs.Common.{unwrap_or, List, [], ◌∷◌, ◌++◌, get_or, set, Option, Some, None}
use Rattle.std.proofs.Common.{option_map, is_some, All, refl, sym, ap, ◌∙◌, subst, add-one}
use Rattle.std.specs.Option.{option_or, option_map_or, option_and_then}
use Rattle.std.proofs.lemmas.Bool.{false≢true}
use Rattle.attempts.specs.{declared.Value.Value, Attempts.IsInRangeOf}
use Rattle.formats.specs.declared.{advance.Advance.Advance, events.Event.Event}
use Rattle.formats.specs.Events.{unit_of}
use Rattle.rounds.specs.{declared.fault.FixFault.FixFault, Rows.AreValues}
use Rattle.rounds.specs.Tables.{Table, entrant, changed, with_values, set_fault, fix_fault, started}
use Rattle.texts.specs.declared.{answer.Code.Code, command.Entered.Entered}
use Rattle.texts.specs.declared.command.{Settings.Settings, CardEntry.CardEntry, Command.Command}
use Rattle.texts.specs.declared.command.Command.TheVariants.{Card, Fix}
use Rattle.commands.specs.declared.{index.Index.Index, kept_rounds.KeptRound.KeptRound}
use Rattle.commands.specs.{declared.solutions.Solutions.Solutions, model.Cards.with_outcomes}
use Rattle.commands.specs.Accepted.{round_of, is_of, is_registered, is_wrong, lacks_scramble}
use Rattle.commands.specs.Accepted.{has_outcome, is_solved, solving_at, values_now, counts_in}
use Rattle.commands.specs.Accepted.{card_values, unfit_card_refusal, seen_refusal, set_code}
use Rattle.commands.specs.Accepted.{fix_code, refusal, but_for, breaks_rounds_rule}
use Rattle.commands.specs.{Accepted.competitors_seen, Accepted.round_by, model.Solved.KeepsNotes}
use Rattle.commands.specs.model.Cards.{IsReadCard, scrambles_of, state_refusal, early_refusal}
use Rattle.commands.specs.model.{Solved.is_noted, Kept.IsIndexOf, Kept.IsKeptAt, Kept.HasUnit}
use Rattle.commands.specs.model.Kept.{kept_value, kept_solved, kept_next, kept_competitors}
use Rattle.commands.specs.model.Kept.{place_in, waiting_in, seen_in, solved_in, AreRounds}
use Rattle.commands.proofs.{Apart.changed_stays, KeptLemmas.alike, OneMore.Besides, Units.kept_unit}
use Rattle.commands.proofs.KeptLemmas.{nested, kept_is, round_as_before, IsSetIn, set_in, told}
use Rattle.commands.proofs.CardRounds.{IsOfCard, round_dealt, solved_dealt}
use Rattle.commands.proofs.{CardSteps.card_in_range, CardSteps.read_twice, Seen.competitors_alike}
use Rattle.commands.proofs.Indexed.{kept_as_before, rounds_more, same_entered, there_by}
use Rattle.commands.proofs.{Registrations.AreCompetitors-other, RoundsRule.breaks_alike}
use Rattle.texts.specs.declared.answer.Code.TheVariants as code

-- A round with other values of a card's number, and what is noted of it

module _ (cs : List Command) (c : Command) (card : CardEntry) (deals : IsOfCard c card)
    (xs : List KeptRound) (i : ℕ) (old : KeptRound)
    (at : IsKeptAt xs card.id.event card.id.round i) (there : old ≡ get_or xs i old)
    (are : AreRounds cs xs) (table : Table) (solutions : Solutions) (is : table
    ≡ changed old.table card.number
    (values_now (counts_in old.settings (scrambles_of cs card.id)) 1 card.now))
    (notes : (m j : ℕ) → 1 ≤ j → is_noted solutions m j ≡ cond (m == card.number)
    (unwrap_or (solving_at j 1 card.now) (is_noted old.solutions m j))
    (is_noted old.solutions m j)) where
  abbrev new : KeptRound
  new = record old { table = table; solutions = solutions }

  abbrev change : Settings × Table → Settings × Table
  change = with_outcomes (scrambles_of cs card.id) card

  sets : IsSetIn card.id.event card.id.round old new xs (set xs i new)
  sets = set_in xs card.id.event card.id.round i old new at there refl refl

  solved : (f : Event) (s j m : ℕ) → 1 ≤ j
      → kept_solved f s j m (set xs i new) ≡ is_solved (cs ++ c ∷ []) f s j m
  solved f s j m low =
      told card.id.event card.id.round old new xs (set xs i new) sets (λ o. option_map_or
      (solved_in j m) o false)
      (λ (b : Bool). cond (m == card.number) (unwrap_or (solving_at j 1 card.now) b) b)
      (notes m j low) f s
      ∙ ap (λ (b : Bool).
      cond (is_of f s card.id)
      (cond (m == card.number) (unwrap_or (solving_at j 1 card.now) b) b) b)
      (are.solved f s j m low)
      ∙ nested (is_of f s card.id) (m == card.number)
      (unwrap_or (solving_at j 1 card.now) (is_solved cs f s j m)) (is_solved cs f s j m)
      ∙ sym (solved_dealt c card deals f s j m cs (there_by cs xs card.id are at.there f s))

  rounds_dealt : AreRounds (cs ++ c ∷ []) (set xs i new)
  rounds_dealt =
      rounds_more cs c card.id.event card.id.round change xs (set xs i new) are deals.only
      (λ f s. round_dealt c card deals f s cs) (same_entered cs card.id.event card.id.round change
      (λ x n.
      changed_stays n card.number
      (values_now (counts_in x.0 (scrambles_of cs card.id)) 1 card.now) x.1.entrants))
      (told card.id.event card.id.round old new xs (set xs i new) sets (option_map kept_value)
      (option_map change)
      (ap (λ (t : Table). let x : Settings × Table = (old.settings, t) in Some x) is)) (λ f s k.
      alike card.id.event card.id.round old new xs (set xs i new) sets (option_and_then (place_in
      k)) refl f s)
      (alike card.id.event card.id.round old new xs (set xs i new) sets (option_map waiting_in)
      refl)
      (alike card.id.event card.id.round old new xs (set xs i new) sets (option_map seen_in) refl)
      solved

-- In the index

module _ (cs : List Command) (index : Index) (is : IsIndexOf cs index) (card : CardEntry) (i : ℕ)
    (old : KeptRound) (at : IsKeptAt index.rounds.opened.items card.id.event card.id.round i)
    (there : old ≡ get_or index.rounds.opened.items i old) where
  -- other values of the card's number, by what is read, made and noted
  pub dealt : (c : Command) → IsOfCard c card → (new : Index) (vs : List Value) (table : Table)
      (made solutions : Solutions) (now : List (Option Entered))
      → new.competitors ≡ index.competitors → new.rounds.opened.items
      ≡ set index.rounds.opened.items i (record old { table = table; solutions = solutions })
      → AreValues old.table card.number card.was
      → vs ≡ card_values (scrambles_of cs card.id) card old.settings
      → table ≡ with_values old.table card.number vs
      → KeepsNotes old.solutions made → now ≡ card.now → ((m j : ℕ) → 1 ≤ j → is_noted solutions m j
      ≡ cond (m == card.number) (unwrap_or (solving_at j 1 now) (is_noted made m j))
      (is_noted made m j)) → IsIndexOf (cs ++ c ∷ []) new
  dealt c deals new vs table made solutions now competitors items seen values says room same notes =
      record {
        competitors =
            rw competitors (AreCompetitors-other cs c index.competitors
            (λ n. ap (λ (x : Besides). x.0) (deals.only card.id.event card.id.round 0 n))
            (λ n. ap (λ (x : Besides). x.1) (deals.only card.id.event card.id.round 0 n))
            is.competitors);
        rounds =
            rw items
            (rounds_dealt cs c card deals index.rounds.opened.items i old at there is.rounds table
            solutions (says ∙ ap (with_values old.table card.number) values
            ∙ sym
            (seen.alone (values_now (counts_in old.settings (scrambles_of cs card.id)) 1 card.now)))
            (λ m j low.
            notes m j low
            ∙ ap (λ (xs : List (Option Entered)).
            cond (m == card.number) (unwrap_or (solving_at j 1 xs) (is_noted made m j))
            (is_noted made m j)) same
            ∙ ap (λ (b : Bool).
            cond (m == card.number) (unwrap_or (solving_at j 1 card.now) b) b) (room m j)));
      }

  -- only room is made for a note
  pub only_room : (new : Index) (made : Solutions) → new.competitors ≡ index.competitors
      → new.rounds.opened.items ≡ set index.rounds.opened.items i (record old { solutions = made })
      → KeepsNotes old.solutions made → IsIndexOf cs new
  only_room new made competitors items room =
      kept_as_before cs index new is competitors (λ f s.
      rw items (round_as_before index.rounds.opened.items card.id.event card.id.round i old
      (record old { solutions = made }) at there
      (record { event = refl; round = refl; scrambles = refl; waiting = refl; seen = refl }) room
      refl f s))

  -- the round of the card
  round_is : round_by cs card.id ≡ Some (kept_value old)
  round_is =
      sym (is.rounds.rounds card.id.event card.id.round)
      ∙ kept_is index.rounds.opened.items card.id.event card.id.round i old at there

  -- its values are in the range of its unit
  pub in_range : (closed : Bool) (vs : List Value) → IsReadCard card
      → None ≡ early_refusal closed (scrambles_of cs card.id) card (kept_value old)
      → AreValues old.table card.number card.was
      → vs ≡ card_values (scrambles_of cs card.id) card old.settings
      → All (IsInRangeOf old.table.unit) vs
  in_range closed vs fit early seen values =
      let unit : old.table.unit ≡ unit_of card.id.event =
      subst (λ (o : Option (Settings × Table)). HasUnit card.id.event o)
      (kept_is index.rounds.opened.items card.id.event card.id.round i old at there)
      (kept_unit cs index card.id.event card.id.round is) in
      subst (All (IsInRangeOf old.table.unit)) (sym values)
      (card_in_range old.table.unit (scrambles_of cs card.id) card old.settings fit (rw unit (right
      (has_outcome (λ k x. is_wrong (unit_of card.id.event) x) 1 card.now)
      (has_outcome (λ k x. lacks_scramble (scrambles_of cs card.id k) x) 1 card.now)
      (option_or (state_refusal closed old.table.is_closed)
      (seen_refusal card.was (entrant old.table card.number))) (sym early))) seen.in_range)
    where
      right : (a b : Bool) (rest : Option Code)
          → option_or (cond a (Some code.WrongOutcome) (cond b (Some code.NoScramble) None)) rest
          ≡ None → a ≡ false
      right false b rest h = refl
      right true b rest h = absurd (false≢true (sym (ap is_some h)))

  module _ (known : is_registered cs card.number ≡ true) where
    -- the checks of a card, those before its values and those of its values
    pub card_parts : refusal cs (Card card)
        ≡ option_or (early_refusal false (scrambles_of cs card.id) card (kept_value old))
        (option_map set_code (set_fault old.table card.number
        (card_values (scrambles_of cs card.id) card old.settings)))
    card_parts =
        rw (known, round_is)
        (step (unfit_card_refusal card.id.event (scrambles_of cs card.id) card.now)
        old.table.is_closed (seen_refusal card.was (entrant old.table card.number))
        (option_map set_code (set_fault old.table card.number
        (card_values (scrambles_of cs card.id) card old.settings))))
      where
        step : (a : Option Code) (b : Bool) (s late : Option Code)
            → option_or a (cond b (Some code.Closed) (option_or s late))
            ≡ option_or (option_or a (option_or (state_refusal false b) s)) late
        step (Some x) b s late = refl
        step None true s late = refl
        step None false s late = refl

    -- none of them does, and the table answers to its values
    pub card_late : None ≡ early_refusal false (scrambles_of cs card.id) card (kept_value old)
        → (vs : List Value) → vs ≡ card_values (scrambles_of cs card.id) card old.settings
        → (answer : Option Code) → answer ≡ option_map set_code (set_fault old.table card.number vs)
        → answer ≡ refusal cs (Card card)
    card_late early vs values answer says =
        says
        ∙ ap (λ (ws : List Value). option_map set_code (set_fault old.table card.number ws)) values
        ∙ ap (λ (o : Option Code).
        option_or o (option_map set_code (set_fault old.table card.number
        (card_values (scrambles_of cs card.id) card old.settings)))) early
        ∙ sym card_parts

    -- the checks of these values in a closed round
    abbrev pub late : List Value → Option Code
    late vs =
        option_or (option_map fix_code (fix_fault old.table card.number vs)) (cond
        (not (is_some (kept_next card.id.event card.id.round index.rounds.opened.items))
        && breaks_rounds_rule
        (but_for (kept_competitors card.id.event index.rounds.opened.items) card.id.round
        (started (with_values old.table card.number vs))) card.id.round old.settings.advance)
        (Some code.RoundsRule) None)

    -- the same in a closed round
    pub fix_parts : refusal cs (Fix card)
        ≡ option_or (early_refusal true (scrambles_of cs card.id) card (kept_value old))
        (late (card_values (scrambles_of cs card.id) card old.settings))
    fix_parts =
        rw (known, round_is)
        (step (unfit_card_refusal card.id.event (scrambles_of cs card.id) card.now)
        old.table.is_closed (seen_refusal card.was (entrant old.table card.number))
        (option_map fix_code (fix_fault old.table card.number vs))
        (not (is_some (round_of cs card.id.event (card.id.round + 1))) && breaks_rounds_rule
        (but_for (competitors_seen cs card.id.event) card.id.round count) card.id.round
        old.settings.advance)
        (not (is_some (kept_next card.id.event card.id.round index.rounds.opened.items))
        && breaks_rounds_rule
        (but_for (kept_competitors card.id.event index.rounds.opened.items) card.id.round count)
        card.id.round old.settings.advance) (ap (λ (b : Bool).
        not b && breaks_rounds_rule
        (but_for (competitors_seen cs card.id.event) card.id.round count) card.id.round
        old.settings.advance) next
        ∙ ap (λ (b : Bool).
        not (is_some (kept_next card.id.event card.id.round index.rounds.opened.items)) && b)
        (breaks_alike (but_for (competitors_seen cs card.id.event) card.id.round count)
        (but_for (kept_competitors card.id.event index.rounds.opened.items) card.id.round count)
        card.id.round old.settings.advance (λ j.
        ap (λ (n : ℕ). cond (j == card.id.round) count n)
        (sym (competitors_alike cs index.rounds.opened.items card.id.event j is.rounds))))))
      where
        vs : List Value
        vs = card_values (scrambles_of cs card.id) card old.settings

        count : ℕ
        count = started (with_values old.table card.number vs)

        there_too : (o : Option KeptRound) → is_some (option_map kept_value o) ≡ is_some o
        there_too None = refl
        there_too (Some x) = refl

        next : is_some (round_of cs card.id.event (card.id.round + 1))
            ≡ is_some (kept_next card.id.event card.id.round index.rounds.opened.items)
        next =
            ap (λ (n : ℕ). is_some (round_of cs card.id.event n)) (add-one card.id.round)
            ∙ ap is_some (sym (is.rounds.rounds card.id.event (suc card.id.round)))
            ∙ there_too (kept_next card.id.event card.id.round index.rounds.opened.items)

        step : (a : Option Code) (b : Bool) (s fault : Option Code) (x y : Bool) → x ≡ y
            → option_or a (cond (not b) (Some code.NotClosed)
            (option_or s (option_or fault (cond x (Some code.RoundsRule) None))))
            ≡ option_or (option_or a (option_or (state_refusal true b) s))
            (option_or fault (cond y (Some code.RoundsRule) None))
        step (Some c) b s fault x y alike = refl
        step None false s fault x y alike = refl
        step None true (Some c) fault x y alike = refl
        step None true None fault x y alike =
            ap (λ (t : Bool). option_or fault (cond t (Some code.RoundsRule) None)) alike

    -- none of them does
    pub fix_late : None ≡ early_refusal true (scrambles_of cs card.id) card (kept_value old)
        → (vs : List Value) → vs ≡ card_values (scrambles_of cs card.id) card old.settings
        → (answer : Option Code) → answer ≡ late vs → answer ≡ refusal cs (Fix card)
    fix_late early vs values answer says =
        says ∙ ap late values
        ∙ ap (λ (o : Option Code).
        option_or o (late (card_values (scrambles_of cs card.id) card old.settings))) early
        ∙ sym fix_parts

    -- the same by what is read in between, the round once more and its values twice
    pub fix_answer : None ≡ early_refusal true (scrambles_of cs card.id) card (kept_value old)
        → (vs : List Value) → vs ≡ card_values (scrambles_of cs card.id) card old.settings
        → (other : KeptRound) → other ≡ get_or index.rounds.opened.items i other
        → (one two : List Value) → one ≡ vs → two ≡ vs → (fault : Option FixFault)
        → fault ≡ fix_fault other.table card.number one → (count : ℕ)
        → count ≡ started (with_values other.table card.number two) → (breaks : Bool) → breaks
        ≡ (not (is_some (kept_next card.id.event card.id.round index.rounds.opened.items))
        && breaks_rounds_rule
        (but_for (kept_competitors card.id.event index.rounds.opened.items) card.id.round count)
        card.id.round other.settings.advance)
        → option_or (option_map fix_code fault) (cond breaks (Some code.RoundsRule) None)
        ≡ refusal cs (Fix card)
    fix_answer early vs values other again one two is_one is_two fault faults count counts breaks
        rule =
        fix_late early vs values _
        (ap
        (λ (f : Option FixFault).
        option_or (option_map fix_code f) (cond breaks (Some code.RoundsRule) None))
        (faults
        ∙ ap (λ (k : KeptRound). fix_fault k.table card.number one) same
        ∙ ap (fix_fault old.table card.number) is_one)
        ∙ ap
        (λ (b : Bool).
        option_or (option_map fix_code (fix_fault old.table card.number vs))
        (cond b (Some code.RoundsRule) None))
        (rule
        ∙ ap (λ (k : KeptRound). breaks_at count k.settings.advance) same
        ∙ ap (λ (n : ℕ). breaks_at n old.settings.advance)
        (counts
        ∙ ap (λ (k : KeptRound). started (with_values k.table card.number two)) same
        ∙ ap (λ (ws : List Value). started (with_values old.table card.number ws)) is_two)))
      where
        same : other ≡ old
        same = read_twice index.rounds.opened.items i other old at.within again there

        breaks_at : ℕ → Advance → Bool
        breaks_at n advance =
            not (is_some (kept_next card.id.event card.id.round index.rounds.opened.items))
            && breaks_rounds_rule
            (but_for (kept_competitors card.id.event index.rounds.opened.items) card.id.round n)
            card.id.round advance

-- who is of a command that is of somebody
pub known_of : (b : Bool) → not b ≡ false → b ≡ true
known_of true h = refl
known_of false h = absurd (false≢true (sym h))
