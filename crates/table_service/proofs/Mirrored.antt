-- What a card would be answered now, one attempt after the other and one check after the other.
use Rattle.std.proofs.Common.{◌≡◌, ◌∙◌, ℕ, zero, suc, ◌+◌, ◌<◌, ◌++◌, ◌||◌, Bool, true, false, List}
use Rattle.std.proofs.Common.{[], ◌∷◌, length, drop, get_or, slice_get, Option, None, Some}
use Rattle.std.proofs.Common.{option_map, refl, sym, ap, subst, add-one, arith, cond, not}
use Rattle.std.specs.{List.list_any, Option.option_or}
use Rattle.cube.specs.declared.moves.Move.{Move}
use Rattle.attempts.specs.declared.Value.{Value}
use Rattle.formats.specs.declared.events.{Event.Event, Format.Format}
use Rattle.formats.specs.Events.{unit_of}
use Rattle.rounds.specs.Tables.{Entrant, Table, entrant, fits, list_fault, set_fault}
use Rattle.texts.specs.declared.{answer.Code.Code, command.Settings.Settings}
use Rattle.texts.specs.declared.command.{CardEntry.CardEntry, Command.Command, Entered.Entered}
use Rattle.commands.specs.Accepted.{Opened, card_refusal, card_values, has_outcome, is_wrong}
use Rattle.commands.specs.Accepted.{lacks_scramble, opened, round_at, round_in, seen_refusal}
use Rattle.commands.specs.Accepted.{unfit_card_refusal, values_now}
use Rattle.commands.specs.{FaultCodes.set_code, model.Cards.enters as enters_one}
use Rattle.table_service.{specs.Checks.enters, specs.Checks.left_by, proofs.Walks.added}
use Rattle.texts.specs.declared.answer.Code.TheVariants as code
use Rattle.rounds.specs.declared.fault.SetFault.TheVariants as set

-- ---- what is entered

pub same_enters : (is : Entered → Bool) (o : Option Entered) → enters_one is o ≡ enters is o
same_enters is None = refl
same_enters is (Some x) = refl

any_of : (is : Entered → Bool) (k : ℕ) (xs : List (Option Entered))
    → list_any (enters is) xs ≡ has_outcome (λ j x. is x) k xs
any_of is k [] = refl
any_of is k (None ∷ xs) = any_of is (suc k) xs
any_of is k (Some x ∷ xs) = ap (λ (b : Bool). is x || b) (any_of is (suc k) xs)

-- what an event does not accept
module _ (e : Event) (scrambles : ℕ → Option (List Move)) (now : List (Option Entered)) where
  abbrev Wrong : Bool
  Wrong = has_outcome (λ k x. is_wrong (unit_of e) x) 1 now

  abbrev Lacks : Bool
  Lacks = has_outcome (λ k x. lacks_scramble (scrambles k) x) 1 now

  unfit_by : (wrong lacks : Bool) → Wrong ≡ wrong → Lacks ≡ lacks
      → cond wrong (Some code.WrongOutcome) (cond lacks (Some code.NoScramble) None)
      ≡ unfit_card_refusal e scrambles now
  unfit_by wrong lacks is_wrong_one lacks_one =
      ap (λ (b : Bool). cond b (Some code.WrongOutcome) (cond lacks (Some code.NoScramble) None))
      (sym is_wrong_one)
      ∙ ap (λ (b : Bool). cond Wrong (Some code.WrongOutcome) (cond b (Some code.NoScramble) None))
      (sym lacks_one)

  wrong_is : (b wrong : Bool) → b ≡ list_any (enters (is_wrong (unit_of e))) now → b ≡ wrong
      → Wrong ≡ wrong
  wrong_is b wrong is so = sym (any_of (is_wrong (unit_of e)) 1 now) ∙ sym is ∙ so

  pub unfit_wrong : (b : Bool) → b ≡ list_any (enters (is_wrong (unit_of e))) now → b ≡ true
      → Some code.WrongOutcome ≡ unfit_card_refusal e scrambles now
  unfit_wrong b is so = unfit_by true Lacks (wrong_is b true is so) refl

  pub unfit_lacks : (b lacks : Bool) → b ≡ list_any (enters (is_wrong (unit_of e))) now
      → b ≡ false → lacks ≡ Lacks → lacks ≡ true
      → Some code.NoScramble ≡ unfit_card_refusal e scrambles now
  unfit_lacks b lacks is so lacks_is lacks_so =
      unfit_by false true (wrong_is b false is so) (sym lacks_is ∙ lacks_so)

  pub unfit_none : (b lacks : Bool) → b ≡ list_any (enters (is_wrong (unit_of e))) now
      → b ≡ false → lacks ≡ Lacks → lacks ≡ false → None ≡ unfit_card_refusal e scrambles now
  unfit_none b lacks is so lacks_is lacks_so =
      unfit_by false false (wrong_is b false is so) (sym lacks_is ∙ lacks_so)

-- ---- the values that a card leaves

module _ (counts : ℕ → Entered → Value) where
  left_next : (k i : ℕ) (xs : List (Option Entered)) (vs : List Value) → i < length xs
      → values_now counts k (drop i xs) (drop i vs)
      ≡ left_by (counts k) (get_or xs i None) (slice_get vs i)
      ++ values_now counts (suc k) (drop (suc i) xs) (drop (suc i) vs)
  left_next k i [] vs within = absurd (omega arith)
  left_next k zero (None ∷ xs) [] within = refl
  left_next k zero (None ∷ xs) (v ∷ vs) within = refl
  left_next k zero (Some x ∷ xs) [] within = refl
  left_next k zero (Some x ∷ xs) (v ∷ vs) within = refl
  left_next k (suc zero) (x ∷ xs) [] within = left_next k zero xs [] (omega arith)
  left_next k (suc (suc i)) (x ∷ xs) [] within = left_next k (suc i) xs [] (omega arith)
  left_next k (suc i) (x ∷ xs) (v ∷ vs) within = left_next k i xs vs (omega arith)

  -- one more, as at a step of a loop
  pub left_more : (i : ℕ) (xs : List (Option Entered)) (vs old new all : List Value) → i < length xs
      → new ≡ old ++ left_by (counts (i + 1)) (get_or xs i None) (slice_get vs i)
      → old ++ values_now counts (suc i) (drop i xs) (drop i vs) ≡ all
      → new ++ values_now counts (suc (i + 1)) (drop (i + 1) xs) (drop (i + 1) vs) ≡ all
  left_more i xs vs old new all within adds before =
      let next : values_now counts (suc i) (drop i xs) (drop i vs)
      ≡ left_by (counts (i + 1)) (get_or xs i None) (slice_get vs i)
      ++ values_now counts (suc (i + 1)) (drop (i + 1) xs) (drop (i + 1) vs) =
      left_next (suc i) i xs vs within
      ∙ ap (λ (n : ℕ). left_by (counts n) (get_or xs i None) (slice_get vs i)
      ++ values_now counts (suc n) (drop n xs) (drop n vs)) (sym (add-one i)) in
      added old new (left_by (counts (i + 1)) (get_or xs i None) (slice_get vs i)) _ _ all adds
      next before

-- ---- a round that is opened

-- the format of its table is that of its settings
pub format_is : (e : Event) (r : ℕ) (cs : List Command) (round : Settings × Table)
    → round_in e r cs ≡ Some round → round.0.format ≡ round.1.format
unfolding round_in
format_is e zero cs round is = absurd (cc)
format_is e (suc r) cs round is = step (opened e (suc r) [] cs) is
  where
    step : (o : Option Opened)
        → option_map (λ o. round_at e (suc r) (round_in e r o.before) o) o ≡ Some round
        → round.0.format ≡ round.1.format
    step None none = absurd (cc)
    step (Some o) one =
        let same : round_at e (suc r) (round_in e r o.before) o ≡ round = cc in
        subst (λ (x : Settings × Table). x.0.format ≡ x.1.format) same refl

-- ---- one check after the other

module _ (e : Event) (scrambles : ℕ → Option (List Move)) (card : CardEntry) (settings : Settings)
    (t : Table) where
  abbrev Refusal : Option Code
  Refusal = card_refusal e scrambles card (Some (settings, t))

  abbrev Values : List Value
  Values = card_values scrambles card settings

  abbrev Later : Option Code
  Later =
      option_or (seen_refusal card.was (entrant t card.number))
      (option_map set_code (set_fault t card.number Values))

  abbrev Fitting : Option Code
  Fitting = unfit_card_refusal e scrambles card.now

  fit_is : None ≡ Fitting → cond t.is_closed (Some code.Closed) Later ≡ Refusal
  fit_is is =
      ap (λ (o : Option Code). option_or o (cond t.is_closed (Some code.Closed) Later)) is

  open_is : None ≡ Fitting → t.is_closed ≡ false → Later ≡ Refusal
  open_is is closed =
      sym (ap (λ (b : Bool). cond b (Some code.Closed) Later) closed) ∙ fit_is is

  set_by : (b : Bool) → fits t.format t.cutoff Values ≡ b → t.is_closed ≡ false
      → (o : Option Entrant) → None ≡ seen_refusal card.was o → entrant t card.number ≡ o
      → option_map set_code (set_fault t card.number Values)
      ≡ cond b None (Some code.NoMoreAttempts)
  set_by b is closed None seen found = absurd (cc)
  set_by b is closed (Some one) seen found =
      ap (λ (c : Bool).
      option_map set_code
      (cond c (Some set.Closed) (list_fault t.format t.cutoff Values (entrant t card.number))))
      closed
      ∙ ap (λ (o : Option Entrant). option_map set_code (list_fault t.format t.cutoff Values o))
      found
      ∙ ap (λ (c : Bool). option_map set_code (cond c None (Some set.NoMoreAttempts))) is
      ∙ last b
    where
      last : (c : Bool) → option_map set_code (cond c None (Some set.NoMoreAttempts))
          ≡ cond c None (Some code.NoMoreAttempts)
      last true = refl
      last false = refl

  pub refused_last : (b : Bool) → None ≡ Fitting → t.is_closed ≡ false
      → None ≡ seen_refusal card.was (entrant t card.number)
      → fits t.format t.cutoff Values ≡ b → cond b None (Some code.NoMoreAttempts) ≡ Refusal
  refused_last b is closed seen fitting =
      sym (set_by b fitting closed (entrant t card.number) seen refl)
      ∙ ap (λ (o : Option Code).
      option_or o (option_map set_code (set_fault t card.number Values))) seen
      ∙ open_is is closed

not_not : (b : Bool) → not (not b) ≡ b
not_not true = refl
not_not false = refl

pub fits_by : (b more : Bool) (f g : Format) (k l : Option (ℕ × ℕ)) (vs ws : List Value)
    → more ≡ not (fits f k vs) → more ≡ b → f ≡ g → k ≡ l → vs ≡ ws → fits g l ws ≡ not b
fits_by b more f g k l vs ws is so same_format same_cutoff same_values =
    sym (ap (λ (x : Format). fits x k vs) same_format
    ∙ ap (λ (x : Option (ℕ × ℕ)). fits g x vs) same_cutoff ∙ ap (fits g l) same_values)
    ∙ sym (not_not (fits f k vs)) ∙ ap not (sym is ∙ so)
