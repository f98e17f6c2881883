-- An empty meet accepts the commands of an import, which are in the ranges of their fields, and
-- then has what the file says.
use Rattle.std.proofs.Common.{◌≡◌, ◌≤◌, ℕ, false, List, [], ◌∷◌, ◌++◌, Option, Some, None, refl}
use Rattle.std.proofs.Common.{arith, nat_lt, map, subst, sym}
use Rattle.std.specs.Prelude.{flat_map, find, unwrap_or, IsTrue}
use Rattle.std.specs.{List.list_any, List.AllByRecursion, Option.option_map, Option.option_to_list}
use Rattle.std.proofs.lemmas.Bool.{Decides.nat_tests, or_right}
use Rattle.std.proofs.lemmas.List.Elements.{All-from_recursion}
use Rattle.serde_json.specs.Data.{Data}
use Rattle.texts.specs.{Reading.told as spoken, Table.rows, Fields.round_id, Names.is_early_name}
use Rattle.texts.specs.{Names.is_clear_name, Names.is_name, Spelling.IsFit, Spelling.IsFitSettings}
use Rattle.formats.specs.declared.events.Event.{Event, TheVariants.MultiBlind}
use Rattle.formats.specs.Events.{event_edition, event_of_name}
use Rattle.commands.specs.History.{spelled_refusal}
use Rattle.wcif.specs.declared.options.{Edition.Edition, Options.Options}
use Rattle.wcif.specs.declared.options.Edition.TheVariants.{Three, Four}
use Rattle.wcif.specs.{declared.options.CumulativeLimits.CumulativeLimits, Faults.faults_in}
use Rattle.wcif.specs.Commands.{beginning, edition_number, registered, opened, entered, commands_of}
use Rattle.wcif.specs.Commands.{numbers, registering, entering, entering_all}
use Rattle.wcif.specs.{Events.event_named, Events.event_faults, Told.told_from}
use Rattle.wcif.specs.Laws.{AcceptsAll, SetsUpMeet, IsThere, IsOpen, entrants, CommandsAreFit}
use Rattle.wcif.specs.Persons.{has_number, last_number, text_of, event_ids, name_as}
use Rattle.wcif.proofs.Accepting.{Reaches, reach_more, Stands, stands_nothing, stands_edition}
use Rattle.wcif.proofs.Found.{back_none, names_apart, all_free, fit_registered, front_none}
use Rattle.wcif.proofs.{Entering.rounds_with, Held.holds_event}
use Rattle.rounds.specs.Tables.{Table}
use Rattle.wcif.proofs.Entrants.{enters_all, own_numbers, all_there, all_open}
use Rattle.wcif.proofs.Opening.{is_late, opens, AreKnown, filed, nowhere, registers, opened_is}
use Rattle.texts.specs.declared.command.{Command.Command, Settings.Settings}
use Rattle.texts.specs.declared.command.Command.TheVariants.{Register, Open, Enter}
use Rattle.commands.proofs.Sizes.{all_append, all_flat_map}

known : (options : Options) (persons events : List Data)
    → faults_in options (Some persons) (Some events) ≡ [] → AreKnown options.names persons
known options persons events none = record {
  apart = names_apart options persons events none;
  ranged = λ n p found. (fit_registered options persons events none n p found).0;
  named = λ n p found. (fit_registered options persons events none n p found).1;
}

-- The edition.

low_edition : (e : Event) → event_edition e ≤ 2
low_edition MultiBlind = omega arith
low_edition _ = omega arith

-- no event is of an edition after the second
never_late : (edition : ℕ) → 3 ≤ edition → (o : Option Event) → is_late edition o ≡ false
never_late edition high None = refl
never_late edition high (Some e) = step (event_edition e) (low_edition e)
  where
    step : (n : ℕ) → n ≤ 2 → nat_lt edition n ≡ false
    step n low = grind (arith, nat_tests, high, low)

-- so this one is late for none of them
in_edition : (edition : ℕ) → 3 ≤ edition → (events : List Data)
    → list_any (λ d. is_late edition (event_named d)) events ≡ false
in_edition edition high [] = refl
in_edition edition high (d ∷ ds) =
    rw (never_late edition high (event_named d)) (in_edition edition high ds)

from_third : (e : Edition) → 3 ≤ edition_number e
from_third Three = omega arith
from_third Four = omega arith

-- an empty meet accepts it
beginning_accepted : (e : Edition) → spelled_refusal [] (spoken None (beginning e)) ≡ None
unfolding rows
beginning_accepted Three = refl
beginning_accepted Four = refl

-- All commands, part by part.

pub set_up : (options : Options) (persons events : List Data)
    → faults_in options (Some persons) (Some events) ≡ []
    → Reaches [] (commands_of options persons events) (λ cs. Stands cs (filed options.names persons)
    (edition_number options.edition) (rounds_with options.limits events (entrants persons)))
unfolding commands_of
set_up options persons events none =
    reach_more [] (begun ++ flat_map (opened options.limits) events)
    (flat_map (entered persons) numbers) (Has (rounds_with options.limits events (λ e. [])))
    (Has (rounds_with options.limits events (entrants persons)))
    (reach_more [] begun (flat_map (opened options.limits) events) (Has nowhere)
    (Has (rounds_with options.limits events (λ e. []))) (record {
      accepted = (beginning_accepted options.edition, registered_all.accepted);
      after = registered_all.after;
    }) (λ now. opens options.limits persons events (filed options.names persons) edition now free
    (in_edition edition high events)))
    (λ now. enters_all options.names options.limits persons events edition now
    (all_free options persons events none).0 free (in_edition edition high events))
  where
    edition : ℕ
    edition = edition_number options.edition

    high : 3 ≤ edition
    high = from_third options.edition

    free : told_from (event_faults options.limits persons) [] events ≡ []
    free = (all_free options persons events none).1

    Has : (Event → Option (Settings × Table)) → List Command → Type 0
    Has rounds cs = Stands cs (filed options.names persons) edition rounds

    begun : List Command
    begun = (beginning options.edition ∷ []) ++ flat_map (registered options.names persons) numbers

    registered_all : Reaches (beginning options.edition ∷ [])
        (flat_map (registered options.names persons) numbers) (Has nowhere)
    registered_all =
        registers options.names persons edition (known options persons events none) high
        (beginning options.edition ∷ [])
        (stands_edition [] (λ n. None) 1 edition nowhere stands_nothing)

pub accepts_all : AcceptsAll
accepts_all options persons events none = (set_up options persons events none).accepted

pub sets_up : SetsUpMeet
sets_up options persons events none =
    let stands = (set_up options persons events none).after in
    record {
      people = stands.people;
      first_rounds = stands.first;
      later_rounds = stands.later;
      everyone =
          All-from_recursion (IsThere options persons (commands_of options persons events)) persons
          (all_there options persons (commands_of options persons events) stands.people
          (known options persons events none).ranged persons (own_numbers options.names events
          persons [] persons refl (all_free options persons events none).0));
      every_event =
          All-from_recursion (IsOpen options persons (commands_of options persons events)) events
          (all_open options persons events (commands_of options persons events) stands.first []
          events refl (all_free options persons events none).1);
    }

-- what is to be shown of each command of an import, given that its fields are in their ranges
pub record HoldsOfEach (P : Command → Type 0) : Type 0 where
  pub edition : (e : Edition) → P (beginning e)
  pub registration : (n : ℕ) (name : List ℕ)
      → ((1 ≤ n) × (n ≤ last_number)) × IsTrue (is_clear_name name) → P (Register n name)
  pub opening : (e : Event) (s : Settings) → IsFit (Open (round_id e 1) s)
      → P (Open (round_id e 1) s)
  pub entry : (e : Event) (n : ℕ) → IsFit (Enter e n) → P (Enter e n)

-- the four kinds of commands, in the ranges of their fields

opening_fit : (e : Event) (s : Settings) → IsFitSettings s → IsFit (Open (round_id e 1) s)
unfolding rows
opening_fit e s fits =
    ((tt, ((omega arith, omega arith), (tt, (fits.0, (fits.1, (fits.2, tt)))))), tt)

entry_fit : (e : Event) (n : ℕ) → (1 ≤ n) × (n ≤ last_number) → IsFit (Enter e n)
unfolding rows
entry_fit e n range = ((tt, (range, tt)), tt)

beginning_fit : (e : Edition) → IsFit (beginning e)
unfolding rows
beginning_fit Three = (((omega arith, omega arith), tt), tt)
beginning_fit Four = (((omega arith, omega arith), tt), tt)

registration_fit : (n : ℕ) (name : List ℕ) → (1 ≤ n) × (n ≤ last_number)
    → IsTrue (is_name name) → IsFit (Register n name)
unfolding rows
registration_fit n name range named = ((range, (named, tt)), tt)

-- openings of events of which nothing is said
each_opening : (P : Command → Type 0) → HoldsOfEach P → (how : CumulativeLimits)
    (persons earlier events : List Data) → told_from (event_faults how persons) earlier events ≡ []
    → AllByRecursion P (flat_map (opened how) events)
each_opening P each how persons earlier [] none = tt
each_opening P each how persons earlier (d ∷ ds) none =
    let held = holds_event how persons earlier d
    (front_none (event_faults how persons earlier d) _ none) in
    all_append P (opened how d) (flat_map (opened how) ds)
    (subst (AllByRecursion P) (sym (opened_is how persons earlier d held)) (
      each.opening held.event held.settings
          (opening_fit held.event held.settings held.may.fit),
      tt,
    ))
    (each_opening P each how persons (earlier ++ d ∷ []) ds
    (back_none (event_faults how persons earlier d) _ none))

-- entries of a number in the range
each_entry : (P : Command → Type 0) → HoldsOfEach P → (n : ℕ) → (1 ≤ n) × (n ≤ last_number)
    → (id : Data) → AllByRecursion P (entering n id)
each_entry P each n range id = step (event_of_name (text_of id))
  where
    step : (o : Option Event) → AllByRecursion P (option_to_list (option_map (λ e. Enter e n) o))
    step None = tt
    step (Some e) = (each.entry e n (entry_fit e n range), tt)

each_number : (P : Command → Type 0) → HoldsOfEach P → (options : Options)
    (persons events : List Data) → faults_in options (Some persons) (Some events) ≡ [] → (n : ℕ)
    → AllByRecursion P (registered options.names persons n) × AllByRecursion P (entered persons n)
unfolding registered entered
each_number P each options persons events none n = step (find (has_number n) persons) refl
  where
    step : (o : Option Data) → find (has_number n) persons ≡ o
        → AllByRecursion P (map (registering options.names persons n) (option_to_list o))
        × AllByRecursion P (flat_map (entering_all n) (option_to_list o))
    step None found = (tt, tt)
    step (Some p) found =
        let fits = fit_registered options persons events none n p found in
        let entries : AllByRecursion P (entering_all n p) =
        all_flat_map P (entering n) (each_entry P each n fits.0) (unwrap_or (event_ids p) []) in (
          (each.registration n (name_as options.names persons p) fits, tt),
          all_append P (entering_all n p) [] entries tt,
        )

pub each_command : (P : Command → Type 0) → HoldsOfEach P → (options : Options)
    (persons events : List Data) → faults_in options (Some persons) (Some events) ≡ []
    → AllByRecursion P (commands_of options persons events)
unfolding commands_of
each_command P each options persons events none =
    let numbered = each_number P each options persons events none in
    let first : AllByRecursion P (flat_map (registered options.names persons) numbers) =
    all_flat_map P (registered options.names persons) (λ n. (numbered n).0) numbers in
    let last : AllByRecursion P (flat_map (entered persons) numbers) =
    all_flat_map P (entered persons) (λ n. (numbered n).1) numbers in
    let middle : AllByRecursion P (flat_map (opened options.limits) events) = each_opening P each
    options.limits persons [] events (all_free options persons events none).1 in
    let begun : List Command = beginning options.edition ∷ [] in
    let persons_in : List Command = flat_map (registered options.names persons) numbers in
    let rounds_in : List Command = flat_map (opened options.limits) events in
    all_append P (begun ++ persons_in ++ rounds_in) (flat_map (entered persons) numbers)
    (all_append P (begun ++ persons_in) rounds_in
    (all_append P begun persons_in (each.edition options.edition, tt) first) middle) last

pub fit : CommandsAreFit
fit options persons events none =
    All-from_recursion IsFit (commands_of options persons events) (each_command IsFit (record {
      edition = beginning_fit;
      registration =
          λ n name fits. registration_fit n name fits.0 (or_right (is_early_name name) _ fits.1);
      opening = λ e s fits. fits;
      entry = λ e n fits. fits;
    }) options persons events none)
