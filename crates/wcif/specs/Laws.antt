-- What holds of the commands of a competition of which a desk can hold all (the project's own).
use Rattle.std.specs.Prelude.{◌≡◌, ◌≤◌, ◌==◌, ℕ, Bool, true, false, List, [], ◌∷◌, ◌++◌, map}
use Rattle.std.specs.Prelude.{filter, find, Option, Some, None, slice_get, All, codes}
use Rattle.std.specs.{List.list_any, List.slice_split, Option.option_map, Option.option_and_then}
use Rattle.serde_json.specs.Data.{Data}
use Rattle.formats.specs.{declared.events.Event.Event, Events.event_name, Events.unit_of}
use Rattle.rounds.specs.Tables.{Entrant, Table}
use Rattle.texts.specs.declared.command.{Command.Command, Settings.Settings}
use Rattle.texts.specs.{declared.answer.Answer.TheVariants.Done, Reading.told}
use Rattle.texts.specs.Spelling.{IsFit, spelling}
use Rattle.commands.specs.Accepted.{name_of, round_of}
use Rattle.commands.specs.History.{History, nothing, history, after, answer_to, spelled_refusal}
use Rattle.wcif.specs.declared.options.{CumulativeLimits.CumulativeLimits, Options.Options}
use Rattle.wcif.specs.Commands.{commands, commands_of, numbered, numbers}
use Rattle.wcif.specs.{Events.event_named, Events.enters, Events.rounds_of, Faults.faults_in}
use Rattle.wcif.specs.{Faults.faults, Lines.lines, Members.list_at, Rounds.settings_in}
use Rattle.wcif.specs.Persons.{has_id, has_number, is_accepted, name_as, number_of}

-- a desk can hold all of a file: the laws below are then of its two lists, and of its commands
abbrev pub ListsAreHeld : Type 0
ListsAreHeld =
    (options : Options) (d : Data) → faults options d ≡ []
    → (persons : List Data) × (events : List Data)
    × (list_at (codes "persons") d ≡ Some persons) × (list_at (codes "events") d ≡ Some events)
    × (faults_in options (Some persons) (Some events) ≡ [])
    × (commands options d ≡ commands_of options persons events)

-- two numbers are not registered under one name
abbrev pub NamesAreApart : Type 0
NamesAreApart =
    (options : Options) (persons events : List Data)
    → faults_in options (Some persons) (Some events) ≡ [] → (m n : ℕ) (q p : Data)
    → find (has_number m) persons ≡ Some q → find (has_number n) persons ≡ Some p
    → name_as options.names persons q ≡ name_as options.names persons p → m ≡ n

-- each of these commands is accepted, one after the other, after those that were accepted before:
-- the edition that holds has its spelling, and none of its checks fails
abbrev pub AreAccepted : List Command → List Command → Type 0
AreAccepted before [] = Unit {0}
AreAccepted before (c ∷ cs) =
    (spelled_refusal before (told None c) ≡ None) × AreAccepted (before ++ c ∷ []) cs

-- an empty meet accepts every command of an import
abbrev pub AcceptsAll : Type 0
AcceptsAll =
    (options : Options) (persons events : List Data)
    → faults_in options (Some persons) (Some events) ≡ []
    → AreAccepted [] (commands_of options persons events)

-- the commands of an import are in the ranges of their fields, so each line is read back as it is
abbrev pub CommandsAreFit : Type 0
CommandsAreFit =
    (options : Options) (persons events : List Data)
    → faults_in options (Some persons) (Some events) ≡ []
    → All IsFit (commands_of options persons events)

-- The meet after the commands.

-- the settings of the first round of an event, where the file has the event
abbrev pub first_settings : CumulativeLimits → List Data → Event → Option Settings
first_settings how events e =
    option_and_then (λ d. option_and_then (settings_in how e) (slice_get (rounds_of d) 0))
    (find (has_id (event_name e)) events)

-- the number is that of an accepted person who is registered for the event
abbrev pub is_entrant : List Data → Event → ℕ → Bool
is_entrant persons e n = list_any (enters e) (numbered persons n)

-- the numbers of those who are registered for the event, in order
abbrev pub entrants : List Data → Event → List ℕ
entrants persons e = filter (is_entrant persons e) numbers

-- an entrant who has done no attempt
abbrev pub newcomer : ℕ → Entrant
newcomer n = record { number = n; values = [] }

-- a round that is open, with these entrants and no attempt
abbrev pub new_round : Event → List ℕ → Settings → Settings × Table
new_round e ns settings = (
  settings,
  record {
    format = settings.format;
    unit = unit_of e;
    cutoff = settings.cutoff;
    is_closed = false;
    entrants = map newcomer ns;
  },
)

-- an accepted person is registered under the number and the name of the file, and is an entrant
-- just where the registration names the event
abbrev pub IsThere : Options → List Data → List Command → Data → Type 0
IsThere options persons cs p =
    is_accepted p ≡ true
    → (n : ℕ) × (number_of p ≡ Some n) × (name_of cs n ≡ Some (name_as options.names persons p))
    × ((e : Event) → list_any (λ m. n == m) (entrants persons e) ≡ enters e p)

-- the first round of an event is open with its settings, and has the entrants of the event
abbrev pub IsOpen : Options → List Data → List Command → Data → Type 0
IsOpen options persons cs d =
    (e : Event) × (s : Settings) × (event_named d ≡ Some e)
    × (option_and_then (settings_in options.limits e) (slice_get (rounds_of d) 0) ≡ Some s)
    × (round_of cs e 1 ≡ Some (new_round e (entrants persons e) s))

-- after these commands a meet has the people, rounds and entries of the file, and no others: by
-- each number, event and round that there may be, and by each person and event of the file
pub record IsSetUp (options : Options) (persons events : List Data) (cs : List Command) :
    Type 0 where
  pub people : (n : ℕ)
      → name_of cs n ≡ option_map (name_as options.names persons) (find (has_number n) persons)
  pub first_rounds : (e : Event) → round_of cs e 1
      ≡ option_map (new_round e (entrants persons e)) (first_settings options.limits events e)
  pub later_rounds : (e : Event) (r : ℕ) → 2 ≤ r → round_of cs e r ≡ None
  pub everyone : All (IsThere options persons cs) persons
  pub every_event : All (IsOpen options persons cs) events

-- after the commands of an import a meet is what the file says
abbrev pub SetsUpMeet : Type 0
SetsUpMeet =
    (options : Options) (persons events : List Data)
    → faults_in options (Some persons) (Some events) ≡ []
    → IsSetUp options persons events (commands_of options persons events)

-- The lines of an import, as the entries that a desk is given: each an id and a text.

-- no two entries have one id
abbrev pub HaveOwnIds : List (ℕ × List ℕ) → Type 0
HaveOwnIds [] = Unit {0}
HaveOwnIds (entry ∷ entries) =
    (list_any (λ other. entry.0 == other.0) entries ≡ false) × HaveOwnIds entries

-- each of these entries is done, one after the other, after this history
abbrev pub AreDone : History → List (ℕ × List ℕ) → Type 0
AreDone h [] = Unit {0}
AreDone h (entry ∷ entries) =
    (answer_to h entry.0 entry.1 ≡ Done) × AreDone (after h entry.0 entry.1) entries

-- a desk that was empty does the lines of an import, under whatever ids, and then has its commands
abbrev pub DoesAllLines : Type 0
DoesAllLines =
    (options : Options) (persons events : List Data)
    → faults_in options (Some persons) (Some events) ≡ []
    → (entries : List (ℕ × List ℕ)) → HaveOwnIds entries
    → map (λ entry. entry.1) entries ≡ map spelling (commands_of options persons events)
    → AreDone nothing entries × ((history entries).accepted ≡ commands_of options persons events)

-- the text of an import has the spelled commands as its lines, and nothing after the last line feed
abbrev pub PrintsWholeLines : Type 0
PrintsWholeLines =
    (options : Options) (persons events : List Data)
    → faults_in options (Some persons) (Some events) ≡ []
    → slice_split (λ b. b == 10) (lines (commands_of options persons events))
    ≡ map spelling (commands_of options persons events) ++ [] ∷ []
