-- The competitions of which a desk can hold all (the project's own).
use Rattle.std.specs.Prelude.{◌≡◌, ◌≤◌, ◌-◌, ◌==◌, ◌&&◌, ℕ, Bool, true, false, List, [], ◌∷◌}
use Rattle.std.specs.Prelude.{length, bytes_eq, count_by, map, Option, Some, None}
use Rattle.std.specs.{List.list_any, List.AllByRecursion, Str.IsUtf8}
use Rattle.attempts.specs.declared.Unit.{Unit as Measure}
use Rattle.attempts.specs.declared.Unit.TheVariants.{Time, Moves, Multi}
use Rattle.formats.specs.declared.advance.Advance.{Advance as Advances}
use Rattle.formats.specs.declared.advance.Advance.TheVariants.{Final, Top, Percent}
use Rattle.formats.specs.declared.events.{Event.Event, Format.Format}
use Rattle.formats.specs.Events.{event_name, unit_of, is_allowed, attempts_of}
use Rattle.texts.specs.{declared.command.Settings.Settings, Names.is_clear_name}
use Rattle.import_laws.specs.Competitions.{Person, Held, Competition, takes_part, who_take_part}
use Rattle.import_laws.specs.{SetUp.number_of, Spelled.spelled}

abbrev pub IsWithin : ℕ → ℕ → ℕ → Type 0
IsWithin low high n = (low ≤ n) × (n ≤ high)

-- no item is the same as a later one
abbrev pub AreApart : {A : Type 0} → (A → A → Bool) → List A → Type 0
AreApart same [] = Unit {0}
AreApart same (x ∷ xs) = (list_any (same x) xs ≡ false) × AreApart same xs

-- A round: its format is one of the event; a cutoff is of fewer attempts than the format has;
-- timed events have a limit, and others have none; multi-blind has no cutoff.

abbrev pub IsCutoff : Measure → Format → Option (ℕ × ℕ) → Type 0
IsCutoff unit f None = Unit {0}
IsCutoff Time f (Some c) = IsWithin 1 (attempts_of f - 1) c.0 × IsWithin 1 360000 c.1
IsCutoff Moves f (Some c) = IsWithin 1 (attempts_of f - 1) c.0 × IsWithin 1 360000 c.1
IsCutoff Multi f (Some c) = ⊥

abbrev pub IsLimit : Measure → Option ℕ → Type 0
IsLimit Time None = ⊥
IsLimit Time (Some limit) = IsWithin 1 360000 limit
IsLimit Moves None = Unit {0}
IsLimit Moves (Some limit) = ⊥
IsLimit Multi None = Unit {0}
IsLimit Multi (Some limit) = ⊥

abbrev pub IsAdvance : Advances → Type 0
IsAdvance Final = Unit {0}
IsAdvance (Top n) = IsWithin 1 999 n
IsAdvance (Percent n) = IsWithin 1 75 n

pub record IsRound (e : Event) (s : Settings) : Type 0 where
  pub format : is_allowed e s.format ≡ true
  pub cutoff : IsCutoff (unit_of e) s.format s.cutoff
  pub limit : IsLimit (unit_of e) s.limit
  pub advance : IsAdvance s.advance

-- A person.

abbrev pub same_event : Event → Event → Bool
same_event a b = bytes_eq (event_name a) (event_name b)

abbrev pub same_number : Person → Person → Bool
same_number p q = number_of p == number_of q

abbrev pub same_name : Person → Person → Bool
same_name p q = bytes_eq p.name q.name

-- the event is one of these
abbrev pub IsAmong : List Event → Event → Type 0
IsAmong events e = list_any (same_event e) events ≡ true

-- who takes part, among these events
pub record IsEntrant (events : List Event) (p : Person) : Type 0 where
  pub number : ℕ
  pub has_number : p.number ≡ Some number
  pub number_within : IsWithin 1 9999 number
  pub name : is_clear_name p.name ≡ true
  pub few : length p.events ≤ 100
  pub among : AllByRecursion (IsAmong events) p.events
  pub once : AreApart same_event p.events

-- each number is of 64 bits, and the texts are UTF-8
abbrev pub IsNumber : Option ℕ → Type 0
IsNumber None = Unit {0}
IsNumber (Some n) = n ≤ 9999

abbrev pub IsText : Option (List ℕ) → Type 0
IsText None = Unit {0}
IsText (Some text) = IsUtf8 text

pub record IsPerson (p : Person) : Type 0 where
  pub email : IsUtf8 p.email
  pub name : IsUtf8 p.name
  pub wca_id : IsText p.wca_id
  pub number : IsNumber p.number

-- An event.

abbrev pub enters : Event → Person → Bool
enters e p = takes_part p && list_any (same_event e) p.events

pub record IsEvent (persons : List Person) (h : Held) : Type 0 where
  pub rounds : IsWithin 1 4 (length h.rounds)
  pub each : AllByRecursion (IsRound h.event) h.rounds
  pub few : count_by (enters h.event) persons ≤ 999

abbrev pub event_of : Held → Event
event_of h = h.event

-- A competition. Of persons who are not accepted nothing is asked but that they can be spelled.
pub record IsHeld (c : Competition) : Type 0 where
  pub name : IsUtf8 c.name
  pub persons : AllByRecursion IsPerson c.persons
  pub entrants : AllByRecursion (IsEntrant (map event_of c.events)) (who_take_part c)
  pub own_numbers : AreApart same_number (who_take_part c)
  pub own_names : AreApart same_name (who_take_part c)
  pub few_events : length c.events ≤ 100
  pub events : AllByRecursion (IsEvent c.persons) c.events
  pub own_events : AreApart same_event (map event_of c.events)
  pub short : length (spelled c) ≤ 67108864
