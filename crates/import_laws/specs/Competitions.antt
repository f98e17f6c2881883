-- A competition: its persons, with their registrations, and its events, with their rounds (the
-- project's own).
use Rattle.std.specs.Prelude.{ℕ, Bool, true, false, List, filter, Option}
use Rattle.formats.specs.declared.events.Event.{Event}
use Rattle.texts.specs.declared.command.Settings.{Settings}

pub data Status : Type 0 where
  accepted : Status
  pending : Status
  deleted : Status

-- only who is accepted has to have a number
pub record Person : Type 0 where
  pub email : List ℕ
  pub name : List ℕ
  pub wca_id : Option (List ℕ)
  pub number : Option ℕ
  pub status : Status
  pub events : List Event

-- an event with its rounds, in order
pub record Held : Type 0 where
  pub event : Event
  pub rounds : List Settings

pub record Competition : Type 0 where
  pub name : List ℕ
  pub persons : List Person
  pub events : List Held

abbrev pub is_accepted : Status → Bool
is_accepted accepted = true
is_accepted pending = false
is_accepted deleted = false

abbrev pub takes_part : Person → Bool
takes_part p = is_accepted p.status

abbrev pub who_take_part : Competition → List Person
who_take_part c = filter takes_part c.persons
