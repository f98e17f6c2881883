-- The commands that set a competition up: the edition; REG of each accepted person, in the order of
-- the numbers; OPEN of the first round of each event, in the order of the events; ENT for each
-- event of each accepted person, in the order of the numbers and then of the registration (the
-- project's own).
use Rattle.std.specs.Prelude.{ℕ, nat_lt, if◌then◌else◌, List, [], ◌∷◌, ◌++◌, map, flat_map}
use Rattle.std.specs.Prelude.{unwrap_or}
use Rattle.formats.specs.declared.events.Event.{Event}
use Rattle.texts.specs.declared.command.{Command.Command, Settings.Settings}
use Rattle.texts.specs.declared.command.Command.TheVariants.{Register, Open, Enter, SetEdition}
use Rattle.texts.specs.Fields.{round_id}
use Rattle.wcif.specs.declared.options.Edition.{Edition, TheVariants.Three, TheVariants.Four}
use Rattle.import_laws.specs.Competitions.{Person, Held, Competition, who_take_part}

-- the number of who takes part
abbrev pub number_of : Person → ℕ
number_of p = unwrap_or p.number 0

-- a person put among others by the number
abbrev pub put_in : Person → List Person → List Person
put_in p [] = p ∷ []
put_in p (q ∷ qs) = if nat_lt (number_of p) (number_of q) then p ∷ q ∷ qs else q ∷ put_in p qs

abbrev pub by_number : List Person → List Person
by_number [] = []
by_number (p ∷ ps) = put_in p (by_number ps)

abbrev pub register : Person → Command
register p = Register (number_of p) p.name

abbrev pub enter : Person → Event → Command
enter p e = Enter e (number_of p)

abbrev pub enter_all : Person → List Command
enter_all p = map (enter p) p.events

abbrev pub open_with : Event → List Settings → List Command
open_with e [] = []
open_with e (s ∷ later) = Open (round_id e 1) s ∷ []

abbrev pub open_first : Held → List Command
open_first h = open_with h.event h.rounds

abbrev pub begin_with : Edition → Command
begin_with Three = SetEdition 3
begin_with Four = SetEdition 4

abbrev pub set_up : Edition → Competition → List Command
set_up edition c =
    (begin_with edition ∷ []) ++ map register (by_number (who_take_part c))
    ++ flat_map open_first c.events ++ flat_map enter_all (by_number (who_take_part c))
