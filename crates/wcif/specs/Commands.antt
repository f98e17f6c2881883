-- The commands that set up a competition in the WCA Competition Interchange Format: the edition,
-- each accepted person in the order of the numbers, the first round of each event in the order of
-- the file, and who enters them.
use Rattle.std.specs.Prelude.{ℕ, List, [], ◌∷◌, ◌++◌, map, find, flat_map, codes, Option, unwrap_or}
use Rattle.std.specs.Prelude.{option_to_list, slice_get}
use Rattle.std.specs.{List.range_with_len, Option.option_and_then, Option.option_map}
use Rattle.serde_json.specs.Data.{Data}
use Rattle.formats.specs.{declared.events.Event.Event, Events.event_of_name}
use Rattle.texts.specs.{Fields.round_id, declared.command.Command.Command}
use Rattle.texts.specs.declared.command.Command.TheVariants.{Register, Open, Enter, SetEdition}
use Rattle.wcif.specs.declared.options.{Options.Options, CumulativeLimits.CumulativeLimits}
use Rattle.wcif.specs.declared.options.{Edition.Edition, SameNames.SameNames}
use Rattle.wcif.specs.declared.options.Edition.TheVariants.{Three, Four}
use Rattle.wcif.specs.{Members.list_at, Events.event_named, Events.rounds_of, Rounds.settings_in}
use Rattle.wcif.specs.Persons.{text_of, has_number, name_as, event_ids, last_number}

-- the numbers from 1 to a last one
unfoldable pub numbers_to : ℕ → List ℕ
numbers_to last = range_with_len 1 last

-- the numbers that a person may have, in order
abbrev pub numbers : List ℕ
numbers = numbers_to last_number

-- the accepted person with a number, where there is one
abbrev pub numbered : List Data → ℕ → List Data
numbered persons n = option_to_list (find (has_number n) persons)

abbrev pub registering : SameNames → List Data → ℕ → Data → Command
registering how persons n p = Register n (name_as how persons p)

-- `REG` of a number
unfoldable pub registered : SameNames → List Data → ℕ → List Command
registered how persons n = map (registering how persons n) (numbered persons n)

-- `ENT` of a number for an event
abbrev pub entering : ℕ → Data → List Command
entering n id = option_to_list (option_map (λ e. Enter e n) (event_of_name (text_of id)))

abbrev pub entering_all : ℕ → Data → List Command
entering_all n p = flat_map (entering n) (unwrap_or (event_ids p) [])

-- `ENT` of a number for each event of its registration
unfoldable pub entered : List Data → ℕ → List Command
entered persons n = flat_map (entering_all n) (numbered persons n)

abbrev pub opening : CumulativeLimits → Data → Event → Option Command
opening how d e =
    option_map (Open (round_id e 1))
    (option_and_then (settings_in how e) (slice_get (rounds_of d) 0))

-- `OPEN` of the first round of an event
unfoldable pub opened : CumulativeLimits → Data → List Command
opened how d = option_to_list (option_and_then (opening how d) (event_named d))

abbrev pub edition_number : Edition → ℕ
edition_number Three = 3
edition_number Four = 4

-- `EDITION`, with which the list begins
abbrev pub beginning : Edition → Command
beginning edition = SetEdition (edition_number edition)

unfoldable pub commands_of : Options → List Data → List Data → List Command
commands_of options persons events =
    (beginning options.edition ∷ []) ++ flat_map (registered options.names persons) numbers
    ++ flat_map (opened options.limits) events ++ flat_map (entered persons) numbers

-- the commands of a competition of which a desk can hold all
unfoldable pub commands : Options → Data → List Command
commands options d =
    commands_of options (unwrap_or (list_at (codes "persons") d) [])
    (unwrap_or (list_at (codes "events") d) [])
