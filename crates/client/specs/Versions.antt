-- Which version of the wire a request needs (the project's own).
use Rattle.std.specs.Prelude.{nat_le, if◌then◌else◌}
use Rattle.formats.specs.{declared.events.Event.Event, Events.event_number}
use Rattle.wire.specs.Numbers.{last_event}
use Rattle.wire.specs.declared.values.Version.{Version, TheVariants.One, TheVariants.Two}

-- the first version that has a frame for the sheets of an event: only the event after the last one
-- of version 1 needs version 2
abbrev pub sheet_version : Event → Version
sheet_version event = if nat_le (event_number event) (last_event One) then One else Two
