-- The opening of a round that holds, and its settings as they are since (the project's own).
use Rattle.std.specs.Prelude.{ℕ, Bool, false, ◌==◌, ◌&&◌, if◌then◌else◌, List, [], ◌∷◌, ◌++◌}
use Rattle.std.specs.{Prelude.Option, Prelude.None, Prelude.Some, Option.option_map}
use Rattle.formats.specs.{declared.events.Event.Event, Events.same_event}
use Rattle.texts.specs.declared.command.{Command.Command, RoundId.RoundId, Settings.Settings}
use Rattle.texts.specs.declared.command.Command.TheVariants.{Open, SetAdvance, SetRound, Cancel}

-- a round is that of an event and a number
abbrev pub is_of : Event → ℕ → RoundId → Bool
is_of e r id = same_event e id.event && r == id.round

-- a round that was opened: the commands before its opening, the settings that it was opened with,
-- and the commands since
pub record Opened : Type 0 where
  pub before : List Command
  pub settings : Settings
  pub since : List Command

-- the settings with which a command opens a round
abbrev pub opening : Event → ℕ → Command → Option Settings
opening e r (Open id settings) = if is_of e r id then Some settings else None
opening e r _ = None

-- a command takes back the opening of a round
abbrev pub is_cancelled : Event → ℕ → Command → Bool
is_cancelled e r (Cancel id) = is_of e r id
is_cancelled e r _ = false

-- a round that these commands are before, as settings open it
abbrev pub just_opened : List Command → Settings → Opened
just_opened earlier settings = record { before = earlier; settings = settings; since = [] }

-- a round that is opened, after one more command
abbrev pub plus_command : Command → Opened → Opened
plus_command c o = record o { since = o.since ++ c ∷ [] }

-- a round after one more command, which is after `earlier`: one that is not opened is, where the
-- command opens it; one that is opened has one more command, or is not opened any more
abbrev pub opened_by : Event → ℕ → List Command → Option Opened → Command → Option Opened
opened_by e r earlier None c = option_map (just_opened earlier) (opening e r c)
opened_by e r earlier (Some o) c = if is_cancelled e r c then None else Some (plus_command c o)

-- a round after more commands, one after the other
abbrev pub opened_after : Event → ℕ → List Command → Option Opened → List Command → Option Opened
opened_after e r earlier state [] = state
opened_after e r earlier state (c ∷ cs) =
    opened_after e r (earlier ++ c ∷ []) (opened_by e r earlier state c) cs

-- a round as it was opened, where that was not taken back since; `earlier` are the commands in
-- front of these
abbrev pub opened : Event → ℕ → List Command → List Command → Option Opened
opened e r earlier cs = opened_after e r earlier None cs

-- the settings of a round after one more command: others may be set, and another advance
abbrev pub settings_by : Event → ℕ → Command → Settings → Settings
settings_by e r (SetAdvance id advance) settings =
    if is_of e r id then record settings { advance = advance } else settings
settings_by e r (SetRound id format cutoff limit) settings =
    if is_of e r id
    then record settings { format = format; cutoff = cutoff; limit = limit } else settings
settings_by e r _ settings = settings

-- the settings of a round that was opened with these, after more commands, one after the other
abbrev pub settings_after : Event → ℕ → Settings → List Command → Settings
settings_after e r settings [] = settings
settings_after e r settings (c ∷ cs) = settings_after e r (settings_by e r c settings) cs

-- the settings of a round that was opened, as they are now
abbrev pub settings_now : Event → ℕ → Opened → Settings
settings_now e r o = settings_after e r o.settings o.since
