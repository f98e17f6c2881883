-- What comments in a list of commands propose: how a later round is held, as `# OPEN 333 2 ..` (the
-- project's own).
use Rattle.std.specs.Prelude.{ℕ, ◌-◌, ◌==◌, ◌||◌, Bool, if◌then◌else◌, List, [], ◌∷◌, length, map}
use Rattle.std.specs.Prelude.{take, drop, get_or, codes, bytes_eq, Option, None, Some, Result, Ok}
use Rattle.std.specs.{Prelude.Err, List.range_with_len}
use Rattle.commands.specs.Accepted.{is_of}
use Rattle.texts.specs.{Fields.cut, Reading.command_of}
use Rattle.texts.specs.declared.command.Command.{Command, TheVariants.Open}
use Rattle.texts.specs.declared.command.{RemarkedCommand.RemarkedCommand, RoundId.RoundId}
use Rattle.texts.specs.declared.{command.Settings.Settings, reading.CommandFault.CommandFault}

-- the settings with which a command opens the round
abbrev pub settings_of : RoundId → Command → Option Settings
settings_of id (Open opened s) = if is_of id.event id.round opened then Some s else None
settings_of id _ = None

-- of what a text reads as
abbrev pub settings_told : RoundId → Result RemarkedCommand CommandFault → Option Settings
settings_told id (Ok told) = settings_of id told.command
settings_told id (Err fault) = None

-- a line begins at this place of a text
abbrev pub begins_line : List ℕ → ℕ → Bool
begins_line text place = place == 0 || get_or text (place - 1) 0 == 10

-- up to a line feed or a carriage return
abbrev pub line_of : List ℕ → List ℕ
line_of bytes = (cut 13 (cut 10 bytes).0).0

-- what a line says after `# `
abbrev pub comment_of : List ℕ → Option (List ℕ)
comment_of line = if bytes_eq (take 2 line) (codes "# ") then Some (drop 2 line) else None

abbrev pub settings_in : RoundId → Option (List ℕ) → Option Settings
settings_in id None = None
settings_in id (Some comment) = settings_told id (command_of comment)

-- what the line that begins at this place proposes for the round
abbrev pub proposed_at : RoundId → List ℕ → ℕ → Option Settings
proposed_at id text place =
    if begins_line text place then settings_in id (comment_of (line_of (drop place text))) else None

abbrev pub first_of : Option Settings → Option Settings → Option Settings
first_of (Some s) next = Some s
first_of None next = next

abbrev pub first_some : List (Option Settings) → Option Settings
first_some [] = None
first_some (o ∷ os) = first_of o (first_some os)

-- what the first line that proposes something for the round proposes for it
abbrev pub proposed_in : RoundId → List ℕ → Option Settings
proposed_in id text = first_some (map (proposed_at id text) (range_with_len 0 (length text)))
