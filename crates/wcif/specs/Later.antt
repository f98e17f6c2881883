-- What an import says of rounds that it does not open: later rounds as the file has them, and
-- rounds from which nobody advances, though the file has a next one (the project's own).
use Rattle.std.specs.Prelude.{◌≡◌, ℕ, ◌-◌, Bool, true, false, ◌&&◌, nat_lt, if◌then◌else◌, List, []}
use Rattle.std.specs.Prelude.{◌∷◌, ◌++◌, length, flat_map, slice_get, codes, Option, Some, None}
use Rattle.std.specs.{Prelude.unwrap_or, Option.option_and_then}
use Rattle.serde_json.specs.{Data.Data, Read.read}
use Rattle.formats.specs.declared.{events.Event.Event, advance.Advance.Advance as Advances}
use Rattle.formats.specs.declared.advance.Advance.TheVariants.{Final as NobodyAdvances}
use Rattle.texts.specs.{Fields.round_id as id_of_round, declared.command.RoundId.RoundId}
use Rattle.texts.specs.declared.command.{Settings.Settings, Command.TheVariants.Open}
use Rattle.wcif.specs.{declared.later.RoundImport.RoundImport, Files.without_mark, Lines.line}
use Rattle.wcif.specs.declared.later.RoundImport.TheVariants.{Opening, Final}
use Rattle.wcif.specs.declared.options.{CumulativeLimits.CumulativeLimits, Options.Options}
use Rattle.wcif.specs.{Events.event_named, Events.rounds_of, Members.list_at}
use Rattle.wcif.specs.Rounds.{round_id, settings_in}

abbrev pub is_final : Advances → Bool
is_final NobodyAdvances = true
is_final _ = false

-- a later round, how the file has it
abbrev pub opening_later : RoundId → Settings → List RoundImport
opening_later id s = if nat_lt 1 id.round then Opening id s ∷ [] else []

-- nobody advances from a round, of this many of its event, and there is a next one
abbrev pub final_later : ℕ → RoundId → Settings → List RoundImport
final_later count id s =
    if is_final s.advance && nat_lt id.round count then Final id ∷ [] else []

abbrev pub later_held : ℕ → RoundId → Option Settings → List RoundImport
later_held count id None = []
later_held count id (Some s) = opening_later id s ++ final_later count id s

-- of the round of an event with this number
abbrev pub later_at : CumulativeLimits → Event → List Data → ℕ → List RoundImport
later_at how e rounds n =
    later_held (length rounds) (id_of_round e n)
    (option_and_then (settings_in how e) (slice_get rounds (n - 1)))

abbrev pub later_named : CumulativeLimits → List Data → Option Event → List RoundImport
later_named how rounds None = []
later_named how rounds (Some e) = flat_map (later_at how e rounds) (1 ∷ 2 ∷ 3 ∷ 4 ∷ [])

-- of the rounds of an event of the file
unfoldable pub later_of : CumulativeLimits → Data → List RoundImport
later_of how d = later_named how (rounds_of d) (event_named d)

-- of all rounds, in the order of the file
unfoldable pub later_rounds : Options → Data → List RoundImport
later_rounds options d =
    flat_map (later_of options.limits) (unwrap_or (list_at (codes "events") d) [])

-- of those of a file
abbrev pub SaysLater : Options → List ℕ → List RoundImport → Type 0
SaysLater options bytes later =
    (d : Data) × (read (without_mark bytes) ≡ Some d) × (later ≡ later_rounds options d)

-- As lines: comments in a list of commands.

abbrev pub later_line : RoundImport → List ℕ
later_line (Opening id s) = codes "# " ++ line (Open id s)
later_line (Final id) =
    codes "# " ++ round_id id.event id.round
    ++ codes ": nobody advances, and the file has a next round\n"

abbrev pub later_lines : List RoundImport → List ℕ
later_lines later = flat_map later_line later
