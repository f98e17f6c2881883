-- The rounds of an event in the WCA Competition Interchange Format (its Round, TimeLimit, Cutoff
-- and AdvancementCondition), as a desk holds them. The ranges are those of the desk's commands.
use Rattle.std.specs.Prelude.{ℕ, ◌-◌, Bool, true, false, if◌then◌else◌, List, [], ◌∷◌, ◌++◌, codes}
use Rattle.std.specs.Prelude.{decimal, bytes_eq, Option, Some, None, unwrap_or, ok_or, Result, Ok}
use Rattle.std.specs.{Prelude.Err, Option.option_and_then, Option.option_map, Result.result_ok}
use Rattle.serde_json.specs.Data.{Data, number, array, no_items}
use Rattle.attempts.specs.declared.Unit.{Unit as Measure}
use Rattle.attempts.specs.declared.Unit.TheVariants.{Time, Moves, Multi}
use Rattle.formats.specs.declared.events.{Event.Event, Format.Format}
use Rattle.formats.specs.declared.events.Format.TheVariants.{Ao5, Mo3, Bo1, Bo2, Bo3}
use Rattle.formats.specs.declared.advance.Advance.{Advance as Advances}
use Rattle.formats.specs.declared.advance.Advance.TheVariants.{Final, Top, Percent}
use Rattle.formats.specs.Events.{event_name, unit_of, is_allowed, attempts_of, most_entrants}
use Rattle.texts.specs.{declared.command.Settings.Settings, Numerals.within}
use Rattle.wcif.specs.{declared.options.CumulativeLimits.CumulativeLimits, Members.member_at}
use Rattle.wcif.specs.declared.options.CumulativeLimits.TheVariants.{Refuse, AsSingle}
use Rattle.wcif.specs.{declared.fault.RoundFault.RoundFault, Members.text_at, Members.number_at}
use Rattle.wcif.specs.declared.fault.RoundFault.TheVariants as fault

-- a member that is a number in a range
abbrev pub number_within : ℕ → ℕ → List ℕ → Data → Option ℕ
number_within low high name d = option_and_then (within low high) (number_at name d)

-- The format: best of 1, 2 or 3, average of 5, or mean of 3.

unfoldable pub named_format : List ℕ → Option Format
named_format text =
    if bytes_eq text (codes "1") then Some Bo1
    else if bytes_eq text (codes "2") then Some Bo2
    else if bytes_eq text (codes "3") then Some Bo3
    else if bytes_eq text (codes "a") then Some Ao5
    else if bytes_eq text (codes "m") then Some Mo3
    else None

abbrev pub if_allowed : Event → Format → Option Format
if_allowed e f = if is_allowed e f then Some f else None

-- the format, where the event has it
unfoldable pub format_in : Event → Data → Option Format
format_in e d =
    option_and_then (if_allowed e) (option_and_then named_format (text_at (codes "format") d))

-- The cutoff: numberOfAttempts and attemptResult.

-- the most attempts that a cutoff may count: fewer than the format has
abbrev pub most_first : Option Format → ℕ
most_first None = 4
most_first (Some f) = attempts_of f - 1

unfoldable pub cutoff_of : Option Format → Data → Option (ℕ × ℕ)
cutoff_of f c =
    option_and_then
    (λ k. option_map (λ below. (k, below)) (number_within 1 360000 (codes "attemptResult") c))
    (number_within 1 (most_first f) (codes "numberOfAttempts") c)

-- multi-blind has no cutoff
abbrev pub cutoff_for : Measure → Option Format → Data → Option (ℕ × ℕ)
cutoff_for Multi f c = None
cutoff_for _ f c = cutoff_of f c

abbrev pub cutoff_by : Measure → Option Format → Option Data → Result (Option (ℕ × ℕ)) RoundFault
cutoff_by unit f None = Ok None
cutoff_by unit f (Some c) = ok_or (option_map Some (cutoff_for unit f c)) fault.Cutoff

unfoldable pub cutoff_in : Event → Option Format → Data → Result (Option (ℕ × ℕ)) RoundFault
cutoff_in e f d = cutoff_by (unit_of e) f (member_at (codes "cutoff") d)

-- The time limit: centiseconds, and cumulativeRoundIds, which says that it is for several attempts.

-- there is anything but an empty list
abbrev pub is_any : Option Data → Bool
is_any None = false
is_any (Some (array no_items)) = false
is_any _ = true

abbrev pub is_cumulative : Data → Bool
is_cumulative limit = is_any (member_at (codes "cumulativeRoundIds") limit)

abbrev pub is_refused : CumulativeLimits → Data → Bool
is_refused Refuse limit = is_cumulative limit
is_refused AsSingle limit = false

unfoldable pub limit_of : CumulativeLimits → Data → Result (Option ℕ) RoundFault
limit_of how limit =
    if is_refused how limit then Err fault.CumulativeLimit
    else ok_or (option_map Some (number_within 1 360000 (codes "centiseconds") limit)) fault.Limit

-- timed events have a limit, and others have none
abbrev pub limit_by : CumulativeLimits → Measure → Option Data → Result (Option ℕ) RoundFault
limit_by how Time (Some limit) = limit_of how limit
limit_by how Moves None = Ok None
limit_by how Multi None = Ok None
limit_by how _ _ = Err fault.Limit

unfoldable pub limit_in : CumulativeLimits → Event → Data → Result (Option ℕ) RoundFault
limit_in how e d = limit_by how (unit_of e) (member_at (codes "timeLimit") d)

-- Who advances: type and level. Without a condition the round is the last.

abbrev pub level_of : ℕ → (ℕ → Advances) → Data → Result Advances RoundFault
level_of high made c =
    ok_or (option_map made (number_within 1 high (codes "level") c)) fault.Advance

abbrev pub advance_named : List ℕ → Data → Result Advances RoundFault
advance_named type c =
    if bytes_eq type (codes "ranking") then level_of most_entrants Top c
    else if bytes_eq type (codes "percent") then level_of 75 Percent c
    else if bytes_eq type (codes "attemptResult") then Err fault.AdvanceByResult
    else Err fault.Advance

abbrev pub advance_by : Option Data → Result Advances RoundFault
advance_by None = Ok Final
advance_by (Some c) = advance_named (unwrap_or (text_at (codes "type") c) []) c

unfoldable pub advance_in : Data → Result Advances RoundFault
advance_in d = advance_by (member_at (codes "advancementCondition") d)

-- A round.

abbrev pub settings : Format → Option (ℕ × ℕ) → Option ℕ → Advances → Settings
settings f cutoff limit advance =
    record { format = f; cutoff = cutoff; limit = limit; advance = advance }

-- its settings, where a desk holds all of them
unfoldable pub settings_in : CumulativeLimits → Event → Data → Option Settings
settings_in how e d =
    option_and_then (λ f. option_and_then (λ cutoff. option_and_then
    (λ limit. option_map (settings f cutoff limit) (result_ok (advance_in d)))
    (result_ok (limit_in how e d))) (result_ok (cutoff_in e (Some f) d))) (format_in e d)

-- the id of a round: its event, `-r` and its number
abbrev pub round_id : Event → ℕ → List ℕ
round_id e round = event_name e ++ codes "-r" ++ decimal round

abbrev pub id_faults : Event → ℕ → Data → List RoundFault
id_faults e round d =
    if bytes_eq (unwrap_or (text_at (codes "id") d) []) (round_id e round) then []
    else fault.Id ∷ []

abbrev pub format_faults : Option Format → List RoundFault
format_faults None = fault.Format ∷ []
format_faults (Some f) = []

abbrev pub faults_of : {A : Type 0} → Result A RoundFault → List RoundFault
faults_of (Ok x) = []
faults_of (Err fault) = fault ∷ []

-- what a desk cannot hold of the round with this number
unfoldable pub round_faults : CumulativeLimits → Event → ℕ → Data → List RoundFault
round_faults how e round d =
    id_faults e round d ++ format_faults (format_in e d)
    ++ faults_of (cutoff_in e (format_in e d) d) ++ faults_of (limit_in how e d)
    ++ faults_of (advance_in d)
