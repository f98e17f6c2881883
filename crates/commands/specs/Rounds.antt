-- A round as the accepted commands make it: its settings, its entrants with their values, and
-- whether it is closed (the project's own).
use Rattle.std.specs.Prelude.{ℕ, zero, suc, Bool, true, false, not, ◌==◌, ◌&&◌, if◌then◌else◌, List}
use Rattle.std.specs.Prelude.{[], ◌∷◌, ◌++◌, map, unwrap_or, option_to_list, Option, None, Some}
use Rattle.std.specs.Prelude.{filter, count_by, slice_get}
use Rattle.std.specs.{List.list_any, Option.option_map}
use Rattle.formats.specs.{declared.events.Event.Event, Events.same_event, Events.unit_of}
use Rattle.texts.specs.declared.command.{Command.Command, RoundId.RoundId, Settings.Settings}
use Rattle.texts.specs.declared.command.Command.TheVariants.{Enter, Close, Withdraw, Reopen}
use Rattle.rounds.specs.Tables.{Entrant, Table}
use Rattle.advancement.specs.{Advancing.advancing, Waiting.waiting}
use Rattle.commands.specs.{Standing.last_of, Values.values_after}
use Rattle.commands.specs.Openings.{is_of, Opened, opened, settings_now}

-- a command takes an entrant out of a round
abbrev pub is_withdrawal : Event → ℕ → Command → Bool
is_withdrawal e r (Withdraw id n) = is_of e r id
is_withdrawal e r _ = false

-- a command takes this number out of a round
abbrev pub takes_out : Event → ℕ → ℕ → Command → Bool
takes_out e r n (Withdraw id m) = is_of e r id && m == n
takes_out e r n _ = false

-- the number that a command enters in a round as its last entrant: entries are for first rounds,
-- and one who withdraws from a round gives the place to those who wait for one, each in turn: to
-- the first of them who was not taken in before (`IsTakenInTurn` of `advancement`). `earlier` are
-- the commands between the opening and this one.
abbrev pub entering : Event → ℕ → List ℕ → List Command → Command → Option ℕ
entering e r waiting earlier (Enter f n) = if same_event e f && r == 1 then Some n else None
entering e r waiting earlier (Withdraw id n) =
    if is_of e r id then slice_get waiting (count_by (is_withdrawal e r) earlier) else None
entering e r waiting earlier _ = None

-- an entrant, with the values that these commands make; `earlier` are those between the opening and
-- the entry
abbrev pub entrant_after : Event → ℕ → Settings → List Command → List Command → ℕ → Entrant
entrant_after e r settings earlier cs n =
    record { number = n; values = values_after e r settings n earlier [] cs }

-- none of these commands takes a number out
abbrev pub stays : Event → ℕ → List Command → ℕ → Bool
stays e r cs n = not (list_any (takes_out e r n) cs)

-- those of these numbers whom no command takes out, each with the values since the entry
abbrev pub entrants_left : Event → ℕ → Settings → List Command → List Command → List ℕ
    → List Entrant
entrants_left e r settings earlier cs ns =
    map (entrant_after e r settings earlier cs) (filter (stays e r cs) ns)

-- those whom these commands enter and do not take out, in order of entry; the others wait for a
-- place
abbrev pub entrants_after : Event → ℕ → Settings → List ℕ → List Command → List Command
    → List Entrant
entrants_after e r settings waiting earlier [] = []
entrants_after e r settings waiting earlier (c ∷ cs) =
    entrants_left e r settings (earlier ++ c ∷ []) cs
    (option_to_list (entering e r waiting earlier c))
    ++ entrants_after e r settings waiting (earlier ++ c ∷ []) cs

-- whether a command leaves a round closed, where it closes it or opens it again
abbrev pub closing : Event → ℕ → Command → Option Bool
closing e r (Close id) = if is_of e r id then Some true else None
closing e r (Reopen id) = if is_of e r id then Some false else None
closing e r _ = None

-- a round is closed where the last of these commands to close it or to open it again closed it
abbrev pub is_ended : Event → ℕ → List Command → Bool
is_ended e r cs = unwrap_or (last_of (closing e r) cs) false

-- the table of a round that was opened with these entrants, who come before those who were entered
-- since; and the others wait for a place
abbrev pub table_of : Event → ℕ → List ℕ → List ℕ → Opened → Table
table_of e r first waiting o = record {
  format = (settings_now e r o).format;
  unit = unit_of e;
  cutoff = (settings_now e r o).cutoff;
  is_closed = is_ended e r o.since;
  entrants =
      entrants_left e r o.settings [] o.since first
      ++ entrants_after e r o.settings waiting [] o.since;
}

-- those who advance from a round, in order of its standings
abbrev pub who_advance : Option (Settings × Table) → List ℕ
who_advance None = []
who_advance (Some round) = advancing round.1 round.0.advance

-- those who did not advance from a round and wait for a place in the next, in order of its
-- standings
abbrev pub who_wait : Option (Settings × Table) → List ℕ
who_wait None = []
who_wait (Some round) = waiting round.1 round.0.advance

-- a round, with the one before it as it was at the opening
abbrev pub round_at : Event → ℕ → Option (Settings × Table) → Opened → Settings × Table
round_at e r before o =
    (settings_now e r o, table_of e r (who_advance before) (who_wait before) o)

-- a round: its settings as they are now, and its table. The entrants of a later round are those who
-- advance from the one before, as the commands before the opening make that one, and those who took
-- a place since. The one before was closed then, and stays so: it cannot be opened again once the
-- next one is open, though its attempts may be fixed. Rounds are counted from 1.
unfoldable pub round_in : Event → ℕ → List Command → Option (Settings × Table)
round_in e zero cs = None
round_in e (suc r) cs =
    option_map (λ o. round_at e (suc r) (round_in e r o.before) o) (opened e (suc r) [] cs)

abbrev pub round_of : List Command → Event → ℕ → Option (Settings × Table)
round_of cs e r = round_in e r cs

-- a round as it was when the next one was opened, or as it is where that is not
abbrev pub seen_by : Event → ℕ → List Command → Option Opened → Option (Settings × Table)
seen_by e r cs None = round_in e r cs
seen_by e r cs (Some next) = round_in e r next.before

-- a round as the next one sees it: who advanced, who waits for a place, and how many competitors
-- there are, is asked of the round as it was when the next one was opened
abbrev pub seen_of : List Command → Event → ℕ → Option (Settings × Table)
seen_of cs e r = seen_by e r cs (opened e (suc r) [] cs)

-- those who advanced from a round when the next one was opened, where it is
abbrev pub advanced_of : List Command → Event → ℕ → Option (List ℕ)
advanced_of cs e r =
    option_map (λ next. who_advance (round_in e r next.before)) (opened e (suc r) [] cs)

-- a round, by its event and number together
abbrev pub round_by : List Command → RoundId → Option (Settings × Table)
round_by cs id = round_of cs id.event id.round
