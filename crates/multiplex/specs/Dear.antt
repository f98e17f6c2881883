-- Whose question for a sheet or for entries of the log is answered in a round (the project's own).
use Rattle.std.specs.Prelude.{ℕ, ◌+◌, ◌*◌, ◌-◌, Bool, true, false, ◌&&◌, ◌||◌, not, ltb, min}
use Rattle.std.specs.Prelude.{if◌then◌else◌}
use Rattle.multiplex.specs.declared.dear.DearTurns.{DearTurns}

abbrev pub fresh_dear : DearTurns
fresh_dear =
    record {
      spent = false;
      from = 0;
      crowd = false;
      crowded = false;
      waits = false;
      keyed = false;
      until = 0;
      rests = false;
    }

-- the client with this number is answered: nobody was in this round, it is time for the next one,
-- it is none of those that were answered last, and it has a key, unless none waits that has one
abbrev pub is_next : ℕ → Bool → DearTurns → Bool
is_next number has_key d =
    not (d.spent || (d.rests || (ltb number d.from || (d.keyed && not has_key))))

abbrev pub answered : ℕ → DearTurns → DearTurns
answered number d =
    record {
      spent = true;
      from = min (number + 1) 18446744073709551615;
      crowd = d.crowd;
      crowded = d.crowded;
      waits = d.waits;
      keyed = d.keyed;
      until = d.until;
      rests = d.rests;
    }

abbrev pub put_off : Bool → DearTurns → DearTurns
put_off has_key d =
    record {
      spent = d.spent;
      from = d.from;
      crowd = true;
      crowded = d.crowded;
      waits = has_key || d.waits;
      keyed = d.keyed;
      until = d.until;
      rests = d.rests;
    }

abbrev pub asked : ℕ → Bool → DearTurns → DearTurns
asked number has_key d =
    if is_next number has_key d then answered number d else put_off has_key d

-- three times as long as the round was, which began and was over at these times; at most 90
-- milliseconds
abbrev pub rest_after : ℕ → ℕ → ℕ
rest_after before now = 3 * min (now - before) 30

-- until when none is answered
abbrev pub until_after : ℕ → ℕ → DearTurns → ℕ
until_after before now d =
    if d.spent && d.crowded then min (now + rest_after before now) 18446744073709551615 else d.until

-- after a round
abbrev pub renewed : ℕ → ℕ → DearTurns → DearTurns
renewed before now d =
    record {
      spent = false;
      from = if d.spent || d.rests then d.from else 0;
      crowd = false;
      crowded = d.crowd;
      waits = false;
      keyed = d.waits;
      until = until_after before now d;
      rests = ltb now (until_after before now d);
    }
