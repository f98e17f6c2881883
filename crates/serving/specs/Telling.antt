-- The run of entries that a desk is sent which lacks them (the project's own).
use Rattle.std.specs.Prelude.{ℕ, ◌+◌, ◌==◌, ◌||◌, nat_lt, if◌then◌else◌, List, [], ◌∷◌, length}
use Rattle.std.specs.Prelude.{take, Option, None, Some}
use Rattle.acceptor.specs.declared.{entry.Entry.Entry, message.Body.Body, message.Message.Message}
use Rattle.wire.specs.{declared.frame.Frame.Frame, Spelling.spelling}
use Rattle.wire.specs.declared.values.Version.{Version, TheVariants.One}
use Rattle.serving.specs.{Adding.Push, declared.request.DecidedRun.DecidedRun}
use Rattle.acceptor.specs.declared.message.Body.TheVariants as body
use Rattle.wire.specs.declared.frame.FrameBody.TheVariants as what

-- what a message says was decided: where, and what
abbrev pub position_told : Body → Option ℕ
position_told (body.Decided pos e) = Some pos
position_told _ = None

abbrev pub decided_at : ℕ → Body → Option Entry
decided_at pos (body.Decided p e) = if p == pos then Some e else None
decided_at pos _ = None

-- the entry that a message says is at a position, where it says so to this desk
abbrev pub entry_told : ℕ → ℕ → Message → Option Entry
entry_told to pos m = if m.to == to then decided_at pos m.body else None

abbrev pub with_entry : Option Entry → Option (List Entry) → Option (List Entry)
with_entry None es = None
with_entry (Some e) None = None
with_entry (Some e) (Some es) = Some (e ∷ es)

-- the entries that messages say to one desk from a position on, one each
unfoldable pub entries_told : ℕ → ℕ → List Message → Option (List Entry)
entries_told to pos [] = Some []
entries_told to pos (m ∷ ms) = with_entry (entry_told to pos m) (entries_told to (pos + 1) ms)

abbrev pub run_by : Message → ℕ → Option (List Entry) → Option DecidedRun
run_by m pos None = None
run_by m pos (Some es) = Some (record { from = m.from; to = m.to; pos = pos; entries = es })

abbrev pub run_from : Message → List Message → Option ℕ → Option DecidedRun
run_from m ms None = None
run_from m ms (Some pos) = run_by m pos (entries_told m.to pos (m ∷ ms))

-- Messages of desk d are a run where they are at most 16, to one other desk, and each says what was
-- decided at the position after that of the one before.
unfoldable pub run_of : ℕ → List Message → Option DecidedRun
run_of d [] = None
run_of d (m ∷ ms) =
    if (m.to == d) || nat_lt 16 (length (m ∷ ms)) then None
    else run_from m ms (position_told m.body)

-- what a frame of a version says of the entries: the first, or all
abbrev pub entries_said : Version → List Entry → List Entry
entries_said One es = take 1 es
entries_said _ es = es

abbrev pub run_frame : Version → ℕ → DecidedRun → Frame
run_frame version hall run =
    record {
      version = version;
      hall = hall;
      from = run.from;
      to = run.to;
      what = what.Decided run.pos (entries_said version run.entries);
    }

abbrev pub run_pushed : Version → ℕ → DecidedRun → Push
run_pushed version hall run =
    record { to = run.to; bytes = spelling (run_frame version hall run) }
