-- How a replay ends that writes the refused lines and the sheet to two places.
use Rattle.std.proofs.Common.{◌≡◌, ℕ, List, [], Option, Some, ap, inl, inr, is_some, refl, sym, ◌∙◌}
use Rattle.std.proofs.{Common.subst, Common.unwrap_or, Common.true, KnownBytes.Keeps-refl}
use Rattle.std.specs.Io.KnownBytes.{Appends, Keeps}
use Rattle.commands.specs.History.{History}
use Rattle.lines.specs.{Bytes.AppendsPart, declared.fault.RunFault.RunFault}
use Rattle.lines.specs.Lines.{is_within, lines_of}
use Rattle.lines.proofs.Inputs.{left_is, left_of, nothing_written, whole_written}
use Rattle.sheets.specs.Sheet.{sheet}
use Rattle.formats.specs.declared.{events.Event.Event, styles.SheetStyle.SheetStyle as Style}
use Rattle.replay.specs.Apart.{FailsApart, ReplaysApart, ReplaysPartApart, TellsPart, Told}
use Rattle.replay.specs.Apart.{run_alone, run_refused}
use Rattle.replay.specs.Replay.{Run, refusals, refused_text, run_sheet}
use Rattle.replay.specs.model.Applying.{Applies, StopsAmong}
use Rattle.lines.specs.declared.fault.RunFault.TheVariants as fault
use Rattle.replay.specs.declared.fault.ReplayFault.TheVariants as replay_fault

-- lines were not all applied
pub stops_apart : (e : RunFault) (r : Run) (t : Told)
    → StopsAmong e r.input r.left t.before t.now → Keeps r.old r.new
    → FailsApart (replay_fault.Lines e) r t
stops_apart fault.InputTooLong r t s kept = record { above = s.0; told = s.1; kept = kept }
stops_apart fault.Read r t s kept =
    record {
      front = s.front;
      rest = s.rest;
      parts = s.parts;
      remains = s.remains;
      within = s.within;
      told = s.written;
      kept = kept;
    }
stops_apart fault.Write r t s kept = inl (s, kept)
stops_apart fault.NoMemory r t s kept = (s, kept)
stops_apart fault.BadCount r t s kept = absurd s
stops_apart (fault.BadLine n) r t s kept = absurd s

-- the refused lines where all is within the limits
refused_within : (r : Run) → is_within r.input ≡ true → run_refused r ≡ refusals (lines_of r.input)
refused_within r h = rw h refl

alone_within : (r : Run) → is_within r.input ≡ true → run_alone r ≡ unwrap_or (run_sheet r) []
alone_within r h = rw h refl

same_sheet : (r : Run) (t : Told) (meet : History) (count : ℕ)
    → Applies meet count r.input r.left t.before t.now
    → sheet r.style meet.accepted r.event r.round count ≡ run_sheet r
same_sheet r t meet count a = rw (a.meet_is, a.count_is) refl

all_told : (r : Run) (t : Told) (meet : History) (count : ℕ)
    → Applies meet count r.input r.left t.before t.now → Appends t.before t.now (run_refused r)
all_told r t meet count a =
    subst (Appends t.before t.now) (sym (refused_within r a.within)) a.written

alone_is : (r : Run) (t : Told) (meet : History) (count : ℕ) (text : List ℕ)
    → Applies meet count r.input r.left t.before t.now
    → sheet r.style meet.accepted r.event r.round count ≡ Some text → text ≡ run_alone r
alone_is r t meet count text a there =
    ap (λ (o : Option (List ℕ)). unwrap_or o []) (sym there ∙ same_sheet r t meet count a)
    ∙ sym (alone_within r a.within)

-- the sheet was written
pub replays_apart : (r : Run) (t : Told) (meet : History) (count : ℕ) (text : List ℕ)
    → Applies meet count r.input r.left t.before t.now
    → sheet r.style meet.accepted r.event r.round count ≡ Some text → Appends r.old r.new text
    → ReplaysApart r t
replays_apart r t meet count text a there written = record {
  end = a.end;
  within = a.within;
  round_there = ap is_some (sym (same_sheet r t meet count a) ∙ there);
  told = all_told r t meet count a;
  written = subst (Appends r.old r.new) (alone_is r t meet count text a there) written;
}

-- there was no memory for the sheet
pub starves_apart : (r : Run) (t : Told) (meet : History) (count : ℕ)
    → Applies meet count r.input r.left t.before t.now → Keeps r.old r.new → TellsPart r t
starves_apart r t meet count a kept =
    (whole_written t.before t.now (run_refused r) (all_told r t meet count a), kept)

-- the sheet was not written whole
pub cut_apart : (r : Run) (t : Told) (meet : History) (count : ℕ) (text : List ℕ)
    → Applies meet count r.input r.left t.before t.now
    → sheet r.style meet.accepted r.event r.round count ≡ Some text
    → AppendsPart r.old r.new text → FailsApart (replay_fault.Lines fault.Write) r t
cut_apart r t meet count text a there part =
    inr (
      all_told r t meet count a,
      subst (AppendsPart r.old r.new) (alone_is r t meet count text a there) part,
    )

-- nothing was done
pub fails_apart_at_once : (style : Style) (event : Event) (round : ℕ)
    (start before old : Option (List ℕ)) → ReplaysPartApart style event round
    (record { had = start; left = start; old = old; new = old })
    (record { before = before; now = before }) (replay_fault.Lines fault.NoMemory)
fails_apart_at_once style event round start before old =
    let part : AppendsPart before before (refused_text (left_of start)) =
    nothing_written before (refused_text (left_of start)) in
    (left_of start, left_is start, (part, Keeps-refl old))
