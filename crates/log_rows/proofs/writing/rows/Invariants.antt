use Rattle.std.proofs.Common.{◌≡◌, ◌++◌, take, flat_map}
use Rattle.std.specs.List.{range_with_len}
use Rattle.answers.specs.Transcripts.{IsTranscript}
use Rattle.log_rows.specs.Rows.{heading, row_from}
use Rattle.log_rows.proofs.writing.rows.Given as goal

-- the entries in front of the position are taken in, and their rows are there
abbrev pub invariant-loop-position : goal.invariant-loop-position
invariant-loop-position l =
    IsTranscript l.transcript (take l.position l.log.entries) × (l.out.items
    ≡ heading ++ flat_map (row_from l.from l.shown l.log.entries) (range_with_len 0 l.position))
