use Rattle.std.proofs.Common.{◌≡◌, length}
use Rattle.answers.specs.Transcripts.{IsFront}
use Rattle.answers.proofs.transcript.Transcript.take_to.Given as goal

abbrev pub invariant-loop-position : goal.invariant-loop-position
invariant-loop-position l =
    record {
      front : IsFront l.self l.log.entries;
      next : length l.self.answers ≡ l.position;
    }
