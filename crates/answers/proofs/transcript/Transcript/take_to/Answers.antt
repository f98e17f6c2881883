use Rattle.std.proofs.Common.{◌≡◌, ◌∙◌, ℕ, ◌+◌, Some, slice_get, sym, ap, length, take}
use Rattle.answers.proofs.Transcripts.{front_next}
use Rattle.answers.proofs.transcript.Transcript.take_to.Goals as goal

pub loop-position-preserved : goal.loop-position-preserved
loop-position-preserved c =
    let log = c.args.log.now.entries in
    let old = c.loop-position.self in
    let more = c.in_ok-take.ensures.more in
    let at : slice_get log (length old.answers) ≡ Some c.in-Some.entry.now =
    ap (slice_get log) c.loop-position.invariant.next ∙ sym c.in-Some.ensures in
    record {
      front =
          front_next old c.take.new.self log c.in-Some.entry.now c.loop-position.invariant.front at
          more (c.in_ok-take.ensures.taken (take (length old.answers) log)
          c.loop-position.invariant.front.first);
      next = more ∙ ap (λ (k : ℕ). k + 1) c.loop-position.invariant.next;
    }
