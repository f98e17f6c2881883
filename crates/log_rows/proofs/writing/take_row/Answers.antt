use Rattle.std.proofs.Common.{◌≡◌, ◌+◌, Some, slice_get, take, sym, subst}
use Rattle.answers.{proofs.Transcripts.take_more, specs.Transcripts.IsTranscript}
use Rattle.log_rows.proofs.writing.take_row.Goals as goal

pub returns : goal.returns
returns c = λ before.
    let log = c.args.log.now.entries in
    let k = c.args.position in
    let e = c.in-Some.entry.now in
    let there : slice_get log k ≡ Some e = sym c.in-Some.ensures in
    let next : IsTranscript c.take.new.self (take (k + 1) log) =
    subst (IsTranscript c.take.new.self) (sym (take_more log k e there))
    (c.in_ok-answer.ensures.taken (take k log) before) in (
      next,
      c.in_ok-push_shown.ensures log there
          (c.in_ok-answer.ensures.answer (take k log) before),
    )
