use Rattle.std.proofs.Common.{◌++◌, ◌+◌, ◌∙◌, ap, append_assoc, decimal, sym}
use Rattle.sheets.proofs.Ranges.{range_more}
use Rattle.board_rounds.specs.Rounds.{attempt_heading, attempt_headings, heading}
use Rattle.board_rounds.proofs.rounds_shown.push_attempt_headings.Goals as goal

pub loop-place-preserved : goal.loop-place-preserved
loop-place-preserved c =
    let place = c.loop-place.place in
    c.in_ok-push_heading.ensures
    ∙ ap (λ k. c.loop-place.out.items ++ heading (decimal (k + 1))) c.from.ensures
    ∙ ap (λ x. x ++ attempt_heading place) c.loop-place.invariant
    ∙ append_assoc c.args.out.now.items (attempt_headings place) (attempt_heading place)
    ∙ ap (λ x. c.args.out.now.items ++ x) (sym (range_more attempt_heading place))
