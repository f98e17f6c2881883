use Rattle.std.proofs.Common.{◌++◌, ◌∙◌, ap, append_assoc, sym}
use Rattle.sheets.proofs.Ranges.{range_more}
use Rattle.board_rounds.specs.Persons.{competitors, next_competitor}
use Rattle.board_rounds.proofs.persons.push_competitors.Goals as goal

pub loop-number-preserved : goal.loop-number-preserved
unfolding competitors
loop-number-preserved c =
    let number = c.loop-number.number in
    let text = next_competitor c.args.meet.now.accepted in
    c.in_ok-push_next_competitor.ensures
    ∙ ap (λ x. x ++ text number) c.loop-number.invariant
    ∙ append_assoc c.args.out.now.items (competitors c.args.meet.now.accepted number) (text number)
    ∙ ap (λ x. c.args.out.now.items ++ x) (sym (range_more text number))
