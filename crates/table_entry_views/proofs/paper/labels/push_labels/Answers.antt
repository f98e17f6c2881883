use Rattle.std.proofs.Common.{◌++◌, ◌∙◌, ap, append_assoc, sym}
use Rattle.std.specs.Option.{option_copied}
use Rattle.sheets.proofs.Ranges.{range_more}
use Rattle.table_entry_views.specs.paper.Labels.{labels, next_label}
use Rattle.table_entry_views.proofs.paper.labels.push_labels.Goals as goal

pub loop-number-preserved : goal.loop-number-preserved
unfolding labels
loop-number-preserved c =
    let number = c.loop-number.number in
    let accepted = c.args.meet.now.accepted in
    let file = option_copied c.args.file in
    let text = next_label accepted file in
    c.in_ok-push_next_label.ensures
    ∙ ap (λ x. x ++ text number) c.loop-number.invariant
    ∙ append_assoc c.args.out.now.items (labels accepted file number) (text number)
    ∙ ap (λ x. c.args.out.now.items ++ x) (sym (range_more text number))
