use Rattle.std.specs.Option.{option_copied}
use Rattle.markup.proofs.board_page.Steps.{one_field_more}
use Rattle.table_entry_views.specs.paper.Scorecards.{card_of}
use Rattle.table_entry_views.proofs.paper.blank_cards.push_cards.Goals as goal

pub loop-slot-preserved : goal.loop-slot-preserved
loop-slot-preserved c =
    one_field_more
    (card_of c.args.meet.now.accepted (option_copied c.args.file) c.args.hall.now c.args.id
    c.args.settings c.args.foot.now) c.args.slots.now c.loop-slot.slot-index _
    c.loop-slot.out.items c.push_card_of.new.out.items _ c.loop-slot-test.true
    c.loop-slot.invariant c.in_ok-push_card_of.ensures
