use Rattle.std.proofs.Common.{◌≡◌, ◌++◌, drop, flat_map}
use Rattle.std.specs.Option.{option_copied}
use Rattle.table_entry_views.specs.paper.Scorecards.{card_of}
use Rattle.table_entry_views.proofs.paper.blank_cards.push_cards.Given as goal

-- what was written, and what is written for those that are left, is the whole
abbrev pub invariant-loop-slot : goal.invariant-loop-slot
invariant-loop-slot l =
    l.out.items
    ++ flat_map (card_of l.meet.accepted (option_copied l.file) l.hall l.id l.settings l.foot)
    (drop l.slot-index l.slots)
    ≡ l.initial.out.items
    ++ flat_map (card_of l.meet.accepted (option_copied l.file) l.hall l.id l.settings l.foot) l.slots
