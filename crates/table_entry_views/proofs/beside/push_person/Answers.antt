use Rattle.markup.proofs.board_page.Steps.{six_parts}
use Rattle.table_entry_views.proofs.beside.push_person.Goals as goal

pub returns : goal.returns
returns c =
    six_parts _ _ _ _ _ _ _ _ _ _ _ _ _ c.in_ok-push_number.ensures
    c.in_ok-extend_from_slice.ensures.items c.in_ok-push_round_name.ensures c.in_ok-fill.ensures
    c.in_ok-push_name.ensures c.in_ok-extend_from_slice-2.ensures.items
