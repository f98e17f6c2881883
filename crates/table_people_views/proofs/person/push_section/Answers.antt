use Rattle.std.proofs.Common.{ap, codes, flat_map, ◌++◌, ◌∙◌}
use Rattle.std.proofs.lemmas.Result.{on_ok_weaker}
use Rattle.markup.proofs.board_page.Steps.{five_parts, when_ok}
use Rattle.commands.specs.History.{History}
use Rattle.formats.specs.Events.{all_events}
use Rattle.table_views.specs.Logs.{accepted_in}
use Rattle.table_people_views.specs.Person.{mending_or_edition, person_head, person_section, within_event}
use Rattle.table_people_views.proofs.person.push_section.Goals as goal

pub returns : goal.returns
unfolding person_section
returns c =
    let out = c.args.out.now.items in
    let around = c.args.around.now in
    let accepted = accepted_in around.mirror.now in
    let number = c.args.number in
    let name = c.args.name.now in
    on_ok_weaker c.extend_from_slice-2.result
    (five_parts out (person_head number name) (flat_map (within_event accepted number) all_events)
    (codes "</p>\n") (mending_or_edition around number name) (codes "</section>\n") _ _ _ _ _
    c.in_ok-fill.ensures (c.in_ok-push_rounds.ensures
    ∙ ap (λ (h : History). c.fill.new.out.items
    ++ flat_map (within_event h.accepted number) all_events) c.meet.ensures)
    c.in_ok-extend_from_slice.ensures.items c.in_ok-push_mending_or_edition.ensures)
    (when_ok _ _ _ _ c.extend_from_slice-2.ensures.items)
