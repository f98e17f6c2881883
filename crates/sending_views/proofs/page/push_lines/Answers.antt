use Rattle.std.proofs.Common.{List, ap, codes, flat_map, ℕ, ◌++◌, ◌∙◌}
use Rattle.std.proofs.lemmas.Result.{on_ok_weaker}
use Rattle.markup.proofs.board_page.Steps.{three_parts, two_parts, when_ok}
use Rattle.wcif_results.specs.declared.{fault.MeetFault.MeetFault, note.ExportNote.ExportNote}
use Rattle.sending_views.specs.{Lines.fault_line, Lines.note_line, Page.lines}
use Rattle.sending_views.specs.declared.page.TheConstants.{TABLE}
use Rattle.sending_views.proofs.page.push_lines.Goals as goal

pub returns : goal.returns
unfolding lines
returns c =
    let out = c.args.out.now.items in
    let accepted = c.args.meet.now.accepted in
    let faults : List ℕ = flat_map (fault_line accepted) c.args.found.now.faults.items in
    let notes : List ℕ = flat_map (note_line accepted) c.args.found.now.notes.items in
    on_ok_weaker c.extend_from_slice-2.result
    (two_parts out (TABLE.now ++ faults ++ notes) (codes "</tbody></table>\n") _ _
    (three_parts out TABLE.now faults notes _ _ _ c.in_ok-extend_from_slice.ensures.items
    (c.in_ok-push_faults.ensures
    ∙ ap (λ (fs : List MeetFault). c.extend_from_slice.new.self.items
    ++ flat_map (fault_line accepted) fs) c.deref.ensures.value)
    (c.in_ok-push_notes.ensures
    ∙ ap (λ (ns : List ExportNote). c.push_faults.new.out.items
    ++ flat_map (note_line accepted) ns) c.deref-2.ensures.value)))
    (when_ok _ _ _ _ c.extend_from_slice-2.ensures.items)
