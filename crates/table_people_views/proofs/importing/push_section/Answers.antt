use Rattle.std.proofs.Common.{ap, get_or, ℕ, ◌++◌, ◌∙◌}
use Rattle.std.proofs.lemmas.Result.{on_ok_weaker}
use Rattle.markup.proofs.board_page.Steps.{five_parts, when_ok}
use Rattle.table_views.specs.Hidden.{hidden}
use Rattle.table_people_views.specs.Importing.{import_section}
use Rattle.table_people_views.specs.declared.importing.TheConstants.{FILE_END, FILE_START, LINES_END}
use Rattle.table_people_views.proofs.importing.push_section.Goals as goal

pub returns : goal.returns
unfolding import_section
returns c =
    let out = c.args.out.now.items in
    let token = c.args.around.now.token.now in
    let ids = c.args.around.now.ids.now in
    on_ok_weaker c.extend_from_slice-3.result
    (five_parts out FILE_START.now (hidden token (get_or ids 0 0)) FILE_END.now
    (hidden token (get_or ids 1 0)) LINES_END.now _ _ _ _ _ c.in_ok-extend_from_slice.ensures.items
    (c.in_ok-push_hidden.ensures
    ∙ ap (λ (id : ℕ). c.extend_from_slice.new.self.items ++ hidden token id) c.id_at.ensures)
    c.in_ok-extend_from_slice-2.ensures.items (c.in_ok-push_hidden-2.ensures
    ∙ ap (λ (id : ℕ). c.extend_from_slice-2.new.self.items ++ hidden token id) c.id_at-2.ensures))
    (when_ok _ _ _ _ c.extend_from_slice-3.ensures.items)
