use Rattle.std.proofs.Common.{List, ap, codes, flat_map, get_or, ℕ, ◌++◌, ◌∙◌}
use Rattle.std.proofs.lemmas.Result.{on_ok_weaker}
use Rattle.commands.specs.History.{History}
use Rattle.markup.proofs.board_page.Steps.{three_parts, two_parts}
use Rattle.table_views.{specs.Logs.accepted_in, proofs.Tails.same_after}
use Rattle.table_views.specs.Lines.{enters, lines_form}
use Rattle.table_people_views.specs.Preview.{enter_words, entered_all, entered_line, sent_line}
use Rattle.table_people_views.proofs.preview.push_entered_all.Goals as goal

pub returns : goal.returns
unfolding entered_all
returns c =
    let out = c.args.out.now.items in
    let around = c.args.around.now in
    let token = around.token.now in
    let id = get_or around.ids.now 0 0 in
    let back = c.args.back.now in
    let tried = c.args.tried.now in
    let head = codes "<h2>To enter</h2>\n<ol>\n" in
    let listed = flat_map (entered_line (accepted_in around.mirror.now)) tried in
    let end = codes "</ol>\n" in
    let lines = flat_map sent_line tried in
    let before = c.extend_from_slice-2.new.self.items in
    on_ok_weaker c.push_lines_form.result (two_parts out (head ++ listed ++ end)
    (lines_form enters token id back lines (enter_words c.args.entered)) _ _
    (three_parts out head listed end _ _ _ c.in_ok-extend_from_slice.ensures.items
    (c.in_ok-push_entered_lines.ensures
    ∙ ap (λ (h : History). c.extend_from_slice.new.self.items
    ++ flat_map (entered_line h.accepted) tried) c.meet.ensures)
    c.in_ok-extend_from_slice-2.ensures.items)) (same_after c.push_lines_form.result _ _ _ (ap
    (λ (form : ℕ). before
    ++ lines_form enters token form back c.deref.result.now c.deref-2.result.now) c.id_at-id.ensures
    ∙ ap (λ (sent : List ℕ). before ++ lines_form enters token id back sent c.deref-2.result.now)
    (c.deref.ensures.value ∙ c.in_ok-lines.ensures)
    ∙ ap (λ (words : List ℕ). before ++ lines_form enters token id back lines words)
    (c.deref-2.ensures.value ∙ c.in_ok-words.ensures)) c.push_lines_form.ensures)
