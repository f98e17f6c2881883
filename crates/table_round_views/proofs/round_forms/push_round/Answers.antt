use Rattle.std.proofs.Common.{ap, codes, ◌++◌, ◌∙◌}
use Rattle.std.proofs.lemmas.Result.{on_ok_weaker}
use Rattle.markup.proofs.board_page.Steps.{five_parts, three_parts, when_ok}
use Rattle.commands.specs.{Accepted.round_by, History.History}
use Rattle.round_words.specs.Words.{round_name}
use Rattle.table_views.specs.Logs.{accepted_in}
use Rattle.table_round_views.specs.Rounds.{called, forms_if, round_head, round_section}
use Rattle.table_round_views.proofs.round_forms.push_round.Goals as goal

pub returns : goal.returns
unfolding round_section round_head
returns c =
    let out = c.args.out.now.items in
    let id = c.args.id in
    let around = c.args.around.now in
    let round = round_by (accepted_in around.mirror.now) id in
    on_ok_weaker c.extend_from_slice-4.result
    (five_parts out (round_head id round) (round_name id) (codes "\">its cards</a></p>\n")
    (forms_if around id round) (codes "</section>\n") _ _ _ _ _
    (three_parts out (codes "<section><h1>") (called id round)
    (codes "</h1>\n<p><a href=\"/card/") _ _ _ c.in_ok-extend_from_slice.ensures.items
    (c.in_ok-push_called.ensures
    ∙ ap (λ found. c.extend_from_slice.new.self.items ++ called id found)
    (c.round_opened.ensures ∙ ap (λ (h : History). round_by h.accepted id) c.meet.ensures))
    c.in_ok-extend_from_slice-2.ensures.items)
    c.in_ok-push_round_name.ensures c.in_ok-extend_from_slice-3.ensures.items
    c.in_ok-push_forms.ensures) (when_ok _ _ _ _ c.extend_from_slice-4.ensures.items)
