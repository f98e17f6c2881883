use Rattle.std.proofs.Common.{◌++◌, ◌∙◌, List, Option, ap, codes}
use Rattle.std.proofs.lemmas.Result.{on_ok_weaker}
use Rattle.attempts.specs.declared.{Unit.Unit as Measure, Value.Value}
use Rattle.formats.specs.Events.{unit_of}
use Rattle.markup.proofs.board_page.Steps.{six_parts, when_ok}
use Rattle.round_words.specs.Words.{round_name}
use Rattle.texts.specs.declared.command.Entered.{Entered}
use Rattle.table_views.specs.{Recent.card_link, Typed.typed_from}
use Rattle.table_views.proofs.recent.push_card.Goals as goal

pub returns : goal.returns
returns c =
    let card = c.args.card.now in
    let unit = unit_of card.id.event in
    let before = c.extend_from_slice-2.new.self.items in
    on_ok_weaker c.extend_from_slice-3.result
    (six_parts c.args.out.now.items (card_link c.args.meet.now.accepted card) (codes " <small>")
    (round_name card.id) (codes "</small> <span class=\"typed\">")
    (typed_from unit card.was 0 card.now) (codes "</span>") _ _ _ _ _ _ c.in_ok-push_link.ensures
    c.in_ok-extend_from_slice.ensures.items c.in_ok-push_round_name.ensures
    c.in_ok-extend_from_slice-2.ensures.items (c.in_ok-push_typed.ensures
    ∙ ap (λ (u : Measure). before ++ typed_from u c.as_slice.result.now 0 c.as_slice-2.result.now)
    c.unit_of-unit.ensures
    ∙ ap (λ (was : List Value). before ++ typed_from unit was 0 c.as_slice-2.result.now)
    c.as_slice.ensures
    ∙ ap (λ (now : List (Option Entered)). before ++ typed_from unit card.was 0 now)
    c.as_slice-2.ensures))
    (when_ok c.extend_from_slice-3.result _ _ _ c.extend_from_slice-3.ensures.items)
