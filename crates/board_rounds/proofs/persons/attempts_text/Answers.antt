use Rattle.std.proofs.Common.{◌++◌, ◌∙◌, ap, codes, sym}
use Rattle.markup.proofs.board_page.Steps.{two_parts}
use Rattle.sheets.proofs.Ranges.{range_more}
use Rattle.board_rounds.specs.{Persons.attempt_after, Rows.attempt_words}
use Rattle.board_rounds.proofs.persons.attempts_text.Goals as goal

pub loop-place-preserved : goal.loop-place-preserved
loop-place-preserved c =
    let place = c.loop-place.place in
    let shown = attempt_words c.args.unit c.args.format c.args.values.now in
    two_parts c.loop-place.text.items (codes " ") (shown place) _ _
    c.in_ok-extend_from_slice.ensures.items (c.in_ok-extend_from_slice-2.ensures.items
    ∙ ap (λ x. c.extend_from_slice.new.self.items ++ x)
    (c.deref.ensures.value ∙ c.in_ok-attempt.ensures))
    ∙ ap (λ x. x ++ (codes " " ++ shown place)) c.loop-place.invariant
    ∙ sym (range_more (attempt_after c.args.unit c.args.format c.args.values.now) place)
