use Rattle.std.proofs.Common.{◌++◌, ◌∙◌, ap, ℕ}
use Rattle.board_rounds.specs.Rounds.{attempt_headings}
use Rattle.markup.proofs.board_page.Steps.{three_parts}
use Rattle.table_entry_views.proofs.beside.push_table_start.Goals as goal

pub returns : goal.returns
returns c =
    three_parts _ _ _ _ _ _ _ c.in_ok-extend_from_slice.ensures.items
    (c.in_ok-push_attempt_headings.ensures
    ∙ ap (λ (count : ℕ). c.extend_from_slice.new.self.items ++ attempt_headings count)
    c.attempts_of.ensures.value) c.in_ok-extend_from_slice-2.ensures.items
