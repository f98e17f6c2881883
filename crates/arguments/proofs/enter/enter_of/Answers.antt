use Rattle.std.proofs.Common.{◌∙◌, Some, ap, codes, refl, sym}
use Rattle.clap.{specs.Words.found_of, proofs.WalkLemmas.raw_values-rows}
use Rattle.arguments.{specs.Asking.are_command, proofs.Words.id_before}
use Rattle.arguments.proofs.enter.enter_of.Goals as goal

pub returns-then-are_command : goal.returns-then-are_command
returns-then-are_command c = (
  refl,
  c.in_ok-place.ensures,
  (
    sym (raw_values-rows (found_of c.args.found.now) (codes "words")) ∙ sym c.in_ok-words.ensures,
    sym c.are_command.ensures ∙ c.if-are_command.true,
  ),
  c.flag_at-waits.ensures,
)

pub returns : goal.returns
returns c =
    let whole =
    id_before c.in_ok-words.words.now _ c.in_ok-id.id c.in-len1-up.len_at_least
    c.in_ok-id.ensures.id in (
      refl,
      c.in_ok-place.ensures,
      (
        c.in_ok-id.ensures.in_range,
        sym (raw_values-rows (found_of c.args.found.now) (codes "words"))
            ∙ sym c.in_ok-words.ensures ∙ ap Some whole,
        ap are_command (sym whole) ∙ sym c.are_command.ensures ∙ c.if-are_command.false,
      ),
      c.flag_at-waits.ensures,
    )
