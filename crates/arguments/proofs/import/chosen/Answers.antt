use Rattle.std.proofs.Common.{◌∙◌, refl, sym}
use Rattle.clap.specs.Words.{found_of}
use Rattle.arguments.proofs.Found.{given_as}
use Rattle.arguments.proofs.import.chosen.Goals as goal

pub returns-then-is_some : goal.returns-then-is_some
returns-then-is_some g c =
    rw (given_as (found_of c.args.found.now) c.args.id.now c.get_str.result c.get_str.ensures
    ∙ sym c.is_some.ensures ∙ c.if-is_some.true) refl

pub returns-else-is_some : goal.returns-else-is_some
returns-else-is_some g c =
    rw (given_as (found_of c.args.found.now) c.args.id.now c.get_str.result c.get_str.ensures
    ∙ sym c.is_some.ensures ∙ c.if-is_some.false) refl
