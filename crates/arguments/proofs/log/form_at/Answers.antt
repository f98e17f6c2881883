use Rattle.std.proofs.Common.{◌∙◌, Bool, codes, subst, sym}
use Rattle.clap.{specs.Words.found_of, specs.Words.rows_of, proofs.WalkLemmas.raw_values-rows}
use Rattle.arguments.{specs.Arguments.IsFlag, proofs.Whose.whoses_are_forms}
use Rattle.arguments.proofs.log.form_at.Goals as goal

pub returns-in-Some : goal.returns-in-Some
returns-in-Some c =
    whoses_are_forms (rows_of (found_of c.args.found.now)) _ _
    (sym (raw_values-rows (found_of c.args.found.now) (codes "who")) ∙ sym c.in-Some.ensures)
    c.changes_of.ensures

pub returns-then-flag_at : goal.returns-then-flag_at
returns-then-flag_at c =
    let given = λ (b : Bool). IsFlag (codes "long") (rows_of (found_of c.args.found.now)) b in (
      subst given c.if-flag_at.true c.flag_at.ensures,
      sym (raw_values-rows (found_of c.args.found.now) (codes "who")) ∙ sym c.in_default.ensures,
    )

pub returns-else-flag_at : goal.returns-else-flag_at
returns-else-flag_at c =
    let given = λ (b : Bool). IsFlag (codes "long") (rows_of (found_of c.args.found.now)) b in (
      subst given c.if-flag_at.false c.flag_at.ensures,
      sym (raw_values-rows (found_of c.args.found.now) (codes "who")) ∙ sym c.in_default.ensures,
    )
