use Rattle.std.proofs.Common.{◌∙◌}
use Rattle.commands.{specs.model.Kept.kept_competitors, proofs.RoundsRule.breaks_same}
use Rattle.commands.proofs.changes.breaks_rule.Goals as goal

pub returns : goal.returns
returns c =
    c.breaks_rounds_rule.ensures
    ∙ breaks_same (kept_competitors c.args.id.event c.args.rounds.now.opened.items) c.args.id.round
    c.competitors.result c.args.advance c.competitors.ensures
