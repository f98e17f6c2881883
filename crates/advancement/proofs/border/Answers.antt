use Rattle.std.proofs.Common.{◌+◌, ap, subst, sym, ◌∙◌}
use Rattle.rounds.specs.Positions.{place_at}
use Rattle.advancement.{specs.Advancing.IsBorder, specs.Advancing.quota, proofs.Through.border_is}
use Rattle.advancement.proofs.border.Goals as goal

pub returns : goal.returns
returns c =
    subst (IsBorder c.args.table.now c.args.advance) (sym (c.place_at.ensures
    ∙ ap (λ q. place_at c.args.table.now (q + 1))
    (c.quota.ensures ∙ ap (quota c.args.advance) c.started.ensures)))
    (border_is c.args.table.now c.args.advance)
