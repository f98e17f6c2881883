use Rattle.std.proofs.Common.{rules}
use Rattle.desk_sockets.proofs.Ending.{keeps_on}
use Rattle.desk_sockets.proofs.endings.Endings.go_on.Goals as goal

pub returns-clause-kept : goal.returns-clause-kept
returns-clause-kept g c =
    keeps_on c.args.now _ _ (λ x b f y said. search rules) _ _ c.retain_mut.ensures.filtered
