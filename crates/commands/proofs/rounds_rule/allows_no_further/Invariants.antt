use Rattle.std.proofs.Common.{◌≡◌, ◌+◌, ◌-◌}
use Rattle.std.specs.List.{list_any, range_with_len}
use Rattle.commands.specs.{Accepted.has_too_few, Accepted.but_for, model.Kept.kept_competitors}
use Rattle.commands.proofs.rounds_rule.allows_no_further.Given as goal

abbrev pub invariant-loop-earlier : goal.invariant-loop-earlier
invariant-loop-earlier l =
    let few =
    has_too_few
    (but_for (kept_competitors l.id.event l.rounds.opened.items) l.id.round l.competitors)
    l.id.round in
    list_any few (range_with_len 1 l.id.round)
    ≡ list_any few (range_with_len l.earlier (l.id.round + 1 - l.earlier))
