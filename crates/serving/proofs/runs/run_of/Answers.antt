use Rattle.std.proofs.Common.{◌≡◌, ◌≤◌, ◌∷◌, rules, arith, drop, length}
use Rattle.serving.proofs.Told.{gathered, run_in_range}
use Rattle.serving.proofs.runs.run_of.Goals as goal

pub returns-then-branch-clause-in_range : goal.returns-then-branch-clause-in_range
returns-then-branch-clause-in_range c =
    let all = c.args.messages.now in
    let is : all ≡ c.first-item.result ∷ drop 1 all = search rules in
    let few : length all ≤ 16 = omega arith in
    run_in_range c.args.home.desks c.args.home.desk c.in-Decided.pos c.first-item.result
    (drop 1 all) all c.gather.new.entries is c.requires.in_range few
    (gathered c.in_ok-gather.field-0 c.none-entries.result c.gather.new.entries _ c.if-branch.true
    c.none-entries.ensures c.in_ok-gather.ensures)
