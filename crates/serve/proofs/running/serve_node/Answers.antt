use Rattle.std.proofs.Common.{◌∙◌, ap, length}
use Rattle.std.proofs.KnownBytes.{Appends-trans}
use Rattle.multiplex.specs.Passing.{empty_lobby, first_ticks}
use Rattle.node.specs.Seeing.{seen_of}
use Rattle.serve.proofs.Ending.{ends_ill, ends_well, last_cut, told_first}
use Rattle.serve.proofs.running.serve_node.Goals as goal

pub returns-in-Err-tell_last-clause-err : goal.returns-in-Err-tell_last-clause-err
returns-in-Err-tell_last-clause-err g c =
    let h = c.serve_each-served.ensures.served in
    last_cut _ _ _ c.in-Err-tell_last.fault c.serve_each-served.result _
    c.in-Err-tell_last.ensures.fault (
      empty_lobby (first_ticks (g.K.Keeper.home_of c.args.node.now.keeper) c.args.period
          (seen_of c.args.node.now)),
      h.0,
      h.1,
      h.2,
    ) (told_first _ _ _ _ _ _ c.home.ensures.home
    (c.len.ensures.len ∙ ap length c.log.ensures.entries) c.in_default.ensures.ok)
    c.in-Err-tell_last.ensures.err

pub returns-clause-ok : goal.returns-clause-ok
returns-clause-ok g c =
    let h = c.serve_each-served.ensures.served in
    ends_well _ _ _ c.serve_each-served.result.connections c.serve_each-served.result.over
    c.serve_each-served.result.starved _ (
      empty_lobby (first_ticks (g.K.Keeper.home_of c.args.node.now.keeper) c.args.period
          (seen_of c.args.node.now)),
      h.0,
      h.1,
      h.2,
    ) (Appends-trans _ _ _ _ _ (told_first _ _ _ _ _ _ c.home.ensures.home
    (c.len.ensures.len ∙ ap length c.log.ensures.entries) c.in_default.ensures.ok)
    c.in_default-tell_last.ensures.ok) c.told_end.ensures

pub returns-clause-err : goal.returns-clause-err
returns-clause-err g c =
    let h = c.serve_each-served.ensures.served in
    ends_ill _ _ _ c.serve_each-served.result.connections c.serve_each-served.result.over
    c.serve_each-served.result.starved _ (
      empty_lobby (first_ticks (g.K.Keeper.home_of c.args.node.now.keeper) c.args.period
          (seen_of c.args.node.now)),
      h.0,
      h.1,
      h.2,
    ) (Appends-trans _ _ _ _ _ (told_first _ _ _ _ _ _ c.home.ensures.home
    (c.len.ensures.len ∙ ap length c.log.ensures.entries) c.in_default.ensures.ok)
    c.in_default-tell_last.ensures.ok) c.told_end.ensures
