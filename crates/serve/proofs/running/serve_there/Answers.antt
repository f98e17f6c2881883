use Rattle.std.proofs.{KnownBytes.Keeps-refl, Common.inl}
use Rattle.serve.proofs.There.{failed_there}
use Rattle.serve.proofs.running.serve_there.Goals as goal

pub returns-in-Err-links_to-clause-err : goal.returns-in-Err-links_to-clause-err
returns-in-Err-links_to-clause-err g c = inl (c.in-Err-links_to.ensures.err, Keeps-refl _)

pub returns-clause-err : goal.returns-clause-err
returns-clause-err g c =
    failed_there g.K.Keeper g.W.Write c.args.service c.args.doors c.terms_of.result
    c.period_of.result c.args.node.now c.serve_node-ended.new.node c.args.writer.now
    c.serve_node-ended.new.writer c.serve_node-ended.result
    c.terms_of.ensures c.period_of.ensures c.serve_node-ended.ensures.err
