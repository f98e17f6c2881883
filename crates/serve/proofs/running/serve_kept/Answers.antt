use Rattle.std.proofs.Common.{inl, ◌∙◌}
use Rattle.std.proofs.KnownBytes.{Keeps-refl}
use Rattle.serve.proofs.Opened.{runs, runs_ill}
use Rattle.serve.proofs.Over.{by_store, hindered, printed, printed_fault}
use Rattle.serve.proofs.running.serve_kept.Goals as goal

pub returns-in-Err-clause-err : goal.returns-in-Err-clause-err
returns-in-Err-clause-err g c = hindered _ c.args.service _
    (by_store _ c.args.service c.fault_of_open.ensures.of_store c.requires.allowed) (Keeps-refl _)

pub returns-in-Err-clause-fails : goal.returns-in-Err-clause-fails
returns-in-Err-clause-fails g c files kept =
    inl (record {
      cause = by_store _ c.args.service c.fault_of_open.ensures.of_store c.requires.allowed;
      silent = Keeps-refl _;
    })

pub returns-clause-ok : goal.returns-clause-ok
returns-clause-ok g c =
    printed c.args.service c.args.doors _ _ _ _ _ c.serve_there-ended.result
    (c.in-Ok.ensures.opened.home ∙ c.requires.place) c.requires.allowed
    c.serve_there-ended.ensures.ok

pub returns-clause-err : goal.returns-clause-err
returns-clause-err g c =
    printed_fault c.args.service c.args.doors _ _ _ _ _ c.serve_there-ended.result
    (c.in-Ok.ensures.opened.home ∙ c.requires.place) c.requires.allowed
    c.serve_there-ended.ensures.err

pub returns-clause-serves : goal.returns-clause-serves
returns-clause-serves g c =
    runs _ c.args.service c.args.doors _ c.args.keeper c.in-Ok.node _ c.serve_there-ended.result
    c.in-Ok.ensures.opened c.requires.doors c.serve_there-ended.ensures.ok

pub returns-clause-fails : goal.returns-clause-fails
returns-clause-fails g c =
    runs_ill _ c.args.service c.args.doors _ c.args.keeper c.in-Ok.node _
    c.serve_there-ended.result c.in-Ok.ensures.opened c.requires.doors c.requires.allowed
    c.serve_there-ended.ensures.err
