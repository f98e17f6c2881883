use Rattle.std.proofs.{KnownBytes.Keeps-refl, Common.inl}
use Rattle.serve.proofs.Opened.{fails_on, runs_on}
use Rattle.serve.proofs.Over.{by_keys, by_name, by_opening, hindered}
use Rattle.serve.proofs.running.serve.Goals as goal

pub returns-in-Err-clause-err : goal.returns-in-Err-clause-err
returns-in-Err-clause-err g c = hindered _ c.args.service _
    (by_name _ c.args.service c.in-Err.ensures.err) (Keeps-refl _)

pub returns-in-Err-open_store-clause-err : goal.returns-in-Err-open_store-clause-err
returns-in-Err-open_store-clause-err g c =
    hindered _ c.args.service _
    (by_opening _ c.args.service c.in-Err-open_store.ensures.err c.in-Ok.ensures.allowed)
    (Keeps-refl _)

pub returns-in-Err-clause-fails : goal.returns-in-Err-clause-fails
returns-in-Err-clause-fails g c =
    inl (record { cause = by_name _ c.args.service c.in-Err.ensures.err; silent = Keeps-refl _ })

pub returns-in-Err-open_store-clause-fails : goal.returns-in-Err-open_store-clause-fails
returns-in-Err-open_store-clause-fails g c =
    inl (record {
      cause =
          by_opening _ c.args.service c.in-Err-open_store.ensures.err c.in-Ok.ensures.allowed;
      silent = Keeps-refl _;
    })

pub returns-in-Err-doors_of-clause-err : goal.returns-in-Err-doors_of-clause-err
returns-in-Err-doors_of-clause-err g c =
    hindered _ c.args.service _
    (by_keys _ c.args.service c.in-Err-doors_of.ensures.err c.in-Ok.ensures.allowed) (Keeps-refl _)

pub returns-in-Err-doors_of-clause-fails : goal.returns-in-Err-doors_of-clause-fails
returns-in-Err-doors_of-clause-fails g c =
    inl (record {
      cause = by_keys _ c.args.service c.in-Err-doors_of.ensures.err c.in-Ok.ensures.allowed;
      silent = Keeps-refl _;
    })

pub returns-clause-serves : goal.returns-clause-serves
returns-clause-serves g c =
    runs_on _ _ c.in-Ok.home c.in-Ok-open_store.opened.keeper c.args.service _ c.serve_kept.result
    c.in-Ok.ensures.ok.0 c.in-Ok-open_store.ensures.opened c.serve_kept.ensures.serves

pub returns-clause-fails : goal.returns-clause-fails
returns-clause-fails g c =
    fails_on _ _ c.in-Ok.home c.in-Ok-open_store.opened.keeper c.args.service _ c.serve_kept.result
    c.in-Ok.ensures.ok.0 c.in-Ok-open_store.ensures.opened c.serve_kept.ensures.fails
