use Rattle.std.proofs.Common.{◌∷◌, [], inl, subst, arith}
use Rattle.wire.specs.declared.frame.Frame.{Frame}
use Rattle.batch.specs.Dialing.{Adds, asked_so, place_of}
use Rattle.batch.proofs.probing.knows_await.Goals as goal

pub returns : goal.returns
returns g c =
    inl (
      ((omega arith, omega arith), omega arith),
      c.ask_over-came.result,
      subst
          (λ (q : Frame).
          Adds (place_of c.args.contact) (g.D.Dial.dialed c.args.dial.now)
          (g.D.Dial.dialed c.ask_over-came.new.dial) (asked_so q c.ask_over-came.result ∷ []))
          c.await_request-request.ensures.request c.ask_over-came.ensures.told,
      c.is_known.ensures,
    )
