use Rattle.std.proofs.Common.{◌≡◌, ◌<◌, [], ap, inl, length, refl, arith, rules}
use Rattle.batch.specs.Dialing.{place_of}
use Rattle.batch.proofs.{Going.goes_none, Parts.stops_first, Parts.stops_more, Trying.fails_by}
use Rattle.batch.proofs.Parts.{asks_all, asks_first, asks_more, part_longer, part_within}
use Rattle.batch.proofs.log_asked.ask_log_over.Goals as goal

pub returns-in_default-clause-err : goal.returns-in_default-clause-err
returns-in_default-clause-err g c =
    ([], goes_none (place_of c.args.contact) _, inl (refl, refl))

pub returns-in_err-told-clause-err : goal.returns-in_err-told-clause-err
returns-in_err-told-clause-err g c =
    let f = c.in_err-told.field-0.0 in
    fails_by _ c.from_residual.result f (search rules)
    (stops_first (place_of c.args.contact) _ _ c.args.receiver c.in-Ok.log.entries f
    (ap (λ l. l.entries) c.in-Ok.ensures) c.in_err-told.ensures.err)

pub loop-told-init : goal.loop-told-init
loop-told-init g c = (
  part_within _ c.args.receiver _ _ 0 c.in_ok-told.told c.in_ok-told.ensures.ok,
  c.in_ok-told.ensures.ok.most,
  asks_first (place_of c.args.contact) _ _ c.args.receiver c.in-Ok.log.entries _
      c.in_ok-told.told (ap (λ l. l.entries) c.in-Ok.ensures) c.in_ok-told.ensures.ok,
)

pub returns-in_err-told-2-clause-err : goal.returns-in_err-told-2-clause-err
returns-in_err-told-2-clause-err g c =
    let f = c.in_err-told-2.field-0.0 in
    let more : length c.loop-told.log.entries < c.loop-told.told = search rules in
    fails_by _ c.from_residual-in_err-told-2.result f (search rules)
    (stops_more (place_of c.args.contact) _ _ _ c.args.receiver c.loop-told.log.entries
    c.loop-told.told f c.loop-told.invariant.2 more c.in_err-told-2.ensures.err)

pub loop-told-preserved : goal.loop-told-preserved
loop-told-preserved g c =
    let more : length c.loop-told.log.entries < c.loop-told.told = search rules in (
      part_within _ c.args.receiver _ _ c.loop-told.told c.in_ok-told-2.told
          c.in_ok-told-2.ensures.ok,
      c.in_ok-told-2.ensures.ok.most,
      asks_more (place_of c.args.contact) _ _ _ c.args.receiver c.loop-told.log.entries
          c.loop-told.told _ c.in_ok-told-2.told c.loop-told.invariant.2 more
          c.in_ok-told-2.ensures.ok,
    )

pub loop-told-smaller : goal.loop-told-smaller
loop-told-smaller g c =
    let more : length c.loop-told.log.entries < c.loop-told.told = search rules in
    let longer = part_longer _ c.args.receiver _ _ c.loop-told.told c.in_ok-told-2.told more
    c.in_ok-told-2.ensures.ok in
    let within = part_within _ c.args.receiver _ _ c.loop-told.told c.in_ok-told-2.told
    c.in_ok-told-2.ensures.ok in
    let most = c.in_ok-told-2.ensures.ok.most in
    omega (arith, longer, within, most)

pub returns-clause-ok : goal.returns-clause-ok
returns-clause-ok g c =
    let within = c.loop-told.invariant.0 in
    let all : c.loop-told.told ≡ length c.loop-told.log.entries = search (within, rules) in
    asks_all (place_of c.args.contact) _ _ c.args.receiver c.loop-told.log.entries
    c.loop-told.told all c.loop-told.invariant.2
