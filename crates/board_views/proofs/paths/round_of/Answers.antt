use Rattle.std.proofs.Common.{◌≡◌, ap, arith, decimal, option_map, refl, sym}
use Rattle.board_views.proofs.Names.{name_parts, of_name_parts}
use Rattle.board_views.proofs.paths.round_of.Goals as goal

pub returns-in_err-event-clause-none : goal.returns-in_err-event-clause-none
returns-in_err-event-clause-none c none id h =
    let parts = name_parts id c.args.name.now _ c.cut.ensures h.1 in
    let named = c.in_err-event.ensures in
    let e = parts.0 in
    cc

pub returns-in_err-round-clause-none : goal.returns-in_err-round-clause-none
returns-in_err-round-clause-none c none id h =
    let parts = name_parts id c.args.name.now _ c.cut.ensures h.1 in
    let e = parts.1 in
    let was = ap (option_map (λ s. s.now)) c.in_err-round.was in
    cc

pub returns-in_err-round-2-clause-none : goal.returns-in_err-round-2-clause-none
returns-in_err-round-2-clause-none c none id h =
    let parts = name_parts id c.args.name.now _ c.cut.ensures h.1 in
    let e = parts.1 in
    let was = ap (option_map (λ s. s.now)) c.in_ok-round.was in
    let number : c.in_ok-round.field-0.now ≡ decimal id.round = cc in
    let some =
    (c.in_err-round-2.ensures.spelled id.round).1 (h.0.0, omega (arith, c.from.ensures), number) in
    cc

pub returns-clause-some : goal.returns-clause-some
returns-clause-some c =
    let number = (c.in_ok-round-2.ensures.spelled c.in_ok-round-2.round).0 refl in (
      (number.0, omega (arith, c.from.ensures)),
      of_name_parts (record { event = c.in_ok-event.event; round = c.in_ok-round-2.round })
          c.args.name.now c.in_ok-round.field-0.now _ c.cut.ensures
          (ap (option_map (λ s. s.now)) c.in_ok-round.was) (sym c.in_ok-event.ensures) number.2,
    )
