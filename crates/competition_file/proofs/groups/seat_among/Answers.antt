use Rattle.std.proofs.Common.{◌∙◌, sym, ap, arith}
use Rattle.std.specs.Prelude.{filter_map, slice_get}
use Rattle.std.proofs.lemmas.List.{get_or_default, map-id}
use Rattle.competition_file.proofs.Firsts.{found_first, passed}
use Rattle.competition_file.specs.Groups.{seat_with}
use Rattle.competition_file.proofs.groups.seat_among.Goals as goal

pub loop-seat-preserved : goal.loop-seat-preserved
loop-seat-preserved c =
    passed (λ s. s) (seat_with c.args.groups.now) c.args.seats.now c.loop-seat.seat-index
    _ c.seat_in-found.result (omega arith)
    (get_or_default c.args.seats.now c.loop-seat.seat-index _ _ (omega arith))
    c.seat_in-found.ensures
    (sym c.is_some.ensures ∙ c.if-is_some.false)
    ∙ c.loop-seat.invariant

pub returns-then-is_some : goal.returns-then-is_some
returns-then-is_some c =
    found_first (λ s. s) (seat_with c.args.groups.now) c.args.seats.now c.loop-seat.seat-index
    _ c.seat_in-found.result (omega arith)
    (get_or_default c.args.seats.now c.loop-seat.seat-index _ _ (omega arith))
    c.seat_in-found.ensures
    (sym c.is_some.ensures ∙ c.if-is_some.true)
    ∙ c.loop-seat.invariant
    ∙ ap (λ ss. slice_get (filter_map (seat_with c.args.groups.now) ss) 0) (map-id c.args.seats.now)
