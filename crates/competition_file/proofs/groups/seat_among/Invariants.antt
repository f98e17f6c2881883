use Rattle.std.proofs.Common.{◌≡◌, drop}
use Rattle.competition_file.proofs.Firsts.{first}
use Rattle.competition_file.specs.Groups.{seat_with}
use Rattle.competition_file.proofs.groups.seat_among.Given as goal

abbrev pub invariant-loop-seat : goal.invariant-loop-seat
invariant-loop-seat l =
    first (λ s. s) (seat_with l.groups) (drop l.seat-index l.seats)
    ≡ first (λ s. s) (seat_with l.groups) l.seats
