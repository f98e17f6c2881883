use Rattle.std.proofs.Common.{◌≡◌, ◌<◌, arith, inl, inr, refl}
use Rattle.batch.proofs.keeping.let_go.Goals as goal

pub returns-then-made-eq0 : goal.returns-then-made-eq0
returns-then-made-eq0 g c =
    let none : c.args.made ≡ 0 = omega arith in
    inl (none, refl)

pub returns : goal.returns
returns g c =
    let some : 0 < c.args.made = omega arith in
    inr (some, c.hang_up-ending.result, c.hang_up-ending.ensures)
