use Rattle.std.proofs.Common.{Bool, refl, subst, sym}
use Rattle.desk_sockets.specs.Endings.{KeepsOne}
use Rattle.desk_sockets.proofs.Ending.{keeps_one}
use Rattle.desk_sockets.proofs.endings.Endings.end.Goals as goal

pub returns-then-ending-clause-kept : goal.returns-then-ending-clause-kept
returns-then-ending-clause-kept g c =
    (c.new-ending.result, c.new-ending.ensures, rw c.if-ending.true refl)

pub returns-clause-kept : goal.returns-clause-kept
returns-clause-kept g c =
    let e = c.new-ending.result in
    let put = c.push_back-kept.ensures in (
      e,
      c.new-ending.ensures,
      subst (λ (over : Bool). KeepsOne e over c.args.self.now.kept c.push_back-kept.new.self)
          (sym c.if-ending.false)
          (keeps_one e c.args.self.now.kept c.make_room.new.kept c.push_back-kept.new.self
          c.push_back-kept.result c.make_room.ensures.room c.make_room.ensures.capacity put.items
          put.len put.full),
    )
