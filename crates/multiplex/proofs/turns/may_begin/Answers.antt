use Rattle.std.proofs.Common.{refl, inl, inr, true, false}
use Rattle.multiplex.proofs.Walking.{may_by, may_cheap}
use Rattle.multiplex.proofs.turns.may_begin.Goals as goal

pub returns-then-put_off : goal.returns-then-put_off
returns-then-put_off g c = (true, c.if-put_off.ensures, inl (refl, refl, refl))

pub returns-then-not-is_dear : goal.returns-then-not-is_dear
returns-then-not-is_dear g c = (
  false,
  c.if-put_off.ensures,
  inr (
    refl,
    may_cheap c.args.talk.now c.args.dear.now.spent c.if-not-is_dear.ensures,
  ),
)

pub returns : goal.returns
returns g c = (
  false,
  c.if-put_off.ensures,
  inr (
    refl,
    may_by c.args.number c.has_key.result c.args.dear.now c.ask.new.self c.ask.result
        c.args.talk.now (c.if-not-is_dear.ensures.0 refl) c.ask.ensures.next c.ask.ensures.asked,
  ),
)
