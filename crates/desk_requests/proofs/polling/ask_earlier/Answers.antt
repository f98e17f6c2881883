use Rattle.std.proofs.Common.{inl, inr, refl}
use Rattle.desk_requests.proofs.polling.ask_earlier.Goals as goal

pub returns-then-is_unanswered : goal.returns-then-is_unanswered
returns-then-is_unanswered g c = (
  c.ask_each-first.result,
  g.D.Dial.dialed c.ask_each-first.new.dial,
  rw c.tried-desks.ensures.order at c.ask_each-first.ensures,
  inl (
    c.is_unanswered.ensures.yes c.if-is_unanswered.true,
    rw c.tried-desks.ensures.order at c.ask_each.ensures,
  ),
)

pub returns : goal.returns
returns g c = (
  c.ask_each-first.result,
  g.D.Dial.dialed c.ask_each-first.new.dial,
  rw c.tried-desks.ensures.order at c.ask_each-first.ensures,
  inr (c.is_unanswered.ensures.no c.if-is_unanswered.false, refl, refl),
)
