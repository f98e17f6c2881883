use Rattle.std.proofs.Common.{rules, ◌≡◌, ◌++◌, refl}
use Rattle.replica.specs.declared.roles.fault.NodeFault.TheVariants.{Down}
use Rattle.serving.proofs.Fates.{AreInRange-append, messages_in_range, calls_so, loses_so}
use Rattle.serving.proofs.{Fates.keeps_waiting, Parts.given_err}
use Rattle.serving.proofs.calls.call.Goals as goal

pub returns-in_ok-append-in-Ok-clause-in_range : goal.returns-in_ok-append-in-Ok-clause-in_range
returns-in_ok-append-in-Ok-clause-in_range g c =
    let home = g.D.Desk.home_of c.args.node.now in
    let range = messages_in_range _ home.desks home.desk _ _ _ c.in-Ok.messages _ _
    c.in-Ok.ensures.takes c.in-Ok.ensures.ended in
    let items : c.append.new.self.items ≡ c.args.waiting.now.items ++ c.in-Ok.messages =
    search rules in
    rw items (AreInRange-append home.desks home.desk c.args.waiting.now.items c.in-Ok.messages
    c.requires.in_range range)

pub returns-in_ok-append-in-Ok-clause-ok : goal.returns-in_ok-append-in-Ok-clause-ok
returns-in_ok-append-in-Ok-clause-ok g c =
    let items : c.append.new.self.items ≡ c.args.waiting.now.items ++ c.in-Ok.messages =
    search rules in
    calls_so g.D.Desk.handles (g.D.Desk.home_of c.args.node.now) (g.D.Desk.seen c.args.node.now)
    (g.D.Desk.seen c.handle.new.self) c.args.event _ c.args.waiting.now.items _ _ c.args.node.now
    c.handle.new.self c.in-Ok.ensures.takes c.in-Ok.ensures.ended c.in-Ok.ensures.told
    c.in-Ok.ensures.down c.in-Ok.ensures.handles refl items

pub returns-in_err-append-in-Ok-clause-err : goal.returns-in_err-append-in-Ok-clause-err
returns-in_err-append-in-Ok-clause-err g c =
    given_err c.from_residual.result
    (loses_so g.D.Desk.handles (g.D.Desk.home_of c.args.node.now) (g.D.Desk.seen c.args.node.now)
    (g.D.Desk.seen c.handle.new.self) c.args.event _ c.args.node.now c.handle.new.self
    c.in-Ok.ensures.takes c.in-Ok.ensures.ended c.in-Ok.ensures.told c.in-Ok.ensures.down
    c.in-Ok.ensures.handles)

pub returns-then-eq-clause-ok : goal.returns-then-eq-clause-ok
returns-then-eq-clause-ok g c =
    let is : c.in-Err.fault ≡ Down = search rules in
    calls_so g.D.Desk.handles (g.D.Desk.home_of c.args.node.now) (g.D.Desk.seen c.args.node.now)
    (g.D.Desk.seen c.handle.new.self) c.args.event _ c.args.waiting.now.items _ _ c.args.node.now
    c.handle.new.self c.in-Err.ensures.takes c.in-Err.ensures.ended c.in-Err.ensures.told
    c.in-Err.ensures.down c.in-Err.ensures.handles refl (search rules)

pub returns-else-eq-clause-ok : goal.returns-else-eq-clause-ok
returns-else-eq-clause-ok g c =
    calls_so g.D.Desk.handles (g.D.Desk.home_of c.args.node.now) (g.D.Desk.seen c.args.node.now)
    (g.D.Desk.seen c.handle.new.self) c.args.event _ c.args.waiting.now.items _ _ c.args.node.now
    c.handle.new.self c.in-Err.ensures.takes c.in-Err.ensures.ended c.in-Err.ensures.told
    c.in-Err.ensures.down c.in-Err.ensures.handles refl
    (keeps_waiting c.args.waiting.now.items c.in-Err.fault (search rules))
