use Rattle.std.proofs.Common.{◌≡◌, rules, sym, subst, ◌∙◌, ◌+◌, ◌≤◌, [], length, arith}
use Rattle.serving.{specs.Making.speaking, proofs.Delivered.loses_entry, proofs.Parts.given_err}
use Rattle.serving.proofs.Delivered.{begins, delivered, next_entry, ends_down, ends_all}
use Rattle.serving.proofs.session.Session.deliver_each.Goals as goal

pub loop-entry-init : goal.loop-entry-init
loop-entry-init g c =
    let is = c.from-entries.ensures.0 ∙ c.into_vec.ensures.entries in
    record {
      range = c.requires.in_range;
      home = c.requires.home;
      most = subst (λ z. c.args.run.pos + length z ≤ 65536) (sym is) c.requires.most;
      so_far = λ v p. begins c.args.self.home c.args.run.from c.args.run.to c.args.run.pos
          c.args.run.entries _ _ _ is;
    }

pub loop-entry-preserved : goal.loop-entry-preserved
loop-entry-preserved g c =
    let home = c.args.self.home in
    let kept = c.loop-entry.invariant in
    let called = c.in_ok-call.ensures.ok in
    let most = subst (λ z. c.loop-entry.pos + length z ≤ 65536) c.in-Some.ensures.items kept.most in
    record {
      range = rw (sym kept.home) c.call.ensures.in_range;
      home = c.call.ensures.home ∙ kept.home;
      most = omega (arith, most);
      so_far = λ v p. next_entry home _ _ c.args.run.from c.args.run.to c.loop-entry.pos
          c.pop_front.new.self.items (g.D.Desk.seen c.call.new.node) c.call.new.waiting.items _ _
          (sym c.is_down.ensures ∙ c.if-is_down.false)
          (delivered (speaking g.D.Desk.handles g.D.Desk.settles v) home
          (g.D.Desk.home_of c.loop-entry.node) _ _
          c.args.run.from c.args.run.to c.loop-entry.pos c.in-Some.entry c.loop-entry.entries.items
          c.pop_front.new.self.items (g.D.Desk.seen c.loop-entry.node)
          (g.D.Desk.seen c.call.new.node)
          c.loop-entry.waiting.items c.clear.new.self.items c.call.new.waiting.items
          c.in_ok-call.field-0 _ c.loop-entry.node c.call.new.node p kept.home
          c.in-Some.ensures.items
          c.clear.ensures.items (kept.so_far v p) called.0 called.1 called.2);
    }

pub returns-then-is_down-clause-ok : goal.returns-then-is_down-clause-ok
returns-then-is_down-clause-ok g c =
    let home = c.args.self.home in
    let kept = c.loop-entry.invariant in
    let called = c.in_ok-call.ensures.ok in
    λ v p. ends_down home _ _ c.args.run.from c.args.run.to c.loop-entry.pos
    c.pop_front.new.self.items (g.D.Desk.seen c.call.new.node) c.call.new.waiting.items _ _
    (sym c.is_down.ensures ∙ c.if-is_down.true)
    (delivered (speaking g.D.Desk.handles g.D.Desk.settles v) home
    (g.D.Desk.home_of c.loop-entry.node) _ _
    c.args.run.from c.args.run.to c.loop-entry.pos c.in-Some.entry c.loop-entry.entries.items
    c.pop_front.new.self.items (g.D.Desk.seen c.loop-entry.node) (g.D.Desk.seen c.call.new.node)
    c.loop-entry.waiting.items c.clear.new.self.items c.call.new.waiting.items
    c.in_ok-call.field-0 _ c.loop-entry.node c.call.new.node p kept.home c.in-Some.ensures.items
    c.clear.ensures.items (kept.so_far v p) called.0 called.1 called.2)

pub returns-clause-ok : goal.returns-clause-ok
returns-clause-ok g c =
    let kept = c.loop-entry.invariant in
    let none : c.loop-entry.entries.items ≡ [] = search rules in
    λ v p. ends_all c.args.self.home _ _ c.args.run.from c.args.run.to c.loop-entry.pos
    c.loop-entry.entries.items (g.D.Desk.seen c.loop-entry.node) c.loop-entry.waiting.items _ _
    none (kept.so_far v p)

pub returns-in_err-call-clause-err : goal.returns-in_err-call-clause-err
returns-in_err-call-clause-err g c =
    let home = c.args.self.home in
    let kept = c.loop-entry.invariant in
    given_err c.from_residual.result
    (λ v p. loses_entry (speaking g.D.Desk.handles g.D.Desk.settles v) home
    (g.D.Desk.home_of c.loop-entry.node) _ _
    c.args.run.from c.args.run.to c.loop-entry.pos c.in-Some.entry c.loop-entry.entries.items
    c.pop_front.new.self.items (g.D.Desk.seen c.loop-entry.node) (g.D.Desk.seen c.call.new.node)
    c.loop-entry.waiting.items _ c.loop-entry.node c.call.new.node p kept.home
    c.in-Some.ensures.items (kept.so_far v p) c.in_err-call.ensures.err)
