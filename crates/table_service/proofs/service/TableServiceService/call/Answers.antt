use Rattle.std.proofs.Common.{◌≡◌, List, subst}
use Rattle.std.proofs.lemmas.Result.{on_ok_weaker}
use Rattle.acceptor.specs.declared.entry.Entry.{Entry}
use Rattle.table_service.specs.declared.plan.Effect.TheVariants as effect
use Rattle.table_service.specs.Services.{TakesAgainFor, TakesFor}
use Rattle.table_service.proofs.Served.{again_does, answers_as, taken_does}
use Rattle.table_service.proofs.service.TableServiceService.call.Goals as goal

pub returns-in-Again-clause-ok : goal.returns-in-Again-clause-ok
returns-in-Again-clause-ok g c =
    let is : c.in_ok-reply.field-0.effect ≡ effect.Again c.in-Again.entry c.in-Again.of = cc in
    on_ok_weaker c.take_again.result
    (λ (takes : TakesAgainFor c.in-Again.entry c.in-Again.of c.args.self.now c.write.new.response
    c.take_again.new.self c.take_again.new.response).
    answers_as c.in_ok-reply.field-0 c.args.self.now c.args.request.now
    c.take_again.new.response c.take_again.new.self
    (effect.Again c.in-Again.entry c.in-Again.of) c.in_ok-reply.ensures is
    (again_does c.in_ok-reply.field-0 c.args.self.now c.write.new.response
    c.take_again.new.response c.take_again.new.self c.in_ok-write.ensures c.in-Again.entry
    c.in-Again.of takes)) c.take_again.ensures.ok

pub returns-in_ok-take-in-Take-clause-ok : goal.returns-in_ok-take-in-Take-clause-ok
returns-in_ok-take-in-Take-clause-ok g c =
    let is : c.in_ok-reply.field-0.effect ≡ effect.Take c.in-Take.entries = cc in
    let takes =
    subst (λ (entries : List Entry). TakesFor c.in_ok-take-in-Take.field-0 entries c.args.self.now
    c.write.new.response c.take.new.self c.take.new.response) c.deref.ensures.value
    c.in_ok-take-in-Take.ensures.ok in
    answers_as c.in_ok-reply.field-0 c.args.self.now c.args.request.now c.take.new.response
    c.take.new.self (effect.Take c.in-Take.entries) c.in_ok-reply.ensures is
    (taken_does c.in_ok-reply.field-0 c.args.self.now c.write.new.response c.take.new.response
    c.take.new.self c.in_ok-write.ensures c.in_ok-take-in-Take.field-0 c.in-Take.entries.items
    takes)
