use Rattle.std.proofs.Common.{◌∙◌, subst, sym}
use Rattle.table_service.specs.Services.{ServiceOf, TakesAgainFor}
use Rattle.table_service.proofs.Served.{again_left, again_taken}
use Rattle.table_service.proofs.service.TableService.take_again.Goals as goal
use Rattle.table_service.proofs.service.TableService.take_again.Goals.{then-branch, else-branch}

pub returns-clause-ok : goal.returns-clause-ok
returns-clause-ok g c =
    elim c.if-branch.branch [
      | then-branch w ↦
          subst
          (λ (s : ServiceOf).
          TakesAgainFor c.args.entry c.args.of c.args.self.now c.args.response.now s
          c.take.new.response)
          (sym w.self-is)
          (again_taken c.deref.result.now c.args.entry c.args.of c.args.self.now
          c.args.response.now c.take.new.self w.use_ids.new.self w.answer.new.self
          c.take.new.response c.in_ok-take.field-0 (c.deref.ensures.value ∙ c.in_ok-entries.ensures)
          w.if-branch.true c.in_ok-take.ensures.ok w.use_ids.ensures w.answer.ensures)
      | else-branch w ↦
          subst
          (λ (s : ServiceOf).
          TakesAgainFor c.args.entry c.args.of c.args.self.now c.args.response.now s
          c.take.new.response)
          (sym w.self-is)
          (again_left c.deref.result.now c.args.entry c.args.of c.args.self.now
          c.args.response.now c.take.new.self c.take.new.response c.in_ok-take.field-0
          (c.deref.ensures.value ∙ c.in_ok-entries.ensures) w.if-branch.false
          c.in_ok-take.ensures.ok)
    ]
