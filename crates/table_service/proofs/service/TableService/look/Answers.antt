use Rattle.std.proofs.Common.{◌≡◌, ◌∙◌, ap, rules, take}
use Rattle.std.proofs.lemmas.Result.{on_err_weaker}
use Rattle.outbox.specs.Outboxes.{looked}
use Rattle.table_service.specs.Services.{ServiceOf}
use Rattle.table_service.proofs.service.TableService.look.Goals as goal

pub returns-clause-err : goal.returns-clause-err
returns-clause-err g c =
    on_err_weaker c.look.result (λ k.
    let log : c.log.result.now.entries ≡ c.self.inside.mirroring.entries =
    c.log.ensures.entries ∙ c.mirror.ensures in
    let front = ap (λ es. looked c.self.inside.outbox (take k.0 es)) log in
    let seen = k.1 ∙ front in
    (k.0, search rules)) c.look.ensures.err
