use Rattle.std.proofs.Common.{◌∙◌, ap, length, sym}
use Rattle.outbox.specs.Items.{ItemsOf}
use Rattle.table_service.{specs.Services.ServiceOf, proofs.Handed.list_stays}
use Rattle.table_service.proofs.service.TableService.submit.Goals as goal

pub invariant_of-self : goal.invariant_of-self
invariant_of-self g c =
    let same = list_stays c.self.inside.outbox c.keep.new.dialogue c.keep.ensures.went in (
      ap (λ (q : ItemsOf). q.kept) same ∙ c.self.invariant.0
          ∙ sym (ap (λ (q : ItemsOf). length q.items) same),
      ap (λ (q : ItemsOf). q.lines) same ∙ c.self.invariant.1,
    )

pub returns-clause-list : goal.returns-clause-list
returns-clause-list g c =
    list_stays c.self.inside.outbox c.keep.new.dialogue c.keep.ensures.went
    ∙ ap (λ (s : ServiceOf). s.outbox.list) c.self.view_is
