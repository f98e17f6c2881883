use Rattle.std.proofs.Common.{◌∙◌, ℕ, List, ap, refl}
use Rattle.acceptor.specs.declared.entry.Entry.{Entry}
use Rattle.table_service.specs.{Pages.waits, Remarks.remark_of, Requests.sent_before}
use Rattle.table_service.specs.Services.{ServiceOf}
use Rattle.table_service.proofs.Arounds.{around_planned, recent_seen}
use Rattle.table_service.proofs.service.TableService.plan_with.Goals as goal

pub returns : goal.returns
returns g c =
    let seen = c.self.view_is in
    around_planned c.args.self.now c.args.ids.now c.args.request.now _ _ _ _ c.plan_own.result
    c.plan_own.ensures record {
      mirror = c.mirror-2.ensures ∙ ap (λ (s : ServiceOf). s.mirroring.entries) seen;
      desks = ap (λ (s : ServiceOf). s.desks) seen;
      token = c.as_bytes.ensures.value ∙ ap (λ (s : ServiceOf). s.token) seen;
      proposals = c.deref.ensures.value ∙ ap (λ (s : ServiceOf). s.proposals) seen;
      ids = refl;
      remark = c.deref-2.ensures.value ∙ c.in_ok-remark.ensures
          ∙ ap (λ (name : List ℕ). remark_of name c.self.inside.clock) c.as_bytes-name.ensures.value
          ∙ ap (λ (s : ServiceOf). remark_of s.name s.clock) seen;
      recent = recent_seen _ _ _ _ _ _
          (c.mirror.ensures ∙ ap (λ (s : ServiceOf). s.mirroring.entries) seen)
          (ap (λ (s : ServiceOf). s.outbox.list) seen) c.deref-3.ensures.value
          c.in_ok-recent.ensures;
      time = ap (λ (s : ServiceOf). s.time) seen;
      waits = c.waits.ensures
          ∙ ap (waits c.self.inside.outbox.list c.mirror-3.result.now c.self.inside.time)
          c.in_ok-sent.ensures
          ∙ ap (λ (log : List Entry).
          waits c.self.inside.outbox.list log c.self.inside.time (sent_before c.args.request.now))
          c.mirror-3.ensures
          ∙ ap (λ (s : ServiceOf).
          waits s.outbox.list s.mirroring.entries s.time (sent_before c.args.request.now)) seen;
    } (c.as_bytes-title.ensures.value ∙ ap (λ (s : ServiceOf). s.title) seen)
    (c.as_ref.ensures.value ∙ ap (λ (s : ServiceOf). s.competition) seen)
    (ap (λ (s : ServiceOf). s.outbox.list) seen)
