use Rattle.std.proofs.Common.{◌≡◌, ◌∙◌, Bool, ap, inl, map, rules, subst}
use Rattle.std.specs.Prelude.{string_bytes}
use Rattle.outbox.specs.{Items.ItemsOf, Items.taken_back, Outboxes.OutboxOf, Outboxes.with_list}
use Rattle.table_service.specs.Services.{CannotTake, ServiceOf, TriesAll, service}
use Rattle.table_service.proofs.Served.{is_low, same_back}
use Rattle.table_service.proofs.service.TableService.take.Goals as goal

pub returns-in-Ok-false-clause-ok : goal.returns-in-Ok-false-clause-ok
returns-in-Ok-false-clause-ok g c =
    let now = c.self.inside in
    let cannot : CannotTake now.outbox.list c.args.entries.now now.time =
    subst (λ (all : Bool). TriesAll all now.outbox.list c.args.entries.now now.time
    c.take_all.new.outbox.list) c.in-Ok-false.field-0-test c.in-Ok-false.ensures.ok in
    let left : CannotTake c.args.self.now.outbox.list c.args.entries.now c.args.self.now.time =
    subst (λ (s : ServiceOf). CannotTake s.outbox.list c.args.entries.now s.time) c.self.view_is
    cannot in
    let same : c.take_back.new.outbox ≡ now.outbox =
    c.take_back.ensures.back
    ∙ ap (λ (o : OutboxOf). with_list o (taken_back c.take_all.new.outbox.list))
    c.take_all.ensures.others
    ∙ ap (λ (q : ItemsOf). with_list now.outbox q)
    (c.take_all.ensures.same (is_low now.outbox c.self.invariant)
    ∙ same_back now.outbox c.self.invariant) in
    let stays =
    ap (λ (o : OutboxOf). service (string_bytes now.setup.title) (string_bytes now.setup.name)
    (map string_bytes now.setup.hosts.items) (string_bytes now.setup.token)
    now.setup.proposals.items now.mirroring now.setup.competition
    now.desks o now.ids.items now.time now.clock now.file) same
    ∙ c.self.view_is in
    (inl (left, stays), search rules)
