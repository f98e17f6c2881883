use Rattle.std.proofs.Common.{◌∙◌, [], List, None, ℕ, ap, map, string_bytes}
use Rattle.outbox.specs.Outboxes.{OutboxOf}
use Rattle.table_service.specs.Services.{service}
use Rattle.table_service.proofs.service.TableService.new.Goals as goal

pub returns : goal.returns
returns g c = record {
  desks = c.unknown_desks.result;
  is = ap
      (λ (ids : List (List ℕ)). service (string_bytes c.args.setup.title)
      (string_bytes c.args.setup.name) (map string_bytes c.args.setup.hosts.items)
      (string_bytes c.args.setup.token) c.args.setup.proposals.items c.args.mirroring
      c.args.setup.competition c.unknown_desks.result c.not_kept.new.self ids 0 None c.args.file)
      c.new.ensures.items
      ∙ ap (λ (o : OutboxOf). service (string_bytes c.args.setup.title)
      (string_bytes c.args.setup.name) (map string_bytes c.args.setup.hosts.items)
      (string_bytes c.args.setup.token) c.args.setup.proposals.items c.args.mirroring
      c.args.setup.competition c.unknown_desks.result o [] 0 None c.args.file)
      c.not_kept.ensures.back;
}
