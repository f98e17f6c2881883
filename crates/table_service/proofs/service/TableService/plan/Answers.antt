use Rattle.std.proofs.Common.{◌∙◌, ap, slice_get, sym}
use Rattle.std.specs.Option.{option_copied}
use Rattle.table_service.specs.Services.{ServiceOf}
use Rattle.table_service.proofs.Arounds.{all_planned, busy_planned, foreign_planned, own_seen}
use Rattle.table_service.proofs.service.TableService.plan.Goals as goal

pub returns-then-not-is_own : goal.returns-then-not-is_own
returns-then-not-is_own g c =
    foreign_planned c.args.self.now c.args.request.now c.problem.result
    (own_seen c.deref.result.now c.self.inside.setup.hosts.items c.deref.ensures.value
    c.args.self.now (ap (λ (s : ServiceOf). s.hosts) c.self.view_is) c.args.request.now
    c.is_own.result _ c.is_own.ensures c.if-not-is_own.true) c.problem.ensures

pub returns-in-None : goal.returns-in-None
returns-in-None g c =
    busy_planned c.args.self.now c.args.request.now
    (own_seen c.deref.result.now c.self.inside.setup.hosts.items c.deref.ensures.value
    c.args.self.now (ap (λ (s : ServiceOf). s.hosts) c.self.view_is) c.args.request.now
    c.is_own.result _ c.is_own.ensures c.if-not-is_own.false) c.problem-in-None.result
    (sym (ap (λ (s : ServiceOf). slice_get s.ids 0) c.self.view_is) ∙ sym c.first_set.ensures
    ∙ ap option_copied c.in-None.is) c.problem-in-None.ensures

pub returns-in-Some : goal.returns-in-Some
returns-in-Some g c =
    all_planned c.args.self.now c.args.request.now
    (own_seen c.deref.result.now c.self.inside.setup.hosts.items c.deref.ensures.value
    c.args.self.now (ap (λ (s : ServiceOf). s.hosts) c.self.view_is) c.args.request.now
    c.is_own.result _ c.is_own.ensures c.if-not-is_own.false) c.in-Some.ids.now
    (sym (ap (λ (s : ServiceOf). slice_get s.ids 0) c.self.view_is) ∙ sym c.first_set.ensures
    ∙ ap option_copied c.in-Some.is) c.plan_with.result c.plan_with.ensures
