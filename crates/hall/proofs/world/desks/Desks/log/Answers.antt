use Rattle.std.proofs.Common.{◌≡◌, ◌<◌, ◌-◌, ap, sym, ◌∙◌, subst}
use Rattle.std.specs.Prelude.{true}
use Rattle.learner.specs.{Desks.Desk, Steps.is_desk}
use Rattle.hall.specs.world.model.Halls.{HallValue, desk_from}
use Rattle.hall.proofs.world.Places.{desk_test, here_at, known_at, place_less}
use Rattle.hall.proofs.world.desks.Desks.log.Goals as goal

pub index-requires : goal.index-requires
index-requires c =
    let count = ap (λ (h : HallValue). h.desks) c.self.view_is in
    let ours : is_desk c.self.inside.count c.args.desk ≡ true =
    subst (λ n. is_desk n c.args.desk ≡ true) (sym count)
    (desk_test c.args.self.now.desks c.args.desk c.requires) in
    subst (λ m. c.args.desk - 1 < m) (sym c.self.inside.desks.ok.0)
    (place_less c.self.inside.count c.args.desk c.self.inside.desks.items c.self.invariant ours)

pub returns : goal.returns
returns c =
    let count = ap (λ (h : HallValue). h.desks) c.self.view_is in
    let ours : is_desk c.self.inside.count c.args.desk ≡ true =
    subst (λ n. is_desk n c.args.desk ≡ true) (sym count)
    (desk_test c.args.self.now.desks c.args.desk c.requires) in
    let here = here_at c.self.inside.count c.args.desk c.self.inside.desks.items
    c.index.result.now c.self.invariant ours c.index.ensures in
    c.log.ensures.entries ∙ ap (λ (x : Desk). x.log)
    (known_at c.self.inside.count c.args.desk c.self.inside.desks.items c.index.result.now ours
    here) ∙ ap (λ (h : HallValue). (desk_from 1 h.places c.args.desk).log) c.self.view_is
