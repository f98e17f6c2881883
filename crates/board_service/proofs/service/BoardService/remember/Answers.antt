use Rattle.std.proofs.Common.{Option, string_bytes, subst}
use Rattle.board_views.specs.Views.{IsPageAt}
use Rattle.markup.specs.declared.replies.page.Page.{Page}
use Rattle.board_service.proofs.{Services.stands_within, Shelves.put_is_at}
use Rattle.board_service.proofs.service.BoardService.remember.Goals as goal

pub invariant_of-self : goal.invariant_of-self
invariant_of-self c =
    let fields = c.self.inside in
    let title = string_bytes fields.title in
    let path = c.args.path.now in
    put_is_at title fields.mirroring.entries fields.shelf c.put.new.self path c.in-Some.page
    c.self.invariant
    (subst (λ (o : Option Page). IsPageAt title fields.mirroring.entries path o) c.in-Some.is
    (stands_within title fields.mirroring fields.desks fields.competition fields.time
    c.args.self.now c.self.view_is path c.args.made c.requires)) c.put.ensures
