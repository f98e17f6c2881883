use Rattle.std.proofs.Common.{◌∙◌, Some, ap, string_bytes, sym}
use Rattle.std.specs.Option.{option_copied}
use Rattle.http_uri.specs.Uri.{uri_path}
use Rattle.board_service.proofs.Services.{kept_stands, shows}
use Rattle.board_service.proofs.service.BoardService.show.Goals as goal

pub returns-in-Some-clause-shows : goal.returns-in-Some-clause-shows
returns-in-Some-clause-shows c =
    let fields = c.self.inside in
    let page = c.in-Some.page.now in
    let path = c.path-path.ensures.value ∙ ap uri_path c.uri.ensures in
    shows c.args.self.now c.args.request.now c.reply.new.response c.path-path.result.now
    (Some page) path
    (kept_stands (string_bytes fields.title) fields.mirroring fields.desks fields.competition
    fields.time c.args.self.now fields.shelf c.self.view_is c.self.invariant
    c.path-path.result.now page
    (sym c.get.ensures ∙ ap option_copied c.in-Some.is)) c.in_ok-reply.ensures
