use Rattle.std.proofs.Common.{map}
use Rattle.table_service.{specs.Imports.named, proofs.Looked.file_carried}
use Rattle.table_service.proofs.looking.look_at_parts.Goals as goal

pub returns-then-eq : goal.returns-then-eq
returns-then-eq c =
    file_carried c.args.around.now (map named c.args.parts.now) c.content_of.result.now
    c.content_of.ensures c.eq.result c.eq.ensures c.if-eq.true c.options_of.result
    c.options_of.ensures c.content_of-then-eq.result.now c.content_of-then-eq.ensures
    c.look_at_file.result c.look_at_file.ensures
