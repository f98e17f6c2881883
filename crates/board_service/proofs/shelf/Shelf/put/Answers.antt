use Rattle.board_service.proofs.Shelves.{not_put_after, put_after}
use Rattle.board_service.proofs.shelf.Shelf.put.Goals as goal

pub returns-in-Ok-insert : goal.returns-in-Ok-insert
returns-in-Ok-insert c =
    put_after c.args.self.now.pages c.make_room.new.self.pages c.insert.new.self
    c.make_room.ensures.others c.args.path.now c.args.page c.in-Ok.path c.in-Ok.ensures.ok
    c.in-Ok-insert.ensures.updates

pub returns : goal.returns
returns c =
    not_put_after c.args.self.now.pages c.make_room.new.self.pages c.insert.new.self
    c.make_room.ensures.others c.args.path.now c.args.page c.in-Err.ensures.err
