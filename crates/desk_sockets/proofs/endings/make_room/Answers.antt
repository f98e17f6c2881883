use Rattle.std.proofs.Common.{◌∙◌, rules}
use Rattle.desk_sockets.proofs.Ending.{room_left, room_made}
use Rattle.desk_sockets.proofs.endings.make_room.Goals as goal

pub returns-then-len-lt-MOST_ENDING-clause-room : goal.returns-then-len-lt-MOST_ENDING-clause-room
returns-then-len-lt-MOST_ENDING-clause-room g c = room_left _ (search rules)

pub returns-clause-room : goal.returns-clause-room
returns-clause-room g c = c.pop_front-closed.ensures.rest ∙ room_made c.args.kept.now.items (search rules)
