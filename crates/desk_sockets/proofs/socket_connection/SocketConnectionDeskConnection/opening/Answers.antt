use Rattle.std.proofs.Common.{ap, ◌∙◌}
use Rattle.desk_sockets.specs.{Answering.AnsweringOf, Connections.ConnectionOf, Connections.who_at}
use Rattle.desk_sockets.specs.Keying.{turned_at}
use Rattle.desk_sockets.proofs.socket_connection.SocketConnectionDeskConnection.opening.Goals as goal

pub returns-clause-keys : goal.returns-clause-keys
returns-clause-keys g c =
    c.note_open.ensures.keys ∙ ap (λ (x : ConnectionOf). x.keys) c.is_open-open.ensures.same

pub returns-clause-turned : goal.returns-clause-turned
returns-clause-turned g c =
    c.note_open.ensures.turned
    ∙ ap (λ (x : ConnectionOf). turned_at c.note_open.result c.note_open.new.self.last x.turned)
    c.is_open-open.ensures.same

pub returns-clause-who : goal.returns-clause-who
returns-clause-who g c = (
  c.is_open-open.ensures.who.said,
  c.is_open-open.ensures.who.read,
  c.note_open.ensures.who
      ∙ ap (λ (a : AnsweringOf). who_at c.note_open.result a) c.is_open-open.ensures.who.who,
)
