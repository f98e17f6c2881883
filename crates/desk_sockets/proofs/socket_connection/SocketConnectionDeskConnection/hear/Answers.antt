use Rattle.std.proofs.Common.{◌≡◌, List, [], ◌++◌, ℕ, ap, sym, subst, ◌∙◌, rules}
use Rattle.desk_sockets.specs.{Answering.AnsweringOf, Answering.heard, Connections.who_in}
use Rattle.desk_sockets.specs.Said.{IsSaid}
use Rattle.desk_sockets.proofs.socket_connection.SocketConnectionDeskConnection.hear.Goals as goal

pub returns-clause-who : goal.returns-clause-who
returns-clause-who g c =
    let hands = c.read-outcome.ensures.who in
    let empty : c.new-handed.result.items ≡ [] = search rules in
    c.note_heard.ensures.who
    ∙ ap (λ (a : AnsweringOf). who_in c.read-outcome.result.0 c.note_heard.new.self.last a)
    (c.note_handed.ensures.who ∙ hands.who
    ∙ ap (λ (said : List ℕ). heard said c.args.self.now.who)
    (sym (hands.handed ∙ ap (λ (xs : List ℕ). xs ++ hands.said) empty)))

pub returns-clause-said : goal.returns-clause-said
returns-clause-said g c =
    let hands = c.read-outcome.ensures.who in
    let empty : c.new-handed.result.items ≡ [] = search rules in
    subst (λ (said : List ℕ). IsSaid g.C.Socket.Read.remaining c.args.self.now.call said)
    (sym (hands.handed ∙ ap (λ (xs : List ℕ). xs ++ hands.said) empty)) hands.read
