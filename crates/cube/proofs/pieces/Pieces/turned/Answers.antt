use Rattle.std.proofs.Common.{sym, ap, ◌∙◌}
use Rattle.cube.specs.{model.Pieces.colours_of, Turns.turned}
use Rattle.cube.proofs.Compositions.{once, half_turned, anticlockwise_turned}
use Rattle.cube.proofs.pieces.Pieces.turned.Goals as goal

pub returns-in-Clockwise : goal.returns-in-Clockwise
returns-in-Clockwise c =
    c.quarter_turned-once.ensures
    ∙ ap (λ q. turned (record { kind = c.args.turn.kind; quarter = q })
    (colours_of c.args.self)) (sym c.in-Clockwise.is)

pub returns-in-Half : goal.returns-in-Half
returns-in-Half c =
    c.quarter_turned.ensures
    ∙ ap (once c.args.turn.kind) c.quarter_turned-once.ensures
    ∙ sym (half_turned c.args.turn.kind (colours_of c.args.self))
    ∙ ap (λ q. turned (record { kind = c.args.turn.kind; quarter = q }) (colours_of c.args.self))
    (sym c.in-Half.is)

pub returns-in-Anticlockwise : goal.returns-in-Anticlockwise
returns-in-Anticlockwise c =
    c.quarter_turned-in-Anticlockwise-2.ensures
    ∙ ap (once c.args.turn.kind) (c.quarter_turned-in-Anticlockwise.ensures
    ∙ ap (once c.args.turn.kind) c.quarter_turned-once.ensures)
    ∙ sym (anticlockwise_turned c.args.turn.kind (colours_of c.args.self))
    ∙ ap (λ q. turned (record { kind = c.args.turn.kind; quarter = q }) (colours_of c.args.self))
    (sym c.in-Anticlockwise.is)
