use Rattle.std.proofs.Common.{sym, subst}
use Rattle.cube.specs.{declared.moves.Quarter.Quarter, Turns.Undoes}
use Rattle.cube.specs.declared.moves.Quarter.TheVariants.{Clockwise, Half, Anticlockwise}
use Rattle.cube.proofs.Compositions.{inverse_undoes}
use Rattle.cube.proofs.moves.Move.inverse.Goals as goal

pub returns-in-Clockwise-clause-undoes : goal.returns-in-Clockwise-clause-undoes
returns-in-Clockwise-clause-undoes c =
    subst (λ (q : Quarter). Undoes (record { kind = c.args.self.kind; quarter = q })
    (record { kind = c.args.self.kind; quarter = Anticlockwise })) (sym c.in-Clockwise.is)
    (inverse_undoes c.args.self.kind Clockwise)

pub returns-in-Half-clause-undoes : goal.returns-in-Half-clause-undoes
returns-in-Half-clause-undoes c =
    subst (λ (q : Quarter). Undoes (record { kind = c.args.self.kind; quarter = q })
    (record { kind = c.args.self.kind; quarter = Half })) (sym c.in-Half.is)
    (inverse_undoes c.args.self.kind Half)

pub returns-in-Anticlockwise-clause-undoes : goal.returns-in-Anticlockwise-clause-undoes
returns-in-Anticlockwise-clause-undoes c =
    subst (λ (q : Quarter). Undoes (record { kind = c.args.self.kind; quarter = q })
    (record { kind = c.args.self.kind; quarter = Clockwise })) (sym c.in-Anticlockwise.is)
    (inverse_undoes c.args.self.kind Anticlockwise)
