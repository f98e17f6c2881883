use Rattle.batch.{specs.Dialing.place_of, proofs.Going.adds_by}
use Rattle.batch.proofs.keeping.ask_over.Goals as goal

pub returns-clause-told : goal.returns-clause-told
returns-clause-told g c =
    adds_by (place_of c.args.contact) _ _ _ _ c.ask-answer.ensures.told c.let_go.ensures
