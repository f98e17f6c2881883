use Rattle.table_round_views.proofs.opening.push_advance_choices.Goals as goal

pub returns-in-Final : goal.returns-in-Final
returns-in-Final c = rw c.in-Final.is c.push_advance_options.ensures

pub returns-in-Percent : goal.returns-in-Percent
returns-in-Percent c = rw c.in-Percent.is c.push_advance_options-in-Percent.ensures
