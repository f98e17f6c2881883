use Rattle.desk_laws.proofs.Answering.{answers_are_judged, log_is_asked, questions_are_answered}
use Rattle.desk_laws.proofs.Answering.{questions_are_taken, questions_under_a_key}
use Rattle.desk_laws.proofs.questions.questions_are_answered.Goals as goal

pub returns-clause-taken : goal.returns-clause-taken
returns-clause-taken c = questions_are_taken

pub returns-clause-judged : goal.returns-clause-judged
returns-clause-judged c = answers_are_judged

pub returns-clause-answered : goal.returns-clause-answered
returns-clause-answered c = questions_are_answered

pub returns-clause-sealed : goal.returns-clause-sealed
returns-clause-sealed c = questions_under_a_key

pub returns-clause-example : goal.returns-clause-example
returns-clause-example c = log_is_asked
