use Rattle.wire.proofs.Spelled.{read_where_spelled, begins_no_other}
use Rattle.wire.proofs.laws.one_spelling_each.Goals as goal

pub returns-clause-read_where_spelled : goal.returns-clause-read_where_spelled
returns-clause-read_where_spelled c = read_where_spelled

pub returns-clause-prefix_free : goal.returns-clause-prefix_free
returns-clause-prefix_free c = begins_no_other
