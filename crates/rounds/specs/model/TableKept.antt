-- How a round's table is kept.
use Rattle.rounds.specs.{Tables.Table, model.Field.as_table}
use Rattle.rounds.specs.declared.table.RoundTable.TheInside.{Inside}

abbrev pub table_of : Inside → Table
table_of a = as_table a.closed a.entrants
