-- How the values of one entrant are kept.
use Rattle.std.specs.Prelude.{◌≡◌, ◌≤◌, length, take}
use Rattle.rounds.specs.{model.ValueRows.Values, declared.value_row.ValueRow.TheInside.Inside}

abbrev pub values_of_row : Inside → Values
values_of_row a = take a.done a.values

-- no more values than there is room for
pub record IsRowOfFive (a : Inside) : Type 0 where
  pub few : a.done ≤ 5
  pub room : length a.values ≡ 5
