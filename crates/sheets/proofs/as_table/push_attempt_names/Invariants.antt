use Rattle.std.proofs.Common.{◌++◌, map, decimal}
use Rattle.std.specs.List.{range_with_len}
use Rattle.csv.specs.Records.{fields_of}
use Rattle.sheets.specs.model.Output.{HasFields}
use Rattle.sheets.proofs.as_table.push_attempt_names.Given as goal

abbrev pub invariant-loop-place : goal.invariant-loop-place
invariant-loop-place l =
    HasFields l.fields (fields_of l.initial.fields ++ map decimal (range_with_len 1 l.place))
