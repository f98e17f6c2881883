use Rattle.std.proofs.Common.{◌++◌, map}
use Rattle.std.specs.List.{range_with_len}
use Rattle.csv.specs.Records.{fields_of}
use Rattle.sheets.specs.{Sheet.attempt_text, model.Output.HasFields}
use Rattle.sheets.proofs.as_table.push_attempts.Given as goal

abbrev pub invariant-loop-place : goal.invariant-loop-place
invariant-loop-place l =
    HasFields l.fields (fields_of l.initial.fields ++ map (attempt_text l.unit l.values)
    (range_with_len 0 l.place))
