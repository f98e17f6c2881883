use Rattle.std.proofs.Common.{◌≡◌, ◌++◌, flat_map, drop}
use Rattle.sheets.specs.model.{Output.IsReady, Output.held, Shown.record_shown}
use Rattle.sheets.proofs.as_table.write_entrants.Given as goal

-- the records so far and those of what is left
abbrev pub invariant-loop-number : goal.invariant-loop-number
invariant-loop-number l = record {
  text : held l.writer
      ++ flat_map (record_shown l.shown) (drop l.number-index l.numbers) ≡ held l.initial.writer
      ++ flat_map (record_shown l.shown) l.numbers;
  ready : IsReady l.writer;
}
