use Rattle.std.{proofs.Common.refl, specs.Fmt.digits}
use Rattle.csv.specs.Writing.{escaped, fields_text, is_blank}
use Rattle.cube.specs.Turns.{turned}
use Rattle.fmc_check.specs.Fewest.{is_solved, is_solution, result_of}
use Rattle.commands.specs.Accepted.{round_in}
use Rattle.sheets.specs.Sheet.{entrant_line, entrant_record}
use Rattle.edition_laws.proofs.laws.worked_sheets.Goals as goal

pub returns : goal.returns
unfolding
    round_in entrant_line entrant_record turned is_solved is_solution result_of digits escaped
    fields_text is_blank
returns c =
    record {
      open_as_text = refl;
      open_as_table = refl;
      closed_as_text = refl;
      closed_as_table = refl;
      fixed_as_text = refl;
      late_as_text = refl;
      late_as_table = refl;
      moves_as_text = refl;
      moves_as_table = refl;
      multi_as_text = refl;
      multi_as_table = refl;
      no_round = refl;
    }
