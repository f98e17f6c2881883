use Rattle.std.proofs.Common.{refl}
use Rattle.std.specs.{Char.encode_utf8, Fmt.digits, Str.chars, Str.is_utf8}
use Rattle.ucd_table.specs.Rows.{value_in}
use Rattle.ucd_category.specs.GeneralCategory.{general_category}
use Rattle.ucd_category.specs.GeneralCategoryRows.{general_category_rows}
use Rattle.csv.specs.Writing.{escaped, fields_text, is_blank}
use Rattle.cube.specs.Turns.{turned}
use Rattle.fmc_check.specs.Fewest.{is_solved, is_solution, result_of}
use Rattle.formats.specs.Events.{event_of_name, format_named}
use Rattle.texts.specs.Fields.{cut, number_between, name_of, new_name_of, move_of, moves_of}
use Rattle.texts.specs.{Fields.entered_of, Names.is_clear_name, Reading.command_of, Table.rows}
use Rattle.commands.specs.{Accepted.round_in, History.after_in, History.entry_refusal_in}
use Rattle.sheets.specs.Sheet.{entrant_line, entrant_record}
use Rattle.edition_laws.proofs.laws.worked_rounds.Goals as goal

pub returns : goal.returns
unfolding
    digits encode_utf8 chars is_utf8 value_in general_category general_category_rows
    event_of_name format_named cut number_between name_of new_name_of move_of moves_of entered_of
    is_clear_name command_of rows round_in after_in entry_refusal_in
    turned is_solved is_solution result_of
    entrant_line entrant_record escaped fields_text is_blank
returns c =
    record {
      long_answers = refl;
      long_printed = refl;
      five_answers = refl;
      five_printed = refl;
      five_as_table = refl;
      solutions_answers = refl;
      solutions_printed = refl;
      solutions_as_table = refl;
      blindfolded_answers = refl;
      blindfolded_printed = refl;
      tied_answers = refl;
      tied_printed = refl;
      next_printed = refl;
      percent = refl;
      three_quarters = refl;
      too_few = refl;
      after_7 = refl;
      after_8 = refl;
      after_15 = refl;
      after_16 = refl;
      after_99 = refl;
      after_100 = refl;
    }
