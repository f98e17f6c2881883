use Rattle.std.proofs.Common.{refl}
use Rattle.std.specs.{Char.encode_utf8, Fmt.digits, Str.chars, Str.is_utf8}
use Rattle.ucd_table.specs.Rows.{value_in}
use Rattle.ucd_category.specs.GeneralCategory.{general_category}
use Rattle.ucd_category.specs.GeneralCategoryRows.{general_category_rows}
use Rattle.cube.specs.Turns.{turned}
use Rattle.fmc_check.specs.Fewest.{is_solved, is_solution, result_of}
use Rattle.formats.specs.Events.{event_of_name, format_named}
use Rattle.texts.specs.Fields.{cut, number_between, name_of, new_name_of, move_of, moves_of}
use Rattle.texts.specs.{Fields.entered_of, Names.is_clear_name, Reading.command_of, Table.rows}
use Rattle.commands.specs.{Accepted.round_in, History.after_in, History.entry_refusal_in}
use Rattle.sheets.specs.Sheet.{entrant_line}
use Rattle.edition_laws.proofs.laws.mended_rounds.Goals as goal

pub returns : goal.returns
unfolding
    digits encode_utf8 chars is_utf8 value_in general_category general_category_rows
    event_of_name format_named cut number_between name_of new_name_of move_of moves_of entered_of
    is_clear_name command_of rows round_in after_in entry_refusal_in
    turned is_solved is_solution result_of
    entrant_line
returns c =
    record {
      left_answers = refl;
      left_from_first = refl;
      left_from_second = refl;
      set_answers = refl;
      set_printed = refl;
      scrambled_answers = refl;
      scrambled_printed = refl;
    }
