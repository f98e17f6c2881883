use Rattle.std.proofs.Common.{None, refl}
use Rattle.std.specs.{Char.encode_utf8, Fmt.digits, Str.chars, Str.is_utf8}
use Rattle.ucd_table.specs.Rows.{value_in}
use Rattle.ucd_category.specs.GeneralCategory.{general_category}
use Rattle.ucd_category.specs.GeneralCategoryRows.{general_category_rows}
use Rattle.formats.specs.Events.{event_of_name, format_named}
use Rattle.texts.specs.Fields.{cut, entered_of, name_of, new_name_of, now_of, number_between}
use Rattle.texts.specs.{Fields.was_of, Names.is_clear_name, Reading.command_of, Table.rows}
use Rattle.texts.specs.declared.command.Command.TheVariants.{Card}
use Rattle.commands.specs.{Accepted.round_in, History.after_in, History.entry_refusal_in}
use Rattle.card_laws.specs.WorkedSaving.{card}
use Rattle.card_laws.proofs.worked.works_saved.Goals as goal

pub returns : goal.returns
unfolding
    digits encode_utf8 chars is_utf8 value_in general_category general_category_rows was_of now_of
    event_of_name format_named cut number_between name_of new_name_of entered_of is_clear_name
    command_of rows round_in after_in entry_refusal_in
returns c = record {
  says = record { told = record { command = Card card; remark = None }; reads = refl; is = refl };
  saved = refl;
  changed = refl;
}
