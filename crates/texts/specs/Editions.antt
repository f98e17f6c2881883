-- The editions of the commands, which are this project's own. Edition 2 adds multi-blind: its event
-- and its outcome. Edition 3 adds what mends a desk's mistakes, and has other names. Edition 4 adds
-- scorecards and remarks.
use Rattle.std.specs.Prelude.{ℕ, Bool, true, ◌&&◌, nat_le, max, fold, is_some, if◌then◌else◌}
use Rattle.std.specs.List.{list_all}
use Rattle.formats.specs.Events.{event_edition}
use Rattle.texts.specs.declared.command.{Command.Command, Entered.Entered}
use Rattle.texts.specs.{declared.command.RemarkedCommand.RemarkedCommand, Names.is_name_in}
use Rattle.texts.specs.{declared.value.FieldValue.FieldValue, Parts.parts}
use Rattle.texts.specs.Table.{row_of, since_in}
use Rattle.texts.specs.declared.command.Entered.TheVariants as entered
use Rattle.texts.specs.declared.value.FieldValue.TheVariants as value

-- the first edition that has the outcome
abbrev pub entered_edition : Entered → ℕ
entered_edition (entered.Multi solved attempted seconds) = 2
entered_edition _ = 1

-- the later one of an edition and the first that has the value, but for names
abbrev pub later_by : ℕ → FieldValue → ℕ
later_by edition (value.Event event) = max edition (event_edition event)
later_by edition (value.Outcome outcome) = max edition (entered_edition outcome)
later_by edition _ = edition

-- the first edition that has the word and its values, but for names; `EDITION 2` to `EDITION 4` are
-- spelled in each
abbrev pub edition_of : Command → ℕ
edition_of c = fold later_by (since_in (row_of (parts c).0)) (parts c).1

-- the first edition that has a command with a remark, or with none
abbrev pub remark_edition : Bool → ℕ
remark_edition has_remark = if has_remark then 4 else 1

-- the edition spells the value, where it is a name
abbrev pub is_named_in : ℕ → FieldValue → Bool
is_named_in edition (value.Name name) = is_name_in edition name
is_named_in edition _ = true

-- the edition spells the name that is given, if one is
abbrev pub has_name_in : ℕ → Command → Bool
has_name_in edition c = list_all (is_named_in edition) (parts c).1

-- the edition has a spelling of the command with its remark, if it has one
abbrev pub is_spelled_in : ℕ → RemarkedCommand → Bool
is_spelled_in edition told =
    has_name_in edition told.command
    && nat_le (edition_of told.command) edition
    && nat_le (remark_edition (is_some told.remark)) edition
