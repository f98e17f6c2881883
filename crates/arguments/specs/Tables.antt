-- What the tables of arguments describe: the rules of arguments, and the subcommands (the project's
-- own).
use Rattle.std.specs.List.{fold}
use Rattle.std.specs.Prelude.{◌&&◌, Bool, List, Some, if◌then◌else◌}
use Rattle.clap.specs.Walk.{is_empty}
use Rattle.clap.specs.Words.{App, Rule, Text, new_app, with_rule, with_subcommand}
use Rattle.arguments.specs.Arguments.{any_text, flag_rule, numbers, several, value_rule}
use Rattle.arguments.specs.{Arguments.values_rule, declared.described.Subcommand.Subcommand}
use Rattle.arguments.specs.declared.described.{ArgumentKind.ArgumentKind, Argument.Argument}
use Rattle.arguments.specs.Asking.{ImportParsers, RoundParsers, export_arguments, hall_arguments}
use Rattle.arguments.specs.Asking.{hall_file_arguments, import_arguments, key_arguments, named_app}
use Rattle.arguments.specs.Asking.{replay_arguments, results_arguments, serve_arguments}
use Rattle.arguments.specs.declared.described.ArgumentKind.TheVariants as takes

-- an argument that takes this
abbrev pub taken_rule : Text → ArgumentKind → Rule
taken_rule id takes.Nothing = flag_rule id
taken_rule id takes.Text = value_rule id any_text
taken_rule id takes.FewTexts = several 1 5 (value_rule id any_text)
taken_rule id takes.Texts = values_rule id any_text
taken_rule id (takes.Number low high) = value_rule id (numbers low high)

-- whether it has to be given, and whether other arguments bind it
abbrev pub bound_rule : Argument → Rule → Rule
bound_rule a r =
    record r {
      required = a.required;
      is_free = (r.is_free && is_empty a.without.now) && is_empty a.needs.now;
    }

-- whether it is known by its place
abbrev pub placed_rule : Bool → Text → Rule → Rule
placed_rule by_place id r = record r { long = if by_place then r.long else Some id }

-- the argument that is described
abbrev pub described_rule : Argument → Rule
described_rule a = placed_rule a.by_place a.id.now (bound_rule a (taken_rule a.id.now a.takes))

abbrev pub with_argument : App → Argument → App
with_argument app a = with_rule app (described_rule a)

-- these arguments, too
unfoldable pub with_arguments : App → List Argument → App
with_arguments app described = fold with_argument app described

-- the subcommand that is described
unfoldable pub described_app : Subcommand → App
described_app s = with_arguments (with_arguments (new_app s.name.now) s.common.now) s.own.now

abbrev pub with_described : App → Subcommand → App
with_described app s = with_subcommand app (described_app s).top

-- the program with its subcommands as far as `serve`
abbrev pub first_half : RoundParsers → ImportParsers → App
first_half r i =
    with_subcommand (with_subcommand (with_subcommand (with_subcommand (with_subcommand
    (with_subcommand (with_subcommand (with_subcommand named_app (replay_arguments r).top)
    (import_arguments i).top) export_arguments.top) results_arguments.top) hall_arguments.top)
    hall_file_arguments.top) key_arguments.top) serve_arguments.top
