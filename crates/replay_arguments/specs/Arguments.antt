-- The arguments of subcommands, as the parser knows them (in the words of the crate `clap`).
use Rattle.std.specs.Prelude.{◌≡◌, ◌∷◌, [], true, false, Bool, List, codes, map, Option, Some, None}
use Rattle.std.specs.Borrow.{Bor}
use Rattle.clap.specs.Words.{App, Row, Rule, Text, app_of, new_rule, one_of}
use Rattle.clap.specs.declared.builder.ArgAction.TheVariants.{Set, SetTrue}
use Rattle.clap.specs.declared.builder.command.Command.{Command, TheViews.out-Command as fields_of}
use Rattle.clap.specs.declared.builder.value_parser.ValueParser.{ValueParser}
use Rattle.clap.specs.declared.builder.value_parser.ValueParser.TheVariants as parser

-- a required value, known by its place
abbrev pub value_rule : Text → Option ValueParser → Rule
value_rule id parser =
    record (new_rule id) { value_names = 1; required = true; action = Some Set; parser = parser }

-- a flag, given after two hyphens
abbrev pub flag_rule : Text → Rule
flag_rule id = record (new_rule id) { long = Some id; action = Some SetTrue }

abbrev pub csv_rule : Rule
csv_rule = flag_rule (codes "csv")

-- whether a flag is there; none is there that the subcommand does not have
pub record IsFlag (id : Text) (rows : List Row) (is_set : Bool) : Type 0 where
  pub there : one_of id rows ≡ Some (codes "true") → is_set ≡ true
  pub away : one_of id rows ≡ Some (codes "false") → is_set ≡ false
  pub unknown : one_of id rows ≡ None → is_set ≡ false

-- one of these texts and no other
pub record IsOneOf (p : Option ValueParser) (texts : List Text) : Type 0 where
  pub names : Bor (List (Bor Text))
  pub parsed : p ≡ Some (parser.Names names)
  pub are : map (λ name. name.now) names.now ≡ texts

-- a round as it is typed
abbrev pub round_numbers : List Text
round_numbers = codes "1" ∷ codes "2" ∷ codes "3" ∷ codes "4" ∷ []

-- the command reads arguments as this one does, and none of its arguments is for all subcommands
abbrev pub IsCommand : Command → App → Type 0
IsCommand c app = (app_of c ≡ app) × ((fields_of c).has_globals ≡ false)
