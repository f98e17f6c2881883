-- The options by which the desks of a hall are found, as the parser knows them (in the words of the
-- crate `clap`).
use Rattle.std.specs.Prelude.{◌≡◌, ◌∷◌, [], false, List, codes, map, option_map, Some}
use Rattle.std.specs.Borrow.{Bor}
use Rattle.clap.specs.Words.{AddsArg, AddsInTurn, Rule, Text, items_of, new_rule, rule_of}
use Rattle.clap.specs.declared.builder.{ArgAction.TheVariants.Set, command.Command.Command}
use Rattle.clap.specs.declared.builder.{arg.Arg.Arg, value_parser.ValueParser.ValueParser}
use Rattle.clap.specs.declared.builder.arg.ArgPredicate.{ArgPredicate, TheVariants.IsPresent}
use Rattle.clap.specs.declared.builder.value_parser.ValueParser.TheVariants as parser

-- what an option is: how it is read, what help calls its value and says of it, which others cannot
-- be given beside it, and without which it cannot be given
pub record Described : Type 0 where
  pub rule : Rule
  pub name : Text
  pub help : Text
  pub excluded : List Text
  pub needed : List Text

-- one value, after two hyphens and the id; it may be left out
abbrev pub option_rule : Text → ValueParser → Rule
option_rule id parser = record (new_rule id) {
  long = Some id;
  value_names = 1;
  action = Some Set;
  parser = Some parser;
}

-- an option with such a value, and without a rule on others
abbrev pub plain_option : (id name help : Text) → ValueParser → Described
plain_option id name help parser = record {
  rule = option_rule id parser;
  name = name;
  help = help;
  excluded = [];
  needed = [];
}

-- it has a rule on others
abbrev pub bound : Rule → Rule
bound rule = record rule { is_free = false }

-- these others cannot be given beside it
abbrev pub excluding : List Text → Described → Described
excluding ids d = record d { rule = bound d.rule; excluded = ids }

-- it cannot be given without these others
abbrev pub needing : List Text → Described → Described
needing ids d = record d { rule = bound d.rule; needed = ids }

-- one to five values after one use
abbrev pub up_to_five : Described → Described
up_to_five d = record d {
  rule = record d.rule { range = Some (record { start_inclusive = 1; end_inclusive = 5 }) };
}

-- another option by its id, where this one is used whatever its value
abbrev pub whenever_used : Text → ArgPredicate × Text
whenever_used id = (IsPresent, id)

abbrev pub condition_of : ArgPredicate × Bor Text → ArgPredicate × Text
condition_of need = (need.0, need.1.now)

-- the argument is this option, of the one command that it is given to
pub record IsOption (d : Described) (a : Arg) : Type 0 where
  pub rule : rule_of a ≡ d.rule
  pub name : map (λ t. t.now) (items_of a.val_names) ≡ d.name ∷ []
  pub help : option_map (λ t. t.now) a.help ≡ Some d.help
  pub excluded : map (λ t. t.now) a.conflicts.items ≡ d.excluded
  pub needed : map condition_of a.needs.items ≡ map whenever_used d.needed
  pub local : a.global ≡ false

-- ---- which desks are asked

-- a hall's file
abbrev pub config_option : Described
config_option =
    excluding (codes "hall" ∷ codes "to" ∷ []) (plain_option (codes "config") (codes "FILE")
    (codes "The file that describes the hall; without it and --hall it is hall.toml")
    parser.String)

-- the hall's number, a whole number of four bytes
abbrev pub hall_option : Described
hall_option =
    needing (codes "to" ∷ []) (plain_option (codes "hall") (codes "H")
    (codes "The hall's number, 0 to 4294967295, where no file describes it")
    (parser.Unsigned 0 4294967295))

-- the addresses of its desks
abbrev pub to_option : Described
to_option =
    needing (codes "hall" ∷ []) (up_to_five (plain_option (codes "to") (codes "ADDR")
    (codes "The addresses of the desks, one to five, desk 1 first, with --hall")
    parser.String))

-- the file of the hall's key
abbrev pub key_option : Described
key_option =
    plain_option (codes "key") (codes "FILE")
    (codes "The file of the hall's key; without it the one that the hall's file names")
    parser.String

-- `new` is `old` with these four options after its other arguments, in this order
pub record AddsDesks (old new : Command) : Type 0 where
  pub config : Arg
  pub hall : Arg
  pub to : Arg
  pub key : Arg
  pub is_config : IsOption config_option config
  pub is_hall : IsOption hall_option hall
  pub is_to : IsOption to_option to
  pub is_key : IsOption key_option key
  pub added : AddsInTurn AddsArg old (config ∷ hall ∷ to ∷ key ∷ []) new
