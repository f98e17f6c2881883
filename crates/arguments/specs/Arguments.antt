-- The arguments of subcommands, as the parser knows them, and what a number is (in the words of the
-- crate `clap`).
use Rattle.std.specs.{Borrow.Bor, Prelude.None, Prelude.Some}
use Rattle.std.specs.Prelude.{◌≡◌, ◌⊎◌, true, false, ℕ, List, codes, decimal, option_map, Option}
use Rattle.clap.specs.Words.{App, Row, Rule, Text, first_of, new_app, with_rule}
use Rattle.clap.specs.declared.builder.ArgAction.TheVariants.{Append}
use Rattle.clap.specs.declared.builder.value_parser.ValueParser.{ValueParser}
use Rattle.clap.specs.declared.builder.value_parser.ValueParser.TheVariants as parser
pub use Rattle.replay_arguments.specs.Arguments.{IsCommand, IsFlag, IsOneOf, csv_rule, flag_rule}
pub use Rattle.replay_arguments.specs.Arguments.{round_numbers, value_rule}

-- a required value, given after two hyphens and its id
abbrev pub option_rule : Text → Option ValueParser → Rule
option_rule id parser = record (value_rule id parser) { long = Some id }

-- a flag that has to be given
abbrev pub required_flag_rule : Text → Rule
required_flag_rule id = record (flag_rule id) { required = true }

-- values that may be more than one
abbrev pub values_rule : Text → Option ValueParser → Rule
values_rule id parser = record (value_rule id parser) { action = Some Append }

-- values that may be more than one, or none
abbrev pub optional_values_rule : Text → Option ValueParser → Rule
optional_values_rule id parser = record (values_rule id parser) { required = false }

-- a value, known by its place; it may be left out
abbrev pub last_value_rule : Text → Option ValueParser → Rule
last_value_rule id parser = record (value_rule id parser) { required = false }

-- whole numbers from one to another
abbrev pub numbers : ℕ → ℕ → Option ValueParser
numbers low high = Some (parser.Unsigned low high)

abbrev pub any_text : Option ValueParser
any_text = Some parser.String

-- a value, given after two hyphens and its id; it may be left out
abbrev pub optional_value_rule : Text → Option ValueParser → Rule
optional_value_rule id parser = record (option_rule id parser) { required = false }

-- a whole number from one to another
abbrev pub optional_rule : Text → ℕ → ℕ → Rule
optional_rule id low high = optional_value_rule id (numbers low high)

-- it cannot be given beside certain other arguments, or not without them
abbrev pub bound : Rule → Rule
bound r = record r { is_free = false }

-- this many values, from one number to another, after one use
abbrev pub several : ℕ → ℕ → Rule → Rule
several low high r =
    record r { range = Some (record { start_inclusive = low; end_inclusive = high }) }

-- for how many seconds a desk is waited for, 1 to 3,600
abbrev pub wait_seconds_rule : Rule
wait_seconds_rule = optional_rule (codes "patience") 1 3600

-- the file with the hall's key
abbrev pub key_rule : Rule
key_rule = optional_value_rule (codes "key") any_text

-- whether a second line says why a fault came
abbrev pub explain_rule : Rule
explain_rule = flag_rule (codes "explain")

-- the arguments that name a hall: its file, or its number; and its key
abbrev pub located_arguments : Text → App
located_arguments name =
    with_rule (with_rule (with_rule (new_app name)
    (bound (optional_value_rule (codes "config") any_text)))
    (bound (optional_rule (codes "hall") 0 4294967295))) key_rule

-- the arguments that every subcommand has that asks a desk
abbrev pub errand_arguments : Text → App
errand_arguments name =
    with_rule (with_rule (with_rule (with_rule (located_arguments name)
    (optional_rule (codes "desk") 0 255)) (bound (optional_value_rule (codes "to") any_text)))
    wait_seconds_rule) explain_rule

-- the first value of the argument is this number in decimal, without a sign or leading zeros
abbrev pub IsNumberAt : Text → List Row → ℕ → Type 0
IsNumberAt id rows n = first_of id rows ≡ Some (decimal n)

-- the number that is given, or that none is
abbrev pub IsGiven : Text → List Row → Option ℕ → Type 0
IsGiven id rows (Some n) = IsNumberAt id rows n
IsGiven id rows None = first_of id rows ≡ None

-- the number that is given, or this one where none is
abbrev pub IsNumberOr : Text → ℕ → List Row → ℕ → Type 0
IsNumberOr id other rows n = IsNumberAt id rows n ⊎ ((first_of id rows ≡ None) × (n ≡ other))

-- the text that is given, or that none is
abbrev pub IsText : Text → List Row → Option (Bor Text) → Type 0
IsText id rows text = option_map (λ t. t.now) text ≡ first_of id rows

-- the text that is given, or this one where none is
abbrev pub IsTextOr : Text → Text → List Row → Text → Type 0
IsTextOr id other rows text =
    (first_of id rows ≡ Some text) ⊎ ((first_of id rows ≡ None) × (text ≡ other))
