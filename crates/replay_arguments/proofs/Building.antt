-- Arguments as they are built, step by step.
use Rattle.std.proofs.Common.{◌≡◌, ◌∙◌, ap, ap₂, false, true, Bor, IfOk, Option, Some, Result, Ok}
use Rattle.std.proofs.Common.{Err}
use Rattle.clap.specs.Words.{App, Rule, Text, app_of, new_rule, rule_of, with_rule, with_subcommand}
use Rattle.clap.specs.declared.builder.command.Command.{Command, TheViews.out-Command as fields_of}
use Rattle.clap.specs.declared.builder.{arg.Arg.Arg, ArgAction.TheVariants.Set}
use Rattle.clap.specs.declared.builder.texts.Texts.TheVariants.{One}
use Rattle.replay_arguments.specs.Arguments.{IsCommand, value_rule}

-- an argument with a value: its name in help, the help, that it is required, its action, its parser
pub value_is : (id : Text) (a b c d e f : Arg) (name : Bor Text) (help : Option (Bor Text))
    → rule_of a ≡ new_rule id → b ≡ record a { val_names = One name } → c ≡ record b { help = help }
    → d ≡ record c { required = true } → e ≡ record d { action = Some Set }
    → f ≡ record e { value_parser = f.value_parser } → rule_of f ≡ value_rule id f.value_parser
value_is id a b c d e f name help new named helped needed set parsed =
    ap rule_of parsed ∙ ap (λ (r : Rule). record r { parser = f.value_parser })
    (ap rule_of set ∙ ap (λ (r : Rule). record r { action = Some Set })
    (ap rule_of needed ∙ ap (λ (r : Rule). record r { required = true })
    (ap rule_of helped ∙ ap rule_of named ∙ ap (λ (r : Rule). record r { value_names = 1 }) new)))

pub value_is_local : (a b c d e f : Arg) (name : Bor Text) (help : Option (Bor Text))
    → a.global ≡ false → b ≡ record a { val_names = One name } → c ≡ record b { help = help }
    → d ≡ record c { required = true } → e ≡ record d { action = Some Set }
    → f ≡ record e { value_parser = f.value_parser } → f.global ≡ false
value_is_local a b c d e f name help new named helped needed set parsed =
    let global : Arg → _ = λ x. x.global in
    ap global parsed ∙ ap global set ∙ ap global needed ∙ ap global helped ∙ ap global named ∙ new

-- ---- commands as they grow

pub added : (old new : Command) (app : App) (a : Arg) (rule : Rule)
    → IsCommand old app → rule_of a ≡ rule → app_of new ≡ with_rule (app_of old) (rule_of a)
    → (fields_of new).has_globals ≡ (fields_of old).has_globals → IsCommand new (with_rule app rule)
added old new app a rule h is app_is local = (app_is ∙ ap₂ with_rule h.0 is, local ∙ h.1)

pub added_last : {E : Type 0} (r : Result Command E) (old : Command) (app : App) (a : Arg)
    (rule : Rule) → IsCommand old app → rule_of a ≡ rule
    → IfOk r (λ c. app_of c ≡ with_rule (app_of old) (rule_of a))
    → IfOk r (λ c. (fields_of c).has_globals ≡ (fields_of old).has_globals)
    → IfOk r (λ c. IsCommand c (with_rule app rule))
added_last (Ok new) old app a rule h is app_is local = added old new app a rule h is app_is local
added_last (Err e) old app a rule h is app_is local = tt

pub subbed : (new old sub app added : App) → old ≡ app → sub ≡ added
    → new ≡ with_subcommand old sub.top → new ≡ with_subcommand app added.top
subbed new old sub app added h is all = all ∙ ap₂ with_subcommand h (ap (λ (a : App). a.top) is)
