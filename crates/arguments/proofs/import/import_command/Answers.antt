use Rattle.std.proofs.Common.{◌≡◌, ap, Bor, List, map, refl, Some}
use Rattle.std.proofs.lemmas.Result.{IfOk-weaker}
use Rattle.clap.specs.Words.{Text}
use Rattle.replay_arguments.proofs.Building.{added, added_last}
use Rattle.arguments.specs.{Arguments.IsOneOf, Tables.described_app, Tables.with_arguments}
use Rattle.clap.specs.declared.builder.value_parser.ValueParser.TheVariants as parser
use Rattle.arguments.proofs.import.import_command.Goals as goal

is_one : (names : Bor (List (Bor Text))) (texts : List Text)
    → map (λ name. name.now) names.now ≡ texts → IsOneOf (Some (parser.Names names)) texts
is_one names texts are = record { names = names; parsed = refl; are = are }

pub returns : goal.returns
unfolding described_app with_arguments
returns c =
    let one =
    added c.in_ok-command.command c.in_ok-command-2.command _ c.way-edition.result _
    c.in_ok-command.ensures c.way-edition.ensures.rule
    c.in_ok-command-2.ensures.app c.in_ok-command-2.ensures.local in
    let two =
    added c.in_ok-command-2.command c.in_ok-command-3.command _ c.way-limits.result _ one
    c.way-limits.ensures.rule c.in_ok-command-3.ensures.app c.in_ok-command-3.ensures.local in
    IfOk-weaker c.with_argument-3.result _ _ (λ command made. (
      record {
        edition = Some (parser.Names c.as_slice.result);
        limits = Some (parser.Names c.as_slice-2.result);
        names = Some (parser.Names c.as_slice-3.result);
        begun = is_one _ _ (ap (map (λ (t : Bor Text). t.now)) c.as_slice.ensures);
        limited = is_one _ _ (ap (map (λ (t : Bor Text). t.now)) c.as_slice-2.ensures);
        named = is_one _ _ (ap (map (λ (t : Bor Text). t.now)) c.as_slice-3.ensures);
      },
      made,
    )) (added_last c.with_argument-3.result c.in_ok-command-3.command _ c.way-names.result _ two
    c.way-names.ensures.rule c.with_argument-3.ensures.app c.with_argument-3.ensures.local)
