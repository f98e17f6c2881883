-- What was found in the arguments.
use Rattle.std.proofs.Common.{◌≡◌, ◌∙◌, ap, ap₂, sym, List, Bor, IfSome, Option, None, Some, codes}
use Rattle.std.proofs.Common.{option_map, unwrap_or}
use Rattle.std.specs.{Prelude.Box, Box.box_value}
use Rattle.clap.specs.Words.{Row, Text, first_of, first_value, found_of, rows_of, subcommand_rows}
use Rattle.clap.specs.declared.parser.matches.{SubCommand.SubCommand, Found.Found}
use Rattle.clap.specs.declared.parser.matches.ArgMatches.TheViews.{out-SubCommand}
use Rattle.clap.proofs.WalkLemmas.{first_value-rows}
use Rattle.replay_arguments.specs.Asking.{Finds, IsReplay}
use Rattle.replay_arguments.specs.declared.replay.ReplayTask.{ReplayTask}

pub entered_rows : {Z : Type 0} (sub : Option (Box SubCommand Z)) (name : Text) (rows : List Row)
    → Some name ≡ option_map (λ b. (out-SubCommand (box_value b)).name.now) sub
    → Some rows ≡ option_map (λ p. p.1) (subcommand_rows sub)
    → subcommand_rows sub ≡ Some (name, rows)
entered_rows None name rows named in_rows = cc
entered_rows (Some b) name rows named in_rows =
    let name_is : name ≡ (out-SubCommand (box_value b)).name.now =
    ap (λ (o : Option Text). unwrap_or o name) named in
    let rows_are : rows ≡ rows_of (found_of (out-SubCommand (box_value b)).matches) =
    ap (λ (o : Option (List Row)). unwrap_or o rows) in_rows in
    ap₂ (λ (x : Text) (y : List Row). Some (x, y)) (sym name_is) (sym rows_are)

pub text_found : (f : Found) (id : Text) (r : Option (Bor Text))
    → option_map (λ s. s.now) r ≡ first_value f id
    → IfSome r (λ t. first_of id (rows_of f) ≡ Some t.now)
text_found f id None h = tt
text_found f id (Some t) h = sym (first_value-rows f id) ∙ sym h

pub finds_replay : (found : Option (Text × List Row)) (name : Text) (rows : List Row)
    (t : Option ReplayTask)
    → found ≡ Some (name, rows) → name ≡ codes "replay" → IfSome t (λ t. IsReplay t rows)
    → IfSome t (λ t. Finds found t)
finds_replay found name rows None is named h = tt
finds_replay found name rows (Some t) is named h = (name, rows, is, named, h)
