-- A replay is asked for alike in the whole program and in the one that has no other subcommand.
use Rattle.std.proofs.Common.{◌≡◌, ◌∷◌, [], ◌∙◌, List, Option, Some, ap, codes, refl, sym}
use Rattle.std.specs.List.{fold}
use Rattle.clap.proofs.{OnLiterals.clap_on_literals, WalkLemmas.walk_stopped}
use Rattle.clap.specs.{Simple.built, Simple.entered, Simple.names_of, Words.subcommand_of}
use Rattle.clap.specs.Walk.{Walk, nothing_held, stop_after, walk_from, walked}
use Rattle.clap.specs.{Words.App, Words.Text, declared.builder.value_parser.ValueParser.ValueParser}
use Rattle.arguments.specs.Asking.{Asks, ImportParsers, Parsers, desk_arguments}
use Rattle.arguments.specs.Laws.{ReplayIsAskedAlike}
use Rattle.replay_arguments.specs.Asking.{Asks as AsksReplay, RoundParsers, replay_program}
use Rattle.replay_arguments.specs.declared.replay.ReplayTask.{ReplayTask}
use Rattle.clap.specs.declared.builder.value_parser.ValueParser.TheVariants as parser
use Rattle.arguments.specs.declared.task.Task.TheVariants as task

-- the walk that has met the subcommand `replay` and no word after it
abbrev met : Walk
met = record (walk_from nothing_held) { stopped = Some (codes "replay", []) }

abbrev after_one : App → Walk
after_one a =
    walked (built a).top.rules (names_of (built a)) (walk_from nothing_held) (codes "replay")

-- the parser of such a program leaves the words after `replay` to that subcommand
stops : (a : App) (rest : List Text) → after_one a ≡ met
    → stop_after (built a).top.rules (names_of (built a)) (codes "replay" ∷ rest)
    ≡ Some (codes "replay", rest)
stops a rest one =
    let rules = (built a).top.rules in
    let names = names_of (built a) in
    ap (λ (w : Walk). (fold (walked rules names) w rest).stopped) one ∙ sym
    (ap (λ (w : Walk). w.stopped)
    (walk_stopped rules names (walk_from nothing_held) (codes "replay") [] rest))

met_in_desk : (p : Parsers) → after_one (desk_arguments p) ≡ met
unfolding clap_on_literals
met_in_desk p = refl

met_alone : (p : RoundParsers) → after_one (replay_program p) ≡ met
unfolding clap_on_literals
met_alone p = refl

-- the subcommand has the same arguments
entered_alike : (p : Parsers) (rest : List Text)
    → entered (built (desk_arguments p)) (Some (codes "replay", rest))
    ≡ entered (built (replay_program p.replay)) (Some (codes "replay", rest))
entered_alike p rest = refl

read_alike : (p : Parsers) (own : Text) (rest : List Text)
    → subcommand_of (desk_arguments p) (own ∷ codes "replay" ∷ rest)
    ≡ subcommand_of (replay_program p.replay) (own ∷ codes "replay" ∷ rest)
read_alike p own rest =
    ap (entered (built (desk_arguments p))) (stops (desk_arguments p) rest (met_in_desk p))
    ∙ entered_alike p rest ∙ sym (ap (entered (built (replay_program p.replay)))
    (stops (replay_program p.replay) rest (met_alone p.replay)))

-- texts that are accepted, as a parser has them
accepted : Text → Option ValueParser
accepted text =
    Some (parser.Names
    (record { ref_ptr = (0, 0); now = record { ref_ptr = (0, 0); now = text } ∷ [] }))

-- some parsers of `import`, which are never asked here
some_imported : ImportParsers
unfolding accepted
some_imported = record {
  edition = accepted (codes "3");
  limits = accepted (codes "as-single");
  names = accepted (codes "id");
  begun = record { names = _; parsed = refl; are = refl };
  limited = record { names = _; parsed = refl; are = refl };
  named = record { names = _; parsed = refl; are = refl };
}

up : (own : Text) (rest : List Text) (t : ReplayTask) → AsksReplay (own ∷ codes "replay" ∷ rest) t
    → Asks (own ∷ codes "replay" ∷ rest) (task.Replay t)
up own rest t (p, (name, rows, found, named, asked)) =
    let both : Parsers = record { replay = p; sheet = p; imported = some_imported } in
    (both, (name, rows, read_alike both own rest ∙ found, (named, asked)))

down : (own : Text) (rest : List Text) (t : ReplayTask)
    → Asks (own ∷ codes "replay" ∷ rest) (task.Replay t)
    → AsksReplay (own ∷ codes "replay" ∷ rest) t
down own rest t (p, (name, rows, found, (named, asked))) =
    (p.replay, (name, rows, sym (read_alike p own rest) ∙ found, named, asked))

pub asked_alike : ReplayIsAskedAlike
asked_alike = λ own rest t. (up own rest t, down own rest t)
