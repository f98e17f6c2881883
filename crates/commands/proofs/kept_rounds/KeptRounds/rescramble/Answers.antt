use Rattle.std.proofs.Common.{true, false, sym, ◌∙◌, rules}
use Rattle.std.specs.Option.{option_copied}
use Rattle.commands.proofs.KeptLemmas.{scramble_set_to, found_solved}
use Rattle.commands.proofs.kept_rounds.KeptRounds.rescramble.Goals as goal

pub returns-then-branch-clause-code : goal.returns-then-branch-clause-code
returns-then-branch-clause-code c =
    sym (found_solved c.args.self.now.opened.items c.args.id.event c.args.id.round c.args.attempt
    c.in-Some.index (option_copied c.args.there) c.index_mut-kept.result.now true
    c.in-Some.ensures.kept c.index_mut-kept.ensures.value (search rules) (search rules)
    (search rules) (sym c.if-branch.true ∙ c.in_ok-is_solved.ensures))

pub returns-clause-code : goal.returns-clause-code
returns-clause-code c =
    sym (found_solved c.args.self.now.opened.items c.args.id.event c.args.id.round c.args.attempt
    c.in-Some.index (option_copied c.args.there) c.index_mut-kept.result.now false
    c.in-Some.ensures.kept c.index_mut-kept.ensures.value (search rules) (search rules)
    (search rules) (sym c.if-branch.false ∙ c.in_ok-is_solved.ensures))

pub returns-clause-done : goal.returns-clause-done
returns-clause-done c =
    rw c.from.ensures
    (scramble_set_to c.args.self.now.opened.items c.args.id.event c.args.id.round c.args.attempt
    c.args.place c.in-Some.index c.index_mut-kept.result.now c.in-Some.ensures.kept
    c.index_mut-kept.ensures.value c.requires.0 (search rules))
