use Rattle.std.proofs.Common.{◌≡◌, Some, ap, sym, subst, ◌∙◌}
use Rattle.std.specs.{List.IsDistinct, Option.option_map, Option.option_copied}
use Rattle.commands.{specs.Accepted.who_advance, proofs.Apart.others_wait, proofs.Apart.holds_at}
use Rattle.commands.specs.model.Kept.{kept_by, kept_value, AreOthers}
use Rattle.commands.proofs.openings.who_wait.Goals as goal

pub returns-in-Some-clause-apart : goal.returns-in-Some-clause-apart
returns-in-Some-clause-apart c =
    let kept = c.in-Some.kept.now in
    let round : kept_by c.args.id c.args.rounds.now ≡ Some (kept.settings, kept.table) =
    ap (option_map kept_value) (sym c.get.ensures ∙ ap option_copied c.in-Some.is) in
    holds_at c.waiting.result c.waiting.ensures.order (λ numbers is.
    subst (λ o. AreOthers (who_advance o) numbers.items) (sym round)
    (others_wait kept.table kept.settings.advance numbers.items is))

pub returns-in-None-clause-each_once : goal.returns-in-None-clause-each_once
unfolding IsDistinct
returns-in-None-clause-each_once c = rw c.new.ensures.items tt
