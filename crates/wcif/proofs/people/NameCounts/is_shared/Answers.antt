use Rattle.std.proofs.Common.{ℕ, nat_lt, unwrap_or, ap, ◌∙◌}
use Rattle.wcif.specs.Persons.{is_shared}
use Rattle.wcif.proofs.people.NameCounts.is_shared.Goals as goal

pub returns : goal.returns
unfolding is_shared
returns c everyone counts =
    ap (λ (n : ℕ). nat_lt 1 n)
    (c.unwrap_or.ensures ∙ ap (λ o. unwrap_or o 0) (c.copied.ensures ∙ c.get.ensures.value)
    ∙ counts.counts c.args.name.now)
