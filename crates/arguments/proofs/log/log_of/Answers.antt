use Rattle.std.proofs.Common.{refl, rules}
use Rattle.arguments.proofs.log.log_of.Goals as goal

pub returns-then-is_none : goal.returns-then-is_none
returns-then-is_none c = (
  refl,
  record {
    placed = c.in_ok-place.ensures;
    position = c.in_ok-from.ensures;
    within = search rules;
    no_store = c.in_ok-without.ensures;
  },
  c.in_ok-form.ensures,
)
