use Rattle.std.proofs.Common.{not, ap, ◌∙◌, ◌==◌, sym, length}
use Rattle.serde_json.specs.View.{view}
use Rattle.wcif.{specs.Rounds.is_any, proofs.Listed.any_list}
use Rattle.wcif.proofs.settings.is_cumulative.Goals as goal

pub returns-in-Some-as_array : goal.returns-in-Some-as_array
returns-in-Some-as_array c =
    ap not (c.is_empty.ensures ∙ ap (λ vs. length vs == 0) c.as_slice.ensures.value)
    ∙ sym (any_list (view c.in-Some.member.now) c.in-Some-as_array.rounds.now.items
    c.in-Some-as_array.ensures) ∙ ap is_any c.in-Some.ensures
