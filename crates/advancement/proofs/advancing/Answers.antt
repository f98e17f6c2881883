use Rattle.std.proofs.Common.{◌≤◌, map, length, nat_eq, ap, sym, subst, ◌∙◌}
use Rattle.std.specs.List.{IsDistinct, list_any, Sorted.IsPermutation}
use Rattle.rounds.specs.Tables.{number_of_entrant, standings}
use Rattle.advancement.{specs.Advancing.goes_on, proofs.Whom.kept_is, proofs.Whom.is_advancing}
use Rattle.advancement.proofs.EachOnce.{distinct_filter, few_filter, holds_at}
use Rattle.advancement.proofs.advancing.Goals as goal

pub returns-clause-order : goal.returns-clause-order
returns-clause-order c = holds_at c.those_before.result c.those_before.ensures
    (λ kept is.
    kept_is c.args.table.now c.args.advance c.border-limit.result _ _ is c.border-limit.ensures
    (c.deref.ensures.value ∙ c.in_ok-order.ensures.order))

pub returns-clause-whom : goal.returns-clause-whom
returns-clause-whom c = holds_at c.those_before.result c.those_before.ensures
    (λ kept is number.
    ap (list_any (λ other. nat_eq other number))
    (kept_is c.args.table.now c.args.advance c.border-limit.result _ _ is c.border-limit.ensures
    (c.deref.ensures.value ∙ c.in_ok-order.ensures.order))
    ∙ is_advancing c.args.table.now c.args.advance
    (subst (IsPermutation (map number_of_entrant c.args.table.now.entrants))
    c.in_ok-order.ensures.order c.in_ok-order.ensures.all) number)

pub returns-clause-each_once : goal.returns-clause-each_once
returns-clause-each_once c = holds_at c.those_before.result c.those_before.ensures
    (λ kept is.
    subst (IsDistinct nat_eq) (sym
    (kept_is c.args.table.now c.args.advance c.border-limit.result _ _ is c.border-limit.ensures
    (c.deref.ensures.value ∙ c.in_ok-order.ensures.order)))
    (distinct_filter (goes_on c.args.table.now c.args.advance) (standings c.args.table.now)
    (subst (IsDistinct nat_eq) c.in_ok-order.ensures.order c.in_ok-order.ensures.each_once)))

pub returns-clause-few : goal.returns-clause-few
returns-clause-few c = holds_at c.those_before.result c.those_before.ensures
    (λ kept is.
    subst (λ ns. length ns ≤ 999) (sym
    (kept_is c.args.table.now c.args.advance c.border-limit.result _ _ is c.border-limit.ensures
    (c.deref.ensures.value ∙ c.in_ok-order.ensures.order)))
    (few_filter (goes_on c.args.table.now c.args.advance) (standings c.args.table.now)
    (subst (λ ns. length ns ≤ 999) c.in_ok-order.ensures.order c.in_ok-order.ensures.few)))
