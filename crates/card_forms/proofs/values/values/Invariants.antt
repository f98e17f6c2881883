use Rattle.std.proofs.Common.{◌≡◌, drop, length}
use Rattle.card_forms.{specs.Asking.has_round, proofs.Asked.Fills, proofs.Lacking.Leads}
use Rattle.card_forms.proofs.values.values.Given as goal

-- the values so far are those of the first kinds, each of which has one
abbrev pub invariant-loop-kind : goal.invariant-loop-kind
invariant-loop-kind l =
    record {
      so_far : Fills (has_round l.kinds) l.pairs l.kinds (drop l.kind-index l.kinds) l.values.items;
      leads : Leads (has_round l.kinds) l.pairs l.kinds (drop l.kind-index l.kinds);
      count : length l.values.items ≡ l.kind-index;
    }
