use Rattle.std.proofs.Common.{drop, codes, false}
use Rattle.json.specs.{Tree.members_tokens, Tree.MembersHaveNumbers, Value.members_view}
use Rattle.wcif_results.specs.{Filled.members_having, Results.results_json}
use Rattle.wcif_results.proofs.Adding.{Leads}
use Rattle.wcif_results.proofs.filling.write_with_results.Given as goal

abbrev pub invariant-loop-member : goal.invariant-loop-member
invariant-loop-member l =
    Leads l.initial.out l.out (members_tokens (members_having l.there (codes "results")
    (results_json l.table) (members_view (drop l.member-index l.member-items)))) (members_tokens
    (members_having false (codes "results") (results_json l.table) (members_view l.member-items)))
    × MembersHaveNumbers (members_view (drop l.member-index l.member-items))
