use Rattle.std.proofs.Common.{◌≡◌, map}
use Rattle.std.specs.List.{range_with_len}
use Rattle.table_round_views.specs.Comments.{first_some, proposed_at}
use Rattle.table_round_views.proofs.comments.proposed_in.Given as goal

abbrev pub invariant-loop-place : goal.invariant-loop-place
invariant-loop-place l =
    l.found ≡ first_some (map (proposed_at l.id l.text) (range_with_len 0 l.place))
