use Rattle.std.proofs.Common.{ℕ, ◌+◌, ◌-◌, ◌≤◌, List, length, take, vec_capacity}
use Rattle.seal.specs.Streams.{Opening, Fed}
use Rattle.seal.proofs.opener.Opener.feed.Given as goal

-- what was taken of the piece so far was fed, and what it may still give has room
pub record IsSoFar (piece handed : List ℕ) (taken capacity : ℕ) (old now : Opening) : Type 0 where
  pub fed : Fed (take taken piece) old now handed
  pub within : taken ≤ length piece
  pub least : length handed + length now.held ≤ length old.held + taken
  pub room : length old.held + length piece ≤ capacity

abbrev pub invariant-loop-taken : goal.invariant-loop-taken
invariant-loop-taken l =
    IsSoFar l.piece l.handed.items l.taken (vec_capacity l.handed) l.initial.self l.self

abbrev pub decreases-loop-taken : goal.decreases-loop-taken
decreases-loop-taken l = length l.piece - l.taken
