use Rattle.std.proofs.{Common.refl, lemmas.List.Sorted.IsPermutation-refl}
use Rattle.cube.specs.model.Pieces.{colours_of, arranged, corner_colours, edge_colours}
use Rattle.cube.specs.Turns.{first_arrangement}
use Rattle.cube.proofs.{Rearranged.nine_of_each, Solved.first_solved}
use Rattle.cube.proofs.turning.Cube.solved.Goals as goal

pub invariant_of-result : goal.invariant_of-result
unfolding colours_of arranged corner_colours edge_colours
invariant_of-result c = IsPermutation-refl first_arrangement

pub returns-clause-first : goal.returns-clause-first
unfolding colours_of arranged corner_colours edge_colours
returns-clause-first c = refl

pub returns-clause-solved : goal.returns-clause-solved
unfolding colours_of arranged corner_colours edge_colours
returns-clause-solved c = first_solved

pub returns-clause-colours : goal.returns-clause-colours
unfolding colours_of arranged corner_colours edge_colours
returns-clause-colours c = nine_of_each first_arrangement (IsPermutation-refl first_arrangement)
