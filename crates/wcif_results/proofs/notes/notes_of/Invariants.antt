use Rattle.std.proofs.Common.{◌≡◌, ◌++◌, map, flat_map, drop}
use Rattle.wcif_results.specs.{Notes.round_notes, model.Opened.held_view, model.Opened.round_view}
use Rattle.wcif_results.proofs.notes.notes_of.Given as goal

-- the notes so far and those of what is left
abbrev pub invariant-loop-round : goal.invariant-loop-round
invariant-loop-round l =
    l.notes.items ++ flat_map (round_notes (map held_view l.held.items))
    (map round_view (drop l.round-index l.rounds)) ≡ flat_map
    (round_notes (map held_view l.held.items)) (map round_view l.rounds)
