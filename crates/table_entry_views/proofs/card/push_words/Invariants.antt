use Rattle.std.proofs.Common.{◌≡◌, ◌++◌, drop, flat_map}
use Rattle.table_entry_views.specs.Card.{asked_word}
use Rattle.table_entry_views.proofs.card.push_words.Given as goal

-- what was written, and what is written for those that are left, is the whole
abbrev pub invariant-loop-note : goal.invariant-loop-note
invariant-loop-note l =
    l.out.items ++ flat_map asked_word (drop l.note-index l.notes)
    ≡ l.initial.out.items ++ flat_map asked_word l.notes
