-- Commands that are looked at, each with its answer.
use Rattle.std.proofs.Common.{◌≡◌, ◌∙◌, ◌++◌, ◌∷◌, [], ◌+◌, ℕ, suc, List, ap, refl, length}
use Rattle.acceptor.specs.declared.entry.Entry.{Entry}
use Rattle.card_forms.specs.Entries.{command_entries}
use Rattle.answers.specs.Transcripts.{answers_after}
use Rattle.table_service.specs.Lists.{answered}

entries_count : (id : ℕ) (texts : List (List ℕ)) → length (command_entries id texts) ≡ length texts
entries_count id [] = refl
entries_count id (text ∷ texts) = ap suc (entries_count (id + 1) texts)

answers_count : (log entries : List Entry) → length (answers_after log entries) ≡ length entries
answers_count log [] = refl
answers_count log (e ∷ entries) = ap suc (answers_count (log ++ e ∷ []) entries)

-- there is an answer to each command
pub answered_count : (log : List Entry) (id : ℕ) (texts : List (List ℕ))
    → length (answered log id texts) ≡ length texts
answered_count log id texts =
    answers_count log (command_entries id texts) ∙ entries_count id texts
