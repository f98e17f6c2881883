-- A list that is taken entry by entry.
use Rattle.std.proofs.Common.{◌≡◌, ◌∙◌, ℕ, ◌+◌, ◌<◌, suc, List, ◌∷◌, Some, ap, add-one, drop, drop-cons}
use Rattle.std.proofs.Common.{fold, length, slice_get}
use Rattle.std.proofs.lemmas.Option.{get_or_from_slice_get, slice_get_within}
use Rattle.acceptor.specs.declared.entry.Entry.{Entry}
use Rattle.answers.specs.Answers.{texts}
use Rattle.commands.specs.History.{History, after}

-- the entries taken one after the other
abbrev pub with_all : History → List Entry → History
with_all h entries = fold (λ h entry. after h entry.0 entry.1) h (texts entries)

-- one more is taken
pub one_more : (h h' whole : History) (log : List Entry) (n : ℕ) (e : Entry)
    → slice_get log n ≡ Some e → h' ≡ after h e.id e.text → with_all h (drop n log) ≡ whole
    → with_all h' (drop (n + 1) log) ≡ whole
one_more h h' whole log n e at next is =
    let low : n < length log = slice_get_within log n e at in
    let there : drop n log ≡ e ∷ drop (suc n) log =
    drop-cons log n e low ∙ ap (λ x. x ∷ drop (suc n) log) (get_or_from_slice_get log n e e at) in
    let left = rw there at is in
    rw (add-one n, next) left
