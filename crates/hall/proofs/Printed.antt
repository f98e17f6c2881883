-- What is printed for the entries of a log, from one to the next.
use Rattle.std.proofs.Common.{◌≡◌, ℕ, ◌+◌, List, ◌++◌, drop, get_or, flat_map, Some, suc, ap, ◌∙◌}
use Rattle.std.proofs.Common.{drop-cons, arith}
use Rattle.std.specs.{Prelude.slice_get, List.enumerate_from}
use Rattle.std.proofs.lemmas.Option.{slice_get_within, get_or_from_slice_get}
use Rattle.acceptor.specs.declared.entry.Entry.{Entry}
use Rattle.hall.specs.Texts.{entry_text}

-- the entries of a log from a position on
abbrev pub entries_text : ℕ → ℕ → List Entry → List ℕ
entries_text d pos entries =
    flat_map (λ e. entry_text d e.0 e.1) (enumerate_from pos (drop pos entries))

pub entries_next : (d pos : ℕ) (entries : List Entry) (x : Entry) → slice_get entries pos ≡ Some x
    → entries_text d pos entries ≡ entry_text d pos x ++ entries_text d (pos + 1) entries
entries_next d pos entries x is =
    let next : suc pos ≡ pos + 1 = omega arith in
    ap (λ es. flat_map (λ e. entry_text d e.0 e.1) (enumerate_from pos es))
    (drop-cons entries pos x (slice_get_within entries pos x is)) ∙ ap
    (λ k. entry_text d pos (get_or entries pos x)
    ++ flat_map (λ e. entry_text d e.0 e.1) (enumerate_from (pos + 1) (drop k entries))) next
    ∙ ap (λ e. entry_text d pos e ++ entries_text d (pos + 1) entries)
    (get_or_from_slice_get entries pos x x is)
