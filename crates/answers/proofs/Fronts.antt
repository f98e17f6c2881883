-- Lists of entries of which one begins the other.
use Rattle.std.proofs.Common.{◌≡◌, ◌⊎◌, inl, inr, ℕ, zero, suc, ◌+◌, ◌<◌, ◌≤◌, Bool, true, false}
use Rattle.std.proofs.Common.{if◌then◌else◌, List, [], ◌∷◌, ◌++◌, Some, length, take, slice_get}
use Rattle.std.proofs.Common.{refl, sym, ap, ◌∙◌, arith}
use Rattle.std.{proofs.lemmas.List.take-append-le, specs.List.position_from}
use Rattle.acceptor.specs.declared.entry.Entry.{Entry}
use Rattle.answers.specs.Answers.{sheet_at}
use Rattle.formats.specs.declared.{events.Event.Event, styles.SheetStyle.SheetStyle}
use Rattle.formats.specs.declared.styles.SheetStyle.TheVariants.{Text, Table}
use Rattle.learner.specs.Laws.{IsPrefix}

-- what is in the front of a list is there in the whole
pub get_front : (xs rest : List Entry) (p : ℕ) → p < length xs
    → slice_get (xs ++ rest) p ≡ slice_get xs p
get_front [] rest p h = absurd (omega arith)
get_front (x ∷ xs) rest zero h = refl
get_front (x ∷ xs) rest (suc p) h = get_front xs rest p (omega arith)

-- what is found in the front is found at the same place in the whole
pub found_front : (t : Entry → Bool) (i p : ℕ) (xs rest : List Entry)
    → position_from t i xs ≡ Some p → position_from t i (xs ++ rest) ≡ Some p
found_front t i p [] rest h = absurd cc
found_front t i p (x ∷ xs) rest h = go (t x) h (found_front t (i + 1) p xs rest)
  where
    go : (b : Bool) → (if b then Some i else position_from t (i + 1) xs) ≡ Some p
        → (position_from t (i + 1) xs ≡ Some p → position_from t (i + 1) (xs ++ rest) ≡ Some p)
        → (if b then Some i else position_from t (i + 1) (xs ++ rest)) ≡ Some p
    go true e f = e
    go false e f = f e

pub same_front : (xs ys : List Entry) (p : ℕ) → IsPrefix xs ys ⊎ IsPrefix ys xs → p ≤ length xs
    → p ≤ length ys → take p xs ≡ take p ys
same_front xs ys p (inl h) low high = sym (take-append-le p xs h.0 low) ∙ ap (take p) h.1
same_front xs ys p (inr h) low high = sym (sym (take-append-le p ys h.0 high) ∙ ap (take p) h.1)

-- the sheets at a position that both have
pub same_sheet : (style : SheetStyle) (xs ys : List Entry) (position : ℕ) (event : Event)
    (round : ℕ) → IsPrefix xs ys ⊎ IsPrefix ys xs → position ≤ length xs → position ≤ length ys
    → sheet_at style xs position event round ≡ sheet_at style ys position event round
same_sheet Text xs ys position event round one low high =
    rw (same_front xs ys position one low high) refl
same_sheet Table xs ys position event round one low high =
    rw (same_front xs ys position one low high) refl
