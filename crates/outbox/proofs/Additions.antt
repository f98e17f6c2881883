-- One more line of a file, and its first line.
use Rattle.std.proofs.Common.{◌≡◌, ℕ, Bool, true, false, List, [], ◌∷◌, ◌++◌, All, Ok, Err, refl}
use Rattle.std.proofs.Common.{sym, ap, ◌∙◌, cond, subst}
use Rattle.std.specs.Prelude.{Contains, bytes_eq}
use Rattle.std.proofs.lemmas.{List.append-nil, Slice.Eq.bytes_eq-Decides}
use Rattle.std.proofs.lemmas.List.Elements.{Contains-append_left, Contains-push}
use Rattle.texts.specs.Fields.{cut}
use Rattle.outbox.specs.Items.{ItemsOf, no_items}
use Rattle.outbox.specs.Journals.{after_lines, fault_of_first, read_lines}
use Rattle.outbox.specs.Lines.{HallOf, cut_line, hall_line, whole_lines, with_end}
use Rattle.outbox.proofs.Pieces.{IsNoEnd, cut_after, cut_line_after, whole_after, whole_line}

pub whole_one : (line : List ℕ) → All IsNoEnd line → whole_lines (with_end line) ≡ line ∷ []
whole_one line free =
    ap whole_lines (sym (append-nil (with_end line))) ∙ whole_line line [] free

cut_one : (line : List ℕ) → All IsNoEnd line → cut_line (with_end line) ≡ []
cut_one line free =
    ap cut_line (sym (append-nil (with_end line))) ∙ cut_line_after line [] free

module _ (lines line : List ℕ) (ends : cut_line lines ≡ []) (free : All IsNoEnd line) where
  pub whole_more : whole_lines (lines ++ with_end line) ≡ whole_lines lines ++ line ∷ []
  whole_more =
      whole_after lines (with_end line) ends
      ∙ ap (λ x. whole_lines lines ++ x) (whole_one line free)

  pub ends_more : cut_line (lines ++ with_end line) ≡ []
  ends_more = cut_after lines (with_end line) ends ∙ cut_one line free

  pub wide : (x : List ℕ) → Contains (whole_lines lines) x
      → Contains (whole_lines (lines ++ with_end line)) x
  wide x c =
      subst (λ l. Contains l x) (sym whole_more)
      (Contains-append_left (whole_lines lines) (line ∷ []) x c)

  pub has_new : Contains (whole_lines (lines ++ with_end line)) line
  has_new =
      subst (λ l. Contains l line) (sym whole_more) (Contains-push (whole_lines lines) line)

-- what was read of the lines of a file
pub record IsReadFrom (hall : HallOf) (now : ℕ) (lines : List (List ℕ)) (q : ItemsOf)
    : Type 0 where
  pub tail : List (List ℕ)
  pub named : lines ≡ hall_line hall ∷ tail
  pub reads : after_lines no_items now 2 tail ≡ Ok q

pub read_from : (hall : HallOf) (now : ℕ) (lines : List (List ℕ)) (q : ItemsOf)
    → read_lines hall now lines ≡ Ok q → IsReadFrom hall now lines q
read_from hall now [] q h = absurd cc
read_from hall now (first ∷ tail) q h = go (bytes_eq first (hall_line hall)) refl h
  where
    go : (b : Bool) → bytes_eq first (hall_line hall) ≡ b
        → cond b (after_lines no_items now 2 tail) (Err (fault_of_first (cut 32 first).0)) ≡ Ok q
        → IsReadFrom hall now (first ∷ tail) q
    go true is e =
        let same : first ≡ hall_line hall =
        (bytes_eq-Decides first (hall_line hall)).0 is in
        record { tail = tail; named = ap (λ x. x ∷ tail) same; reads = e }
    go false is e = absurd cc
