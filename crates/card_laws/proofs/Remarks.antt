-- Remarks count for nothing.
use Rattle.std.proofs.Common.{◌≡◌, ℕ, ◌≤◌, ◌<◌, Bool, true, false, cond, nat_le, is_some, List, []}
use Rattle.std.proofs.Common.{◌∷◌, ◌++◌, fold, Option, Some, None, unwrap_or, Result, Ok, refl}
use Rattle.std.proofs.Common.{sym, ap, ◌∙◌, subst, arith, ◌⊎◌, inl, inr}
use Rattle.std.proofs.lemmas.{Bool.Decides.nat_tests, List.Sums.fold-append}
use Rattle.texts.specs.declared.{command.RemarkedCommand.RemarkedCommand}
use Rattle.texts.specs.declared.command.Command.{Command, TheVariants.SetEdition}
use Rattle.texts.specs.{declared.reading.CommandFault.CommandFault, Editions.remark_edition}
use Rattle.texts.{proofs.Words.spelled_found, proofs.Words.spelling_short}
use Rattle.texts.specs.{Table.rows, Spelling.IsFit, Spelling.IsFitTold, Spelling.told_spelling}
use Rattle.commands.specs.Accepted.{edition_set, edition_after, edition_in, refusal}
use Rattle.commands.specs.History.{History, nothing, answer_in, after_in}
use Rattle.commands.specs.History.{added_read, read_refusal_in, entry_refusal_in, history_in}
use Rattle.commands.proofs.Lookups.{some≢none}
use Rattle.sheets.specs.Sheet.{sheet}
use Rattle.card_laws.{proofs.Accepted.kept_after, specs.WorkedCards.SetsEdition}
use Rattle.card_laws.specs.Telling.{with_told, IsOneCommand, RemarksAreTold, IsToldAlike}
use Rattle.card_laws.specs.Telling.{AreToldAlike, NothingStandsOnRemarks}
use Rattle.texts.specs.declared.answer.Code.TheVariants as code

-- One text

-- edition 4 has commands with a remark, and commands without one
has_either : (edition : ℕ) (remark : Option (List ℕ)) → 4 ≤ edition
    → nat_le (remark_edition (is_some remark)) edition ≡ true
has_either edition None low = grind (arith, nat_tests)
has_either edition (Some bytes) low = grind (arith, nat_tests)

read_same : (k : ℕ) (cs : List Command) (c : Command) (remark instead : Option (List ℕ))
    → 4 ≤ edition_in cs → read_refusal_in k cs (Ok (with_told c remark))
    ≡ read_refusal_in k cs (Ok (with_told c instead))
read_same k cs c remark instead low =
    rw (has_either (edition_in cs) remark low ∙ sym (has_either (edition_in cs) instead low)) refl

answer_same : (k : ℕ) (h : History) (id : ℕ) (one other : List ℕ) → IsOneCommand one other
    → 4 ≤ edition_in h.accepted → answer_in k h id one ≡ answer_in k h id other
unfolding entry_refusal_in
answer_same k h id one other same low =
    rw (same.3, read_same k h.accepted same.0 same.1 same.2 low, same.4) refl

after_same : (k : ℕ) (h : History) (id : ℕ) (one other : List ℕ) → IsOneCommand one other
    → 4 ≤ edition_in h.accepted → after_in k h id one ≡ after_in k h id other
unfolding after_in
after_same k h id one other same low =
    rw (same.3, read_same k h.accepted same.0 same.1 same.2 low, same.4) refl

one_command : (c : Command) (remark instead : Option (List ℕ))
    → IsFitTold (with_told c remark) → IsFitTold (with_told c instead)
    → IsOneCommand (told_spelling (with_told c remark)) (told_spelling (with_told c instead))
one_command c remark instead fit other = (
  c,
  remark,
  instead,
  spelled_found (with_told c remark) fit,
  spelled_found (with_told c instead) other,
)

pub remarks_are_told : RemarksAreTold
remarks_are_told = record { spelled = one_command; answer = answer_same; after = after_same }

-- The edition does not fall

edition_push : (edition : ℕ) (cs : List Command) (c : Command)
    → edition_after edition (cs ++ c ∷ []) ≡ unwrap_or (edition_set c) (edition_after edition cs)
edition_push edition [] c = refl
edition_push edition (d ∷ ds) c = edition_push (unwrap_or (edition_set d) edition) ds c

raises : (cs : List Command) (c : Command) → refusal cs c ≡ None → 4 ≤ edition_in cs
    → 4 ≤ unwrap_or (edition_set c) (edition_in cs)
raises cs (SetEdition edition) accepted low = step (nat_le edition (edition_in cs)) refl accepted
  where
    step : (b : Bool) → nat_le edition (edition_in cs) ≡ b
        → cond b (Some code.Already) None ≡ None → 4 ≤ edition
    step true is none = absurd (some≢none code.Already none)
    step false is none =
        let more : edition_in cs < edition = grind (arith, nat_tests) in
        omega (arith, more, low)
raises cs _ accepted low = low

edition_kept : (cs : List Command) (c : Command) → refusal cs c ≡ None → 4 ≤ edition_in cs
    → 4 ≤ edition_in (cs ++ c ∷ [])
edition_kept cs c is low =
    subst (λ (n : ℕ). 4 ≤ n) (sym (edition_push 1 cs c)) (raises cs c is low)

-- Lists of entries

module _ (k : ℕ) where
  abbrev next : History → ℕ × List ℕ → History
  next h entry = after_in k h entry.0 entry.1

  entry_same : (h : History) (one other : ℕ × List ℕ) → IsToldAlike one other
      → 4 ≤ edition_in h.accepted → next h one ≡ next h other
  entry_same h one other same low = rw same.0 (text same.1)
    where
      text : (one.1 ≡ other.1) ⊎ IsOneCommand one.1 other.1
          → after_in k h other.0 one.1 ≡ after_in k h other.0 other.1
      text (inl is) = ap (after_in k h other.0) is
      text (inr is) = after_same k h other.0 one.1 other.1 is low

  fold_same : (h : History) (one other : List (ℕ × List ℕ)) → 4 ≤ edition_in h.accepted
      → AreToldAlike one other → fold next h one ≡ fold next h other
  fold_same h [] [] low same = refl
  fold_same h [] (y ∷ ys) low same = absurd same
  fold_same h (x ∷ xs) [] low same = absurd same
  fold_same h (x ∷ xs) (y ∷ ys) low same =
      ap (λ (g : History). fold next g xs) (entry_same h x y same.0 low)
      ∙ fold_same (next h y) xs ys
      (kept_after (λ ds. 4 ≤ edition_in ds) edition_kept k h y.0 y.1 low) same.1

  history_same : (entries one other : List (ℕ × List ℕ))
      → 4 ≤ edition_in (history_in k entries).accepted → AreToldAlike one other
      → history_in k (entries ++ one) ≡ history_in k (entries ++ other)
  history_same entries one other low same =
      fold-append next nothing entries one
      ∙ fold_same (history_in k entries) one other low same
      ∙ sym (fold-append next nothing entries other)

pub nothing_stands_on_remarks : NothingStandsOnRemarks
nothing_stands_on_remarks = record {
  history = history_same;
  answers =
      λ k entries one other id text low same.
      ap (λ (h : History). answer_in k h id text) (history_same k entries one other low same);
  sheets =
      λ k entries one other style event round position low same.
      ap (λ (h : History). sheet style h.accepted event round position)
      (history_same k entries one other low same);
}

-- Edition 4 can be set

pub sets_edition : SetsEdition
unfolding after_in rows
sets_edition number =
    subst (λ (r : Result RemarkedCommand CommandFault).
    4 ≤ edition_in (added_read (read_refusal_in 4 [] r) r)) (sym
    (spelled_found (with_told (SetEdition 4) None) (fit, tt, spelling_short (SetEdition 4) fit)))
    (omega arith)
  where
    fit : IsFit (SetEdition 4)
    fit = (omega arith, omega arith)
