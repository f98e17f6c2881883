-- A card that is read.
use Rattle.std.proofs.Common.{◌≡◌, ℕ, zero, suc, ◌<◌, true, List, [], ◌∷◌, length, get_or, drop}
use Rattle.std.proofs.Common.{Option, Some, None, is_some, arith}
use Rattle.std.specs.List.{list_all}
use Rattle.std.proofs.lemmas.Bool.{false≢true}
use Rattle.texts.specs.declared.command.{CardEntry.CardEntry, Entered.Entered}
use Rattle.texts.specs.declared.command.Command.TheVariants.{Card, Fix}
use Rattle.texts.specs.{Spelling.IsFit, Table.rows}
use Rattle.commands.specs.model.Cards.{IsReadCard}
use Rattle.commands.proofs.Lookups.{some≢none}

-- where something is entered for each attempt
each_entered : (xs : List (Option Entered)) (i : ℕ) → list_all is_some xs ≡ true → i < length xs
    → get_or xs i None ≡ None → ⊥
each_entered [] i all within is = absurd (omega arith)
each_entered (None ∷ xs) i all within is = false≢true all
each_entered (Some x ∷ xs) zero all within is = some≢none x is
each_entered (Some x ∷ xs) (suc i) all within is = each_entered xs i all (omega arith) is

-- where something is entered for each attempt but the first n, and nothing for one, that is one of
-- these
stands_at : (xs : List (Option Entered)) (n i : ℕ) → list_all is_some (drop n xs) ≡ true
    → i < length xs → get_or xs i None ≡ None → i < n
stands_at [] n i all within is = absurd (omega arith)
stands_at (x ∷ xs) zero i all within is = absurd (each_entered (x ∷ xs) i all within is)
stands_at (x ∷ xs) (suc n) zero all within is = omega arith
stands_at (x ∷ xs) (suc n) (suc i) all within is =
    let low : i < n = stands_at xs n i all (omega arith) is in omega arith

pub card_read : (card : CardEntry) → IsFit (Card card) → IsReadCard card
unfolding rows
card_read card fit = record {
  round = fit.0.1.0.1;
  few = fit.0.1.1.1.1.0.0.1;
  entered = fit.0.1.1.1.1.0.1;
  stands = λ i within is. stands_at card.now (length card.was) i fit.0.1.1.1.1.0.2 within is;
}

pub fix_read : (card : CardEntry) → IsFit (Fix card) → IsReadCard card
unfolding rows
fix_read card fit = record {
  round = fit.0.1.0.1;
  few = fit.0.1.1.1.1.0.0.1;
  entered = fit.0.1.1.1.1.0.1;
  stands = λ i within is. stands_at card.now (length card.was) i fit.0.1.1.1.1.0.2 within is;
}
