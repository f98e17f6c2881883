-- Cards of nobody, one more.
use Rattle.std.proofs.Common.{◌≡◌, ◌≢◌, ◌-◌, ◌++◌, ℕ, zero, suc, List, refl, ap, arith}
use Rattle.texts.specs.declared.command.{RoundId.RoundId, Settings.Settings}
use Rattle.table_entry_views.specs.declared.paper.blank_cards.TheConstants.{NOBODY}
use Rattle.table_entry_views.specs.paper.Scorecards.{blank_card, blanks}

one_less : (n : ℕ) → n ≡ suc n - 1
one_less n = omega arith

pub one_more : (hall : List ℕ) (id : RoundId) (settings : Settings) (below : List ℕ) (n : ℕ)
    → n ≢ 0 → blanks hall id settings below n
    ≡ blanks hall id settings below (n - 1) ++ blank_card hall id settings below NOBODY.now
one_more hall id settings below zero some = absurd (some refl)
one_more hall id settings below (suc n) some =
    ap (λ (k : ℕ). blanks hall id settings below k ++ blank_card hall id settings below NOBODY.now)
    (one_less n)
