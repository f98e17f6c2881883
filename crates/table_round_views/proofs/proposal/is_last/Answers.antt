use Rattle.std.proofs.Common.{◌≡◌, ℕ, suc, ◌+◌, ◌-◌, ◌<◌, Bool, false, ◌||◌, sym, ap, ◌∙◌, arith}
use Rattle.std.specs.List.{list_any, range_with_len}
use Rattle.table_round_views.proofs.proposal.is_last.Goals as goal

-- a number that does not pass is left out
any_step : (p : ℕ → Bool) (i n : ℕ) → i < n → p i ≡ false
    → list_any p (range_with_len i (n - i)) ≡ list_any p (range_with_len (i + 1) (n - (i + 1)))
any_step p i n within fails =
    let more : n - i ≡ suc (n - (i + 1)) = omega arith in
    rw more (ap (λ (b : Bool). b || list_any p (range_with_len (i + 1) (n - (i + 1)))) fails)

pub loop-earlier-preserved : goal.loop-earlier-preserved
loop-earlier-preserved c =
    c.loop-earlier.invariant
    ∙ any_step _ c.loop-earlier.earlier c.args.id.round (omega arith) (sym c.if-has_too_few.ensures)
