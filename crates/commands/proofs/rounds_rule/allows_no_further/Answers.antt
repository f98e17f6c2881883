use Rattle.std.proofs.Common.{◌≡◌, ℕ, suc, ◌+◌, ◌-◌, ◌≤◌, Bool, true, false, ◌||◌, sym, ap, ◌∙◌}
use Rattle.std.{proofs.Common.arith, specs.List.list_any, specs.List.range_with_len}
use Rattle.commands.proofs.rounds_rule.allows_no_further.Goals as goal

-- a number that does not pass is left out
any_step : (p : ℕ → Bool) (i n : ℕ) → i ≤ n → p i ≡ false
    → list_any p (range_with_len i (n + 1 - i))
    ≡ list_any p (range_with_len (i + 1) (n + 1 - (i + 1)))
any_step p i n within fails =
    let more : n + 1 - i ≡ suc (n - i) = omega arith in
    let rest : n + 1 - (i + 1) ≡ n - i = omega arith in
    rw (more, rest) (ap (λ (b : Bool). b || list_any p (range_with_len (i + 1) (n - i))) fails)

-- a number that passes is found
any_found : (p : ℕ → Bool) (i n : ℕ) → i ≤ n → p i ≡ true
    → list_any p (range_with_len i (n + 1 - i)) ≡ true
any_found p i n within passes =
    let more : n + 1 - i ≡ suc (n - i) = omega arith in
    rw more (ap (λ (b : Bool). b || list_any p (range_with_len (i + 1) (n - i))) passes)

pub returns-then-has_too_few : goal.returns-then-has_too_few
returns-then-has_too_few c =
    sym (c.loop-earlier.invariant
    ∙ any_found _ c.loop-earlier.earlier c.args.id.round (omega arith)
    (sym c.if-has_too_few.ensures))

pub loop-earlier-preserved : goal.loop-earlier-preserved
loop-earlier-preserved c =
    c.loop-earlier.invariant
    ∙ any_step _ c.loop-earlier.earlier c.args.id.round (omega arith) (sym c.if-has_too_few.ensures)
