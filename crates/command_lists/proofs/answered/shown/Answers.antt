use Rattle.std.proofs.Common.{◌≡◌, ◌∙◌, Bool, true, false, codes, cond, refl, sym, ap}
use Rattle.std.specs.Str.{is_utf8}
use Rattle.std.proofs.lemmas.Str.{IsUtf8-from_is_utf8, is_utf8-from_IsUtf8}
use Rattle.command_lists.proofs.answered.shown.Goals as goal

pub returns-in-Ok : goal.returns-in-Ok
returns-in-Ok c =
    c.in-Ok.ensures.cases.0
    ∙ sym (ap (λ b. cond b c.args.text.now (codes "?"))
    (is_utf8-from_IsUtf8 c.args.text.now c.in-Ok.ensures.cases.1))

pub returns-in-Err : goal.returns-in-Err
returns-in-Err c = step (is_utf8 c.args.text.now) refl
  where
    step : (b : Bool) → is_utf8 c.args.text.now ≡ b → codes "?" ≡ cond b c.args.text.now (codes "?")
    step true is = absurd (c.in-Err.ensures.cases.0 (IsUtf8-from_is_utf8 c.args.text.now is))
    step false is = refl
