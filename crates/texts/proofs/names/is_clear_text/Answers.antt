use Rattle.std.proofs.Common.{◌≡◌, Bool, true, false, ◌&&◌, refl, ◌∙◌, rules, tests}
use Rattle.std.specs.{List.list_all, Str.is_utf8, Str.chars}
use Rattle.std.proofs.lemmas.Iterator.{YieldsList-from_chars, Search.all_from_yields_List}
use Rattle.std.proofs.lemmas.Str.{is_utf8-from_IsUtf8, IsUtf8-from_is_utf8}
use Rattle.texts.specs.Names.{is_name_character}
use Rattle.texts.proofs.names.is_clear_text.Goals as goal

pub returns-in-Ok : goal.returns-in-Ok
returns-in-Ok c =
    let text = c.in-Ok.ensures.cases in
    let utf8 : is_utf8 c.args.bytes.now ≡ true = is_utf8-from_IsUtf8 c.args.bytes.now text.1 in
    rw utf8
    (all_from_yields_List is_name_character _ _ _ c.all.ensures.ran
    (YieldsList-from_chars c.args.bytes.now text.1 (c.chars.ensures.rest ∙ text.0))
    (λ x b q k. search (rules, tests)))

pub returns-in-Err : goal.returns-in-Err
returns-in-Err c = step (is_utf8 c.args.bytes.now) refl
  where
    step : (b : Bool) → is_utf8 c.args.bytes.now ≡ b
        → false ≡ b && list_all is_name_character (chars c.args.bytes.now)
    step true is = absurd (c.in-Err.ensures.cases.0 (IsUtf8-from_is_utf8 c.args.bytes.now is))
    step false is = refl
