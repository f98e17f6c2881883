use Rattle.std.proofs.Common.{rules, refl, ◌≡◌, subst, sym, length, ◌≤◌}
use Rattle.serving.proofs.Sheets.{fits}
use Rattle.serving.proofs.replies.printed.Goals as goal

pub returns-in-Ok-clause-in_range : goal.returns-in-Ok-clause-in_range
returns-in-Ok-clause-in_range g c =
    let few =
    fits c.fits_in_a_frame.ensures _ _ _ _ _ _ c.ranges.position.fits c.in-Ok.ensures.sheet in
    let same : c.new.result ≡ c.in-Ok.text.items = search rules in
    record {
      body = λ version. subst (λ z. length z ≤ 299992) (sym same) few;
      way = λ version. refl;
    }
