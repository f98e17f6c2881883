-- How soon a desk that comes back is reached.
use Rattle.std.proofs.Common.{◌≡◌, ap, subst, ◌∙◌, ℕ, ◌+◌, ◌-◌, ◌≤◌, true, arith, if◌then◌else◌}
use Rattle.std.proofs.lemmas.Bool.{le-leb}
use Rattle.links.specs.Links.{has_some, wish_at, pause_in, is_over}
use Rattle.links.{specs.Reaching.LinksTryAgain, proofs.Kept.all_hold}
use Rattle.links.specs.declared.stages.LinkStage.TheVariants as stage
use Rattle.links.specs.declared.stages.LinkAction.TheVariants as wish

-- a second is as long as any pause
over_after : (now since millis : ℕ) → millis ≤ 1000 → since + 1000 ≤ now
    → is_over now since millis ≡ true
over_after now since millis short late = le-leb millis (now - since) (omega (arith, short, late))

pub links_try_again : LinksTryAgain
links_try_again h s now leads waits =
    let all = all_hold h s leads in
    let sound = all.1.sound in
    record {
      closed = λ is.
          ap (λ z. wish_at z (has_some s.waiting) now) is
          ∙ ap (λ z. wish_at stage.Closed z now) waits;
      paused = λ since millis is late.
          ap (λ z. wish_at z (has_some s.waiting) now) is
          ∙ ap (λ z. wish_at (stage.Paused since millis) z now) waits
          ∙ ap (λ z. if z then wish.Open else wish.Rest)
          (over_after now since millis
          (subst (λ z. pause_in z ≤ 1000) is sound.holds) late);
      opening = λ since is late.
          ap (λ z. wish_at z (has_some s.waiting) now) is
          ∙ ap (λ z. if z then wish.GiveUp else wish.Rest)
          (over_after now since 1000 (omega arith) late);
    }
