use Rattle.std.proofs.Common.{List, ap, sym, ℕ, ◌∙◌}
use Rattle.commands.specs.History.{after}
use Rattle.sending_views.proofs.Listed.{one_more}
use Rattle.sending_views.proofs.named.named_meet.Goals as goal

pub loop-position-preserved : goal.loop-position-preserved
loop-position-preserved c =
    let meet = c.loop-position.meet in
    let e = c.in-Some.entry.now in
    one_more meet c.apply.new.self _ c.args.log.now.entries c.loop-position.position e
    (sym c.in-Some.ensures)
    (c.in_ok-apply.ensures.after ∙ ap (λ (id : ℕ). after meet id c.text.result.now) c.id.ensures.id
    ∙ ap (λ (text : List ℕ). after meet e.id text) c.text.ensures.text) c.loop-position.invariant
