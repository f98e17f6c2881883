use Rattle.std.proofs.Common.{[], ◌∷◌, ◌++◌, subst}
use Rattle.learner.specs.Ranges.{AreInRange}
use Rattle.serving.proofs.Pushed.{pushed_more}
use Rattle.serving.proofs.session.Session.push_all.Goals as goal

pub loop-message-preserved : goal.loop-message-preserved
loop-message-preserved g c =
    let kept = c.loop-message.invariant in
    let range =
    subst (λ ms. AreInRange c.args.self.home.desks c.args.self.home.desk ms) c.in-Some.ensures.items
    kept.range in
    record {
      range = range.1;
      so_far = (
        kept.so_far.0 ++ c.in-Some.message ∷ [],
        pushed_more c.args.self.wire c.args.self.home.hall _ _ _ kept.so_far.0
            c.in-Some.message _ _ _
            c.in-Some.ensures.items kept.so_far.1 c.in_ok-push_message.ensures.ok,
      );
    }
