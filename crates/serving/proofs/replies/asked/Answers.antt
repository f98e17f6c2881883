use Rattle.std.proofs.Common.{◌≡◌, ◌≤◌, refl, sym, subst, ℕ, Bool, true, false, cond, List, rules}
use Rattle.std.proofs.Common.{length, Option, None, Some, slice_get, arith}
use Rattle.std.proofs.lemmas.Option.{slice_get_within}
use Rattle.acceptor.specs.declared.entry.Entry.{Entry}
use Rattle.answers.specs.Answers.{is_queued, told, told_at, told_by}
use Rattle.answers.specs.declared.answers.IdState.TheVariants.{Pending, Unknown}
use Rattle.learner.specs.Logs.{position_of}
use Rattle.wire.proofs.Told.{HasPlace, state_told}
use Rattle.serving.specs.Answering.{state_of}
use Rattle.serving.proofs.replies.asked.Goals as goal

-- a command that is told as done is at a position of the log
placed_at : (log : List Entry) (pos : ℕ) (e : Option Entry) → length log ≤ 65536
    → slice_get log pos ≡ e → HasPlace (state_of (told_at log pos e))
placed_at log pos None few is = tt
placed_at log pos (Some e) few is = omega (arith, slice_get_within log pos e is)

placed_by : (log queue : List Entry) (id : ℕ) (at : Option ℕ) → length log ≤ 65536
    → HasPlace (state_of (told_by log queue id at))
placed_by log queue id None few = by (is_queued queue id)
  where
    by : (b : Bool) → HasPlace (state_of (cond b Pending Unknown))
    by true = tt
    by false = tt
placed_by log queue id (Some pos) few = placed_at log pos (slice_get log pos) few refl

pub returns-in-Ok-clause-in_range : goal.returns-in-Ok-clause-in_range
returns-in-Ok-clause-in_range g c =
    let x = (g.D.Desk.seen c.args.node.now).desk in
    let is : c.in-Ok.told ≡ told x.log x.queue c.args.id = search rules in
    let place : HasPlace c.state_of.result =
    subst HasPlace (sym c.state_of.ensures) (subst (λ t. HasPlace (state_of t)) (sym is)
    (placed_by x.log x.queue c.args.id (position_of x.log c.args.id) c.log-log.ensures.most)) in
    record {
      body = λ version. (c.requires, state_told version c.state_of.result place);
      way = λ version. refl;
    }
