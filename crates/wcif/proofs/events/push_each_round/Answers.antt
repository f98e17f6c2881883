use Rattle.std.proofs.Common.{ap, sym, ◌∙◌, ◌++◌, ◌+◌, ◌<◌, ℕ, arith, map, length}
use Rattle.serde_json.specs.View.{view}
use Rattle.wcif.specs.{declared.fault.CompetitionFault.TheVariants.Round, Events.each_round}
use Rattle.wcif.specs.Rounds.{round_faults}
use Rattle.wcif.proofs.Listed.{adds_next, adds_none, in_front}
use Rattle.wcif.proofs.events.push_each_round.Goals as goal

pub loop-index-init : goal.loop-index-init
loop-index-init c = adds_none (each_round c.args.how c.args.event) c.args.faults.now.items

pub loop-index-preserved : goal.loop-index-preserved
loop-index-preserved c =
    let within : c.loop-index.index < length c.args.rounds.now = omega arith in
    adds_next (each_round c.args.how c.args.event) c.args.rounds.now c.loop-index.index
    c.index-rounds-index.result c.args.faults.now.items c.loop-index.faults.items
    c.push_round.new.faults.items within c.index-rounds-index.is c.loop-index.invariant
    (c.in_ok-push_round.ensures
    ∙ ap
    (λ found. c.loop-index.faults.items ++ map (Round c.args.event (c.loop-index.index + 1)) found)
    (c.deref.ensures.value ∙ c.in_ok-found.ensures)
    ∙ ap (λ (n : ℕ). c.loop-index.faults.items ++ map (Round c.args.event (n + 1))
    (round_faults c.args.how c.args.event (n + 1) (view c.index-rounds-index.result)))
    (sym (in_front c.args.rounds.now c.loop-index.index within)))
