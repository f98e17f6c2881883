use Rattle.std.proofs.Common.{ap, ◌∙◌, ◌++◌, arith, map}
use Rattle.serde_json.specs.View.{view}
use Rattle.wcif.{specs.Persons.id_faults, proofs.Listed.adds_next, proofs.Listed.adds_none}
use Rattle.wcif.proofs.entries.push_id_faults.Goals as goal

pub loop-index-init : goal.loop-index-init
loop-index-init c =
    adds_none (id_faults (map view c.args.events.now)) c.args.faults.now.items

pub loop-index-preserved : goal.loop-index-preserved
loop-index-preserved c =
    adds_next (id_faults (map view c.args.events.now)) c.args.ids.now c.loop-index.index
    c.index-ids-index.result c.args.faults.now.items c.loop-index.faults.items
    c.push_some.new.faults.items (omega arith) c.index-ids-index.is c.loop-index.invariant
    (c.in_ok-push_some.ensures ∙ ap (λ more. c.loop-index.faults.items ++ more) c.id_fault.ensures)
