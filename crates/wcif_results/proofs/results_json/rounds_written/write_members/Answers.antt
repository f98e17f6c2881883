use Rattle.wcif_results.{specs.model.Marks.marks_of, proofs.results_json.Joined.later_tokens}
use Rattle.wcif_results.proofs.Adding.{then, wrote, wrote_last, on_ok, same}
use Rattle.wcif_results.proofs.results_json.rounds_written.write_members.Goals as goal

pub returns : goal.returns
returns c =
    let r = c.args.round in
    on_ok c.end_object.result (λ last. same (later_tokens r.meet.now.accepted r.settings r.table.now
    (marks_of r) _ c.name.ensures.value _ _ c.unit_name.ensures c.unit.ensures _
    c.is_closed.ensures) (then (wrote c.in_ok-key.ensures) (then (wrote c.in_ok-string.ensures)
    (then (wrote c.in_ok-key-2.ensures) (then (wrote c.in_ok-string-2.ensures)
    (then (wrote c.in_ok-key-3.ensures) (then (wrote c.in_ok-boolean.ensures)
    (then (wrote c.in_ok-key-4.ensures) (then c.in_ok-write_cutoff.ensures
    (then (wrote c.in_ok-key-5.ensures) (then c.in_ok-write_limit.ensures
    (then (wrote c.in_ok-key-6.ensures) (then c.in_ok-write_advance.ensures
    (then (wrote c.in_ok-key-7.ensures) (then c.in_ok-write_entrants.ensures last)))))))))))))))
    (wrote_last c.end_object.result c.end_object.ensures)
