use Rattle.wcif_results.proofs.Adding.{then, wrote, on_ok, same}
use Rattle.wcif_results.proofs.results_json.Joined.{round_tokens}
use Rattle.wcif_results.proofs.results_json.rounds_written.write_round.Goals as goal

pub returns : goal.returns
returns c =
    let r = c.args.round in
    on_ok c.write_members.result (λ last. same (round_tokens r.meet.now.accepted r.event r.number
    r.settings r.table.now _ c.name.ensures.value) (then (wrote c.in_ok-begin_object.ensures)
    (then (wrote c.in_ok-key.ensures) (then (wrote c.in_ok-string.ensures)
    (then (wrote c.in_ok-key-2.ensures) (then c.in_ok-write_byte.ensures last))))))
    c.write_members.ensures
