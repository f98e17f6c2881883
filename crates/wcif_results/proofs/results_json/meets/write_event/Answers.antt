use Rattle.wcif_results.proofs.Adding.{then, on_ok, same}
use Rattle.wcif_results.proofs.results_json.Joined.{event_tokens}
use Rattle.wcif_results.proofs.results_json.meets.write_event.Goals as goal

pub returns : goal.returns
returns c =
    on_ok c.write_opened-4.result (λ last. same (event_tokens c.args.meet.now.accepted c.args.event)
    (then c.in_ok-write_opened.ensures
    (then c.in_ok-write_opened-2.ensures (then c.in_ok-write_opened-3.ensures last))))
    c.write_opened-4.ensures
