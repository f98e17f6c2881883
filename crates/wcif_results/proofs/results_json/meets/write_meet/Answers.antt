use Rattle.wcif_results.proofs.Adding.{then, wrote, wrote_last, on_ok}
use Rattle.wcif_results.proofs.results_json.meets.write_meet.Goals as goal

pub returns : goal.returns
returns c =
    on_ok c.end_object.result (λ last. then (wrote c.in_ok-begin_object.ensures)
    (then (wrote c.in_ok-key.ensures) (then c.in_ok-write_rounds.ensures last)))
    (wrote_last c.end_object.result c.end_object.ensures)
