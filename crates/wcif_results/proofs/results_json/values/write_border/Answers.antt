use Rattle.wcif_results.proofs.Adding.{then, wrote, wrote_last, on_ok}
use Rattle.wcif_results.proofs.results_json.values.write_border.Goals as goal

pub returns : goal.returns
returns c =
    on_ok c.end_object.result (λ last. then (wrote c.in_ok-begin_object.ensures)
    (then (wrote c.in_ok-key.ensures) (then c.in_ok-write_byte.ensures
    (then (wrote c.in_ok-key-2.ensures) (then c.in_ok-write_natural.ensures last)))))
    (wrote_last c.end_object.result c.end_object.ensures)
