use Rattle.standings.proofs.Adding.{then, wrote, wrote_last, on_ok}
use Rattle.standings.proofs.as_json.write_refused.Goals as goal

pub returns : goal.returns
returns c =
    on_ok c.end_object.result
    (λ last. then (wrote c.in_ok-key.ensures) (then (wrote c.in_ok-string.ensures) (then (wrote
    c.in_ok-key-2.ensures) (then c.in_ok-write_refusal.ensures last))))
    (wrote_last c.end_object.result c.end_object.ensures)
