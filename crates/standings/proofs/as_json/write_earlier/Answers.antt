use Rattle.standings.proofs.Adding.{then, wrote, on_ok}
use Rattle.standings.proofs.as_json.write_earlier.Goals as goal

pub returns : goal.returns
returns c =
    on_ok c.write_fault.result
    (λ last. then (wrote c.in_ok-key.ensures) (then c.in_ok-write_byte.ensures last))
    c.write_fault.ensures
