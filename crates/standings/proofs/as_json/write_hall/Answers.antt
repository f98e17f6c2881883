use Rattle.standings.proofs.Adding.{then, wrote, on_ok}
use Rattle.standings.proofs.as_json.write_hall.Goals as goal

pub returns : goal.returns
returns c =
    on_ok c.write_meaning.result
    (λ last. then (wrote c.in_ok-begin_object.ensures) (then (wrote c.in_ok-key.ensures) (then
    c.in_ok-write_natural.ensures (then (wrote c.in_ok-key-2.ensures) (then
    c.in_ok-write_desks.ensures last))))) c.write_meaning.ensures
