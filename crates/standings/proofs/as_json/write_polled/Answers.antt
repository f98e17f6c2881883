use Rattle.standings.proofs.Adding.{then, wrote, on_ok}
use Rattle.standings.proofs.as_json.write_polled.Goals as goal

pub returns : goal.returns
returns c =
    on_ok c.write_reply.result
    (λ last. then (wrote c.in_ok-begin_object.ensures) (then (wrote c.in_ok-key.ensures) (then
    c.in_ok-write_byte.ensures (then (wrote c.in_ok-key-2.ensures) (then (wrote
    c.in_ok-string.ensures) last))))) c.write_reply.ensures
