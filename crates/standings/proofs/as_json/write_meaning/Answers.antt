use Rattle.standings.proofs.Adding.{then, wrote, wrote_last, on_ok, same}
use Rattle.standings.proofs.MeaningTokens.{meaning_tokens}
use Rattle.standings.proofs.as_json.write_meaning.Goals as goal

pub returns : goal.returns
returns c =
    on_ok c.end_object.result
    (λ last. same (meaning_tokens c.args.polled.now _ _ _ _ _ _ c.size_of.ensures
    c.answered.ensures.same c.is_majority.ensures c.in_order.ensures c.difference.ensures
    c.status_of.ensures)
    (then (wrote c.in_ok-key.ensures) (then c.in_ok-write_natural.ensures (then (wrote
    c.in_ok-key-2.ensures) (then c.in_ok-write_natural-2.ensures (then (wrote c.in_ok-key-3.ensures)
    (then (wrote c.in_ok-boolean.ensures) (then (wrote c.in_ok-key-4.ensures) (then (wrote
    c.in_ok-boolean-2.ensures) (then (wrote c.in_ok-key-5.ensures) (then c.in_ok-write_lags.ensures
    (then (wrote c.in_ok-key-6.ensures) (then c.in_ok-write_difference.ensures
    (then (wrote c.in_ok-key-7.ensures) (then c.in_ok-write_byte.ensures last)))))))))))))))
    (wrote_last c.end_object.result c.end_object.ensures)
