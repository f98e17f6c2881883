use Rattle.wcif_results.proofs.Adding.{then, wrote, wrote_last, on_ok, same}
use Rattle.wcif_results.proofs.Lines.{result_tokens}
use Rattle.wcif_results.proofs.results.write_result.Goals as goal

pub returns : goal.returns
returns c =
    on_ok c.end_object.result (λ last. λ t e is. same
    (result_tokens t c.args.number e c.args.row is) (then (wrote c.in_ok-begin_object.ensures)
    (then (wrote c.in_ok-key.ensures) (then c.in_ok-write_number.ensures
    (then (wrote c.in_ok-key-2.ensures) (then c.in_ok-write_ranking.ensures
    (then (wrote c.in_ok-key-3.ensures) (then c.in_ok-write_attempts.ensures
    (then (wrote c.in_ok-key-4.ensures) (then c.in_ok-write_best.ensures
    (then (wrote c.in_ok-key-5.ensures) (then c.in_ok-write_average.ensures last))))))))))))
    (wrote_last c.end_object.result c.end_object.ensures)
