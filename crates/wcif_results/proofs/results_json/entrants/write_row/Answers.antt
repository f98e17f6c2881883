use Rattle.wcif_results.{specs.model.Marks.marks_of, proofs.results_json.Joined.row_tokens}
use Rattle.wcif_results.proofs.Adding.{then, wrote, wrote_last, on_ok, same}
use Rattle.wcif_results.proofs.results_json.entrants.write_row.Goals as goal

pub returns : goal.returns
returns c =
    on_ok c.end_object.result (λ last. λ e is. same (row_tokens c.args.round.meet.now.accepted
    c.args.round.settings c.args.round.table.now (marks_of c.args.round) c.args.number e c.args.row
    is _ c.name.ensures _ (c.is_marked.ensures e is)) (then (wrote c.in_ok-begin_object.ensures)
    (then (wrote c.in_ok-key.ensures) (then c.in_ok-write_number.ensures
    (then (wrote c.in_ok-key-2.ensures) (then c.in_ok-write_name.ensures
    (then (wrote c.in_ok-key-3.ensures) (then c.in_ok-write_ranking.ensures
    (then (wrote c.in_ok-key-4.ensures) (then c.in_ok-write_values.ensures
    (then (wrote c.in_ok-key-5.ensures) (then c.in_ok-write_best.ensures
    (then (wrote c.in_ok-key-6.ensures) (then c.in_ok-write_average.ensures
    (then (wrote c.in_ok-key-7.ensures) (then (wrote c.in_ok-boolean.ensures) last))))))))))))))))
    (wrote_last c.end_object.result c.end_object.ensures)
