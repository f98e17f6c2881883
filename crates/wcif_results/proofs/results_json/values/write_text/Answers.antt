use Rattle.wcif_results.proofs.Adding.{on_ok, same, wrote_last}
use Rattle.wcif_results.proofs.results_json.Joined.{name_tokens, no_name_tokens}
use Rattle.wcif_results.proofs.results_json.values.write_text.Goals as goal

pub returns-in-Ok : goal.returns-in-Ok
returns-in-Ok c =
    on_ok c.string.result (λ last. same
    (name_tokens c.args.bytes.now c.in-Ok.text.now c.in-Ok.ensures.cases.0 c.in-Ok.ensures.cases.1)
    last) (wrote_last c.string.result c.string.ensures)

pub returns-in-Err : goal.returns-in-Err
returns-in-Err c =
    on_ok c.null.result
    (λ last. same (no_name_tokens c.args.bytes.now c.in-Err.ensures.cases.0) last)
    (wrote_last c.null.result c.null.ensures)
