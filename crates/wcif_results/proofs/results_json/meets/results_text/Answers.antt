use Rattle.std.proofs.Common.{◌∙◌}
use Rattle.wcif_results.proofs.{Adding.text_of_value, results_json.Depths.meet_depth}
use Rattle.wcif_results.proofs.results_json.meets.results_text.Goals as goal

pub returns : goal.returns
returns c =
    text_of_value c.new-out.result c.write_meet.new.out c.into_inner.result.items _
    (c.new-out.ensures.before ∙ c.new.ensures.items) c.new-out.ensures.tokens
    c.in_ok-write_meet.ensures c.into_inner.ensures.items c.into_inner.ensures.reads_back
    c.into_inner.ensures.utf8 (meet_depth c.args.meet.now.accepted)
