use Rattle.std.proofs.Common.{map, ◌∙◌}
use Rattle.json.specs.Value.{value_view}
use Rattle.wcif_results.specs.model.Opened.{round_view}
use Rattle.wcif_results.proofs.{Depths.depth_within, Adding.text_of_value}
use Rattle.wcif_results.proofs.exporting.text_of.Goals as goal

pub returns : goal.returns
returns c =
    text_of_value c.new-out.result c.write_file.new.out c.into_inner.result.items _
    (c.new-out.ensures.before ∙ c.new.ensures.items) c.new-out.ensures.tokens
    c.in_ok-write_file.ensures c.into_inner.ensures.items c.into_inner.ensures.reads_back
    c.into_inner.ensures.utf8 (depth_within (map round_view c.args.rounds.now)
    (value_view c.args.file.now) c.requires.shallow)
