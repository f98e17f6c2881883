use Rattle.std.proofs.Common.{◌∙◌}
use Rattle.clap.{specs.Words.found_of, proofs.WalkLemmas.one_text-rows}
use Rattle.replay_arguments.proofs.values.flag_at.Goals as goal

pub returns : goal.returns
returns c =
    let f = found_of c.args.found.now in
    record {
      there = λ is. c.get_flag.ensures.value (one_text-rows f c.args.id.now ∙ is);
      away = λ is. c.get_flag.ensures.other (one_text-rows f c.args.id.now ∙ is);
      unknown = λ is. c.get_flag.ensures.none (one_text-rows f c.args.id.now ∙ is);
    }
