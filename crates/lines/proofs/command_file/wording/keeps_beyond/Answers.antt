use Rattle.std.proofs.Common.{◌==◌, codes, rules, tests}
use Rattle.std.{specs.Prelude.bytes_eq, proofs.lemmas.Iterator.Splits.YieldsList-from_slice_split}
use Rattle.std.proofs.lemmas.Iterator.{Adapters.YieldsList-from_skip, Search.any_from_yields_List}
use Rattle.lines.proofs.command_file.wording.keeps_beyond.Goals as goal

pub returns : goal.returns
returns c =
    any_from_yields_List (λ part. bytes_eq part (codes "=")) _ _ _ c.any.ensures.ran
    (YieldsList-from_skip c.args.values (YieldsList-from_slice_split _ (λ b. b == 47) c.args.now.now
    (search rules) (search rules) (search rules) (λ x b q k. search (rules, tests))) (search rules))
    (λ x b q k. search (rules, tests))
