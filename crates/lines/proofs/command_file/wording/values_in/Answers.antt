use Rattle.std.proofs.Common.{◌≡◌, ◌==◌, false, codes, rules, tests}
use Rattle.std.{specs.Prelude.bytes_eq, proofs.lemmas.Iterator.Consumers.count_from_yields_List}
use Rattle.std.proofs.lemmas.Iterator.Splits.{YieldsList-from_slice_split}
use Rattle.lines.proofs.command_file.wording.values_in.Goals as goal

pub returns-else-eq : goal.returns-else-eq
returns-else-eq c =
    let some : bytes_eq c.args.was.now (codes "-") ≡ false = search rules in
    rw some (count_from_yields_List _ _ c.count.ensures.ran
    (YieldsList-from_slice_split _ (λ b. b == 44) c.args.was.now c.split.ensures.rest
    c.split.ensures.done c.split.ensures.closure (λ x b q k. search (rules, tests))))
