use Rattle.std.proofs.Common.{◌≢◌, [], sym, ◌∙◌, subst}
use Rattle.cube.specs.notation.Notation.{Spells, IsTooMany}
use Rattle.cube.proofs.notation.Scanning.{told_moves, told_bad, told_many, told_empty, reads_as}
use Rattle.cube.proofs.notation.Scanning.{spells_scan, bad_scan, many_scan, empty_spells}
use Rattle.cube.proofs.notation.{Scanning.empty_many, Steps.empty_from, Steps.some_from}
use Rattle.cube.proofs.notation.reading.read.Goals as goal

pub returns-then-is_empty-clause-only : goal.returns-then-is_empty-clause-only
returns-then-is_empty-clause-only c = λ moves spelled few.
    absurd (empty_spells moves (subst (λ t. Spells t moves) (empty_from c.args.text.now
    (sym c.is_empty.ensures ∙ c.if-is_empty.true)) spelled))

pub returns-then-is_empty-clause-too_many_only : goal.returns-then-is_empty-clause-too_many_only
returns-then-is_empty-clause-too_many_only c = λ many.
    absurd (empty_many (subst IsTooMany (empty_from c.args.text.now (sym c.is_empty.ensures
    ∙ c.if-is_empty.true)) many))

pub returns : goal.returns
returns c =
    let text = c.args.text.now in
    let some : text ≢ [] =
    some_from c.args.text.now (sym c.is_empty.ensures ∙ c.if-is_empty.false) in
    let result = c.read_tokens.result in
    let reads = c.read_tokens.ensures in
    record {
      found = told_moves text some result reads;
      only = λ moves spelled few. reads_as text result _ reads
          (spells_scan _ 400 text moves spelled few);
      empty = (λ e. absurd (told_empty text some result reads e), λ e. absurd (some e));
      bad_token = told_bad text some result reads;
      bad_token_only = λ at bad. reads_as text result _ reads (bad_scan text at bad);
      too_many = told_many text some result reads;
      too_many_only = λ many. reads_as text result _ reads (many_scan text many);
    }
