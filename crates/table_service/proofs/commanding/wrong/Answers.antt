use Rattle.std.proofs.Common.{◌≡◌, rules}
use Rattle.card_forms.specs.Faults.{said_words}
use Rattle.table_service.proofs.Looked.{is_wrong}
use Rattle.table_service.proofs.commanding.wrong.Goals as goal

pub returns : goal.returns
returns c =
    let says : c.as_bytes.result.now ≡ said_words (c.args.field, c.args.why) = search rules in
    is_wrong c.args.around.now c.args.pairs.now (c.args.field, c.args.why) c.requires
    c.page_after.result.now c.as_bytes.result.now c.page_after.ensures says c.refuse.result
    c.refuse.ensures
