use Rattle.table_service.proofs.Looked.{none_read}
use Rattle.table_service.proofs.listing.plan_form.Goals as goal

pub returns-in-None : goal.returns-in-None
returns-in-None c =
    none_read c.args.around.now c.args.outbox.now.list c.args.pairs.now c.args.id
    c.page_after.result.now c.page_after.ensures c.value.result.now c.value.ensures
    c.in_ok-texts.field-0 c.in-None.is c.in_ok-texts.ensures c.refuse.result c.refuse.ensures
