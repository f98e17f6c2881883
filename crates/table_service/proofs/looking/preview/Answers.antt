use Rattle.std.proofs.Common.{◌∙◌, ap, length, sym}
use Rattle.table_service.proofs.Pairs.{answered_count}
use Rattle.table_service.proofs.looking.preview.Goals as goal

pub tried_of-requires : goal.tried_of-requires
tried_of-requires c =
    ap length (c.deref.ensures.value ∙ c.in_ok-answers.ensures)
    ∙ answered_count c.log.result.now.entries c.id_at-id.result c.args.texts.now
    ∙ sym (ap length c.as_slice.ensures.texts)
