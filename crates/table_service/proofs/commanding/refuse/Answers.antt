use Rattle.table_people_views.specs.Refused.{refused_page}
use Rattle.table_service.specs.declared.plan.PageStatus.TheVariants as shown
use Rattle.table_service.proofs.Looked.{page_shown}
use Rattle.table_service.proofs.commanding.refuse.Goals as goal

pub returns : goal.returns
returns c =
    page_shown shown.Wrong (refused_page c.args.around.now c.args.back.now c.args.why.now)
    c.in_ok-page.page c.with_ids.result c.in_ok-page.ensures c.with_ids.ensures
