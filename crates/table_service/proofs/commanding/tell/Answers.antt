use Rattle.table_people_views.specs.Refused.{faults_page}
use Rattle.table_service.specs.declared.plan.PageStatus.TheVariants as shown
use Rattle.table_service.proofs.Looked.{page_shown}
use Rattle.table_service.proofs.commanding.tell.Goals as goal

pub returns : goal.returns
returns c =
    page_shown shown.Wrong (faults_page c.args.around.now c.args.back.now c.args.lines.now)
    c.in_ok-page.page c.with_ids.result c.in_ok-page.ensures c.with_ids.ensures
