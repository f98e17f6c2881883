use Rattle.std.proofs.Common.{codes}
use Rattle.table_people_views.specs.Refused.{faults_page}
use Rattle.table_service.specs.declared.plan.PageStatus.TheVariants as shown
use Rattle.table_service.proofs.Looked.{file_looked, file_refused, page_shown}
use Rattle.table_service.proofs.looking.look_at_file.Goals as goal

pub returns-in-Lines : goal.returns-in-Lines
returns-in-Lines c =
    file_looked c.args.around.now c.args.options c.args.bytes.now c.in_ok-lines.field-0
    c.in_ok-lines.ensures c.in-Lines.lines c.in-Lines.is c.deref.result.now
    c.deref.ensures.value c.look.result c.look.ensures

pub returns-in_ok-page-in-Refused : goal.returns-in_ok-page-in-Refused
returns-in_ok-page-in-Refused c =
    file_refused c.args.around.now c.args.options c.args.bytes.now c.in_ok-lines.field-0
    c.in_ok-lines.ensures c.in-Refused.fault c.in-Refused.words c.in-Refused.is
    c.deref-in-Refused.result.now c.with_ids.result (page_shown shown.Wrong
    (faults_page c.args.around.now (codes "/import") c.deref-in-Refused.result.now)
    c.in_ok-page-in-Refused.page c.with_ids.result c.in_ok-page-in-Refused.ensures
    c.with_ids.ensures)
