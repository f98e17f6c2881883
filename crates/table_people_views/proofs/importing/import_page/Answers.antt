use Rattle.std.proofs.Common.{append_assoc}
use Rattle.table_people_views.specs.Importing.{import_page}
use Rattle.table_people_views.proofs.importing.import_page.Goals as goal

pub returns : goal.returns
unfolding import_page
returns c =
    simp (c.in_ok-push_section.ensures, c.in_ok-push_end.ensures, c.in_ok-page.ensures)
    (simp (append_assoc))
