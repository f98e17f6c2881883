use Rattle.std.proofs.Common.{append_assoc}
use Rattle.table_people_views.specs.Preview.{preview_page}
use Rattle.table_people_views.proofs.preview.preview_page.Goals as goal

pub returns : goal.returns
unfolding preview_page
returns c =
    simp (c.in_ok-push_bottom.ensures, c.in_ok-push_section.ensures, c.in_ok-page.ensures)
    (simp (append_assoc))
