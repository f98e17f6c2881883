use Rattle.std.proofs.Common.{append_assoc}
use Rattle.table_people_views.specs.Person.{page_of}
use Rattle.table_people_views.proofs.person.page_of.Goals as goal

pub returns : goal.returns
unfolding page_of
returns c =
    simp (c.in_ok-push_section.ensures, c.in_ok-push_end.ensures, c.in_ok-page.ensures)
    (simp (append_assoc))
