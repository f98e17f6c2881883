use Rattle.std.proofs.Common.{◌≡◌, ◌∙◌, ap, length}
use Rattle.commands.specs.History.{History}
use Rattle.board_rounds.specs.Persons.{people}
use Rattle.board_views.specs.{Rounds.accepted_in, Views.people_page}
use Rattle.board_views.proofs.bodies.people_page.Goals as goal

pub returns : goal.returns
unfolding people_page
returns c =
    let log = c.args.mirror.now in
    let meet : c.meet.result.now.accepted ≡ accepted_in log =
    ap (λ (h : History). h.accepted) c.meet.ensures in
    let pushed = rw c.new-people.ensures.items at c.in_ok-push_people.ensures in
    let shown : c.push_people.new.out.items ≡ people (accepted_in log) (length log) =
    rw c.len.ensures.len at (rw meet at pushed) in
    rw (c.deref.ensures.value ∙ shown) at c.page_of.ensures
