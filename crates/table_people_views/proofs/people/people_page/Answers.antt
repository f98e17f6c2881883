use Rattle.std.proofs.Common.{List, ap, ℕ, ◌++◌, ◌∙◌}
use Rattle.table_views.specs.{Frame.bottom, Recent.recent_section}
use Rattle.table_people_views.proofs.people.people_page.Goals as goal

pub returns : goal.returns
returns c =
    let around = c.args.around.now in
    let recent = recent_section around in
    let added = c.in_ok-push_section.ensures in
    let is = c.in_ok-push_end.ensures
    ∙ ap (λ (before : List ℕ). before ++ recent ++ bottom)
    (added.2 ∙ ap (λ (before : List ℕ). before ++ added.0) c.in_ok-page.ensures) in
    (added.0, added.1, is)
