use Rattle.std.proofs.Common.{◌≡◌, ◌++◌, ◌∙◌, ℕ, List, ap, codes, get_or, refl, subst}
use Rattle.std.proofs.lemmas.Result.{on_ok_weaker}
use Rattle.markup.specs.board_page.Adding.{Adds}
use Rattle.markup.proofs.board_page.Steps.{six_parts, when_ok}
use Rattle.commands.specs.History.{History}
use Rattle.table_views.specs.{declared.around.PageContext.PageContext, Logs.accepted_in}
use Rattle.table_people_views.specs.People.{competitors, entering, registering, section, IsProposed}
use Rattle.table_people_views.specs.People.{IsSection}
use Rattle.table_people_views.specs.declared.people.TheConstants.{PEOPLE_HEAD, SECTION_START}
use Rattle.table_people_views.proofs.people.push_section.Goals as goal

adds_section : (around : PageContext) (proposed : ℕ)
    → IsProposed (accepted_in around.mirror.now) proposed → (old new : List ℕ)
    → new ≡ old ++ section around proposed → Adds old new (IsSection around)
adds_section around proposed first old new is =
    (section around proposed, (proposed, first, refl), is)

pub returns : goal.returns
unfolding section
returns c =
    let out = c.args.out.now.items in
    let around = c.args.around.now in
    let token = around.token.now in
    let ids = around.ids.now in
    let accepted = accepted_in around.mirror.now in
    let proposed = c.free_number.result in
    let first =
    subst (λ (h : History). IsProposed h.accepted proposed) c.meet-meet.ensures
    c.free_number.ensures in
    let registers = registering token (get_or ids 0 0) proposed in
    let enters = entering accepted token (get_or ids 1 0) in
    let all = competitors accepted 9999 in
    on_ok_weaker c.extend_from_slice-3.result (adds_section around proposed first out _)
    (on_ok_weaker c.extend_from_slice-3.result
    (six_parts out SECTION_START.now registers enters PEOPLE_HEAD.now all
    (codes "</tbody></table></section>\n") _ _ _ _ _ _ c.in_ok-extend_from_slice.ensures.items
    (c.in_ok-push_registering.ensures
    ∙ ap (λ (form : ℕ). c.extend_from_slice.new.self.items ++ registering token form proposed)
    c.id_at.ensures) (c.in_ok-push_entering.ensures
    ∙ ap (λ (h : History). c.push_registering.new.out.items
    ++ entering h.accepted token c.id_at-2.result) c.meet-meet.ensures
    ∙ ap (λ (form : ℕ). c.push_registering.new.out.items ++ entering accepted token form)
    c.id_at-2.ensures) c.in_ok-extend_from_slice-2.ensures.items (c.in_ok-push_competitors.ensures
    ∙ ap (λ (h : History). c.extend_from_slice-2.new.self.items ++ competitors h.accepted 9999)
    c.meet-meet.ensures)) (when_ok _ _ _ _ c.extend_from_slice-3.ensures.items))
