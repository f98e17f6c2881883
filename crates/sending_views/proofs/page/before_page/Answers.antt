use Rattle.std.proofs.Common.{List, ap, codes, ℕ, ◌++◌, ◌∙◌}
use Rattle.table_views.specs.{Frame.bottom, Recent.recent_section}
use Rattle.sending_views.specs.Page.{before_page}
use Rattle.sending_views.specs.declared.page.TheConstants.{HEAD}
use Rattle.sending_views.proofs.page.before_page.Goals as goal

pub returns : goal.returns
unfolding before_page
returns c =
    let body = c.in_ok-body.body.items in
    let head = c.in_ok-extend_from_slice.ensures.items
    ∙ ap (λ (x : List ℕ). x ++ HEAD.now) c.in_ok-page.ensures in
    let said = c.in_ok-extend_from_slice-2.ensures.items
    ∙ ap (λ (x : List ℕ). c.extend_from_slice.new.self.items ++ x) c.deref.ensures.value
    ∙ ap (λ (x : List ℕ). x ++ body) head in
    let ended = c.in_ok-extend_from_slice-3.ensures.items
    ∙ ap (λ (x : List ℕ). x ++ codes "</section>\n") said in
    record {
      body = body;
      said = c.in_ok-body.ensures;
      is =
          c.in_ok-push_end.ensures
          ∙ ap (λ (x : List ℕ). x ++ recent_section c.args.around.now ++ bottom) ended;
    }
