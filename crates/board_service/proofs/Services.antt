-- What a service shows, by its fields.
use Rattle.std.proofs.Common.{◌≡◌, ℕ, List, Option, Some, sym, subst}
use Rattle.http.specs.declared.request.Request.{Request}
use Rattle.http_server.specs.declared.response.Response.{Response}
use Rattle.kept_mirror.specs.Mirrorings.{MirroringOf}
use Rattle.markup.specs.{declared.replies.page.Page.Page, replies.Replies.Replies}
use Rattle.board_views.specs.Views.{IsPageAt}
use Rattle.board_service.specs.{declared.shelf.Shelf.Shelf, Shelves.AreAllAt, Shelves.page_on}
use Rattle.hall_survey.specs.Halls.{HallDesksOf}
use Rattle.board_service.specs.Services.{ServiceOf, ShowsPage, path_of, service}

pub shows : (s : ServiceOf) (request : Request (List ℕ)) (response : Response) (path : List ℕ)
    (page : Option Page) → path ≡ path_of request
    → IsPageAt s.title s.mirroring.entries path page → Replies request page response
    → ShowsPage s request response
shows s request response path page is stands replies = record {
  page = page;
  stands = subst (λ (p : List ℕ). IsPageAt s.title s.mirroring.entries p page) is stands;
  replies = replies;
}

module _ (title : List ℕ) (m : MirroringOf) (d : HallDesksOf) (f : Option (List ℕ)) (t : ℕ)
    (s : ServiceOf) (is : service title m d f t ≡ s) (path : List ℕ) (page : Option Page) where
  pub stands_as_seen : IsPageAt title m.entries path page
      → IsPageAt s.title s.mirroring.entries path page
  stands_as_seen stands =
      subst (λ (z : ServiceOf). IsPageAt z.title z.mirroring.entries path page) is stands

  pub stands_within : IsPageAt s.title s.mirroring.entries path page
      → IsPageAt title m.entries path page
  stands_within stands =
      subst (λ (z : ServiceOf). IsPageAt z.title z.mirroring.entries path page) (sym is) stands

-- a page that is kept
pub kept_stands : (title : List ℕ) (m : MirroringOf) (d : HallDesksOf) (f : Option (List ℕ)) (t : ℕ)
    (s : ServiceOf) (shelf : Shelf) → service title m d f t ≡ s → AreAllAt title m.entries shelf
    → (path : List ℕ) (p : Page) → page_on shelf path ≡ Some p
    → IsPageAt s.title s.mirroring.entries path (Some p)
kept_stands title m d f t s shelf is all path p at =
    stands_as_seen title m d f t s is path (Some p) (all path p at)
