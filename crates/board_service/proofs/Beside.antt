-- What is answered beside the competition's file.
use Rattle.std.proofs.Common.{◌≡◌, ℕ, Bool, true, false, List, Option, None, Some, refl, ap, ◌∙◌}
use Rattle.http.specs.declared.request.Request.{Request}
use Rattle.http.specs.Request.{head_of}
use Rattle.http_server.specs.declared.response.Response.{Response}
use Rattle.markup.specs.replies.Replies.{is_read}
use Rattle.file_views.specs.declared.paths.FileView.{FileView}
use Rattle.board_service.specs.Laws.{FileIsBeside, with_file}
use Rattle.board_service.specs.Services.{ServiceOf, ShowsBy, ShowsPage, ShowsView, asks_ages}
use Rattle.board_service.specs.Services.{asks_file, asks_status, if_read}

none_read : (b : Bool) → if_read b None ≡ None
none_read true = refl
none_read false = refl

module _ (s : ServiceOf) (file : Option (List ℕ)) (request : Request (List ℕ))
    (response : Response) where
  page_beside : ShowsPage s request response → ShowsPage (with_file file s) request response
  page_beside shown =
      record { page = shown.page; stands = shown.stands; replies = shown.replies }

  view_beside : (view : Option FileView) → view ≡ None → ShowsView view s request response
      → ShowsView view (with_file file s) request response
  view_beside None none shown = page_beside shown
  view_beside (Some view) none shown = absurd (cc)

  by_beside : (status ages : Bool) → asks_file request ≡ None
      → ShowsBy status ages s request response
      → ShowsBy status ages (with_file file s) request response
  by_beside true ages none shown = shown
  by_beside false true none shown = shown
  by_beside false false none shown = view_beside (asks_file request) none shown

pub beside : FileIsBeside
beside old new file request response apart answered = (
  ap (with_file file) answered.0,
  by_beside old file request response (asks_status request) (asks_ages request)
      (ap (if_read (is_read (head_of request).method)) apart
      ∙ none_read (is_read (head_of request).method))
      answered.1,
)
