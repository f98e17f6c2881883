-- What the board answers (the project's own).
use Rattle.std.specs.Prelude.{◌≡◌, ℕ, ◌&&◌, Bool, true, false, List, [], ◌∷◌, codes, min}
use Rattle.std.specs.Prelude.{Option, None, Some}
use Rattle.std.specs.Str.{bytes_eq}
use Rattle.http.specs.{declared.request.Request.Request, Request.head_of}
use Rattle.http_uri.specs.Uri.{uri_path}
use Rattle.http1.specs.Fields.{Header}
use Rattle.http_server.specs.{declared.response.Response.Response, Response.IsResponse}
use Rattle.acceptor.specs.declared.entry.Entry.{Entry}
use Rattle.markup.specs.declared.replies.page.Page.{Page}
use Rattle.markup.specs.replies.Replies.{Replies, is_read, no_store}
use Rattle.board_views.specs.{Rounds.accepted_in, Views.IsPageAt}
use Rattle.kept_mirror.specs.Mirrorings.{MirroringOf, wait_of}
use Rattle.hall_survey.specs.Halls.{HallDesksOf, IsStatus, ages_text, desks_wait}
use Rattle.competition_file.specs.Files.{data_of}
use Rattle.file_views.specs.{Pages.IsFilePage, Paths.view_at}
use Rattle.file_views.specs.declared.paths.FileView.{FileView}

-- the title of the competition, the mirror with what keeps it up, the desks that are asked, the
-- competition's file, where there is one, and what the clock said when the mirror was kept up last
pub record ServiceOf : Type 0 where
  pub title : List ℕ
  pub mirroring : MirroringOf
  pub desks : HallDesksOf
  pub competition : Option (List ℕ)
  pub time : ℕ

abbrev pub service : List ℕ → MirroringOf → HallDesksOf → Option (List ℕ) → ℕ → ServiceOf
service title mirroring desks competition time = record {
  title = title;
  mirroring = mirroring;
  desks = desks;
  competition = competition;
  time = time;
}

-- in how many milliseconds something is to be done for the mirror or for the survey of a desk, if
-- nothing comes: as soon as it is for one of them
abbrev pub service_wait : ServiceOf → ℕ → ℕ
service_wait s now = min (desks_wait s.desks now) (wait_of s.mirroring now)

-- the path that a request asks for, without the query
abbrev pub path_of : Request (List ℕ) → List ℕ
path_of request = uri_path (head_of request).uri

-- ---- how the desks are

-- GET and HEAD of a path
abbrev pub asks_for : List ℕ → Request (List ℕ) → Bool
asks_for path request = bytes_eq (path_of request) path && is_read (head_of request).method

abbrev pub asks_status : Request (List ℕ) → Bool
asks_status request = asks_for (codes "/status.json") request

-- when each desk said last how it is
abbrev pub asks_ages : Request (List ℕ) → Bool
asks_ages request = asks_for (codes "/heard.txt") request

-- it is of this kind, and nobody is to keep it
abbrev pub fields_of : List ℕ → List Header
fields_of kind = (codes "content-type", kind) ∷ no_store ∷ []

abbrev pub ShowsStatus : ServiceOf → Response → Type 0
ShowsStatus s response =
    (text : List ℕ) × IsStatus s.desks text
    × IsResponse 200 (fields_of (codes "application/json")) text response

abbrev pub ShowsAges : ServiceOf → Response → Type 0
ShowsAges s response =
    IsResponse 200 (fields_of (codes "text/plain")) (ages_text s.time s.desks) response

-- ---- pages

-- the reply for the page that is at the request's path in the mirror as it is, or for none
pub record ShowsPage (s : ServiceOf) (request : Request (List ℕ)) (response : Response)
    : Type 0 where
  pub page : Option Page
  pub stands : IsPageAt s.title s.mirroring.entries (path_of request) page
  pub replies : Replies request page response

-- ---- pages of the competition's file

abbrev pub if_read : Bool → Option FileView → Option FileView
if_read true view = view
if_read false view = None

-- GET and HEAD of a path of the file's
abbrev pub asks_file : Request (List ℕ) → Option FileView
asks_file request = if_read (is_read (head_of request).method) (view_at (path_of request))

-- the reply for the page of the file beside the log; that for none, where there is no file
abbrev pub ShowsFile : List ℕ → Option (List ℕ) → List Entry → FileView → Request (List ℕ)
    → Response → Type 0
ShowsFile title None log view request response = Replies request None response
ShowsFile title (Some file) log view request response =
    (page : Page) × IsFilePage title (data_of file) (accepted_in log) view page
    × Replies request (Some page) response

-- ---- answers

-- a page of the file, where that is asked; else that of the list
abbrev pub ShowsView : Option FileView → ServiceOf → Request (List ℕ) → Response → Type 0
ShowsView None s request response = ShowsPage s request response
ShowsView (Some view) s request response =
    ShowsFile s.title s.competition s.mirroring.entries view request response

-- how the desks are, or when they were heard, where that is asked; else the reply for a page
abbrev pub ShowsBy : (status ages : Bool) → ServiceOf → Request (List ℕ) → Response → Type 0
ShowsBy true ages s request response = ShowsStatus s response
ShowsBy false true s request response = ShowsAges s response
ShowsBy false false s request response = ShowsView (asks_file request) s request response

-- so it is answered, and nothing changes
abbrev pub Answers : ServiceOf → Request (List ℕ) → Response → ServiceOf → Type 0
Answers old request response new =
    (new ≡ old) × ShowsBy (asks_status request) (asks_ages request) old request response
