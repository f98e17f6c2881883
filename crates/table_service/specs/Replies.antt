-- What is answered (the project's own).
use Rattle.std.specs.Prelude.{◌⊎◌, ℕ, List, [], ◌∷◌, ◌++◌, codes}
use Rattle.http1.specs.Fields.{Header}
use Rattle.http_header.specs.FieldValue.{IsFieldValue}
use Rattle.http_server.specs.{declared.response.Response.Response, Response.IsResponse}
use Rattle.table_views.specs.Looks.{style, script}
use Rattle.table_service.specs.declared.plan.{Problem.Problem, PageReply.PageReply}
use Rattle.table_service.specs.declared.plan.PageStatus.{PageStatus}
use Rattle.table_service.specs.declared.plan.Problem.TheVariants as problem
use Rattle.table_service.specs.declared.plan.PageReply.TheVariants as reply
use Rattle.table_service.specs.declared.plan.PageStatus.TheVariants as shown

-- the fields that each answer has: pages may load what the program serves and nothing else, their
-- forms go to it alone, no other page may frame them, and no browser keeps them
abbrev pub security : List Header
security = (
  codes "content-security-policy",
  codes "default-src 'none'; script-src 'self'; style-src 'self'; connect-src 'self'; "
      ++ codes "form-action 'self'; base-uri 'none'; frame-ancestors 'none'",
)
    ∷ (codes "x-content-type-options", codes "nosniff")
    ∷ (codes "referrer-policy", codes "same-origin")
    ∷ (codes "cache-control", codes "no-store") ∷ []

abbrev pub kind : List ℕ → Header
kind text = (codes "content-type", text)

abbrev pub fields_with : Header → List Header
fields_with field = security ++ field ∷ []

abbrev pub text_kind : List ℕ
text_kind = codes "text/plain; charset=utf-8"

abbrev pub html_kind : List ℕ
html_kind = codes "text/html; charset=utf-8"

-- a page where no page is, and a line of text for every other problem
abbrev pub kind_of : Problem → List ℕ
kind_of problem.NotFound = html_kind
kind_of _ = text_kind

abbrev pub status_of : Problem → ℕ
status_of problem.BadForm = 400
status_of problem.Foreign = 403
status_of problem.NotFound = 404
status_of problem.Method = 405
status_of problem.Busy = 503

-- the page where no page is: it leads back
unfoldable pub not_found : List ℕ
not_found =
    codes "<!DOCTYPE html>\n<html lang=\"en\"><head><meta charset=\"utf-8\">\n"
    ++ codes "<meta name=\"viewport\" content=\"width=device-width, initial-scale=1\">\n"
    ++ codes "<title>No such page</title><link rel=\"stylesheet\" href=\"/table.css\"></head>\n"
    ++ codes "<body class=\"hall\">\n<main><h1>No such page</h1>\n"
    ++ codes "<p>No page has this address, its round was not opened, or nobody has its number."
    ++ codes "</p>\n<p><a href=\"/\">all rounds</a></p>\n</main></body></html>\n"

abbrev pub line_of : Problem → List ℕ
line_of problem.BadForm = codes "400 Bad Request\n"
line_of problem.Foreign =
    codes "Not taken: the page is not of this score table, or was loaded before its last start. "
    ++ codes "Go back, load the page again, and send it again.\n"
line_of problem.NotFound = not_found
line_of problem.Method = codes "405 Method Not Allowed\n"
line_of problem.Busy =
    codes "Not taken: there is no room now. Go back, and send it again in a while.\n"

abbrev pub shown_status : PageStatus → ℕ
shown_status shown.Asked = 200
shown_status shown.Wrong = 422

abbrev pub IsProblem : Problem → Response → Type 0
IsProblem why r =
    IsResponse (status_of why) (fields_with (kind (kind_of why))) (line_of why) r

-- another page is to be asked for, where its place can be in a field
abbrev pub Sees : List ℕ → Response → Type 0
Sees location r =
    IsResponse 303 (fields_with (codes "location", location)) [] r
    ⊎ (¬ (IsFieldValue location) × IsResponse 303 security [] r)

abbrev pub Writes : PageReply → Response → Type 0
Writes (reply.Text why) r = IsProblem why r
Writes (reply.Html status page) r =
    IsResponse (shown_status status) (fields_with (kind html_kind)) page.items r
Writes reply.Style r =
    IsResponse 200 (fields_with (kind (codes "text/css; charset=utf-8"))) style r
Writes reply.Script r =
    IsResponse 200 (fields_with (kind (codes "text/javascript; charset=utf-8"))) script r
Writes (reply.SeeOther location) r = Sees location.items r
