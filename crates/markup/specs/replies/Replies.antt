-- The answer to a request for a page (the project's own).
use Rattle.std.specs.Prelude.{ℕ, ◌||◌, Bool, true, false, List, [], ◌∷◌, Option, None, Some, codes}
use Rattle.std.specs.Str.{bytes_eq}
use Rattle.http.specs.{declared.request.Request.Request, Request.head_of}
use Rattle.http1.specs.Fields.{Header}
use Rattle.http_header.specs.{FieldValue.FieldValue, HeaderMap.get_all}
use Rattle.http_server.specs.{declared.response.Response.Response, Response.IsResponse}
use Rattle.markup.specs.{declared.replies.page.Page.Page, replies.Tags.is_fresh}

abbrev pub is_read : List ℕ → Bool
is_read method = bytes_eq method (codes "GET") || bytes_eq method (codes "HEAD")

abbrev pub text_field : Header
text_field = (codes "content-type", codes "text/plain; charset=utf-8")

-- where no page is now, one may be soon
abbrev pub no_store : Header
no_store = (codes "cache-control", codes "no-store")

-- what is said of a page whether it is sent or not
abbrev pub page_fields : Page → List Header
page_fields p = (codes "etag", p.tag.bytes) ∷ (codes "cache-control", p.cache_control.bytes) ∷ []

-- the page, or that the browser has it
abbrev pub Shows : Bool → Page → Response → Type 0
Shows true p r = IsResponse 304 (page_fields p) [] r
Shows false p r =
    IsResponse 200 ((codes "content-type", p.content_type.bytes) ∷ page_fields p) p.body r

-- by whether the method only reads, the page at the path, and the values of `If-None-Match`
abbrev pub RepliesBy : Bool → Option Page → List FieldValue → Response → Type 0
RepliesBy false page values r =
    IsResponse 405 ((codes "allow", codes "GET, HEAD") ∷ text_field ∷ [])
    (codes "405 Method Not Allowed\n") r
RepliesBy true None values r =
    IsResponse 404 (no_store ∷ text_field ∷ []) (codes "404 Not Found\n") r
RepliesBy true (Some p) values r = Shows (is_fresh values p.tag.bytes) p r

abbrev pub Replies : Request (List ℕ) → Option Page → Response → Type 0
Replies request page r =
    RepliesBy (is_read (head_of request).method) page
    (get_all (head_of request).headers (codes "if-none-match")) r
