-- What is read of a request (the project's own).
use Rattle.std.specs.Prelude.{ℕ, ◌-◌, ◌^◌, ◌||◌, Bool, List, [], Option, bytes_eq, codes, unwrap_or}
use Rattle.http.specs.{declared.request.Request.Request, Request.head_of}
use Rattle.http_uri.specs.Uri.{uri_path, uri_query}
use Rattle.card_forms.specs.{declared.pairs.Pair.Pair, Pairs.pairs_of, Pairs.value_of}
use Rattle.texts.specs.Fields.{number_between}

abbrev pub path_of : Request (List ℕ) → List ℕ
path_of request = uri_path (head_of request).uri

abbrev pub query_of : Request (List ℕ) → List ℕ
query_of request = unwrap_or (uri_query (head_of request).uri) []

-- the id of what was sent before, as the address of the page after it says
abbrev pub sent_before : Request (List ℕ) → Option ℕ
sent_before request =
    number_between 1 (2 ^ 63 - 1) (value_of (codes "sent") (pairs_of (query_of request)))

-- the pairs of the body
abbrev pub sent_pairs : Request (List ℕ) → List Pair
sent_pairs request = pairs_of request.body

-- it only reads
abbrev pub is_read : Request (List ℕ) → Bool
is_read request =
    bytes_eq (head_of request).method (codes "GET")
    || bytes_eq (head_of request).method (codes "HEAD")

-- it sends a form
abbrev pub is_post : Request (List ℕ) → Bool
is_post request = bytes_eq (head_of request).method (codes "POST")
