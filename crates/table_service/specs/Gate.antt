-- Which requests are from the program's own pages.
use Rattle.std.specs.Prelude.{◌≡◌, ℕ, ◌&&◌, nat_le, nat_eq, Bool, List, length, drop, codes}
use Rattle.std.specs.Prelude.{is_some, slice_get, bytes_eq}
use Rattle.std.specs.List.{list_all, list_any, starts_with}
use Rattle.hex.specs.Hex.{encode_lower}
use Rattle.http.specs.{declared.request.Request.Request, Request.head_of}
use Rattle.http_header.specs.{FieldValue.FieldValue, HeaderMap.get_all}
use Rattle.card_forms.specs.{declared.pairs.Pair.Pair, Pairs.value_of}

-- a value is one of the hosts
abbrev pub is_host : List (List ℕ) → List ℕ → Bool
is_host hosts value = list_any (λ host. bytes_eq host value) hosts

-- a value is the origin of a page of one of the hosts
abbrev pub is_origin : List (List ℕ) → List ℕ → Bool
is_origin hosts value =
    nat_le 7 (length value) && starts_with nat_eq value (codes "http://")
    && is_host hosts (drop 7 value)

-- the values of a field of a request
abbrev pub values_in : List ℕ → Request (List ℕ) → List FieldValue
values_in name request = get_all (head_of request).headers name

abbrev pub are_hosts : List (List ℕ) → List FieldValue → Bool
are_hosts hosts values = list_all (λ v. is_host hosts v.bytes) values

abbrev pub are_origins : List (List ℕ) → List FieldValue → Bool
are_origins hosts values = list_all (λ v. is_origin hosts v.bytes) values

-- there is a value
abbrev pub has_some : List FieldValue → Bool
has_some values = is_some (slice_get values 0)

-- a request names a host, no host but the program's own, and no origin but a page of its own
abbrev pub is_own : List (List ℕ) → Request (List ℕ) → Bool
is_own hosts request =
    has_some (values_in (codes "host") request)
    && are_hosts hosts (values_in (codes "host") request)
    && are_origins hosts (values_in (codes "origin") request)

-- what each form carries so that it is accepted: 16 bytes, each as two hexadecimal digits
abbrev pub IsToken : List ℕ → Type 0
IsToken text = (bytes : List ℕ) × (length bytes ≡ 16) × (text ≡ encode_lower bytes)

-- a form carries the token
abbrev pub has_token : List ℕ → List Pair → Bool
has_token token pairs = bytes_eq (value_of (codes "token") pairs) token
