-- A field and a file, with a boundary (the project's own).
use Rattle.std.specs.Prelude.{◌≡◌, ◌≤◌, ℕ, true, List, [], ◌∷◌, ◌++◌, codes, length, None, Some}
use Rattle.std.specs.List.{AllByRecursion}
use Rattle.form_data.specs.{Cutting.crlf, Headers.is_boundary}
use Rattle.form_data.specs.Written.{CanWrite, Written, written}

abbrev pub boundary : List ℕ
boundary = codes "--B7"

-- the content of the file has dashes, and two lines
abbrev pub parts : List Written
parts =
    record { name = codes "token"; file = None; content = codes "9f" } ∷ record {
      name = codes "lines";
      file = Some (record { name = codes "a b.txt"; kind = codes "text/plain" });
      content = codes "--B8" ++ (crlf ++ codes "--");
    } ∷ []

-- what the browser sends, by hand
abbrev pub body : List ℕ
body =
    codes "----B7" ++ (crlf ++ (codes "Content-Disposition: form-data; name=\"token\""
    ++ (crlf ++ (crlf ++ (codes "9f" ++ (crlf ++ (codes "----B7"
    ++ (crlf ++ (codes "Content-Disposition: form-data; name=\"lines\"; filename=\"a b.txt\""
    ++ (crlf ++ (codes "Content-Type: text/plain" ++ (crlf ++ (crlf
    ++ (codes "--B8" ++ (crlf ++ (codes "--" ++ (crlf ++ (codes "----B7--" ++ crlf))))))))))))))))))

pub record WorksForm : Type 0 where
  pub bounds : is_boundary boundary ≡ true
  pub each : AllByRecursion (CanWrite boundary) parts
  pub few : length parts ≤ 64
  pub sent : written boundary parts ≡ body
