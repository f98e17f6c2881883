-- What depends on the competition's file (the project's own).
use Rattle.std.specs.Prelude.{◌≡◌, ℕ, List, Option, None}
use Rattle.http.specs.declared.request.Request.{Request}
use Rattle.http_server.specs.declared.response.Response.{Response}
use Rattle.file_views.specs.Paths.{view_at}
use Rattle.board_service.specs.Services.{Answers, ServiceOf, path_of}

-- the same service with another file, or with none
abbrev pub with_file : Option (List ℕ) → ServiceOf → ServiceOf
with_file file s = record s { competition = file }

-- what is answered at a path that is none of the file's is answered there whatever the file is, and
-- nothing else comes of it
abbrev pub FileIsBeside : Type 0
FileIsBeside =
    (old new : ServiceOf) (file : Option (List ℕ)) (request : Request (List ℕ))
    (response : Response)
    → view_at (path_of request) ≡ None → Answers old request response new
    → Answers (with_file file old) request response (with_file file new)
