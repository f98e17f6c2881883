-- A command that is sent to a score table, and a start after a crash.
use Rattle.std.specs.Prelude.{◌≡◌, ℕ, false, List, [], ◌∷◌, codes}
use Rattle.http.specs.{declared.request.Request.Request, Request.body_of}
use Rattle.http_server.specs.declared.response.Response.{Response}
use Rattle.outbox.specs.{Worked.seven, WorkedRuns.five}
use Rattle.table_service.specs.{Gate.is_own, Laws.IsTaken}
use Rattle.table_service.specs.Runs.{IsReached, KeptUp, Restarted, Turn, TurnsLead}
use Rattle.table_service.specs.Services.{Answers, IsKept, ServiceOf}

-- the loop aims at another desk; then the program ends, and starts again over a file that nine
-- bytes of another line were put into
abbrev pub turns : List Turn
turns = KeptUp ∷ Restarted (codes "item 6 CL") 2 8 ∷ []

-- A table of a hall with an empty log is sent one command, which it accepts; then come these turns.
-- The table refuses a request that names another host.
pub record WorksTaking : Type 0 where
  pub before : ServiceOf
  pub after : ServiceOf
  pub last : ServiceOf
  pub reached : IsReached seven before
  pub rests : IsKept before.outbox
  pub request : Request (List ℕ)
  pub sent : body_of request ≡ codes "token=9f&id=5&text=CLOSE+333+1"
  pub response : Response
  pub answers : Answers before request response after
  pub taken : IsTaken before request response after
  pub takes : taken.entries ≡ five ∷ []
  pub kept : IsKept after.outbox
  pub lead : TurnsLead seven after turns last
  pub foreign : Request (List ℕ)
  pub other : is_own before.hosts foreign ≡ false
  pub refusal : Response
  pub refused : Answers before foreign refusal before
