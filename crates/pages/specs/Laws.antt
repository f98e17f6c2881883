-- What follows of rounds, one after the other (the project's own).
use Rattle.std.specs.Prelude.{List, [], ℕ, All}
use Rattle.http.specs.declared.request.Request.{Request}
use Rattle.http_server.specs.{declared.response.Response.Response, Exchange.Call}
use Rattle.pages.specs.Turns.{Answers, Turn, history_at}

-- Turns that a service answered, and then turns that it answered from the state in which it was
-- left, are turns that it answered.
abbrev pub RoundsFollow : {S : Type 0} → (S → Request (List ℕ) → Response → S → Type 0) → Type 0
RoundsFollow {S} answers =
    (a b c : S) (xs ys zs : List Turn) → Answers answers a b xs ys → Answers answers b c ys zs
    → Answers answers a c xs zs

-- in some state the service gives the call's response to its request
abbrev pub IsAnsweredBy : {S : Type 0} → (S → Request (List ℕ) → Response → S → Type 0) → Call
    → Type 0
IsAnsweredBy {S} answers c = ∥ ((old : S) × (new : S) × answers old c.0 c.1 new) ∥₁

-- Where the service answered all turns from the first one on, it gave each call's response to its
-- request, whichever browser the call is of.
abbrev pub EachCallIsAnswered : {S : Type 0} → (S → Request (List ℕ) → Response → S → Type 0)
    → Type 0
EachCallIsAnswered {S} answers =
    (first last : S) (turns : List Turn) → Answers answers first last [] turns → (k : ℕ)
    → All (IsAnsweredBy answers) (history_at k turns).calls
