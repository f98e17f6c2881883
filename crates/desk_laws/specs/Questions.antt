-- A client's question at the desk that it names, and the answer at the client (the project's own).
use Rattle.std.specs.Prelude.{◌≡◌, ℕ, false, true, List, [], ◌∷◌, ◌++◌, None, Result, Ok}
use Rattle.std.specs.List.{AllByRecursion}
use Rattle.answers.specs.Seen.{Seen}
use Rattle.client.specs.Answers.{judged, judged_what}
use Rattle.client.specs.{Hearing.StandsFirst, declared.fault.ClientFault.ClientFault}
use Rattle.learner.specs.Desks.{first_desk}
use Rattle.replica.specs.Lengths.{nothing_told}
use Rattle.seal_laws.specs.BothSides.{AreConnected}
use Rattle.sealed.specs.{ServerSeals.ServerSealOf, ends.ClientStreams.ClientStreamOf}
use Rattle.serving.specs.{Asking.ours, Connection.serve_frame, Connection.serve_frames}
use Rattle.serving.specs.Connection.{AreBegun, Begun, answer_bytes, answer_frame, asked}
use Rattle.store.specs.declared.home.Home.{Home}
use Rattle.wire.specs.Ranges.{FromClient, IsFrame, way_of}
use Rattle.wire.specs.{Spelling.spelling, declared.values.Version.TheVariants.Three}
use Rattle.wire.specs.declared.frame.{Frame.Frame, FrameBody.FrameBody}
use Rattle.hall_laws.specs.HallExample.{third_home}
use Rattle.serving.specs.declared.permission.Permission.TheVariants as permission
use Rattle.wire.specs.declared.frame.FrameBody.TheVariants as what

-- A frame that names this desk asks it just what it says, on a connection that may ask all, where
-- no desk differs.
abbrev pub QuestionsAreTaken : Type 0
QuestionsAreTaken =
    (home : Home) (b : Begun) → b.frame.hall ≡ home.hall → b.frame.to ≡ home.desk
    → b.may ≡ permission.All → b.differs ≡ None
    → asked home b ≡ ours b.frame.from b.frame.to b.frame.what

-- there is one answer, and the client gives it, or the refusal that it is
pub record IsAnswered (f : Frame) (answers : List Frame) : Type 0 where
  pub given : Frame
  pub one : answers ≡ given ∷ []
  pub so : judged f given ≡ judged_what given.what true

-- each question of a client has such an answer, whichever hall and desk it names
abbrev pub AnswersAreJudged : Type 0
AnswersAreJudged =
    (home : Home) (x : Seen) (b : Begun) → way_of b.frame.what ≡ FromClient
    → IsAnswered b.frame (serve_frame home x b).answers

-- a desk has begun this frame alone, and a client gives just what it answered
pub record Answers (home : Home) (x : Seen) (f : Frame) (begun : List Begun)
    (result : Result FrameBody ClientFault) : Type 0 where
  pub b : Begun
  pub alone : begun ≡ b ∷ []
  pub same : b.frame ≡ f
  pub given : Frame
  pub one : (serve_frame home x b).answers ≡ given ∷ []
  pub gives : result ≡ judged_what given.what true

-- the first frame of these bytes is judged so
abbrev pub IsJudged : Result FrameBody ClientFault → Frame → List ℕ → Type 0
IsJudged result f bytes = (given : Frame) × StandsFirst given bytes × (judged f given ≡ result)

-- A client asks this, these bytes come to the desk, which begins the frames that they are, these
-- bytes come to the client, and of the first frame in them it makes this.
pub record IsExchange (home : Home) (x : Seen) (f : Frame) (came rest : List ℕ) (begun : List Begun)
    (heard : List ℕ) (result : Result FrameBody ClientFault) : Type 0 where
  pub question : IsFrame f
  pub client : way_of f.what ≡ FromClient
  pub served : AreBegun came begun rest
  pub spelled : AllByRecursion IsFrame (serve_frames home x begun).answers
  pub judges : IsJudged result f heard

-- from the client's bytes to what it gives: a front part of the question came to the desk, and a
-- front part of the answers to the client, with a whole frame
abbrev pub QuestionsAreAnswered : Type 0
QuestionsAreAnswered =
    (home : Home) (x : Seen) (f : Frame) (came lost rest : List ℕ) (begun : List Begun)
    (heard more : List ℕ) (result : Result FrameBody ClientFault)
    → IsExchange home x f came rest begun heard result → spelling f ≡ came ++ lost
    → answer_bytes (serve_frames home x begun).answers ≡ heard ++ more
    → Answers home x f begun result

-- the same under a key: all that either end of the connection sent came to the other
abbrev pub QuestionsUnderAKey : Type 0
QuestionsUnderAKey =
    (caller : ClientStreamOf) (desk : ServerSealOf) (home : Home) (x : Seen) (f : Frame)
    (came rest : List ℕ) (begun : List Begun) (heard : List ℕ)
    (result : Result FrameBody ClientFault) → IsExchange home x f came rest begun heard result
    → AreConnected caller desk (spelling f) came
    (answer_bytes (serve_frames home x begun).answers) heard → Answers home x f begun result

-- ---- there are such questions

-- a client asks desk 1 for its log, which has no entry yet
abbrev pub log_asked : Frame
log_asked = record { version = Three; hall = 7; from = 0; to = 1; what = what.Log 0 }

abbrev pub log_begun : Begun
log_begun = record { frame = log_asked; may = permission.All; differs = None; fates = [] }

abbrev pub log_given : Frame
log_given = answer_frame Three (third_home 1) (what.Entries 0 0 [])

abbrev pub LogIsAsked : Type 0
LogIsAsked =
    IsExchange (third_home 1) (record { desk = first_desk; is_down = false; told = nothing_told })
    log_asked (spelling log_asked) [] (log_begun ∷ []) (spelling log_given)
    (Ok (what.Entries 0 0 []))
