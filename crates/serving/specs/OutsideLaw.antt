-- What is done for a frame that its connection may not send (the project's own).
use Rattle.std.specs.Prelude.{◌≡◌, false, List, [], ◌∷◌}
use Rattle.answers.specs.Seen.{Seen}
use Rattle.store.specs.declared.home.Home.{Home}
use Rattle.wire.specs.declared.frame.Frame.{Frame}
use Rattle.serving.specs.{declared.request.Request.Request, Asking.request, Permissions.admits}
use Rattle.serving.specs.declared.request.Request.TheVariants.{Heard, Lagging, Learned}
use Rattle.serving.specs.Connection.{Begun, answer_frame, serve_frame}
use Rattle.wire.specs.declared.frame.FrameBody.TheVariants as what
use Rattle.wire.specs.declared.values.ClientRefusal.TheVariants as refusal

-- a client is told that its connection may not ask for that
abbrev pub not_allowed : Home → Begun → List Frame
not_allowed home b =
    answer_frame b.frame.version home (what.Refused refusal.NotAllowed) ∷ []

-- the answer: none to what a desk says, and to a client that it may not
abbrev pub turned_away_by : Home → Begun → Request → List Frame
turned_away_by home b (Heard m) = []
turned_away_by home b (Lagging m) = []
turned_away_by home b (Learned run) = []
turned_away_by home b _ = not_allowed home b

-- The node is not called, nothing is pushed, and the node is as it was.
pub record TurnsAway (home : Home) (x : Seen) (b : Begun) : Type 0 where
  pub calls_nothing : (serve_frame home x b).acts ≡ []
  pub unchanged : (serve_frame home x b).seen ≡ x
  pub answered : (serve_frame home x b).answers ≡ turned_away_by home b (request home b.frame)

-- of each frame that asks for more than its connection may
abbrev pub OutsideCallsNothing : Type 0
OutsideCallsNothing =
    (home : Home) (x : Seen) (b : Begun) → admits b.may (request home b.frame) ≡ false
    → TurnsAway home x b
