-- A frame that its connection may not send calls nothing.
use Rattle.std.proofs.Common.{◌≡◌, refl, sym, ap, subst, ◌∙◌, false, cond, List, [], ◌∷◌, Option}
use Rattle.std.proofs.Common.{None, Some}
use Rattle.answers.specs.Seen.{Seen}
use Rattle.store.specs.declared.home.Home.{Home}
use Rattle.wire.specs.declared.{frame.Frame.Frame, standing.Difference.Difference}
use Rattle.wire.specs.declared.values.Version.{Version, TheVariants.One}
use Rattle.serving.specs.declared.{permission.Permission.Permission, request.Request.Request}
use Rattle.serving.specs.declared.request.Request.TheVariants.{Heard, Lagging, Learned, Denied}
use Rattle.serving.specs.{Asking.request, Differing.withheld, Differing.withheld_by}
use Rattle.serving.specs.Connection.{Begun, Outcome, answer_frame, asked, framed_answer}
use Rattle.serving.specs.Connection.{serve_frame, serve_request}
use Rattle.serving.specs.OutsideLaw.{OutsideCallsNothing, TurnsAway, not_allowed, turned_away_by}
use Rattle.serving.specs.Permissions.{permitted, turned_away}
use Rattle.wire.specs.declared.frame.FrameBody.TheVariants as what
use Rattle.wire.specs.declared.values.ClientRefusal.TheVariants as refusal

-- what an outcome is where nothing is called
record Quiet (x : Seen) (answers : List Frame) (o : Outcome) : Type 0 where
  calls_nothing : o.acts ≡ []
  unchanged : o.seen ≡ x
  answered : o.answers ≡ answers

-- each version tells that a client is not allowed
denied_in : (version : Version) (home : Home)
    → framed_answer version home (Some (what.Refused refusal.NotAllowed))
    ≡ answer_frame version home (what.Refused refusal.NotAllowed) ∷ []
denied_in One home = refl
denied_in _ home = refl

denied : (home : Home) (x : Seen) (b : Begun)
    → Quiet x (not_allowed home b) (serve_request b.frame.version home x b.fates Denied)
denied home x b =
    record {
      calls_nothing = refl;
      unchanged = refl;
      answered = denied_in b.frame.version home;
    }

-- what is turned away calls nothing
quiet : (home : Home) (x : Seen) (b : Begun) (r : Request) → Quiet x (turned_away_by home b r)
    (serve_request b.frame.version home x b.fates (turned_away r))
quiet home x b (Heard m) =
    record { calls_nothing = refl; unchanged = refl; answered = refl }
quiet home x b (Lagging m) =
    record { calls_nothing = refl; unchanged = refl; answered = refl }
quiet home x b (Learned run) =
    record { calls_nothing = refl; unchanged = refl; answered = refl }
quiet home x b _ = denied home x b

-- whatever differs, what is turned away stays so
stays_by : (d : Difference) (r : Request) → withheld_by d (turned_away r) ≡ turned_away r
stays_by d (Heard m) = refl
stays_by d _ = refl

stays : (differs : Option Difference) (r : Request)
    → withheld differs (turned_away r) ≡ turned_away r
stays None r = refl
stays (Some d) r = stays_by d r

-- a frame outside what is allowed is turned away
pub outside_calls_nothing : OutsideCallsNothing
unfolding serve_frame
outside_calls_nothing home x b outside =
    let r = request home b.frame in
    let is : asked home b ≡ turned_away r =
    ap (λ z. withheld b.differs (cond z r (turned_away r))) outside ∙ stays b.differs r in
    let all =
    subst (λ z. Quiet x (turned_away_by home b r) (serve_request b.frame.version home x b.fates z))
    (sym is) (quiet home x b r) in
    record {
      calls_nothing = all.calls_nothing;
      unchanged = all.unchanged;
      answered = all.answered;
    }
