-- A Tick that a desk gives itself is served as a client's.
use Rattle.std.proofs.Common.{◌≡◌, refl, sym, ap, ◌∙◌, true, eqb, cond, ◌&&◌, Option, None}
use Rattle.std.proofs.lemmas.Bool.{eq-eqb}
use Rattle.answers.specs.Seen.{Seen}
use Rattle.store.specs.declared.home.Home.{Home}
use Rattle.wire.specs.declared.{frame.FrameBody.FrameBody, values.Version.Version}
use Rattle.serving.specs.Asking.{close_by, ending, is_ours, request}
use Rattle.serving.specs.{Making.Outside, model.Requests.AnswersSome, model.Requests.FailsToAnswer}
use Rattle.serving.{specs.Making.Way, proofs.OneFrame.request_fails, proofs.OneFrame.serves}
use Rattle.serving.specs.OwnTicks.{Ticks, TicksInPart, tick_frame, unanswered}
use Rattle.serving.specs.declared.request.Request.TheVariants.{Strange, Ticked}
use Rattle.serving.specs.declared.permission.Permission.TheVariants as permission

is_for_us : (version : Version) (home : Home) → is_ours home (tick_frame version home) ≡ true
is_for_us version home =
    ap (λ z. z && eqb home.desk home.desk) (eq-eqb home.hall home.hall refl)
    ∙ eq-eqb home.desk home.desk refl

-- the frame asks for a Tick
asks : (version : Version) (home : Home) → Ticked ≡ request home (tick_frame version home)
asks version home = sym (ap (λ z. cond z Ticked Strange) (is_for_us version home))

pub ticks : {V : Type 0} {way : Way V} (home : Home) (x y : Seen) (w : Option FrameBody)
    (a b : Outside way)
    → AnswersSome home x y Ticked w a b → Ticks home (unanswered x a) (unanswered y b)
ticks {V} {way} home x y w a b h =
    let one =
    serves home (tick_frame way.wire home) permission.All None Ticked x y w
    (close_by (ending Ticked) y.is_down) None None a b (asks way.wire home) h tt refl in
    (one.0, close_by (ending Ticked) y.is_down, one.1)

pub ticks_in_part : {V : Type 0} {way : Way V} (home : Home) (x y : Seen) (a b : Outside way)
    → FailsToAnswer home x y Ticked a b → TicksInPart home (unanswered x a) (unanswered y b)
ticks_in_part {V} {way} home x y a b h =
    request_fails home (tick_frame way.wire home) permission.All None Ticked x y None None a b
    (asks way.wire home) h tt
