-- What the code did for a request is what the request asks.
use Rattle.std.proofs.Common.{◌≡◌, refl, sym, ap, subst, ◌∙◌, List, [], ◌++◌, Option, None}
use Rattle.std.proofs.{Common.Some, lemmas.List.append-nil}
use Rattle.acceptor.specs.declared.message.Message.{Message}
use Rattle.learner.specs.declared.event.DeskEvent.TheVariants.{Deliver, Tick}
use Rattle.wire.specs.declared.frame.FrameBody.{FrameBody}
use Rattle.store.specs.declared.home.Home.{Home}
use Rattle.serving.specs.{Making.Way, Making.Outside, Nodes.Fate, Nodes.reply}
use Rattle.serving.{specs.Making.Makes, proofs.Makings.Makes-nil}
use Rattle.serving.specs.Answering.{answer_of, answer_first}
use Rattle.serving.specs.model.Requests.{Answers, AnswersSome, FailsToAnswer}
use Rattle.answers.specs.Seen.{Seen}
use Rattle.serving.specs.model.Reaching.{at, service, Reaches, DoesPart, DoesTake}
use Rattle.serving.specs.Serving.{Act, Service, first_fate, take, begun, served, answer, seen_after}
use Rattle.serving.specs.declared.{calls.NodeAnswer.NodeAnswer, request.Request.Request}
use Rattle.serving.specs.declared.request.Request.TheVariants.{Heard, Ticked}
use Rattle.formats.specs.declared.events.Event.{Event as EventOf}
use Rattle.formats.specs.declared.styles.SheetStyle.{SheetStyle as Style}
use Rattle.wire.specs.declared.frame.FrameBody.TheVariants as what

-- what reached its end from the beginning of a frame
pub took : (home : Home) (f : Service → Service) (x y : Seen) (acts : List Act) (past : List Fate)
    → Reaches home f (at x []) (λ s. s) (at y []) acts past
    → f (begun x past) ≡ service (at y []) acts []
took home f x y acts past r = ap (λ z. f (begun x z)) (sym (append-nil past)) ∙ r.steps [] []

pub took_calls : (home : Home) (f : Service → Service) (x y : Seen) (acts : List Act)
    (past : List Fate) → Reaches home f (at x []) (λ s. s) (at y []) acts past
    → y ≡ seen_after home x acts past
took_calls home f x y acts past r =
    sym (r.calls [] []) ∙ ap (λ z. seen_after home x z (past ++ [])) (append-nil acts)
    ∙ ap (λ z. seen_after home x acts z) (append-nil past)

-- the calls and pushes of a request, and the node behind it; the answer is another matter
pub answers_by : {V : Type 0} {way : Way V} (home : Home) (r : Request) (x y : Seen)
    (acts : List Act) (past : List Fate) (w : Option FrameBody) (a b : Outside way)
    → (served home x past r ≡ service (at y []) acts []) → (y ≡ seen_after home x acts past)
    → Makes home.hall a b acts → w ≡ answer home x past r → Answers home x y past r w a b
answers_by home r x y acts past w a b all calls made is = record {
  answer_is = is;
  made =
      subst (λ z. Makes home.hall a b z) (sym (ap (λ (z : Service). z.done) all)) made;
  node = sym (ap (λ (z : Service). z.seen) all);
  calls = calls ∙ ap (λ z. seen_after home x z past) (sym (ap (λ (z : Service). z.done) all));
}

-- a message of a desk
pub hears : {V : Type 0} {way : Way V} (home : Home) (m : Message) (x y : Seen)
    (answer : NodeAnswer) (acts : List Act) (past : List Fate) (a b : Outside way)
    → DoesTake home (Deliver m) answer x y acts past a b → AnswersSome home x y (Heard m) None a b
hears home m x y answer acts past a b h = (
  past,
  answers_by home (Heard m) x y acts past None a b
      (took home (take home (Deliver m)) x y acts past h.did.reaches)
      (took_calls home (take home (Deliver m)) x y acts past h.did.reaches) h.did.made refl,
)

-- a Tick
pub ticks : {V : Type 0} {way : Way V} (home : Home) (x y : Seen) (answer : NodeAnswer)
    (acts : List Act) (past : List Fate) (w : FrameBody) (a b : Outside way)
    → DoesTake home Tick answer x y acts past a b → w ≡ answer_first what.Fine answer y
    → AnswersSome home x y Ticked (Some w) a b
ticks home x y answer acts past w a b h is =
    let all = took home (take home Tick) x y acts past h.did.reaches in (
      past,
      answers_by home Ticked x y acts past (Some w) a b all
          (took_calls home (take home Tick) x y acts past h.did.reaches) h.did.made
          (ap (λ z. Some z) is
          ∙ ap (λ z. Some (answer_first what.Fine z y)) h.answer_is
          ∙ ap
          (λ z.
          Some (answer_first what.Fine (answer_of (reply home x Tick (first_fate z)).result) y))
          (sym h.first)
          ∙ ap
          (λ (z : Service).
          Some
          (answer_first what.Fine (answer_of (reply home x Tick (first_fate past)).result) z.seen))
          (sym all)),
    )

-- a front part of an event: what was done begins what would have been done, and the node is the one
-- after it
part_acts : {V : Type 0} {way : Way V} (home : Home) (f : Service → Service) (x shown : Seen)
    (a b : Outside way) (d : DoesPart home f (at x []) shown a b)
    → (more : List Act) × ((f (begun x d.1)).done ≡ d.0 ++ more)
part_acts home f x shown a b d =
    let more = d.4.adds (service d.3 d.0 []) in (
      more.0,
      ap (λ z. (f (begun x z)).done) (sym (append-nil d.1))
          ∙ ap (λ (z : Service). z.done) (d.4.reaches.steps [] []) ∙ more.1,
    )

part_seen : {V : Type 0} {way : Way V} (home : Home) (f : Service → Service) (x shown : Seen)
    (a b : Outside way) (d : DoesPart home f (at x []) shown a b)
    → shown ≡ seen_after home x d.0 d.1
part_seen home f x shown a b d =
    sym d.4.last ∙ sym (d.4.reaches.calls [] [])
    ∙ ap (λ z. seen_after home x z (d.1 ++ [])) (append-nil d.0)
    ∙ ap (λ z. seen_after home x d.0 z) (append-nil d.1)

-- memory was refused on the way of a request
pub fails : {V : Type 0} {way : Way V} (home : Home) (f : Service → Service) (r : Request)
    (x shown : Seen) (a b : Outside way)
    → ((fates : List Fate) → served home x fates r ≡ f (begun x fates))
    → DoesPart home f (at x []) shown a b → FailsToAnswer home x shown r a b
fails home f r x shown a b is d =
    let more = part_acts home f x shown a b d in (
      d.1,
      d.0,
      more.0,
      record {
        parts = ap (λ (z : Service). z.done) (is d.1) ∙ more.1;
        made = d.4.made;
        node = part_seen home f x shown a b d;
      },
    )

-- a request that neither calls the node nor pushes: the node is as it was
pub quiet : {V : Type 0} {way : Way V} (home : Home) (r s : Request) (fates : List Fate) (x : Seen)
    (w : Option FrameBody) (a : Outside way)
    → r ≡ s → served home x fates s ≡ begun x fates → w ≡ answer home x fates s
    → AnswersSome home x x r w a a
quiet home r s fates x w a is none said =
    subst (λ z. AnswersSome home x x z w a a) (sym is) (
      fates,
      record {
        answer_is = said;
        made = subst (λ (z : Service). Makes home.hall a a z.done) (sym none)
            (Makes-nil home.hall a);
        node = sym (ap (λ (z : Service). z.seen) none);
        calls = subst (λ (z : Service). x ≡ seen_after home x z.done fates) (sym none) refl;
      },
    )
