-- One step after the other.
use Rattle.std.proofs.Common.{◌≡◌, refl, sym, ap, subst, ◌∙◌, List, [], ◌∷◌, ◌++◌, map, Option}
use Rattle.std.proofs.Common.{Result, Ok, Err, OnOk}
use Rattle.std.proofs.lemmas.List.{append-nil, append_assoc}
use Rattle.acceptor.specs.declared.message.Message.{Message}
use Rattle.learner.specs.declared.event.DeskEvent.{DeskEvent}
use Rattle.serving.specs.{Adding.Push, Adding.Hands, model.Calling.Calls, model.Calling.IsCall}
use Rattle.serving.specs.Making.{Way, Outside, outside_of, Makes}
use Rattle.serving.specs.{declared.calls.NodeAnswer.NodeAnswer, Nodes.Fate}
use Rattle.store.specs.declared.home.Home.{Home}
use Rattle.answers.specs.Seen.{Seen}
use Rattle.serving.specs.model.Reaching.{Place, at, service, Reaches, did_call, Did, Does, DoesCall}
use Rattle.serving.specs.Serving.{Act, Pushed, Service, pushed, seen_after, call, push_all}
use Rattle.serving.proofs.Makings.{Makes-nil, Makes-trans, Makes-pushes, Makes-call}

pub stays : (home : Home) (f : Service → Service) (p : Place) → Reaches home f p f p [] []
stays home f p = record {
  steps = λ done later. ap (λ z. f (service p z later)) (sym (append-nil done));
  calls = λ more later. refl;
}

pub goes_on : (home : Home) (f g h : Service → Service) (a b c : Place) (xs ys : List Act)
    (past more : List Fate) → Reaches home f a g b xs past → Reaches home g b h c ys more
    → Reaches home f a h c (xs ++ ys) (past ++ more)
goes_on home f g h a b c xs ys past more r s = record {
  steps = λ done later.
      ap (λ z. f (service a done z)) (append_assoc past more later) ∙ r.steps done (more ++ later)
      ∙ s.steps (done ++ xs) later
      ∙ ap (λ z. h (service c z later)) (append_assoc done xs ys);
  calls = λ acts later.
      ap (λ z. seen_after home a.seen z ((past ++ more) ++ later)) (append_assoc xs ys acts)
      ∙ ap (λ z. seen_after home a.seen (xs ++ (ys ++ acts)) z) (append_assoc past more later)
      ∙ r.calls (ys ++ acts) (more ++ later) ∙ s.calls acts later;
}

-- one thing was done, and then the other
pub did_both : {V : Type 0} {way : Way V} (home : Home) (f g : Service → Service)
    (first second third : Place) (xs ys : List Act) (past more : List Fate) (a b c : Outside way)
    → Did home f first second xs past a b → Did home g second third ys more b c
    → Did home (λ s. g (f s)) first third (xs ++ ys) (past ++ more) a c
did_both home f g first second third xs ys past more a b c d e = record {
  reaches =
      goes_on home (λ s. g (f s)) g (λ s. s) first second third xs ys past more (record {
        steps = λ done later. ap g (d.reaches.steps done later);
        calls = d.reaches.calls;
      }) e.reaches;
  made = Makes-trans home.hall a b c xs ys d.made e.made;
}

pub does_both : {V : Type 0} {way : Way V} (home : Home) (f g : Service → Service)
    (first second third : Place) (a b c : Outside way)
    → Does home f first second a b → Does home g second third b c
    → Does home (λ s. g (f s)) first third a c
does_both home f g first second third a b c d e = (
  d.0 ++ e.0,
  d.1 ++ e.1,
  did_both home f g first second third d.0 e.0 d.1 e.1 a b c d.2 e.2,
)

-- a call
pub calls_once : (home : Home) (g : Service → Service) (event : DeskEvent) (fate : Fate)
    (x y : Seen) (ms more : List Message) (answer : NodeAnswer)
    → Calls home event fate x y ms more answer
    → Reaches home (λ s. g (call home event s)) (at x ms) g (at y more)
    (did_call home event fate x ∷ []) (fate ∷ [])
unfolding call
calls_once home g event fate x y ms more answer h = record {
  steps = λ done later. rw h.seen rw h.waits refl;
  calls = λ acts later. rw h.seen refl;
}

-- pushes change nothing at the node
pub pushes_see : (home : Home) (x : Seen) (ms : List Message) (acts : List Act) (fates : List Fate)
    → seen_after home x (map (λ m. Pushed m) ms ++ acts) fates ≡ seen_after home x acts fates
pushes_see home x [] acts fates = refl
pushes_see home x (m ∷ ms) acts fates = pushes_see home x ms acts fates

-- the messages that wait are pushed
pub pushes_all : {V : Type 0} (way : Way V) (home : Home) (y : Seen) (ms rest : List Message)
    (v : V) (p q : Option (List Push)) → rest ≡ [] → Hands p q (map (pushed way.wire home.hall) ms)
    → Does home push_all (at y ms) (at y rest) (outside_of way v p) (outside_of way v q)
unfolding push_all
pushes_all way home y ms rest v p q none h = (
  map (λ m. Pushed m) ms,
  [],
  record {
    reaches = record {
      steps = λ done later.
          ap (λ z. service (at y z) (done ++ map (λ m. Pushed m) ms) later) (sym none);
      calls = λ acts later. pushes_see home y ms acts later;
    };
    made =
        Makes-pushes home.hall (outside_of way v p) v p q [] ms
        (Makes-nil home.hall (outside_of way v p)) h;
  },
)

pub on_ok : {T E : Type 0} {A B C : Type 0} (r : Result T E) → (A → B → C) → OnOk r A → OnOk r B
    → OnOk r C
on_ok (Ok x) f a b = f a b
on_ok (Err e) f a b = tt

does_call_at : {V : Type 0} {way : Way V} (home : Home) (x y z : Seen) (event : DeskEvent)
    (ms more rest : List Message) (answer : NodeAnswer) (a m b : Outside way) (fate : Fate)
    (acts : List Act) (past : List Fate) → Calls home event fate x y ms more answer
    → Makes home.hall a m (did_call home event fate x ∷ [])
    → Did home push_all (at y more) (at z rest) acts past m b
    → Did home (λ s. push_all (call home event s)) (at x ms) (at z rest)
    (did_call home event fate x ∷ acts) (fate ∷ past) a b
does_call_at home x y z event ms more rest answer a m b fate acts past c made d = record {
  reaches =
      goes_on home _ _ _ _ _ _ (did_call home event fate x ∷ []) acts (fate ∷ []) past
      (calls_once home push_all event fate x y ms more answer c) d.reaches;
  made = Makes-trans home.hall a m b (did_call home event fate x ∷ []) acts made d.made;
}

-- a call behind messages that wait, and then all that comes of them
pub does_behind : {V : Type 0} (way : Way V) (home h : Home) (x y z : Seen) (event : DeskEvent)
    (ms more rest : List Message) (answer : NodeAnswer) (u v : V)
    (p : Option (List Push)) (b : Outside way) → h ≡ home
    → (fate : Fate) → Calls h event fate x y ms more answer → IsCall way.handles h event fate x u v
    → Does home push_all (at y more) (at z rest) (outside_of way v p) b
    → Does home (λ s. push_all (call home event s)) (at x ms) (at z rest) (outside_of way u p) b
does_behind way home h x y z event ms more rest answer u v p b same fate c made d = (
  did_call home event fate x ∷ d.0,
  fate ∷ d.1,
  does_call_at home x y z event ms more rest answer (outside_of way u p) (outside_of way v p) b fate
      d.0 d.1 (subst (λ u. Calls u event fate x y ms more answer) same c)
      (Makes-call way home h event fate x u v p same made) d.2,
)

-- a call, and then all that comes of it
pub does_call : {V : Type 0} (way : Way V) (home h : Home) (x y z : Seen) (event : DeskEvent)
    (ms more rest : List Message) (answer : NodeAnswer) (u v : V)
    (p : Option (List Push)) (b : Outside way) → h ≡ home → ms ≡ [] → rest ≡ []
    → (fate : Fate) → Calls h event fate x y ms more answer → IsCall way.handles h event fate x u v
    → Does home push_all (at y more) (at z rest) (outside_of way v p) b
    → (acts : List Act) × (past : List Fate)
    × DoesCall home event answer x z acts past (outside_of way u p) b
does_call way home h x y z event ms more rest answer u v p b same none empty fate c made
    d =
    let e =
    subst (λ u. Calls home event fate x y u more answer) none
    (subst (λ u. Calls u event fate x y ms more answer) same c) in
    let m = outside_of way v p in
    let f =
    subst (λ u. Did home push_all (at y more) (at z u) d.0 d.1 m b) empty
    d.2 in (
      did_call home event fate x ∷ d.0,
      fate ∷ d.1,
      record {
        did =
            does_call_at home x y z event [] more [] answer (outside_of way u p) m b fate d.0
            d.1 e (Makes-call way home h event fate x u v p same made) f;
        fate = fate;
        others = d.1;
        first = refl;
        answer_is = e.answer_is;
      },
    )
