-- A front part of what was to be done, where memory is refused.
use Rattle.std.proofs.Common.{◌≡◌, refl, sym, ap, subst, ◌∙◌, List, [], ◌∷◌, ◌++◌}
use Rattle.std.proofs.Common.{map, Option, Result, Ok, Err, OnErr}
use Rattle.std.proofs.lemmas.List.{append_assoc, map-append}
use Rattle.acceptor.specs.declared.message.Message.{Message}
use Rattle.learner.specs.declared.event.DeskEvent.{DeskEvent}
use Rattle.serving.specs.{Adding.Push, Answering.answer_of, declared.calls.NodeAnswer.NodeAnswer}
use Rattle.serving.specs.{Making.Way, Making.Outside, Making.outside_of, Making.Makes, Nodes.reply}
use Rattle.serving.specs.model.Calling.{Calls, IsCall, LosesMessages}
use Rattle.store.specs.declared.home.Home.{Home}
use Rattle.answers.specs.Seen.{Seen}
use Rattle.serving.specs.{Nodes.Fate, model.Pushing.PushesPart, model.Reaching.DoesPart}
use Rattle.serving.specs.model.Reaching.{Place, at, service, Reaches, did_call, OnlyAdds, Did}
use Rattle.serving.specs.Serving.{Act, Pushed, Service, call, push_all, waiting_after}
use Rattle.serving.proofs.Additions.{adds_both, adds_push}
use Rattle.serving.proofs.Makings.{Makes-nil, Makes-trans, Makes-pushes, Makes-call}
use Rattle.serving.proofs.Reached.{stays, goes_on, calls_once, pushes_see}

-- so far all was done, and then a front part of what was left
pub part_of : {V : Type 0} {way : Way V} (home : Home) (all g rest : Service → Service)
    (first mid second : Place)
    (xs ys : List Act) (past more : List Fate) (shown : Seen) (a c : Outside way)
    → Reaches home all first g mid xs past → Reaches home g mid rest second ys more → OnlyAdds rest
    → second.seen ≡ shown → Makes home.hall a c (xs ++ ys) → DoesPart home all first shown a c
part_of home all g rest first mid second xs ys past more shown a c h k adds is made = (
  xs ++ ys,
  past ++ more,
  rest,
  second,
  record {
    reaches = goes_on home all g rest first mid second xs ys past more h k;
    adds = adds;
    last = is;
    made = made;
  },
)

-- a front part of the first thing is one of both
pub part_first : {V : Type 0} {way : Way V} (home : Home) (f g : Service → Service)
    (first : Place) (shown : Seen) (a b : Outside way)
    → OnlyAdds g → DoesPart home f first shown a b → DoesPart home (λ s. g (f s)) first shown a b
part_first home f g first shown a b adds d = (
  d.0,
  d.1,
  λ s. g (d.2 s),
  d.3,
  record {
    reaches = record {
      steps = λ done later. ap g (d.4.reaches.steps done later);
      calls = d.4.reaches.calls;
    };
    adds = adds_both d.2 g d.4.adds adds;
    last = d.4.last;
    made = d.4.made;
  },
)

-- all of the first thing was done, and a front part of the second
pub part_both : {V : Type 0} {way : Way V} (home : Home) (f g : Service → Service)
    (first second : Place) (xs : List Act) (past : List Fate) (shown : Seen) (a b c : Outside way)
    → Did home f first second xs past a b → DoesPart home g second shown b c
    → DoesPart home (λ s. g (f s)) first shown a c
part_both home f g first second xs past shown a b c d e =
    part_of home (λ s. g (f s)) g e.2 first second e.3 xs e.0 past e.1 shown a c (record {
      steps = λ done later. ap g (d.reaches.steps done later);
      calls = d.reaches.calls;
    }) e.4.reaches e.4.adds e.4.last (Makes-trans home.hall a b c xs e.0 d.made e.4.made)

-- a front part of the messages that wait was pushed
pub part_pushes : {V : Type 0} (way : Way V) (home : Home) (y : Seen) (ms : List Message) (v : V)
    (p q : Option (List Push)) → PushesPart way.wire home.hall ms p q
    → DoesPart home push_all (at y ms) y (outside_of way v p) (outside_of way v q)
unfolding push_all
part_pushes way home y ms v p q part = (
  map (λ m. Pushed m) part.0,
  [],
  push_all,
  at y part.1,
  record {
    reaches = record {
      steps = λ done later.
          ap (λ z. service (at y []) z later) (ap (λ z. done ++ map (λ m. Pushed m) z) part.2.parts
          ∙ ap (λ z. done ++ z) (map-append (λ m. Pushed m) part.0 part.1)
          ∙ sym (append_assoc done (map (λ m. Pushed m) part.0) (map (λ m. Pushed m) part.1)));
      calls = λ acts later. pushes_see home y part.0 acts later;
    };
    adds = adds_push;
    last = refl;
    made =
        Makes-pushes home.hall (outside_of way v p) v p q [] part.0
        (Makes-nil home.hall (outside_of way v p)) part.2.handed;
  },
)

-- the node took the event, and its messages were lost
pub lost : (home : Home) (g : Service → Service) (event : DeskEvent) (fate : Fate) (x y : Seen)
    (ms : List Message) → LosesMessages home event fate x y
    → Reaches home (λ s. g (call home event s)) (at x ms) g
    (at y (waiting_after ms (reply home x event fate).result))
    (did_call home event fate x ∷ []) (fate ∷ [])
lost home g event fate x y ms h =
    calls_once home g event fate x y ms (waiting_after ms (reply home x event fate).result)
    (answer_of (reply home x event fate).result) (record {
      answer_is =
          refl;
      seen = h.seen;
      waits = refl;
    })

pub part_call : {V : Type 0} (way : Way V) (home h : Home) (all : Service → Service) (first : Place)
    (event : DeskEvent) (x y : Seen) (ms : List Message) (xs : List Act)
    (past : List Fate) (a : Outside way) (u v : V) (p : Option (List Push)) → h ≡ home
    → Reaches home all first (λ s. push_all (call home event s)) (at x ms) xs past
    → Makes home.hall a (outside_of way u p) xs
    → (fate : Fate) × LosesMessages h event fate x y × IsCall way.handles h event fate x u v
    → DoesPart home all first y a (outside_of way v p)
part_call way home h all first event x y ms xs past a u v p same r made l =
    part_of home all (λ s. push_all (call home event s)) push_all first
    (at x ms) (at y (waiting_after ms (reply home x event l.0).result)) xs
    (did_call home event l.0 x ∷ []) past (l.0 ∷ []) y a (outside_of way v p) r
    (lost home push_all event l.0 x y ms (subst (λ z. LosesMessages z event l.0 x y) same l.1))
    adds_push refl (Makes-trans home.hall a (outside_of way u p) (outside_of way v p) xs
    (did_call home event l.0 x ∷ []) made (Makes-call way home h event l.0 x u v p same l.2))

-- memory was refused in the call, or in what comes of it
pub part_at_behind : {V : Type 0} (way : Way V) (home h : Home) (x y : Seen) (event : DeskEvent)
    (ms : List Message) (u v : V) (p : Option (List Push)) → h ≡ home
    → (fate : Fate) × LosesMessages h event fate x y × IsCall way.handles h event fate x u v
    → DoesPart home (λ s. push_all (call home event s)) (at x ms) y
    (outside_of way u p) (outside_of way v p)
part_at_behind way home h x y event ms u v p same l =
    part_call way home h (λ s. push_all (call home event s)) (at x ms)
    event x y ms [] [] (outside_of way u p) u v p same
    (stays home (λ s. push_all (call home event s)) (at x ms))
    (Makes-nil home.hall (outside_of way u p)) l

pub part_after_behind : {V : Type 0} (way : Way V) (home h : Home) (x y shown : Seen)
    (event : DeskEvent) (ms more : List Message) (answer : NodeAnswer) (u v : V)
    (p : Option (List Push)) (b : Outside way) → h ≡ home
    → (fate : Fate) → Calls h event fate x y ms more answer → IsCall way.handles h event fate x u v
    → DoesPart home push_all (at y more) shown (outside_of way v p) b
    → DoesPart home (λ s. push_all (call home event s)) (at x ms) shown (outside_of way u p) b
part_after_behind way home h x y shown event ms more answer u v p b same fate c made d =
    let e = subst (λ u. Calls u event fate x y ms more answer) same c in
    part_of home (λ s. push_all (call home event s)) push_all d.2
    (at x ms) (at y more) d.3 (did_call home event fate x ∷ []) d.0 (fate ∷ []) d.1 shown
    (outside_of way u p) b (calls_once home push_all event fate x y ms more answer e) d.4.reaches
    d.4.adds d.4.last (Makes-trans home.hall (outside_of way u p) (outside_of way v p) b
    (did_call home event fate x ∷ []) d.0 (Makes-call way home h event fate x u v p same made)
    d.4.made)

-- the same, where nothing waited
pub part_after_call : {V : Type 0} (way : Way V) (home h : Home) (x y shown : Seen)
    (event : DeskEvent)
    (ms more : List Message) (answer : NodeAnswer) (u v : V) (p : Option (List Push))
    (b : Outside way) → h ≡ home → ms ≡ []
    → (fate : Fate) → Calls h event fate x y ms more answer → IsCall way.handles h event fate x u v
    → DoesPart home push_all (at y more) shown (outside_of way v p) b
    → DoesPart home (λ s. push_all (call home event s)) (at x []) shown (outside_of way u p) b
part_after_call way home h x y shown event ms more answer u v p b same none fate c made d =
    part_after_behind way home h x y shown event [] more answer u v p b same fate
    (subst (λ u. Calls h event fate x y u more answer) none c) made d

pub on_err : {T E : Type 0} {A B : Type 0} (r : Result T E) → (A → B) → OnErr r A → OnErr r B
on_err (Ok x) f a = tt
on_err (Err e) f a = f a

pub given_err : {T E : Type 0} {A : Type 0} (r : Result T E) → A → OnErr r A
given_err (Ok x) a = tt
given_err (Err e) a = a
