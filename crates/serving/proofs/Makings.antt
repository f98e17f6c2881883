-- Calls and pushes that are made, one after the other.
use Rattle.std.proofs.Common.{◌≡◌, refl, sym, ap, subst, ℕ, List, [], ◌∷◌, ◌++◌, map, Option}
use Rattle.std.proofs.lemmas.List.{append-nil}
use Rattle.acceptor.specs.declared.message.Message.{Message}
use Rattle.learner.specs.declared.event.DeskEvent.{DeskEvent}
use Rattle.store.specs.declared.home.Home.{Home}
use Rattle.serving.specs.{Adding.Push, Adding.Hands, Nodes.Fate, Telling.run_pushed}
use Rattle.wire.specs.declared.values.Version.{Version}
use Rattle.serving.specs.Making.{Handling, Way, Call, calls_of, Lead, Outside, outside_of, Makes}
use Rattle.answers.specs.Seen.{Seen}
use Rattle.serving.specs.Serving.{Act, Called, Pushed, Answered, pushed, pushes_of}
use Rattle.serving.specs.model.{Calling.IsCall, Reaching.did_call}
use Rattle.serving.proofs.Handing.{Hands-nil, Hands-trans}

pushes_of_map : (v : Version) (hall : ℕ) (ms : List Message)
    → pushes_of v hall (map (λ m. Pushed m) ms) ≡ map (pushed v hall) ms
pushes_of_map v hall [] = refl
pushes_of_map v hall (m ∷ ms) = ap (λ z. pushed v hall m ∷ z) (pushes_of_map v hall ms)

pushes_of_both : (v : Version) (hall : ℕ) (xs ys : List Act)
    → pushes_of v hall (xs ++ ys) ≡ pushes_of v hall xs ++ pushes_of v hall ys
pushes_of_both v hall [] ys = refl
pushes_of_both v hall (Called e r ∷ xs) ys = pushes_of_both v hall xs ys
pushes_of_both v hall (Pushed m ∷ xs) ys =
    ap (λ z. pushed v hall m ∷ z) (pushes_of_both v hall xs ys)
pushes_of_both v hall (Answered run ∷ xs) ys =
    ap (λ z. run_pushed v hall run ∷ z) (pushes_of_both v hall xs ys)

calls_of_map : (ms : List Message) → calls_of (map (λ m. Pushed m) ms) ≡ []
calls_of_map [] = refl
calls_of_map (m ∷ ms) = calls_of_map ms

calls_of_both : (xs ys : List Act) → calls_of (xs ++ ys) ≡ calls_of xs ++ calls_of ys
calls_of_both [] ys = refl
calls_of_both (Called e r ∷ xs) ys =
    ap (λ z. calls_of (Called e r ∷ []) ++ z) (calls_of_both xs ys)
calls_of_both (Pushed m ∷ xs) ys = calls_of_both xs ys
calls_of_both (Answered run ∷ xs) ys = calls_of_both xs ys

pub Lead-trans : {V : Type 0} (way : Handling V) (x y z : V) (cs ds : List Call) → Lead way x cs y
    → Lead way y ds z → Lead way x (cs ++ ds) z
Lead-trans way x y z [] ds h k = subst (λ u. Lead way u ds z) (sym h) k
Lead-trans way x y z (c ∷ cs) ds h k = (h.0, h.1, Lead-trans way h.0 y z cs ds h.2 k)

pub Makes-nil : {V : Type 0} {way : Way V} (hall : ℕ) (a : Outside way) → Makes hall a a []
Makes-nil hall a = record { calls = refl; pushes = Hands-nil a.handed }

pub Makes-trans : {V : Type 0} {way : Way V} (hall : ℕ) (a b c : Outside way) (xs ys : List Act)
    → Makes hall a b xs → Makes hall b c ys → Makes hall a c (xs ++ ys)
Makes-trans {V} {way} hall a b c xs ys h k = record {
  calls =
      subst (λ z. Lead way.handles a.node z c.node) (sym (calls_of_both xs ys))
      (Lead-trans way.handles a.node b.node c.node (calls_of xs) (calls_of ys) h.calls k.calls);
  pushes =
      subst (λ z. Hands a.handed c.handed z) (sym (pushes_of_both way.wire hall xs ys))
      (Hands-trans a.handed b.handed c.handed (pushes_of way.wire hall xs)
      (pushes_of way.wire hall ys) h.pushes k.pushes);
}

pub makes_then : {V : Type 0} {way : Way V} (hall : ℕ) (xs ys : List Act) (a b c : Outside way)
    → Makes hall a b xs → Makes hall b c ys → Makes hall a c ((xs ++ []) ++ ys)
makes_then hall xs ys a b c h k =
    subst (λ z. Makes hall a c (z ++ ys)) (sym (append-nil xs)) (Makes-trans hall a b c xs ys h k)

-- pushes leave the node as it is
pub Makes-pushes : {V : Type 0} {way : Way V} (hall : ℕ) (a : Outside way) (u : V)
    (b c : Option (List Push)) (acts : List Act) (ms : List Message)
    → Makes hall a (outside_of way u b) acts → Hands b c (map (pushed way.wire hall) ms)
    → Makes hall a (outside_of way u c) (acts ++ map (λ m. Pushed m) ms)
Makes-pushes {V} {way} hall a u b c acts ms h k =
    Makes-trans hall a (outside_of way u b) (outside_of way u c) acts (map (λ m. Pushed m) ms) h
    (record {
      calls = subst (λ z. Lead way.handles u z u) (sym (calls_of_map ms)) refl;
      pushes = subst (λ z. Hands b c z) (sym (pushes_of_map way.wire hall ms)) k;
    })

-- a call hands nothing over
pub Makes-call : {V : Type 0} (way : Way V) (home h : Home) (event : DeskEvent) (fate : Fate)
    (x : Seen) (u v : V) (p : Option (List Push)) → h ≡ home → IsCall way.handles h event fate x u v
    → Makes home.hall (outside_of way u p) (outside_of way v p) (did_call home event fate x ∷ [])
Makes-call way home h event fate x u v p same made = record {
  calls = (v, subst (λ z. IsCall way.handles z event fate x u v) same made, refl);
  pushes = Hands-nil p;
}
