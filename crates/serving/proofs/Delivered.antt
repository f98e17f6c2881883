-- Entries that are delivered one after the other, and the messages of the last one.
use Rattle.std.proofs.Common.{◌≡◌, refl, sym, ap, subst, ◌∙◌, ℕ, ◌+◌, Bool, [], ◌∷◌, ◌++◌, Option}
use Rattle.std.proofs.{Common.true, Common.false, Common.cond, Common.List, lemmas.List.append-nil}
use Rattle.acceptor.specs.declared.{entry.Entry.Entry, message.Message.Message}
use Rattle.store.specs.declared.home.Home.{Home}
use Rattle.serving.specs.{Adding.Push, Nodes.Fate, declared.calls.NodeAnswer.NodeAnswer}
use Rattle.serving.specs.Making.{Way, Outside, outside_of, Makes}
use Rattle.answers.specs.Seen.{Seen}
use Rattle.serving.specs.declared.request.{DecidedRun.DecidedRun, Request.TheVariants.Learned}
use Rattle.serving.specs.model.Calling.{Calls, IsCall, LosesMessages}
use Rattle.serving.specs.model.Reaching.{Place, at, service, Reaches, did_call, OnlyAdds, Does}
use Rattle.serving.{specs.model.Reaching.DoesPart, specs.Serving.push_all, proofs.Said.IsSaid}
use Rattle.serving.specs.Serving.{Act, Service, waits, call, decided, unless_down, learn, learn_all}
use Rattle.serving.proofs.Additions.{adds_both, adds_call, adds_push}
use Rattle.serving.proofs.Makings.{Makes-nil, Makes-call, makes_then}
use Rattle.serving.proofs.Parts.{part_of, part_first, part_both, lost}
use Rattle.serving.proofs.Reached.{stays, goes_on, does_both, calls_once}

-- ---- one entry

-- what is left once an entry was delivered
abbrev pub others : Home → ℕ → ℕ → ℕ → List Entry → Service → Service
others home from to pos es s = unless_down (λ t. learn home from to (pos + 1) es t) s

-- what waits is dropped, and the first entry delivered
pub first_entry : (home : Home) (from to pos : ℕ) (e : Entry) (es : List Entry) (x : Seen)
    (ms : List Message) → Reaches home (learn home from to pos (e ∷ es)) (at x ms)
    (λ s. others home from to pos es (call home (decided from to pos e) s)) (at x []) [] []
unfolding learn
first_entry home from to pos e es x ms = record {
  steps = λ done later.
      ap (λ z. others home from to pos es
      (call home (decided from to pos e) (service (at x []) z later))) (sym (append-nil done));
  calls = λ more later. refl;
}

-- the node is not down, and the others have their turn
pub goes_to_others : (home : Home) (from to pos : ℕ) (es : List Entry) (y : Seen)
    (ms : List Message) → y.is_down ≡ false
    → Reaches home (others home from to pos es) (at y ms) (learn home from to (pos + 1) es)
    (at y ms) [] []
goes_to_others home from to pos es y ms up = record {
  steps = λ done later.
      ap (λ z. cond z (service (at y ms) done later)
      (learn home from to (pos + 1) es (service (at y ms) done later))) up
      ∙ ap (λ z. learn home from to (pos + 1) es (service (at y ms) z later))
      (sym (append-nil done));
  calls = λ more later. refl;
}

-- the node is down, and the others are dropped
pub drops_others : (home : Home) (from to pos : ℕ) (es : List Entry) (y : Seen)
    (ms : List Message) → y.is_down ≡ true
    → Reaches home (others home from to pos es) (at y ms) (λ s. s) (at y ms) [] []
drops_others home from to pos es y ms down = record {
  steps = λ done later.
      ap (λ z. cond z (service (at y ms) done later)
      (learn home from to (pos + 1) es (service (at y ms) done later))) down
      ∙ ap (λ z. service (at y ms) z later) (sym (append-nil done));
  calls = λ more later. refl;
}

-- no entry is left
pub no_entry : (home : Home) (from to pos : ℕ) (es : List Entry) (y : Seen)
    (ms : List Message) → es ≡ []
    → Reaches home (learn home from to pos es) (at y ms) (λ s. s) (at y ms) [] []
unfolding learn
no_entry home from to pos es y ms none = record {
  steps = λ done later.
      ap (λ z. learn home from to pos z (service (at y ms) done later)) none
      ∙ ap (λ z. service (at y ms) z later) (sym (append-nil done));
  calls = λ more later. refl;
}

-- ---- what is done is only added to

adds_if_up : (f : Service → Service) (b : Bool) (s : Service) → OnlyAdds f
    → (more : List Act) × ((cond b s (f s)).done ≡ s.done ++ more)
adds_if_up f true s a = ([], sym (append-nil s.done))
adds_if_up f false s a = a s

pub adds_learn : (home : Home) (from to pos : ℕ) (es : List Entry)
    → OnlyAdds (learn home from to pos es)
unfolding learn
adds_learn home from to pos [] s = ([], sym (append-nil s.done))
adds_learn home from to pos (e ∷ es) s =
    adds_both (call home (decided from to pos e))
    (unless_down (λ t. learn home from to (pos + 1) es t)) (adds_call home (decided from to pos e))
    (λ t. adds_if_up (λ u. learn home from to (pos + 1) es u) t.seen.is_down t
    (adds_learn home from to (pos + 1) es)) (waits [] s)

pub adds_others : (home : Home) (from to pos : ℕ) (es : List Entry)
    → OnlyAdds (others home from to pos es)
adds_others home from to pos es s =
    adds_if_up (λ u. learn home from to (pos + 1) es u) s.seen.is_down s
    (adds_learn home from to (pos + 1) es)

-- ---- the loop over the entries

-- so far what is to be done comes to this
pub record Comes {V : Type 0} {way : Way V} (home : Home) (all : Service → Service)
    (first : Place) (rest : Service → Service) (second : Place) (acts : List Act)
    (past : List Fate) (a b : Outside way) : Type 0 where
  pub reaches : Reaches home all first rest second acts past
  pub made : Makes home.hall a b acts

abbrev pub ComesSo : {V : Type 0} → {way : Way V} → Home → (Service → Service) → Place
    → (Service → Service) → Place → Outside way → Outside way → Type 0
ComesSo home all first rest second a b =
    (acts : List Act) × (past : List Fate) × Comes home all first rest second acts past a b

-- before the first
pub begins : {V : Type 0} {way : Way V} (home : Home) (from to pos : ℕ) (es queue : List Entry)
    (p : Place) (a : Outside way)
    → queue ≡ es → ComesSo home (learn home from to pos es) p (learn home from to pos queue) p a a
begins home from to pos es queue p a is = (
  [],
  [],
  record {
    reaches =
        subst (λ z. Reaches home (learn home from to pos es) p (learn home from to pos z) p [] [])
        (sym is) (stays home (learn home from to pos es) p);
    made = Makes-nil home.hall a;
  },
)

-- one more entry was delivered
pub delivered : {V : Type 0} (way : Way V) (home h : Home) (all : Service → Service)
    (first : Place) (from to pos : ℕ) (e : Entry) (queue es : List Entry) (x y : Seen)
    (ms cleared more : List Message) (answer : NodeAnswer) (a : Outside way) (u v : V)
    (p : Option (List Push)) → h ≡ home → queue ≡ e ∷ es → cleared ≡ []
    → ComesSo home all first (learn home from to pos queue) (at x ms) a (outside_of way u p)
    → (fate : Fate) → Calls h (decided from to pos e) fate x y cleared more answer
    → IsCall way.handles h (decided from to pos e) fate x u v
    → ComesSo home all first (others home from to pos es) (at y more) a (outside_of way v p)
delivered way home h all first from to pos e queue es x y ms cleared more answer a u v p same is
    none so fate c made =
    let event = decided from to pos e in
    let d =
    subst (λ z. Calls home event fate x y z more answer) none
    (subst (λ z. Calls z event fate x y cleared more answer) same c) in
    let before =
    subst (λ z. Reaches home all first (learn home from to pos z) (at x ms) so.0 so.1) is
    so.2.reaches in
    let there =
    goes_on home all (learn home from to pos (e ∷ es))
    (λ s. others home from to pos es (call home event s)) first (at x ms) (at x []) so.0 []
    so.1 [] before (first_entry home from to pos e es x ms) in
    let whole =
    goes_on home all (λ s. others home from to pos es (call home event s))
    (others home from to pos es) first (at x []) (at y more) (so.0 ++ [])
    (did_call home event fate x ∷ []) (so.1 ++ []) (fate ∷ []) there
    (calls_once home (others home from to pos es) event fate x y [] more answer d) in (
      (so.0 ++ []) ++ did_call home event fate x ∷ [],
      (so.1 ++ []) ++ fate ∷ [],
      record {
        reaches = whole;
        made =
            makes_then home.hall so.0 (did_call home event fate x ∷ []) a (outside_of way u p)
            (outside_of way v p) so.2.made (Makes-call way home h event fate x u v p same made);
      },
    )

-- and the next has its turn
pub next_entry : {V : Type 0} {way : Way V} (home : Home) (all : Service → Service)
    (first : Place) (from to pos : ℕ) (es : List Entry) (y : Seen) (ms : List Message)
    (a b : Outside way) → y.is_down ≡ false
    → ComesSo home all first (others home from to pos es) (at y ms) a b
    → ComesSo home all first (learn home from to (pos + 1) es) (at y ms) a b
next_entry home all first from to pos es y ms a b up so = (
  so.0 ++ [],
  so.1 ++ [],
  record {
    reaches =
        goes_on home all (others home from to pos es) (learn home from to (pos + 1) es) first
        (at y ms) (at y ms) so.0 [] so.1 [] so.2.reaches
        (goes_to_others home from to pos es y ms up);
    made = subst (λ z. Makes home.hall a b z) (sym (append-nil so.0)) so.2.made;
  },
)

-- the node is down
pub ends_down : {V : Type 0} {way : Way V} (home : Home) (all : Service → Service)
    (first : Place) (from to pos : ℕ) (es : List Entry) (y : Seen) (ms : List Message)
    (a b : Outside way) → y.is_down ≡ true
    → ComesSo home all first (others home from to pos es) (at y ms) a b
    → Does home all first (at y ms) a b
ends_down home all first from to pos es y ms a b down so = (
  so.0 ++ [],
  so.1 ++ [],
  record {
    reaches =
        goes_on home all (others home from to pos es) (λ s. s) first (at y ms) (at y ms) so.0
        [] so.1 [] so.2.reaches (drops_others home from to pos es y ms down);
    made = subst (λ z. Makes home.hall a b z) (sym (append-nil so.0)) so.2.made;
  },
)

-- all entries were delivered
pub ends_all : {V : Type 0} {way : Way V} (home : Home) (all : Service → Service)
    (first : Place) (from to pos : ℕ) (es : List Entry) (y : Seen) (ms : List Message)
    (a b : Outside way) → es ≡ [] → ComesSo home all first (learn home from to pos es) (at y ms) a b
    → Does home all first (at y ms) a b
ends_all home all first from to pos es y ms a b none so = (
  so.0 ++ [],
  so.1 ++ [],
  record {
    reaches =
        goes_on home all (learn home from to pos es) (λ s. s) first (at y ms) (at y ms) so.0
        [] so.1 [] so.2.reaches (no_entry home from to pos es y ms none);
    made = subst (λ z. Makes home.hall a b z) (sym (append-nil so.0)) so.2.made;
  },
)

-- memory was refused behind a call
pub loses_entry : {V : Type 0} (way : Way V) (home h : Home) (all : Service → Service)
    (first : Place) (from to pos : ℕ) (e : Entry) (queue es : List Entry) (x y : Seen)
    (ms : List Message) (a : Outside way) (u v : V) (p : Option (List Push))
    → h ≡ home → queue ≡ e ∷ es
    → ComesSo home all first (learn home from to pos queue) (at x ms) a (outside_of way u p)
    → (fate : Fate) × LosesMessages h (decided from to pos e) fate x y
    × IsCall way.handles h (decided from to pos e) fate x u v
    → DoesPart home all first y a (outside_of way v p)
loses_entry way home h all first from to pos e queue es x y ms a u v p same is so l =
    let event = decided from to pos e in
    let before =
    subst (λ z. Reaches home all first (learn home from to pos z) (at x ms) so.0 so.1) is
    so.2.reaches in
    let there =
    goes_on home all (learn home from to pos (e ∷ es))
    (λ s. others home from to pos es (call home event s)) first (at x ms) (at x []) so.0 []
    so.1 [] before (first_entry home from to pos e es x ms) in
    part_of home all (λ s. others home from to pos es (call home event s))
    (others home from to pos es) first (at x []) _ (so.0 ++ [])
    (did_call home event l.0 x ∷ []) (so.1 ++ []) (l.0 ∷ []) y a (outside_of way v p) there
    (lost home (others home from to pos es) event l.0 x y []
    (subst (λ z. LosesMessages z event l.0 x y) same l.1)) (adds_others home from to pos es) refl
    (makes_then home.hall so.0 (did_call home event l.0 x ∷ []) a (outside_of way u p)
    (outside_of way v p) so.2.made (Makes-call way home h event l.0 x u v p same l.2))

-- ---- the messages of the last one

-- what is delivered and pushed, from an empty list to an empty list
pub pushes_then : {V : Type 0} {way : Way V} (home : Home) (f : Service → Service)
    (x y z : Seen) (empty ms rest : List Message) (a b c : Outside way)
    → empty ≡ [] → rest ≡ [] → Does home f (at x empty) (at y ms) a b
    → Does home push_all (at y ms) (at z rest) b c
    → Does home (λ s. push_all (f s)) (at x []) (at z []) a c
pushes_then home f x y z empty ms rest a b c none all d e =
    does_both home f push_all (at x []) (at y ms) (at z []) a b c
    (subst (λ u. Does home f (at x u) (at y ms) a b) none d)
    (subst (λ u. Does home push_all (at y ms) (at z u) b c) all e)

pub pushes_part : {V : Type 0} {way : Way V} (home : Home) (f : Service → Service)
    (x y shown : Seen) (empty ms : List Message) (a b c : Outside way)
    → empty ≡ [] → Does home f (at x empty) (at y ms) a b
    → DoesPart home push_all (at y ms) shown b c
    → DoesPart home (λ s. push_all (f s)) (at x []) shown a c
pushes_part home f x y shown empty ms a b c none d e =
    let all = subst (λ u. Does home f (at x u) (at y ms) a b) none d in
    part_both home f push_all (at x []) (at y ms) all.0 all.1 shown a b c all.2 e

pub delivers_part : {V : Type 0} {way : Way V} (home : Home) (f : Service → Service)
    (x shown : Seen) (empty : List Message) (a b : Outside way)
    → empty ≡ [] → DoesPart home f (at x empty) shown a b
    → DoesPart home (λ s. push_all (f s)) (at x []) shown a b
delivers_part home f x shown empty a b none d =
    part_first home f push_all (at x []) shown a b adds_push
    (subst (λ u. DoesPart home f (at x u) shown a b) none d)

-- what was learned is said so
abbrev pub learned_pushed : Home → DecidedRun → Service → Service
learned_pushed home run s = push_all (learn home run.from run.to run.pos run.entries s)

pub learned_so : (home : Home) (run : DecidedRun) (x : Seen) → IsSaid home (learned_pushed home run)
    (Learned run) x
unfolding learn_all
learned_so home run x = record { served_so = λ fates. refl; silent = λ fates. refl }
