-- A run of entries: what is gathered, the frame that it is, and what comes of it.
use Rattle.std.proofs.Common.{◌≡◌, refl, sym, ap, subst, ◌∙◌, ℕ, suc, ◌+◌, ◌≤◌, ◌<◌, Bool, true}
use Rattle.std.proofs.Common.{false, cond, eqb, List, [], ◌∷◌, ◌++◌, length, Option, None, Some}
use Rattle.std.proofs.Common.{append_assoc, arith}
use Rattle.std.proofs.lemmas.{Bool.eqb-true, Bool.ltb-true, List.append-nil}
use Rattle.acceptor.specs.declared.{entry.Entry.Entry, message.Body.Body, message.Message.Message}
use Rattle.learner.specs.Ranges.{AreInRange, IsInRange}
use Rattle.learner.specs.{Steps.is_in_range, declared.event.DeskEvent.TheVariants.Deliver}
use Rattle.store.specs.declared.home.Home.{Home}
use Rattle.serving.specs.{Adding.Push, Adding.Hands, Nodes.Fate, Serving.tell, Telling.run_pushed}
use Rattle.serving.specs.Making.{Way, Outside, outside_of, Makes}
use Rattle.answers.specs.Seen.{Seen}
use Rattle.serving.specs.Serving.{Act, Answered, Service, call, push_all, hand_out, answer_out}
use Rattle.serving.specs.Telling.{with_entry, decided_at, entry_told, entries_told, run_of}
use Rattle.serving.{specs.declared.calls.NodeAnswer.NodeAnswer, proofs.Makings.Makes-trans}
use Rattle.serving.specs.declared.request.{DecidedRun.DecidedRun, Request.TheVariants.Lagging}
use Rattle.serving.specs.model.Calling.{Calls, IsCall, LosesMessages}
use Rattle.serving.specs.model.Gathering.{Gathers, IsRun}
use Rattle.serving.specs.model.Reaching.{at, service, Reaches, did_call, OnlyAdds, Does, DoesPart}
use Rattle.serving.proofs.{Additions.adds_push, Parts.part_of, Parts.lost, Said.IsSaid}
use Rattle.serving.proofs.{Makings.Makes-call, Reached.stays, Reached.goes_on, Reached.calls_once}
use Rattle.acceptor.specs.declared.message.Body.TheVariants as body

-- ---- what is gathered

pub gathers_none : (to pos : ℕ) (ms : List Message) (es : List Entry) → ms ≡ []
    → Gathers true es es (entries_told to pos ms)
unfolding entries_told
gathers_none to pos ms es none =
    ([], ap (λ z. entries_told to pos z) none, sym (append-nil es))

pub gathers_not : (to pos : ℕ) (ms rest : List Message) (m : Message) (old new : List Entry)
    → ms ≡ m ∷ rest → entry_told to pos m ≡ None → Gathers false old new (entries_told to pos ms)
unfolding entries_told
gathers_not to pos ms rest m old new is none = rw (is, none) refl

pub gathers_more : (all : Bool) (to pos : ℕ) (ms rest : List Message) (m : Message) (e : Entry)
    (old mid new : List Entry) → ms ≡ m ∷ rest → entry_told to pos m ≡ Some e → mid ≡ old ++ e ∷ []
    → Gathers all mid new (entries_told to (pos + 1) rest)
    → Gathers all old new (entries_told to pos ms)
unfolding entries_told
gathers_more true to pos ms rest m e old mid new is told more h = (
  e ∷ h.0,
  rw (is, told, h.1) refl,
  h.2 ∙ ap (λ z. z ++ h.0) more ∙ append_assoc old (e ∷ []) h.0,
)
gathers_more false to pos ms rest m e old mid new is told more h = rw (is, told, h) refl

-- all were gathered, behind none
pub gathered : (all : Bool) (old new : List Entry) (told : Option (List Entry)) → all ≡ true
    → old ≡ [] → Gathers all old new told → told ≡ Some new
gathered true old new told is none h =
    h.1 ∙ ap (λ z. Some z) (sym (h.2 ∙ ap (λ z. z ++ h.0) none))
gathered false old new told is none h = absurd cc

-- there is none
pub none_of : {A : Type 0} (o : Option A) → ((a : A) → o ≡ Some a → ⊥) → o ≡ None
none_of None other = refl
none_of (Some a) other = absurd (other a refl)

-- ---- the range of a run

decided_low : (n pos : ℕ) (b : Body) (e : Entry) → is_in_range n b ≡ true
    → decided_at pos b ≡ Some e → pos < 65536
decided_low n pos (body.Decided p x) e h k = go (eqb p pos) refl k where
  go : (t : Bool) → eqb p pos ≡ t → cond t (Some x) None ≡ Some e → pos < 65536
  go true same k = subst (λ z. z < 65536) (eqb-true _ _ same) (ltb-true _ _ h)
  go false same k = absurd cc
decided_low n pos _ e h k = absurd cc

told_low : (n to pos : ℕ) (m : Message) (e : Entry) → IsInRange n m → entry_told to pos m ≡ Some e
    → pos < 65536
told_low n to pos m e h k = go (eqb m.to to) k where
  go : (t : Bool) → cond t (decided_at pos m.body) None ≡ Some e → pos < 65536
  go true k = decided_low n pos m.body e h.body k
  go false k = absurd cc

-- the parts of what was told
told_parts : (to pos : ℕ) (m : Message) (ms : List Message) (es : List Entry)
    → entries_told to pos (m ∷ ms) ≡ Some es
    → (e : Entry) × (rest : List Entry) × (entry_told to pos m ≡ Some e)
    × (entries_told to (pos + 1) ms ≡ Some rest) × (es ≡ e ∷ rest)
unfolding entries_told
told_parts to pos m ms es h = go (entry_told to pos m) (entries_told to (pos + 1) ms) refl refl h
  where
    go : (a : Option Entry) (b : Option (List Entry)) → entry_told to pos m ≡ a
        → entries_told to (pos + 1) ms ≡ b → with_entry a b ≡ Some es
        → (e : Entry) × (rest : List Entry) × (entry_told to pos m ≡ Some e)
        × (entries_told to (pos + 1) ms ≡ Some rest) × (es ≡ e ∷ rest)
    go None b p q k = absurd cc
    go (Some e) None p q k = absurd cc
    go (Some e) (Some rest) p q k = let same : e ∷ rest ≡ es = cc in (e, rest, p, q, sym same)

told_length : (to pos : ℕ) (ms : List Message) (es : List Entry) → entries_told to pos ms ≡ Some es
    → length es ≡ length ms
unfolding entries_told
told_length to pos [] es h = let none : [] ≡ es = cc in ap (λ z. length z) (sym none)
told_length to pos (m ∷ ms) es h =
    let t = told_parts to pos m ms es h in
    ap (λ z. length z) t.4 ∙ ap (λ k. suc k) (told_length to (pos + 1) ms t.1 t.3)

told_last : (n d to pos : ℕ) (m : Message) (ms : List Message) (es : List Entry)
    → AreInRange n d (m ∷ ms) → entries_told to pos (m ∷ ms) ≡ Some es
    → pos + length (m ∷ ms) ≤ 65536
told_last n d to pos m [] es range h =
    let t = told_parts to pos m [] es h in
    let low = told_low n to pos m t.0 range.0.1 t.2 in
    omega (arith, low)
told_last n d to pos m (k ∷ ms) es range h =
    let t = told_parts to pos m (k ∷ ms) es h in
    let later = told_last n d to (pos + 1) k ms t.1 range.1 t.3 in
    omega (arith, later)

pub run_in_range : (n d pos : ℕ) (m : Message) (rest all : List Message) (es : List Entry)
    → all ≡ m ∷ rest → AreInRange n d all → length all ≤ 16 → entries_told m.to pos all ≡ Some es
    → IsRun n (record { from = m.from; to = m.to; pos = pos; entries = es })
run_in_range n d pos m rest all es is range few told =
    let r : AreInRange n d (m ∷ rest) = subst (λ z. AreInRange n d z) is range in
    let t = subst (λ z. entries_told m.to pos z ≡ Some es) is told in
    let len : length es ≡ length (m ∷ rest) = told_length m.to pos (m ∷ rest) es t in
    let most : length (m ∷ rest) ≤ 16 = subst (λ (z : List Message). length z ≤ 16) is few in
    let last = told_last n d m.to pos m rest es r t in
    record {
      from = r.0.1.from;
      to = r.0.1.to;
      some = omega (arith, len);
      few = omega (arith, len, most);
      places = omega (arith, len, last);
    }

-- ---- the frame of a run

-- ---- what comes of it

abbrev pub told_first : Home → Message → Service → Service
told_first home m s = answer_out home (call home (Deliver m) s)

pub told_so : (home : Home) (m : Message) (x : Seen) → IsSaid home (told_first home m) (Lagging m) x
unfolding tell
told_so home m x = record { served_so = λ fates. refl; silent = λ fates. refl }

adds_out : (r : Option DecidedRun) (s : Service)
    → (more : List Act) × ((hand_out r s).done ≡ s.done ++ more)
adds_out None s = adds_push s
adds_out (Some run) s = (Answered run ∷ [], refl)

adds_answer : (home : Home) → OnlyAdds (answer_out home)
unfolding answer_out
adds_answer home s = adds_out (run_of home.desk s.waiting) s

-- a run goes out
runs_out : (home : Home) (y : Seen) (ms rest : List Message) (run : DecidedRun)
    → run_of home.desk ms ≡ Some run → rest ≡ []
    → Reaches home (answer_out home) (at y ms) (λ s. s) (at y []) (Answered run ∷ []) []
unfolding answer_out
runs_out home y ms rest run is none = record {
  steps = λ done later. ap (λ z. hand_out z (service (at y ms) done later)) is;
  calls = λ more later. refl;
}

-- there is no run
no_run : (home : Home) (y : Seen) (ms : List Message) → run_of home.desk ms ≡ None
    → Reaches home (answer_out home) (at y ms) push_all (at y ms) [] []
unfolding answer_out
no_run home y ms is = record {
  steps = λ done later.
      ap (λ z. hand_out z (service (at y ms) done later)) is
      ∙ ap (λ z. push_all (service (at y ms) z later)) (sym (append-nil done));
  calls = λ more later. refl;
}

-- the call, behind an empty list
told_call : (home h : Home) (m : Message) (fate : Fate) (x y : Seen) (empty more : List Message)
    (answer : NodeAnswer) → h ≡ home → empty ≡ [] → Calls h (Deliver m) fate x y empty more answer
    → Reaches home (told_first home m) (at x []) (answer_out home) (at y more)
    (did_call home (Deliver m) fate x ∷ []) (fate ∷ [])
told_call home h m fate x y empty more answer same none c =
    calls_once home (answer_out home) (Deliver m) fate x y [] more answer
    (subst (λ z. Calls home (Deliver m) fate x y z more answer) none
    (subst (λ z. Calls z (Deliver m) fate x y empty more answer) same c))

-- pushing a run
makes_run : {V : Type 0} {way : Way V} (hall : ℕ) (u : V) (b c : Option (List Push))
    (run : DecidedRun) → Hands b c (run_pushed way.wire hall run ∷ [])
    → Makes hall (outside_of way u b) (outside_of way u c) (Answered run ∷ [])
makes_run hall u b c run h = record { calls = refl; pushes = h }

pub tells_run : {V : Type 0} (way : Way V) (home h : Home) (m : Message) (x y : Seen)
    (empty more messages : List Message) (answer : NodeAnswer) (run : DecidedRun) (u v : V)
    (p q : Option (List Push))
    → h ≡ home → empty ≡ [] → messages ≡ more → Some run ≡ run_of home.desk messages
    → (fate : Fate) → Calls h (Deliver m) fate x y empty more answer
    → IsCall way.handles h (Deliver m) fate x u v
    → Hands p q (run_pushed way.wire home.hall run ∷ [])
    → Does home (told_first home m) (at x []) (at y []) (outside_of way u p) (outside_of way v q)
tells_run way home h m x y empty more messages answer run u v p q same none is found fate c made
    handed = (
      did_call home (Deliver m) fate x ∷ Answered run ∷ [],
      fate ∷ [],
      record {
        reaches =
            goes_on home (told_first home m) (answer_out home) (λ s. s) (at x []) (at y more)
            (at y []) (did_call home (Deliver m) fate x ∷ []) (Answered run ∷ []) (fate ∷ []) []
            (told_call home h m fate x y empty more answer same none c) (runs_out home y more [] run
            (sym (found ∙ ap (λ z. run_of home.desk z) is)) refl);
        made =
            Makes-trans home.hall (outside_of way u p) (outside_of way v p) (outside_of way v q)
            (did_call home (Deliver m) fate x ∷ []) (Answered run ∷ [])
            (Makes-call way home h (Deliver m) fate x u v p same made)
            (makes_run home.hall v p q run handed);
      },
    )

pub tells_others : {V : Type 0} (way : Way V) (home h : Home) (m : Message) (x y z : Seen)
    (empty more messages queue rest : List Message) (answer : NodeAnswer) (u v : V)
    (p : Option (List Push)) (b : Outside way)
    → h ≡ home → empty ≡ [] → messages ≡ more → queue ≡ messages → rest ≡ []
    → None ≡ run_of home.desk messages
    → (fate : Fate) → Calls h (Deliver m) fate x y empty more answer
    → IsCall way.handles h (Deliver m) fate x u v
    → Does home push_all (at y queue) (at z rest) (outside_of way v p) b
    → Does home (told_first home m) (at x []) (at z []) (outside_of way u p) b
tells_others way home h m x y z empty more messages queue rest answer u v p b same none kept lined
    all found fate c made d =
    let e =
    subst (λ w. Does home push_all (at y more) (at z w) (outside_of way v p) b)
    all
    (subst (λ w. Does home push_all (at y w) (at z rest) (outside_of way v p) b)
    (lined ∙ kept) d) in (
      (did_call home (Deliver m) fate x ∷ []) ++ ([] ++ e.0),
      (fate ∷ []) ++ ([] ++ e.1),
      record {
        reaches =
            goes_on home (told_first home m) (answer_out home) (λ s. s) (at x [])
            (at y more) (at z []) (did_call home (Deliver m) fate x ∷ []) ([] ++ e.0)
            (fate ∷ []) ([] ++ e.1) (told_call home h m fate x y empty more answer same none c)
            (goes_on home (answer_out home) push_all (λ s. s) (at y more)
            (at y more) (at z []) [] e.0 [] e.1
            (no_run home y more (sym (found ∙ ap (λ w. run_of home.desk w) kept))) e.2.reaches);
        made =
            Makes-trans home.hall (outside_of way u p) (outside_of way v p) b
            (did_call home (Deliver m) fate x ∷ []) e.0
            (Makes-call way home h (Deliver m) fate x u v p same made) e.2.made;
      },
    )

-- memory was refused in the call
pub tells_lost : {V : Type 0} (way : Way V) (home h : Home) (m : Message) (x y : Seen)
    (u v : V) (p : Option (List Push)) → h ≡ home
    → (fate : Fate) × LosesMessages h (Deliver m) fate x y
    × IsCall way.handles h (Deliver m) fate x u v
    → DoesPart home (told_first home m) (at x []) y (outside_of way u p) (outside_of way v p)
tells_lost way home h m x y u v p same l =
    part_of home (told_first home m) (told_first home m) (answer_out home) (at x [])
    (at x []) _ [] (did_call home (Deliver m) l.0 x ∷ []) [] (l.0 ∷ []) y (outside_of way u p)
    (outside_of way v p) (stays home (told_first home m) (at x []))
    (lost home (answer_out home) (Deliver m) l.0 x y []
    (subst (λ z. LosesMessages z (Deliver m) l.0 x y) same l.1))
    (adds_answer home) refl (Makes-call way home h (Deliver m) l.0 x u v p same l.2)

-- memory was refused for the run
pub tells_no_run : {V : Type 0} (way : Way V) (home h : Home) (m : Message) (x y : Seen)
    (empty more : List Message) (answer : NodeAnswer) (u v : V) (p : Option (List Push))
    → h ≡ home → empty ≡ [] → (fate : Fate) → Calls h (Deliver m) fate x y empty more answer
    → IsCall way.handles h (Deliver m) fate x u v
    → DoesPart home (told_first home m) (at x []) y (outside_of way u p) (outside_of way v p)
tells_no_run way home h m x y empty more answer u v p same none fate c made =
    part_of home (told_first home m) (told_first home m) (answer_out home) (at x [])
    (at x []) (at y more) [] (did_call home (Deliver m) fate x ∷ []) [] (fate ∷ []) y
    (outside_of way u p) (outside_of way v p) (stays home (told_first home m) (at x []))
    (told_call home h m fate x y empty more answer same none c)
    (adds_answer home) refl (Makes-call way home h (Deliver m) fate x u v p same made)

-- memory was refused in what comes of it
pub tells_part : {V : Type 0} (way : Way V) (home h : Home) (m : Message) (x y shown : Seen)
    (empty more messages queue : List Message) (answer : NodeAnswer) (u v : V)
    (p : Option (List Push)) (b : Outside way)
    → h ≡ home → empty ≡ [] → messages ≡ more → queue ≡ messages → None ≡ run_of home.desk messages
    → (fate : Fate) → Calls h (Deliver m) fate x y empty more answer
    → IsCall way.handles h (Deliver m) fate x u v
    → DoesPart home push_all (at y queue) shown (outside_of way v p) b
    → DoesPart home (told_first home m) (at x []) shown (outside_of way u p) b
tells_part way home h m x y shown empty more messages queue answer u v p b same none kept lined
    found fate c made d =
    let e =
    subst (λ w. DoesPart home push_all (at y w) shown (outside_of way v p) b)
    (lined ∙ kept) d in
    part_of home (told_first home m) push_all e.2 (at x []) (at y more) e.3
    ((did_call home (Deliver m) fate x ∷ []) ++ []) e.0 ((fate ∷ []) ++ []) e.1 shown
    (outside_of way u p) b
    (goes_on home (told_first home m) (answer_out home) push_all (at x [])
    (at y more) (at y more) (did_call home (Deliver m) fate x ∷ []) [] (fate ∷ []) []
    (told_call home h m fate x y empty more answer same none c)
    (no_run home y more (sym (found ∙ ap (λ w. run_of home.desk w) kept))))
    e.4.reaches e.4.adds e.4.last
    (Makes-trans home.hall (outside_of way u p) (outside_of way v p) b
    (did_call home (Deliver m) fate x ∷ []) e.0
    (Makes-call way home h (Deliver m) fate x u v p same made) e.4.made)
