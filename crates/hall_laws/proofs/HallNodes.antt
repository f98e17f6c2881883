-- The nodes of several desks, in one world: what a step of one of them comes to.
use Rattle.std.proofs.Common.{◌≡◌, ◌≢◌, ◌⊎◌, inl, inr, refl, sym, ap, subst, ◌∙◌, ℕ, Bool, true}
use Rattle.std.proofs.Common.{false, if◌then◌else◌, eqb, List, [], ◌∷◌, ◌++◌}
use Rattle.std.proofs.lemmas.{Bool.eqb-true, Bool.eqb-false, Bool.ne_eqb, List.append-nil}
use Rattle.acceptor.specs.declared.{entry.Entry.Entry, message.Message.Message}
use Rattle.learner.specs.{Desks.Desk, Ranges.AreInRange, Steps.IsDesk, Steps.step}
use Rattle.learner.specs.Worlds.{World, new_world, put}
use Rattle.replica.specs.{Handles.Handles, Nodes.NodeValue, Opens.Opens, Settles.Settles}
use Rattle.replica.specs.Stores.{HoldsDesk, HoldsStep}
use Rattle.serving.specs.{Making.Call, Making.Lead, Making.calls_of, Serving.Act}
use Rattle.store.specs.declared.keeper.Keeper.{Ghosts}
use Rattle.hall_laws.specs.HallRuns.{AreWorld, IsFirstNode, IsSameStore, IsTakenIn, Nodes, OnlyNode}
use Rattle.hall_laws.specs.HallRuns.{StopsInSave}
use Rattle.hall_laws.proofs.Calls.{same_world}
use Rattle.hall_laws.specs.Served.{AreSentTo, StandsFor, all_handed_out}
use Rattle.hall_laws.specs.Stops.{CallsAreHappenings, Happening, real_run, with_desk}
use Rattle.hall_laws.proofs.HallDesks.{Kept, Reopens, calls_named, home_after, kept_calls}
use Rattle.hall_laws.proofs.HallDesks.{kept_more, reopens, stops_in}
use Rattle.hall_laws.proofs.OwnMessages.{calls_both, front_sent, sent_later}
use Rattle.hall_laws.proofs.Running.{CallsCome, HasSubmit, calls_come, run_both, stands_by}
use Rattle.hall_laws.proofs.Running.{submit_in, with_both}

-- ---- one of many

-- what holds at this place, and of what is the same at the others, holds at each
pub each_of : {X : Type 0} (d : ℕ) (f g : ℕ → X) → ((j : ℕ) → j ≢ d → g j ≡ f j)
    → (P : ℕ → X → Type 0) → P d (g d) → (j : ℕ) → (j ≢ d → P j (f j)) → P j (g j)
each_of {X} d f g others P here j there = go (eqb j d) refl
  where
    go : (t : Bool) → eqb j d ≡ t → P j (g j)
    go true is = subst (λ i. P i (g i)) (sym (eqb-true j d is)) here
    go false is =
        let other = eqb-false j d is in
        subst (λ (x : X). P j x) (sym (others j other)) (there other)

pub put_other : (desks : ℕ → Desk) (d j : ℕ) (x : Desk) → j ≢ d → put desks d x j ≡ desks j
put_other desks d j x other =
    ap (λ (t : Bool). if t then x else desks j) (ne_eqb d j (λ z. other (sym z)))

-- ---- nodes and their world

-- the node knows what the world's desk knows; its store holds that, or what a failed save left
pub record NodeMatches {K : Type 0} (k : Ghosts K) (n d : ℕ) (w : World)
    (x : NodeValue K) : Type 0 where
  pub stands : StandsFor k n d w x
  pub kept : Kept k n d w.sent x

pub record NodesMatch {K : Type 0} (k : Ghosts K) (n : ℕ) (a : Nodes K) (w : World) : Type 0 where
  pub here : (d : ℕ) → IsDesk n d → NodeMatches k n d w (a.node d)
  pub sent : a.sent ≡ w.sent

pub in_world : {K : Type 0} (k : Ghosts K) (n : ℕ) (a : Nodes K) (w : World) → NodesMatch k n a w
    → AreWorld n a w
in_world k n a w m = record { desks = λ d ours. (m.here d ours).stands.known; sent = m.sent }

-- so it is of nodes that were opened over empty stores, before anything happens
pub first_match : {K : Type 0} (k : Ghosts K) (n : ℕ) (a : Nodes K)
    → ((d : ℕ) → IsDesk n d → IsFirstNode k n d (a.node d)) → a.sent ≡ []
    → NodesMatch k n a new_world
first_match k n a are unsent = record {
  here = λ d ours.
      let is = are d ours in
      record {
        stands = record { ours = ours; desks = is.desks; desk = is.desk; known = is.first };
        kept =
            inl (subst (λ u. HoldsDesk k (a.node d).keeper u) (sym is.first) is.stored);
      };
  sent = unsent;
}

-- another desk, where desk d is as y and more was sent
other_matches : {K : Type 0} (k : Ghosts K) (n d j : ℕ) (w : World) (y : Desk)
    (ms : List Message) (x : NodeValue K)
    → j ≢ d → NodeMatches k n j w x → NodeMatches k n j (with_desk w d y ms) x
other_matches k n d j w y ms x other m =
    search (
      m.stands.ours,
      m.stands.desks,
      m.stands.desk,
      m.stands.known ∙ sym
          (put_other w.desks d j y other),
      kept_more k n j w.sent ms x m.kept,
    )

-- what calls of desk d of n hand out is named so
named_here : {K : Type 0} (k : Ghosts K) (n d : ℕ) (w : World) (calls : List Call)
    (x y : NodeValue K)
    → StandsFor k n d w x → Lead (Handles k) x calls y → AreInRange n d (all_handed_out calls)
named_here k n d w calls x y stands lead =
    subst (λ a. AreInRange a d (all_handed_out calls)) stands.desks
    (subst (λ a. AreInRange (k.home_of x.keeper).desks a (all_handed_out calls)) stands.desk
    (calls_named k calls x y lead))

-- it stopped while it saved in the call that came next, and is opened again
saved_in : {K : Type 0} (k : Ghosts K) (n d : ℕ) (w : World) (z : NodeValue K) (keeper : K)
    (rest : List Act) (y : NodeValue K)
    → StandsFor k n d w z → AreSentTo d w.sent (calls_of rest) → StopsInSave k z keeper rest
    → Opens k keeper y → k.is_honest y.keeper → Reopens n d w y
saved_in k n d w z keeper rest y stands sent stop opens honest =
    let next = stop.next in
    let was : AreSentTo d w.sent (next ∷ stop.later) =
    subst (λ u. AreSentTo d w.sent u) stop.calls sent in
    stops_in k n d w next.event z.desk keeper y
    (record {
      ours = stands.ours;
      desks = ap (λ u. u.desks) (opens.home ∙ stop.home) ∙ stands.desks;
      desk = ap (λ u. u.desk) (opens.home ∙ stop.home) ∙ stands.desk;
      known = stands.known;
    }) was.0 (subst (λ u. HoldsStep k keeper z.desk (step u d z.desk next.event)) stands.desks
    (subst (λ u. HoldsStep k keeper z.desk (step (k.home_of z.keeper).desks u z.desk next.event))
    stands.desk stop.left)) (opens.loaded honest) (opens.honest honest) opens.first

-- ---- what a step comes to

-- happenings, which submit only what is taken in these acts of desk d
pub record NodesCome {K : Type 0} (k : Ghosts K) (n d : ℕ) (acts : List Act) (b : Nodes K)
    (w : World) : Type 0 where
  pub hs : List Happening
  pub matches : NodesMatch k n b (real_run n w hs)
  pub taken : (e : Entry) → HasSubmit e hs → IsTakenIn e (calls_of acts)
  pub named : AreInRange n d (all_handed_out (calls_of acts))

module _ {K : Type 0} (k : Ghosts K) (n d : ℕ) (a b : Nodes K) (w : World)
    (m : NodesMatch k n a w) (ours : IsDesk n d) where
  -- where only desk d has changed, and it is as these happenings have it
  comes : (acts : List Act) (hs : List Happening)
      → OnlyNode d acts a b
      → NodeMatches k n d (with_desk w d (b.node d).desk (all_handed_out (calls_of acts)))
      (b.node d) → with_desk w d (b.node d).desk (all_handed_out (calls_of acts)) ≡ real_run n w hs
      → ((e : Entry) → HasSubmit e hs → IsTakenIn e (calls_of acts))
      → AreInRange n d (all_handed_out (calls_of acts)) → NodesCome k n d acts b w
  comes acts hs only own is taken named = record {
    hs = hs;
    matches =
        subst (λ (v : World). NodesMatch k n b v) is
        (record {
          here = λ j mine.
              each_of d a.node b.node only.others (λ i x. NodeMatches k n i v x) own j (λ other.
              other_matches k n d j w (b.node d).desk ms (a.node j) other (m.here j mine));
          sent = only.sent ∙ ap (λ z. z ++ ms) m.sent;
        });
    taken = taken;
    named = named;
  }
    where
      ms : List Message
      ms = all_handed_out (calls_of acts)

      v : World
      v = with_desk w d (b.node d).desk ms

  -- its calls
  pub calls_step : CallsAreHappenings k → (acts : List Act)
      → OnlyNode d acts a b → AreSentTo d a.sent (calls_of acts)
      → Lead (Handles k) (a.node d) (calls_of acts) (b.node d) → NodesCome k n d acts b w
  calls_step law acts only sent lead =
      let calls = calls_of acts in
      let x = a.node d in
      let y = b.node d in
      let own = m.here d ours in
      let were : AreSentTo d w.sent (calls_of acts) =
      subst (λ z. AreSentTo d z (calls_of acts)) m.sent sent in
      let come = calls_come k law n d w calls x y own.stands were lead in
      comes acts come.0 only
      (record {
        stands =
            stands_by k n d w x y (all_handed_out calls) own.stands (home_after k calls x y lead);
        kept = kept_calls k n d w calls x y own.stands were lead own.kept;
      }) come.1 come.2 (named_here k n d w calls x y own.stands lead)

  -- a settling
  pub settling_step : OnlyNode d [] a b → Settles k (a.node d) true (b.node d)
      → NodesCome k n d [] b w
  settling_step only settles =
      let own = m.here d ours in
      comes [] [] only
      (record {
        stands = stands_by k n d w (a.node d) (b.node d) [] own.stands settles.home;
        kept = inl (settles.stored settles.down);
      }) (same_world w d (b.node d).desk (settles.desk ∙ own.stands.known)) (λ e has. absurd has) tt

  -- an opening
  pub opening_step : (keeper : K) → OnlyNode d [] a b
      → IsSameStore k (a.node d).keeper keeper (b.node d).desk → Opens k keeper (b.node d)
      → k.is_honest (b.node d).keeper → NodesCome k n d [] b w
  opening_step keeper only same opens honest =
      let own = m.here d ours in
      let again =
      reopens k n d w (a.node d) keeper (b.node d) own.stands own.kept same opens honest in
      comes [] again.0 only
      (record {
        stands = stands_by k n d w (a.node d) (b.node d) [] own.stands (opens.home ∙ same.home);
        kept = inl opens.stored;
      }) again.1 (λ e has. absurd (again.2 e has)) tt

  -- it stopped after a front part of these acts, and is opened again
  pub cut_step : CallsAreHappenings k → (all acts rest : List Act) (z : NodeValue K) (keeper : K)
      → OnlyNode d acts a b → all ≡ acts ++ rest → AreSentTo d a.sent (calls_of all)
      → Lead (Handles k) (a.node d) (calls_of acts) z
      → IsSameStore k z.keeper keeper (b.node d).desk ⊎ StopsInSave k z keeper rest
      → Opens k keeper (b.node d) → k.is_honest (b.node d).keeper → NodesCome k n d acts b w
  cut_step law all acts rest z keeper only parts all_sent lead store opens honest =
      comes acts (come.0 ++ again.0) only
      (record {
        stands = stands_by k n d w x y ms own.stands (opens.home ∙ home_by store ∙ home);
        kept = inl opens.stored;
      }) whole taken (named_here k n d w (calls_of acts) x z own.stands lead)
    where
      x : NodeValue K
      x = a.node d

      y : NodeValue K
      y = b.node d

      ms : List Message
      ms = all_handed_out (calls_of acts)

      own : NodeMatches k n d w x
      own = m.here d ours

      were : AreSentTo d w.sent (calls_of all)
      were = subst (λ u. AreSentTo d u (calls_of all)) m.sent all_sent

      sent : AreSentTo d w.sent (calls_of acts)
      sent = front_sent d w.sent all acts rest parts were

      rest_sent : AreSentTo d (w.sent ++ ms) (calls_of rest)
      rest_sent =
          sent_later d w.sent (calls_of acts) (calls_of rest)
          (subst (λ u. AreSentTo d w.sent u) (ap (λ u. calls_of u) parts ∙ calls_both acts rest)
          were)

      come : CallsCome n d w (calls_of acts) z
      come = calls_come k law n d w (calls_of acts) x z own.stands sent lead

      between : World
      between = with_desk w d z.desk ms

      home : k.home_of z.keeper ≡ k.home_of x.keeper
      home = home_after k (calls_of acts) x z lead

      stands : StandsFor k n d between z
      stands = stands_by k n d w x z ms own.stands home

      by_store : IsSameStore k z.keeper keeper y.desk ⊎ StopsInSave k z keeper rest
          → Reopens n d between y
      by_store (inl same) =
          reopens k n d between z keeper y stands
          (kept_calls k n d w (calls_of acts) x z own.stands sent lead own.kept) same opens honest
      by_store (inr stop) =
          saved_in k n d between z keeper rest y stands rest_sent stop opens honest

      home_by : IsSameStore k z.keeper keeper y.desk ⊎ StopsInSave k z keeper rest
          → k.home_of keeper ≡ k.home_of z.keeper
      home_by (inl same) = same.home
      home_by (inr stop) = stop.home

      again : Reopens n d between y
      again = by_store store

      whole : with_desk w d y.desk ms ≡ real_run n w (come.0 ++ again.0)
      whole =
          ap (λ u. with_desk w d y.desk u) (sym (append-nil ms))
          ∙ with_both w d z.desk y.desk ms [] ∙ again.1
          ∙ ap (λ v. real_run n v again.0) come.1 ∙ sym (run_both n w come.0 again.0)

      taken : (e : Entry) → HasSubmit e (come.0 ++ again.0) → IsTakenIn e (calls_of acts)
      taken e has = go (submit_in e come.0 again.0 has)
        where
          go : HasSubmit e come.0 ⊎ HasSubmit e again.0 → IsTakenIn e (calls_of acts)
          go (inl first) = come.2 e first
          go (inr later) = absurd (again.2 e later)
