-- What a desk does while it serves clients by the loop.
use Rattle.std.proofs.Common.{◌≡◌, refl, sym, ap, subst, ◌∙◌, ℕ, ◌==◌, ◌&&◌, if◌then◌else◌, Bool}
use Rattle.std.proofs.Common.{true, false, List, [], ◌∷◌, ◌++◌, Option, None, Some, arith}
use Rattle.std.proofs.lemmas.{Bool.Decides.nat_tests, List.append-nil}
use Rattle.answers.specs.declared.desk.Desk.{Ghosts as DeskOf}
use Rattle.connections.specs.Connections.{Point}
use Rattle.multiplex.specs.EachClient.{AreDoneInTurn, Deed, Frame, OwnTick, sides_at, Settling}
use Rattle.multiplex.{specs.Passing.TicksBy, specs.Passing.point_in, proofs.Following.each_client}
use Rattle.replica.specs.{Handles.Handles, Settles.Settles, Nodes.NodeValue}
use Rattle.serving.specs.{Asking.strange, Connection.Begun, Nodes.Fate, Serving.Act, Turns.LeavesAt}
use Rattle.serving.specs.{Connection.Sides, declared.ends.ConnectionEnd.ConnectionEnd}
use Rattle.serving.specs.{Connection.serve_frame, OwnTicks.tick_begun, OwnTicks.tick_frame}
use Rattle.serving.specs.Making.{Lead, Way, calls_of, speaking}
use Rattle.serving.specs.declared.request.Request.{Request, TheVariants.Ticked}
use Rattle.store.specs.declared.{home.Home.Home, keeper.Keeper.Ghosts}
use Rattle.wire.specs.declared.values.Version.{Version}
use Rattle.hall_laws.specs.HallRuns.{IsTick}
use Rattle.desk_laws.specs.LoopRuns.{AreDone, AreFor, Doing, IsDone, ServingsAreDoings, Did, Done}
use Rattle.desk_laws.specs.LoopRuns.{Settled}
use Rattle.serving.specs.declared.ends.ConnectionEnd.TheVariants as end

-- ---- a frame

-- what is done for a frame, and what would be done after it
abbrev Front : {V : Type 0} → (way : Way V) → Home → Sides way → Sides way → Begun → Type 0
Front way home a b one =
    (acts : List Act) × (rest : List Act) × ((serve_frame home a.seen one).acts ≡ acts ++ rest)
    × Lead way.handles a.outside.node (calls_of acts) b.outside.node

whole_front : {V : Type 0} (way : Way V) (home : Home) (a b : Sides way) (one : Begun)
    → Lead way.handles a.outside.node (calls_of (serve_frame home a.seen one).acts) b.outside.node
    → Front way home a b one
whole_front way home a b one lead =
    let all = (serve_frame home a.seen one).acts in (all, [], sym (append-nil all), lead)

front_of : {V : Type 0} (way : Way V) (e : Option ConnectionEnd) (home : Home) (a b : Sides way)
    (one : Begun) (count : ℕ) → LeavesAt e home a b one count → Front way home a b one
front_of way None home a b one count l = whole_front way home a b one l.0.made.calls
front_of way (Some end.Stopped) home a b one count l = whole_front way home a b one l.made.calls
front_of way (Some end.Down) home a b one count l = whole_front way home a b one l.made.calls
front_of way (Some end.Frames) home a b one count l = whole_front way home a b one l.0.made.calls
front_of way (Some end.NoMemory) home a b one count l = (l.0, l.1, l.2.parts, l.2.made.calls)
front_of way (Some end.End) home a b one count l = absurd l
front_of way (Some end.Reads) home a b one count l = absurd l
front_of way (Some (end.Fault e)) home a b one count l = absurd l
front_of way (Some end.Read) home a b one count l = absurd l
front_of way (Some end.Write) home a b one count l = absurd l

-- ---- a Tick

both_true : (a b : Bool) (x y : Request) → a ≡ true → b ≡ true → (if a && b then x else y) ≡ x
both_true a b x y p q = ap (λ t. if t && b then x else y) p ∙ ap (λ t. if t then x else y) q

asks_tick : (version : Version) (home : Home) (fates : List Fate)
    → IsTick home (tick_begun version home fates)
asks_tick version home fates =
    let hall : (home.hall == home.hall) ≡ true = grind (arith, nat_tests) in
    let desk : (home.desk == home.desk) ≡ true = grind (arith, nat_tests) in
    both_true (home.hall == home.hall) (home.desk == home.desk) Ticked
    (strange (tick_frame version home).what) hall desk

tick_front : {V : Type 0} (way : Way V) (starved : Bool) (home : Home) (a b : Sides way)
    → TicksBy starved home a b → (one : Begun) × IsTick home one × Front way home a b one
tick_front way false home a b t = (
  tick_begun way.wire home t.0,
  asks_tick way.wire home t.0,
  whole_front way home a b (tick_begun way.wire home t.0) t.2.made.calls,
)
tick_front way true home a b t = (
  tick_begun way.wire home t.0,
  asks_tick way.wire home t.0,
  (t.1.0, t.1.1, t.1.2.parts, t.1.2.made.calls),
)

-- ---- one after the other

doings_of : {K : Type 0} (k : Ghosts K) (home : Home) (wire : Version) (deeds : List Deed)
    (p q : Point (speaking (Handles k) (Settles k) wire)) → AreDoneInTurn home p deeds q
    → (doings : List Did) × AreFor home deeds doings
    × AreDone k home p.outside.node doings q.outside.node
doings_of {K} k home wire [] p q h =
    ([], tt, ap (λ (z : Point (speaking (Handles k) (Settles k) wire)). z.outside.node) h)
doings_of {K} k home wire (Frame own f ∷ deeds) p q h =
    let m = h.0 in
    let at = h.1.0 in
    let front =
    front_of (speaking (Handles k) (Settles k) wire) f.leaves home
    (record { seen = p.seen; written = Some []; outside = p.outside })
    (record { seen = at.seen; written = Some f.answer; outside = at.outside }) f.one f.count
    h.1.1 in
    let later = doings_of k home wire deeds m q h.2 in
    let doing : Doing = record { one = f.one; acts = front.0 } in
    let done : IsDone k home doing p.outside.node m.outside.node =
    record {
      seen = p.seen;
      rest = front.1;
      parts = front.2;
      calls =
          subst (λ (z : Point (speaking (Handles k) (Settles k) wire)).
          Lead (Handles k) p.outside.node (calls_of front.0) z.outside.node) h.1.2 front.3;
    } in
    (Done doing ∷ later.0, (refl, later.1), (m.outside.node, done, later.2))
doings_of {K} k home wire (OwnTick starved ∷ deeds) p q h =
    let m = h.0 in
    let tick = tick_front (speaking (Handles k) (Settles k) wire) starved home (sides_at p)
    (sides_at m) h.1 in
    let later = doings_of k home wire deeds m q h.2 in
    let doing : Doing = record { one = tick.0; acts = tick.2.0 } in
    let done : IsDone k home doing p.outside.node m.outside.node =
    record { seen = p.seen; rest = tick.2.1; parts = tick.2.2; calls = tick.2.3 } in
    (Done doing ∷ later.0, (tick.1, later.1), (m.outside.node, done, later.2))
doings_of {K} k home wire (Settling ok ∷ deeds) p q h =
    let m = h.0 in
    let later = doings_of k home wire deeds m q h.2 in
    (Settled ok ∷ later.0, (refl, later.1), (m.outside.node, h.1.1, later.2))

-- a kind of desk whose nodes are these
abbrev kind_of : {K : Type 0} → Ghosts K → DeskOf (NodeValue K)
kind_of k = record {
  seen = λ x. record { desk = x.desk; is_down = x.is_down; told = x.told };
  home_of = λ x. k.home_of x.keeper;
  handles = Handles k;
  settles = Settles k;
  is_settled = λ x. k.is_settled x.keeper;
}

pub servings_are_doings : {K : Type 0} (k : Ghosts K) → ServingsAreDoings k
servings_are_doings k result home t period a b before after steps is =
    let all = each_client (kind_of k) result home t period a b before after steps is in
    let d = doings_of k home t.wire all.0 (point_in a) (point_in b) all.1 in
    (all.0, d.0, all.1, d.1, d.2)
