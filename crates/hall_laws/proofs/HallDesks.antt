-- One desk of a hall: what its store holds after its calls, what is done in one of its turns, and
-- what its opening is in the world.
use Rattle.std.proofs.Common.{◌≡◌, ◌⊎◌, inl, inr, refl, sym, ap, subst, ◌∙◌, ℕ, Bool, true, false}
use Rattle.std.proofs.Common.{List, [], ◌∷◌, ◌++◌, Option, None, Some, Result, Ok, Err}
use Rattle.std.proofs.lemmas.List.{append-nil, append_assoc}
use Rattle.std.specs.Prelude.{OnErr, IfOk}
use Rattle.acceptor.specs.declared.{entry.Entry.Entry, message.Message.Message}
use Rattle.acceptor.specs.declared.stored.Stored.{Stored}
use Rattle.learner.specs.{Desks.Desk, Desks.restarted, Ranges.AreInRange, Steps.step, Worlds.World}
use Rattle.learner.specs.declared.event.DeskEvent.{DeskEvent}
use Rattle.learner.specs.declared.event.WorldEvent.TheVariants.{Submit as SubmitAt}
use Rattle.learner.specs.declared.event.WorldEvent.TheVariants.{Restart as RestartAt}
use Rattle.replica.specs.{Handles.Handles, Nodes.NodeValue, Opens.Opens, roles.Opening.opened}
use Rattle.replica.specs.Stores.{HoldsDesk, HoldsStep, HoldsBeforeOrAfter}
use Rattle.replica.specs.declared.roles.fault.NodeFault.{NodeFault, TheVariants.Down}
use Rattle.serving.specs.Connection.{Begun, Sides, serve_frame}
use Rattle.serving.specs.{Turns.Rests, Serving.Act, declared.ends.ConnectionEnd.ConnectionEnd}
use Rattle.serving.{specs.Turns.Talk, specs.Turns.LeavesAt, proofs.Fates.AreInRange-append}
use Rattle.serving.specs.Making.{Call, Lead, Way, Makes, calls_of}
use Rattle.serving.specs.TurnLaw.{Place, Turn, Came, Began, Rested, Took, Turns, sides_in, IsQuiet}
use Rattle.store.specs.declared.{home.Home.Home, keeper.Keeper.Ghosts}
use Rattle.hall_laws.specs.HallRuns.{AreDoneFor, AreDone, TurnWasSent, IsSameStore, IsTakenIn}
use Rattle.hall_laws.specs.Served.{handed_out, all_handed_out, IsSentTo, AreSentTo, StandsFor}
use Rattle.hall_laws.specs.Stops.{Happening, Answered, Stopped, real_run, with_desk}
use Rattle.hall_laws.proofs.{Calls.stops_holding, Calls.restart_before, HallEntries.frame_enters}
use Rattle.hall_laws.proofs.OwnMessages.{event_more, front_sent, one_frame}
use Rattle.hall_laws.proofs.Running.{HasSubmit, event_at, is_event_at, stands_by}
use Rattle.serving.specs.declared.ends.ConnectionEnd.TheVariants as end
use Rattle.wire.specs.declared.frame.FrameBody.TheVariants as what

-- ---- its store

-- The store of desk d holds the desk's state alone; or, after a save that failed, that state or the
-- one after an event.
abbrev pub Kept : {K : Type 0} → Ghosts K → ℕ → ℕ → List Message → NodeValue K → Type 0
Kept k n d sent x =
    HoldsDesk k x.keeper x.desk ⊎ ((event : DeskEvent) × IsSentTo d sent event
    × HoldsStep k x.keeper x.desk (step n d x.desk event))

pub kept_more : {K : Type 0} (k : Ghosts K) (n d : ℕ) (sent more : List Message) (x : NodeValue K)
    → Kept k n d sent x → Kept k n d (sent ++ more) x
kept_more k n d sent more x (inl h) = inl h
kept_more k n d sent more x (inr h) = inr (h.0, event_more d sent more h.0 h.1, h.2)

kept_call : {K : Type 0} (k : Ghosts K) (n d : ℕ) (w : World) (event : DeskEvent)
    (answer : Result (List Message) NodeFault) (x z : NodeValue K)
    → StandsFor k n d w x → IsSentTo d w.sent event → Handles k x event answer z
    → Kept k n d w.sent x → Kept k n d w.sent z
kept_call {K} k n d w event answer x z h s c kept = by_old x.is_down refl
  where
    fails : x.is_down ≡ false → z.is_down ≡ true → Kept k n d w.sent z
    fails up down =
        let says : answer ≡ Err Down = c.down.1 down in
        let same : z.desk ≡ x.desk = subst (λ r. OnErr r (z.desk ≡ x.desk)) says (c.takes up).err in
        let left = c.left up down in
        let with_n : HoldsStep k z.keeper x.desk (step n (k.home_of x.keeper).desk x.desk event) =
        rw h.desks at left in
        let with_d : HoldsStep k z.keeper x.desk (step n d x.desk event) = rw h.desk at with_n in
        inr (event, s, subst (λ u. HoldsStep k z.keeper u (step n d u event)) (sym same) with_d)

    by_new : x.is_down ≡ false → (b : Bool) → z.is_down ≡ b → Kept k n d w.sent z
    by_new up false is = inl (c.stored is)
    by_new up true is = fails up is

    by_old : (b : Bool) → x.is_down ≡ b → Kept k n d w.sent z
    by_old false is = by_new is z.is_down refl
    by_old true is = subst (λ (u : NodeValue K). Kept k n d w.sent u) (sym (c.ended is).1) kept

-- after calls
pub kept_calls : {K : Type 0} (k : Ghosts K) (n d : ℕ) (w : World) (calls : List Call)
    (x y : NodeValue K)
    → StandsFor k n d w x → AreSentTo d w.sent calls → Lead (Handles k) x calls y
    → Kept k n d w.sent x → Kept k n d (w.sent ++ all_handed_out calls) y
kept_calls {K} k n d w [] x y h s lead kept =
    subst (λ (z : List Message). Kept k n d z y) (sym (append-nil w.sent))
    (subst (λ (u : NodeValue K). Kept k n d w.sent u) lead kept)
kept_calls {K} k n d w (c ∷ cs) x y h s lead kept =
    let z = lead.0 in
    let ms = handed_out c.answer in
    subst (λ (u : List Message). Kept k n d u y) (append_assoc w.sent ms (all_handed_out cs))
    (kept_calls k n d (with_desk w d z.desk ms) cs z y
    (stands_by k n d w x z ms h lead.1.home) s.1 lead.2 (kept_more k n d w.sent ms z
    (kept_call k n d w c.event c.answer x z h s.0 lead.1 kept)))

pub home_after : {K : Type 0} (k : Ghosts K) (calls : List Call) (x y : NodeValue K)
    → Lead (Handles k) x calls y → k.home_of y.keeper ≡ k.home_of x.keeper
home_after k [] x y lead = ap (λ u. k.home_of u.keeper) (sym lead)
home_after k (c ∷ cs) x y lead = home_after k cs lead.0 y lead.2 ∙ lead.1.home

-- ---- what its calls hand out

ok_named : (n d : ℕ) (r : Result (List Message) NodeFault)
    → IfOk r (λ messages. AreInRange n d messages) → AreInRange n d (handed_out r)
ok_named n d (Ok ms) h = h
ok_named n d (Err why) h = tt

call_named : {K : Type 0} (k : Ghosts K) (event : DeskEvent)
    (answer : Result (List Message) NodeFault) (x z : NodeValue K) (b : Bool)
    → x.is_down ≡ b → Handles k x event answer z
    → AreInRange (k.home_of x.keeper).desks (k.home_of x.keeper).desk (handed_out answer)
call_named k event answer x z false is c =
    ok_named (k.home_of x.keeper).desks (k.home_of x.keeper).desk answer (c.takes is).range
call_named k event answer x z true is c =
    subst (λ r. AreInRange (k.home_of x.keeper).desks (k.home_of x.keeper).desk (handed_out r))
    (sym (c.ended is).0) tt

-- each is from this desk
pub calls_named : {K : Type 0} (k : Ghosts K) (calls : List Call) (x y : NodeValue K)
    → Lead (Handles k) x calls y
    → AreInRange (k.home_of x.keeper).desks (k.home_of x.keeper).desk (all_handed_out calls)
calls_named k [] x y lead = tt
calls_named k (c ∷ cs) x y lead =
    let home = k.home_of x.keeper in
    AreInRange-append home.desks home.desk (handed_out c.answer) (all_handed_out cs)
    (call_named k c.event c.answer x lead.0 x.is_down refl lead.1)
    (subst (λ z. AreInRange z.desks z.desk (all_handed_out cs)) lead.1.home
    (calls_named k cs lead.0 y lead.2))

-- ---- its turns

-- what was done is a front part of what the frame comes to
pub record Front {V : Type 0} (way : Way V) (home : Home) (a b : Sides way) (one : Begun)
    (acts : List Act) : Type 0 where
  pub rest : List Act
  pub parts : (serve_frame home a.seen one).acts ≡ acts ++ rest
  pub made : Makes home.hall a.outside b.outside acts

whole_front : {V : Type 0} (way : Way V) (home : Home) (a b : Sides way) (one : Begun)
    (acts : List Act) → Makes home.hall a.outside b.outside (serve_frame home a.seen one).acts
    → acts ≡ (serve_frame home a.seen one).acts → Front way home a b one acts
whole_front way home a b one acts made is =
    record { rest = []; parts = sym is ∙ sym (append-nil acts); made = rw is made }

pub done_front : {V : Type 0} (way : Way V) (e : Option ConnectionEnd) (home : Home)
    (a b : Sides way) (one : Begun) (count : ℕ) (acts : List Act) → LeavesAt e home a b one count
    → AreDoneFor e home a b one acts → Front way home a b one acts
done_front way None home a b one count acts l is = whole_front way home a b one acts l.0.made is
done_front way (Some end.Stopped) home a b one count acts l is =
    whole_front way home a b one acts l.made is
done_front way (Some end.Down) home a b one count acts l is =
    whole_front way home a b one acts l.made is
done_front way (Some end.Frames) home a b one count acts l is =
    whole_front way home a b one acts l.0.made is
done_front way (Some end.NoMemory) home a b one count acts l is =
    record { rest = is.0; parts = is.1.parts; made = is.1.made }
done_front way _ home a b one count acts l is = absurd l

-- The calls of a turn lead from its node to the node after it, each message that they deliver was
-- sent, the connection's desk stays the same, and what is taken is submitted by the turn's frame.
pub record Does {V : Type 0} {way : Way V} (turn : Turn) (a b : Place way)
    (acts : List Act) (sent : List Message) : Type 0 where
  pub lead : Lead way.handles a.outside.node (calls_of acts) b.outside.node
  pub were_sent : AreSentTo a.talk.home.desk sent (calls_of acts)
  pub home : b.talk.home ≡ a.talk.home
  pub enters : (e : Entry) → IsTakenIn e (calls_of acts)
      → (one : Begun) × (turn ≡ Began one) × (one.frame.what ≡ what.Submit e)

does_nothing : {V : Type 0} {way : Way V} (turn : Turn) (a b : Place way) (acts : List Act)
    (sent : List Message) → acts ≡ [] → IsQuiet a b → b.talk.home ≡ a.talk.home
    → Does turn a b acts sent
does_nothing {V} {way} turn a b acts sent none quiet home = record {
  lead = rw none (ap (λ z. z.node) (sym quiet.outside));
  were_sent = subst (λ z. AreSentTo a.talk.home.desk sent (calls_of z)) (sym none) tt;
  home = home;
  enters = λ e has. absurd (subst (λ z. IsTakenIn e (calls_of z)) none has);
}

rests_at : (old new : Talk) → Rests old new → new.home ≡ old.home
rests_at old new (inl h) = ap (λ z. z.home) h.1
rests_at old new (inr h) = ap (λ z. z.home) h.ends

pub turn_does : {V : Type 0} {way : Way V} (turn : Turn) (a b : Place way) (acts : List Act)
    (sent : List Message) → Turns turn a b → AreDone turn a b acts
    → TurnWasSent a.talk.home sent turn → Does turn a b acts sent
turn_does (Came piece) a b acts sent t is was =
    does_nothing (Came piece) a b acts sent is t.2 t.1.0.home
turn_does {V} {way} (Began one) a b acts sent t is was =
    let front =
    done_front way b.talk.end a.talk.home (sides_in a a.talk.pending)
    (sides_in b b.talk.pending) one b.talk.frames acts t.1 is in
    record {
      lead = front.made.calls;
      were_sent =
          front_sent a.talk.home.desk sent (serve_frame a.talk.home a.seen one).acts acts front.rest
          front.parts (one_frame a.talk.home a.seen sent one was);
      home = t.0.home;
      enters = λ e has.
          (one, refl, frame_enters a.talk.home a.seen one acts front.rest e front.parts has);
    }
turn_does Rested a b acts sent t is was =
    does_nothing Rested a b acts sent is t.1 (rests_at a.talk b.talk t.0)
turn_does (Took bytes) a b acts sent t is was =
    does_nothing (Took bytes) a b acts sent is t.2 (ap (λ z. z.home) t.1)

-- ---- its opening

-- the desk that was opened is there after these happenings, none of which submits anything
abbrev pub Reopens : {K : Type 0} → ℕ → ℕ → World → NodeValue K → Type 0
Reopens n d w y =
    (hs : List Happening) × (with_desk w d y.desk [] ≡ real_run n w hs)
    × ((e : Entry) → HasSubmit e hs → ⊥)

restarts : {K : Type 0} (n d : ℕ) (w : World) (y : NodeValue K)
    → with_desk w d y.desk [] ≡ real_run n w (Answered (RestartAt d) ∷ []) → Reopens n d w y
restarts n d w y is = (Answered (RestartAt d) ∷ [], is, none)
  where
    none : (e : Entry) → HasSubmit e (Answered (RestartAt d) ∷ []) → ⊥
    none e (inl same) =
        let two : RestartAt d ≡ SubmitAt same.0 e = (let q = same.1 in cc) in cc
    none e (inr h) = h

pub stops_in : {K : Type 0} (k : Ghosts K) (n d : ℕ) (w : World) (event : DeskEvent)
    (x : Desk) (keeper : K) (y : NodeValue K)
    → StandsFor k n d w (record { keeper = y.keeper; desk = x; is_down = false; told = y.told })
    → IsSentTo d w.sent event → HoldsStep k keeper x (step n d x event)
    → k.may_hold keeper y.desk.stored y.desk.log → k.is_honest keeper
    → y.desk ≡ opened y.desk.stored y.desk.log → Reopens n d w y
stops_in k n d w event x keeper y h s holds may honest first =
    let stop =
    stops_holding n d w (event_at d w.sent event s) event x y.desk.stored y.desk.log
    (k.may_hold keeper) (k.may_break keeper) h.ours (is_event_at d w event s) h.known (subst
    (λ (u : Desk). HoldsBeforeOrAfter (k.may_hold keeper) (k.may_break keeper) x (step n d u event))
    h.known (holds honest)) may in (
      Stopped stop.0 (event_at d w.sent event s) ∷ [],
      ap (λ (u : Desk). with_desk w d u []) first ∙ stop.1,
      none stop.0,
    )
  where
    none : (b : Bool) (e : Entry) → HasSubmit e (Stopped b (event_at d w.sent event s) ∷ []) → ⊥
    none b e (inl same) =
        let two : Stopped b (event_at d w.sent event s) ≡ Answered (SubmitAt same.0 e) = same.1 in
        cc
    none b e (inr h) = h

pub reopens : {K : Type 0} (k : Ghosts K) (n d : ℕ) (w : World) (x : NodeValue K) (keeper : K)
    (y : NodeValue K)
    → StandsFor k n d w x → Kept k n d w.sent x → IsSameStore k x.keeper keeper y.desk
    → Opens k keeper y → k.is_honest y.keeper → Reopens n d w y
reopens k n d w x keeper y h kept same opens honest = go kept
  where
    s : Stored
    s = y.desk.stored

    log : List Entry
    log = y.desk.log

    was : k.is_honest x.keeper
    was = same.honest (opens.honest honest)

    may : k.may_hold x.keeper s log
    may = same.held

    go : Kept k n d w.sent x → Reopens n d w y
    go (inl holds) =
        let is = (holds was).only s log may in
        restarts n d w y (restart_before n d w y.desk h.ours
        (opens.first ∙ (λ i. opened (is.0 i) (is.1 i)) ∙ ap restarted h.known))
    go (inr one) =
        stops_in k n d w one.0 x.desk x.keeper y
        (record { ours = h.ours; desks = back_desks; desk = back_desk; known = h.known })
        one.1 one.2 may was opens.first
      where
        back_desks : (k.home_of y.keeper).desks ≡ n
        back_desks = ap (λ u. u.desks) (opens.home ∙ same.home) ∙ h.desks

        back_desk : (k.home_of y.keeper).desk ≡ d
        back_desk = ap (λ u. u.desk) (opens.home ∙ same.home) ∙ h.desk
