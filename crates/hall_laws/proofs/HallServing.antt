-- A hall continues by turns as the protocol's turns do: so its desks decide what is queued.
use Rattle.serving.specs.{Asking.request, Making.calls_of, Serving.Service, Serving.served}
use Rattle.wire.specs.{Ranges.IsFrame, declared.frame.Frame.Frame}
use Rattle.std.proofs.Common.{◌≡◌, inl, inr, refl, sym, ap, subst, ◌∙◌, ℕ, zero, suc, ◌<◌, ◌+◌}
use Rattle.std.proofs.Common.{false, List, [], ◌∷◌, ◌++◌, length, map, Option, Some, None, arith}
use Rattle.std.proofs.{Common.slice_get, lemmas.List.append-nil, lemmas.List.append_assoc}
use Rattle.acceptor.specs.declared.message.Message.{Message}
use Rattle.answers.specs.Seen.{Seen}
use Rattle.learner.specs.{Chosen.Has, Chosen.IsMajority, Worlds.World, Worlds.nth_sent}
use Rattle.learner.specs.{Steps.IsDesk, declared.event.WorldEvent.TheVariants.Deliver as DeliverNth}
use Rattle.learner.specs.declared.event.DeskEvent.TheVariants.{Tick, Deliver}
use Rattle.learner.specs.declared.event.WorldEvent.{WorldEvent, TheVariants.Tick as TickAt}
use Rattle.progress.specs.Progress.{IsAmong}
use Rattle.progress.specs.Turns.{turn, turn_of, takes_turn, take_turns, AreTurns}
use Rattle.serving.specs.declared.request.Request.{Request, TheVariants.Ticked}
use Rattle.store.specs.declared.{home.Home.Home, keeper.Keeper.Ghosts}
use Rattle.hall_laws.specs.HallGoing.{acts_for, comes_over, IsServedTo, GoesOn}
use Rattle.hall_laws.specs.HallRuns.{Station, Hall, home_at, seen_of, HallEvent, HallStep}
use Rattle.hall_laws.specs.{HallRuns.IsHallRun, HallRuns.hall_after, HallServing.AreOwnTurns}
use Rattle.hall_laws.specs.HallServing.{OwnTurn, DeskTicks, MessageComes, frame_of, asked_of, IsOwn}
use Rattle.hall_laws.specs.HallServing.{events_of_message, events_of_turn, IsOwnRequest, CanServe}
use Rattle.hall_laws.specs.{Served.StandsFor, Served.all_handed_out, Stops.CallsAreHappenings}
use Rattle.hall_laws.proofs.{HallFrames.messages_go_on, HallNodes.each_of}
use Rattle.hall_laws.proofs.HallGoing.{stands_at_end, ticks_go_on}
use Rattle.hall_laws.proofs.ServedTurns.{home_of, up_at, IsServedAs, tick_turn, message_turn}

-- The run has gone on from these first steps, and its desks know what those of the world know; what
-- was handed out since is what was sent there since.
pub record Along {K : Type 0} (k : Ghosts K) (n d : ℕ) (desks : List ℕ) (h : Hall K)
    (first : List (HallStep K)) (old : World) (ss : List (HallStep K)) (w : World) : Type 0 where
  pub run : IsHallRun k n h ss
  pub more : List (HallStep K)
  pub later : ss ≡ first ++ more
  pub turns : List OwnTurn
  pub own : AreOwnTurns k d desks (length (hall_after h first).sent) h first turns more
  pub known : (j : ℕ) → IsDesk n j → ((hall_after h ss).desks j).node.desk ≡ w.desks j
  pub new : List Message
  pub there : w.sent ≡ old.sent ++ new
  pub here : (hall_after h ss).sent ≡ (hall_after h first).sent ++ new
  pub up : (j : ℕ) → Has desks j → ((hall_after h ss).desks j).node.is_down ≡ false

-- one turn more
own_more : {K : Type 0} (k : Ghosts K) (d : ℕ) (desks : List ℕ) (start : ℕ) (h : Hall K)
    (steps : List (HallStep K)) (ts : List OwnTurn) (t : OwnTurn) (more now : List (HallStep K))
    → AreOwnTurns k d desks start h steps ts more → map (λ (s : HallStep K). s.event) now
    ≡ events_of_turn k d (hall_after h (steps ++ more)) t
    → IsOwn desks start (hall_after h (steps ++ more)) t
    → AreOwnTurns k d desks start h steps (ts ++ t ∷ []) (more ++ now)
own_more {K} k d desks start h steps [] t more now own happened owned =
    let same : steps ++ more ≡ steps = ap (λ z. steps ++ z) own ∙ append-nil steps in (
      now,
      [],
      ap (λ z. z ++ now) own ∙ sym (append-nil now),
      happened ∙ ap (λ (z : List (HallStep K)). events_of_turn k d (hall_after h z) t) same,
      subst (λ (z : List (HallStep K)). IsOwn desks start (hall_after h z) t) same owned,
      refl,
    )
own_more {K} k d desks start h steps (x ∷ ts) t more now own happened owned =
    let same = ap (λ z. steps ++ z) own.2 ∙ sym (append_assoc steps own.0 own.1) in (
      own.0,
      own.1 ++ now,
      ap (λ z. z ++ now) own.2 ∙ append_assoc own.0 own.1 now,
      own.3,
      own.4,
      own_more k d desks start h (steps ++ own.0) ts t own.1 now own.5
          (happened ∙ ap (λ (z : List (HallStep K)). events_of_turn k d (hall_after h z) t) same)
          (subst (λ (z : List (HallStep K)). IsOwn desks start (hall_after h z) t) same owned),
    )

-- a desk of the majority serves a request, and the run has gone on
record Moves {K : Type 0} (k : Ghosts K) (n d : ℕ) (desks : List ℕ) (h : Hall K)
    (first : List (HallStep K)) (old : World) (ss : List (HallStep K)) (v : World)
    (events : List HallEvent) : Type 0 where
  pub now : List (HallStep K)
  pub happened : map (λ (s : HallStep K). s.event) now ≡ events
  pub along : Along k n d desks h first old (ss ++ now) v

-- what the desk serves is what serving says of the world's desk
same_served : {K : Type 0} (k : Ghosts K) → CallsAreHappenings k → (n : ℕ) (h : Hall K)
    (ss : List (HallStep K)) (w : World) (j : ℕ) (r : Request) → IsHallRun k n h ss → IsDesk n j
    → ((hall_after h ss).desks j).node.desk ≡ w.desks j
    → ((hall_after h ss).desks j).node.is_down ≡ false
    → (served (home_at k ((hall_after h ss).desks j)) (seen_of ((hall_after h ss).desks j).node) []
    r ≡ served (home_of (home_at k ((hall_after h ss).desks j)).hall n j)
    (up_at w j ((hall_after h ss).desks j).node.told) [] r) × (home_at k ((hall_after h ss).desks j)
    ≡ home_of (home_at k ((hall_after h ss).desks j)).hall n j)
same_served {K} k law n h ss w j r is mine known up =
    (λ i. served (home_is i) (seen_is i) [] r, home_is)
  where
    x : Station K
    x = (hall_after h ss).desks j

    stands : StandsFor k n j (stands_at_end k law n h ss is).world x.node
    stands = ((stands_at_end k law n h ss is).matches.nodes.here j mine).stands

    home_is : home_at k x ≡ home_of (home_at k x).hall n j
    home_is =
        let one = stands.desk in
        let all = stands.desks in
        λ i. record { hall = (home_at k x).hall; desk = one i; desks = all i }

    seen_is : seen_of x.node ≡ up_at w j x.node.told
    seen_is = λ i. record { desk = known i; is_down = up i; told = x.node.told }

moves : {K : Type 0} (k : Ghosts K) → CallsAreHappenings k → (n d : ℕ) (desks : List ℕ) (h : Hall K)
    (first : List (HallStep K)) (old : World) (ss : List (HallStep K)) (w v : World) (j : ℕ)
    (r : Request) (events : List HallEvent)
    → (t : OwnTurn) → events ≡ events_of_turn k d (hall_after h ss) t
    → IsOwn desks (length (hall_after h first).sent) (hall_after h ss) t
    → Along k n d desks h first old ss w → IsDesk n j
    → ((hall_after h ss).desks j).node.is_down ≡ false
    → IsServedAs j w v (served (home_of (home_at k ((hall_after h ss).desks j)).hall n j)
    (up_at w j ((hall_after h ss).desks j).node.told) [] r)
    → (y : Station K) → IsServedTo k r ((hall_after h ss).desks j) y → (y.node.is_down ≡ false
    → GoesOn k n j h ss events (acts_for k ((hall_after h ss).desks j) r) y)
    → Moves k n d desks h first old ss v events
moves {K} k law n d desks h first old ss w v j r events t turned owned a mine up serves y to go =
    record {
      now = goes.more;
      happened = goes.happened;
      along =
          record {
            run = goes.run;
            more = a.more ++ goes.more;
            later = ap (λ z. z ++ goes.more) a.later ∙ append_assoc first a.more goes.more;
            turns = a.turns ++ t ∷ [];
            own =
                own_more k d desks (length (hall_after h first).sent) h first a.turns t a.more
                goes.more a.own (goes.happened ∙ turned
                ∙ ap (λ (z : List (HallStep K)). events_of_turn k d (hall_after h z) t) a.later)
                (subst (λ (z : List (HallStep K)).
                IsOwn desks (length (hall_after h first).sent) (hall_after h z) t) a.later owned);
            known = known;
            new = a.new ++ handed;
            there =
                serves.sent ∙ ap (λ z. z ++ handed) a.there ∙ append_assoc old.sent a.new handed;
            here =
                goes.only.sent
                ∙ ap (λ (z : Service). (hall_after h ss).sent ++ all_handed_out (calls_of z.done))
                same ∙ ap (λ z. z ++ handed) a.here
                ∙ append_assoc (hall_after h first).sent a.new handed;
            up = ups;
          };
    }
  where
    x : Station K
    x = (hall_after h ss).desks j

    s : Service
    s = served (home_of (home_at k x).hall n j) (up_at w j x.node.told) [] r

    same : served (home_at k x) (seen_of x.node) [] r ≡ s
    same = (same_served k law n h ss w j r a.run mine (a.known j mine) up).0

    node : seen_of y.node ≡ up_at v j s.seen.told
    node = to.node ∙ ap (λ (z : Service). z.seen) same ∙ serves.seen

    goes : GoesOn k n j h ss events (acts_for k x r) y
    goes = go (ap (λ (z : Seen). z.is_down) node)

    handed : List Message
    handed = all_handed_out (calls_of s.done)

    before : ℕ → Station K
    before = (hall_after h ss).desks

    after : ℕ → Station K
    after = (hall_after h (ss ++ goes.more)).desks

    known : (i : ℕ) → IsDesk n i → (after i).node.desk ≡ v.desks i
    known i ours =
        each_of j before after goes.only.others (λ l z. z.node.desk ≡ v.desks l)
        (ap (λ z. z.desk) goes.node ∙ ap (λ (z : Seen). z.desk) node) i
        (λ other. a.known i ours ∙ sym (serves.others i (λ e. other (sym e))))

    ups : (i : ℕ) → Has desks i → (after i).node.is_down ≡ false
    ups i has =
        each_of j before after goes.only.others (λ l z. z.node.is_down ≡ false)
        (ap (λ z. z.is_down) goes.node ∙ ap (λ (z : Seen). z.is_down) node) i (λ other. a.up i has)

-- the premises, along the run
works_along : {K : Type 0} (k : Ghosts K) (n d : ℕ) (desks : List ℕ) (h : Hall K)
    (first : List (HallStep K)) (old : World) (ss : List (HallStep K)) (w : World) (j : ℕ)
    (r : Request) → CanServe k n d desks h first → Along k n d desks h first old ss w → Has desks j
    → IsOwnRequest k d desks (length (hall_after h first).sent) (hall_after h ss) j r
    → (y : Station K) × IsServedTo k r ((hall_after h ss).desks j) y
works_along {K} k n d desks h first old ss w j r can a has asks =
    subst (λ (zs : List (HallStep K)). IsHallRun k n h zs
    → ((hall_after h zs).desks j).node.is_down ≡ false
    → IsOwnRequest k d desks (length (hall_after h first).sent) (hall_after h zs) j r
    → (y : Station K) × IsServedTo k r ((hall_after h zs).desks j) y) (sym a.later)
    (λ run up own. can.works a.turns a.more j r a.own run has up own) a.run (a.up j has) asks

frames_along : {K : Type 0} (k : Ghosts K) (n d : ℕ) (desks : List ℕ) (h : Hall K)
    (first : List (HallStep K)) (old : World) (ss : List (HallStep K)) (w : World) (at : ℕ)
    (m : Message) → CanServe k n d desks h first → Along k n d desks h first old ss w
    → length (hall_after h first).sent < at → nth_sent (hall_after h ss).sent at ≡ Some m
    → Has desks m.from → Has desks m.to → IsFrame (frame_of k (hall_after h ss) m)
frames_along {K} k n d desks h first old ss w at m can a late sent from to =
    subst (λ (zs : List (HallStep K)). IsHallRun k n h zs
    → nth_sent (hall_after h zs).sent at ≡ Some m
    → IsFrame (frame_of k (hall_after h zs) m)) (sym a.later)
    (λ run is. can.frames a.turns a.more at m a.own run late is from to) a.run sent

-- ---- a Tick

tick_moves : {K : Type 0} (k : Ghosts K) → CallsAreHappenings k → (n d : ℕ) (desks : List ℕ)
    (h : Hall K) (first : List (HallStep K)) (old : World) (ss : List (HallStep K)) (w : World)
    → CanServe k n d desks h first → Along k n d desks h first old ss w → IsDesk n d → Has desks d
    → Moves k n d desks h first old ss (turn n w d Tick)
    (events_of_turn k d (hall_after h ss) DeskTicks)
tick_moves k law n d desks h first old ss w can a mine has =
    let x = (hall_after h ss).desks d in
    let y = works_along k n d desks h first old ss w d Ticked can a has (inl (refl, refl)) in
    moves k law n d desks h first old ss w (turn n w d Tick) d Ticked
    (events_of_turn k d (hall_after h ss) DeskTicks) DeskTicks refl tt a mine (a.up d has)
    (tick_turn (home_at k x).hall n d w x.node.told mine) y.0 y.1
    (λ up. ticks_go_on k n d h ss y.0 a.run mine y.1)

-- ---- a message

-- what was sent later is there in both
later_sent : (xs ys new : List Message) (i : ℕ) (m : Message) → length xs < i
    → nth_sent (xs ++ new) i ≡ Some m
    → (at : ℕ) × (length ys < at) × (nth_sent (ys ++ new) at ≡ Some m)
later_sent xs ys new zero m late is = absurd (omega (arith, late))
later_sent [] ys new (suc i) m late is = (suc (length ys + i), omega arith, found ys)
  where
    found : (zs : List Message) → slice_get (zs ++ new) (length zs + i) ≡ Some m
    found [] = subst (λ (j : ℕ). slice_get new j ≡ Some m) (omega arith) is
    found (z ∷ zs) =
        let same : length (z ∷ zs) + i ≡ suc (length zs + i) = omega arith in
        subst (λ (j : ℕ). slice_get (z ∷ zs ++ new) j ≡ Some m) (sym same) (found zs)
later_sent (x ∷ xs) ys new (suc zero) m late is = absurd (omega (arith, late))
later_sent (x ∷ xs) ys new (suc (suc i)) m late is =
    later_sent xs ys new (suc i) m (omega (arith, late)) is

-- what a turn with a message comes to
record Comes {K : Type 0} (k : Ghosts K) (n d : ℕ) (desks : List ℕ) (h : Hall K)
    (first : List (HallStep K)) (old : World) (ss : List (HallStep K)) (v : World) : Type 0 where
  pub number : ℕ
  pub at : ℕ
  pub own : IsOwn desks (length (hall_after h first).sent) (hall_after h ss)
      (MessageComes number at)
  pub moves : Moves k n d desks h first old ss v
      (events_of_turn k d (hall_after h ss) (MessageComes number at))

message_moves : {K : Type 0} (k : Ghosts K) → CallsAreHappenings k → (n d : ℕ) (desks : List ℕ)
    (h : Hall K) (first : List (HallStep K)) (old : World) (ss : List (HallStep K)) (w : World)
    (i : ℕ) (m : Message)
    → IsMajority n desks → CanServe k n d desks h first → Along k n d desks h first old ss w
    → length old.sent < i → nth_sent w.sent i ≡ Some m → Has desks m.from → Has desks m.to
    → Comes k n d desks h first old ss (turn n w m.to (Deliver m))
message_moves {K} k law n d desks h first old ss w i m major can a late is from to =
    go (later_sent old.sent (hall_after h first).sent a.new i m late
    (subst (λ (z : List Message). nth_sent z i ≡ Some m) a.there is))
  where
    g : Hall K
    g = hall_after h ss

    x : Station K
    x = g.desks m.to

    f : Frame
    f = frame_of k g m

    mine : IsDesk n m.to
    mine = major.ours m.to to

    r : Request
    r = asked_of k x f

    events : ℕ → List HallEvent
    events number = comes_over m.to number f (acts_for k x r)

    serves : IsServedAs m.to w (turn n w m.to (Deliver m))
        (served (home_of (home_at k x).hall n m.to) (up_at w m.to x.node.told) [] r)
    serves =
        subst (λ (z : Home). IsServedAs m.to w (turn n w m.to (Deliver m))
        (served (home_of (home_at k x).hall n m.to) (up_at w m.to x.node.told) [] (request z f)))
        (sym (same_served k law n h ss w m.to Ticked a.run mine (a.known m.to mine)
        (a.up m.to to)).1)
        (message_turn (home_at k x).hall n m.to w x.node.told (g.desks m.from).wire m refl mine)

    go : (at : ℕ) × (length (hall_after h first).sent < at)
        × (nth_sent ((hall_after h first).sent ++ a.new) at ≡ Some m)
        → Comes k n d desks h first old ss (turn n w m.to (Deliver m))
    go q = made (works_along k n d desks h first old ss w m.to r can a to
        (inr (q.0, m, q.1, sent, from, refl, refl)))
      where
        sent : nth_sent g.sent q.0 ≡ Some m
        sent = subst (λ (z : List Message). nth_sent z q.0 ≡ Some m) (sym a.here) q.2

        among : IsAmong desks (nth_sent g.sent q.0)
        among = subst (λ (z : Option Message). IsAmong desks z) (sym sent) (from, to)

        made : (y : Station K) × IsServedTo k r x y
            → Comes k n d desks h first old ss (turn n w m.to (Deliver m))
        made y = over (messages_go_on k law n m.to h ss (g.desks m.from).wire m y.0 a.run mine
            (frames_along k n d desks h first old ss w q.0 m can a q.1 sent from to) refl
            ((q.0, sent, refl), tt) y.1 up)
          where
            up : y.0.node.is_down ≡ false
            up =
                let to1 : IsServedTo k r x y.0 = y.1 in
                ap (λ (z : Seen). z.is_down) (to1.node ∙ ap (λ (z : Service). z.seen)
                (same_served k law n h ss w m.to r a.run mine (a.known m.to mine) (a.up m.to to)).0
                ∙ serves.seen)

            over : (number : ℕ) × GoesOn k n m.to h ss (events number) (acts_for k x r) y.0
                → Comes k n d desks h first old ss (turn n w m.to (Deliver m))
            over o =
                record {
                  number = o.0;
                  at = q.0;
                  own = (q.1, among);
                  moves =
                      subst (λ (z : Option Message). Moves k n d desks h first old ss
                      (turn n w m.to (Deliver m)) (events_of_message k g o.0 z)) (sym sent)
                      (moves k law n d desks h first old ss w (turn n w m.to (Deliver m)) m.to r
                      (events o.0) (MessageComes o.0 q.0)
                      (ap (λ z. events_of_message k g o.0 z) (sym sent)) (q.1, among) a mine
                      (a.up m.to to) serves y.0 y.1 (λ z. o.1));
                }

-- ---- turns, one after the other

pub record Follows {K : Type 0} (k : Ghosts K) (n d : ℕ) (desks : List ℕ) (h : Hall K)
    (first ss : List (HallStep K)) (count : ℕ) (v : World) : Type 0 where
  pub turns : List OwnTurn
  pub many : length turns ≡ count
  pub more : List (HallStep K)
  pub run : IsHallRun k n h (ss ++ more)
  pub own : AreOwnTurns k d desks (length (hall_after h first).sent) h ss turns more
  pub known : ((hall_after h (ss ++ more)).desks d).node.desk ≡ v.desks d

then_follows : {K : Type 0} (k : Ghosts K) (n d : ℕ) (desks : List ℕ) (h : Hall K)
    (first ss : List (HallStep K)) (old v z : World) (count : ℕ) (t : OwnTurn)
    → IsOwn desks (length (hall_after h first).sent) (hall_after h ss) t
    → (m : Moves k n d desks h first old ss v (events_of_turn k d (hall_after h ss) t))
    → Follows k n d desks h first (ss ++ m.now) count z
    → Follows k n d desks h first ss (suc count) z
then_follows {K} k n d desks h first ss old v z count t own m f =
    let same : (ss ++ m.now) ++ f.more ≡ ss ++ (m.now ++ f.more) = append_assoc ss m.now f.more in
    record {
      turns = t ∷ f.turns;
      many = ap (λ c. suc c) f.many;
      more = m.now ++ f.more;
      run = subst (λ (zs : List (HallStep K)). IsHallRun k n h zs) same f.run;
      own = (m.now, f.more, refl, m.happened, own, f.own);
      known = rw same at f.known;
    }

pub follows : {K : Type 0} (k : Ghosts K) → CallsAreHappenings k → (n d : ℕ) (desks : List ℕ)
    (h : Hall K) (first : List (HallStep K)) (old : World) (es : List WorldEvent)
    (ss : List (HallStep K)) (w : World)
    → IsMajority n desks → Has desks d → CanServe k n d desks h first
    → Along k n d desks h first old ss w → AreTurns n d desks (length old.sent) w es
    → Follows k n d desks h first ss (length es) (take_turns n w es)
follows {K} k law n d desks h first old [] ss w major has can a are =
    record {
      turns = [];
      many = refl;
      more = [];
      run = subst (λ (zs : List (HallStep K)). IsHallRun k n h zs) (sym (append-nil ss)) a.run;
      own = refl;
      known =
          subst (λ (zs : List (HallStep K)). ((hall_after h zs).desks d).node.desk ≡ w.desks d)
          (sym (append-nil ss)) (a.known d (major.ours d has));
    }
follows k law n d desks h first old (TickAt j ∷ es) ss w major has can a are =
    go (tick_moves k law n d desks h first old ss w can a (major.ours d has) has)
    (λ zs v along rest. follows k law n d desks h first old es zs v major has can along rest)
  where
    same : takes_turn n w (TickAt j) ≡ turn n w d Tick
    same = ap (λ i. turn n w i Tick) are.0

    go : Moves k n d desks h first old ss (turn n w d Tick)
        (events_of_turn k d (hall_after h ss) DeskTicks)
        → ((zs : List (HallStep _)) (v : World) → Along k n d desks h first old zs v
        → AreTurns n d desks (length old.sent) v es
        → Follows k n d desks h first zs (length es) (take_turns n v es))
        → Follows k n d desks h first ss (length (TickAt j ∷ es)) (take_turns n w (TickAt j ∷ es))
    go m again =
        then_follows k n d desks h first ss old (turn n w d Tick)
        (take_turns n w (TickAt j ∷ es)) (length es) DeskTicks tt m
        (subst (λ (v : World). Follows k n d desks h first (ss ++ m.now) (length es)
        (take_turns n v es)) (sym same) (again (ss ++ m.now) (turn n w d Tick) m.along
        (subst (λ (v : World). AreTurns n d desks (length old.sent) v es) same are.1)))
follows k law n d desks h first old (DeliverNth i ∷ es) ss w major has can a are =
    go (nth_sent w.sent i) refl are.0.1
    (λ zs v along rest. follows k law n d desks h first old es zs v major has can along rest)
  where
    go : (o : Option Message) → nth_sent w.sent i ≡ o → IsAmong desks (nth_sent w.sent i)
        → ((zs : List (HallStep _)) (v : World) → Along k n d desks h first old zs v
        → AreTurns n d desks (length old.sent) v es
        → Follows k n d desks h first zs (length es) (take_turns n v es))
        → Follows k n d desks h first ss (length (DeliverNth i ∷ es))
        (take_turns n w (DeliverNth i ∷ es))
    go None is among again =
        absurd (let none : IsAmong desks None
        = subst (λ (z : Option Message). IsAmong desks z) is among in none)
    go (Some m) is among again =
        let among1 : IsAmong desks (Some m)
        = subst (λ (z : Option Message). IsAmong desks z) is among in
        let c = message_moves k law n d desks h first old ss w i m major can a are.0.0 is among1.0
        among1.1 in
        let same : takes_turn n w (DeliverNth i) ≡ turn n w m.to (Deliver m)
        = ap (λ z. turn_of n w z) is in
        then_follows k n d desks h first ss old (turn n w m.to (Deliver m))
        (take_turns n w (DeliverNth i ∷ es)) (length es) (MessageComes c.number c.at) c.own c.moves
        (subst (λ (v : World). Follows k n d desks h first (ss ++ c.moves.now) (length es)
        (take_turns n v es)) (sym same)
        (again (ss ++ c.moves.now) (turn n w m.to (Deliver m)) c.moves.along
        (subst (λ (v : World). AreTurns n d desks (length old.sent) v es) same are.1)))
follows k law n d desks h first old _ ss w major has can a are = absurd are.0
