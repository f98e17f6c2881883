-- The entries of desk d's queue are decided one after the other, by events alone or by turns.
use Rattle.std.proofs.Common.{◌≡◌, ℕ, zero, suc, ◌≤◌, ◌+◌, ◌-◌, ◌*◌, max, Bool, true, false, List}
use Rattle.std.proofs.Common.{[], ◌∷◌, ◌++◌, inl, inr, Some, length, slice_get, refl, sym, ap, ◌∙◌}
use Rattle.std.proofs.{Common.subst, Common.arith, lemmas.Option.slice_get_within}
use Rattle.std.proofs.{Common.length-append, Math.Nat.suc-mul, Math.Nat.mul-suc, Math.Nat.add-mul}
use Rattle.acceptor.specs.declared.entry.Entry.{Entry}
use Rattle.learner.specs.{declared.event.WorldEvent.WorldEvent, Laws.IsPrefix, Chosen.Has}
use Rattle.learner.{specs.Chosen.IsMajority, proofs.Runs.after_sound, proofs.Runs.run_log}
use Rattle.learner.specs.Worlds.{World, happens, run, after}
use Rattle.progress.specs.Progress.{AreHelp, StandFrom, longest, lacking, enough, CanDecide}
use Rattle.progress.specs.Progress.{NoDeskIsStuck, NoQueueIsStuck}
use Rattle.progress.specs.Turns.{takes_turn, take_turns, AreTurns, TurnsDecide}
use Rattle.progress.{specs.Turns.NoServingDeskIsStuck, proofs.Roles.first_decided}
use Rattle.progress.proofs.Aims.{IsReached, goes, goes_on, AreHelps, run_goes_on, Aim, cost_of}
use Rattle.progress.proofs.Aims.{lack, IsDecided, Decides, get_left}

-- what stays the same while one entry after the other is decided
record Hall : Type 0 where
  pub starts : Bool
  pub n : ℕ
  pub d : ℕ
  pub desks : List ℕ
  pub start : ℕ
  pub top : ℕ
  pub majority : IsMajority n desks
  pub mine : Has desks d
  pub room : top ≤ 65536

-- what is enough for one entry, besides what is to be caught up
abbrev each : Hall → ℕ
each h = 15 * length h.desks + 10

-- these entries come to be in the log, and these are left in the queue
record AllDecide (h : Hall) (most : ℕ) (es rest : List Entry) (w : World) : Type 0 where
  pub events : List WorldEvent
  pub help : AreHelps h.starts h.n h.d h.desks h.start w events
  pub few : length events + 2 * lacking (goes_on h.starts h.n w events) h.top h.desks ≤ most
  pub decided : StandFrom (length (w.desks h.d).log) es
      ((goes_on h.starts h.n w events).desks h.d).log
  pub queue : ((goes_on h.starts h.n w events).desks h.d).queue ≡ rest

-- what Starts may cost desk d
abbrev spends : Hall → World → ℕ
spends h w = cost_of h.starts (h.top - length (w.desks h.d).log)

-- the logs, and the numbers that are known, and room for these entries
record IsRoomy (h : Hall) (old number : ℕ) (es rest : List Entry) (w : World) : Type 0 where
  pub reached : IsReached h.n w
  pub late : h.start ≤ length w.sent
  pub queue : (w.desks h.d).queue ≡ es ++ rest
  pub lens : (k : ℕ) → Has h.desks k → length (w.desks k).log ≤ old
  pub promised : (k : ℕ) → Has h.desks k → (w.desks k).stored.promised.number + spends h w ≤ number
  pub tried : (w.desks h.d).stored.tried + spends h w ≤ number
  pub seen : (w.desks h.d).seen + spends h w ≤ number
  pub logs : old + 2 * length es ≤ h.top
  pub numbers : number + 2 * length es ≤ 4294967295

goes_append : (s : Bool) (n : ℕ) (w : World) (xs ys : List WorldEvent)
    → goes_on s n w (xs ++ ys) ≡ goes_on s n (goes_on s n w xs) ys
goes_append s n w [] ys = refl
goes_append s n w (x ∷ xs) ys = goes_append s n (goes s n w x) xs ys

help_append : (s : Bool) (n d : ℕ) (desks : List ℕ) (start : ℕ) (w : World)
    (xs ys : List WorldEvent)
    → AreHelps s n d desks start w xs → AreHelps s n d desks start (goes_on s n w xs) ys
    → AreHelps s n d desks start w (xs ++ ys)
help_append s n d desks start w [] ys h k = k
help_append s n d desks start w (x ∷ xs) ys h k =
    (h.0, help_append s n d desks start (goes s n w x) xs ys h.1 k)

pub stand_from : (k l : ℕ) (es log : List Entry) → k ≤ l → StandFrom l es log → StandFrom k es log
stand_from k l [] log h s = tt
stand_from k l (e ∷ es) log h s = let a = s.1 in (s.0, omega (arith, h, a), s.2, s.3)

prefix_get : (xs ys : List Entry) (i : ℕ) (e : Entry) → IsPrefix xs ys → slice_get xs i ≡ Some e
    → slice_get ys i ≡ Some e
prefix_get xs ys i e p h =
    subst (λ (l : List Entry). slice_get l i ≡ Some e) p.1 (get_left xs p.0 i e h)

all_decided : (h : Hall) (es rest : List Entry) (old number : ℕ) (w : World)
    → IsRoomy h old number es rest w
    → AllDecide h (2 * lacking w h.top h.desks + length es * each h) es rest w
all_decided h [] rest old number w g =
    record { events = []; help = tt; few = omega arith; decided = tt; queue = g.queue }
all_decided h (e ∷ es) rest old number w g =
    let begins : Rattle.progress.proofs.Roles.Begins aim w = search arith in
    go (first_decided aim w begins) (λ v k. all_decided h es rest (old + 2) (number + 2) v k)
  where
    aim : Aim
    aim =
        record {
          starts = h.starts;
          n = h.n;
          d = h.d;
          desks = h.desks;
          start = h.start;
          from = length (w.desks h.d).log;
          old = old;
          number = number;
          top = h.top;
          first = e;
          rest = es ++ rest;
          majority = h.majority;
          mine = h.mine;
          tall = let l = g.logs in omega (arith, l);
          room = let l = g.logs in let r = h.room in omega (arith, l, r);
          numbers = let l = g.numbers in omega (arith, l);
        }

    go : Decides aim (lack aim w + each h) w
        → ((v : World) → IsRoomy h (old + 2) (number + 2) es rest v
        → AllDecide h (2 * lacking v h.top h.desks + length es * each h) es rest v)
        → AllDecide h (2 * lacking w h.top h.desks + length (e ∷ es) * each h) (e ∷ es) rest w
    go f others =
        let roomy : IsRoomy h (old + 2) (number + 2) es rest v = record {
          reached = ends.reached;
          late = ends.late;
          queue = ends.queue;
          lens = ends.lens;
          promised = ends.promised;
          tried = ends.tried;
          seen = ends.seen;
          logs = let l = g.logs in omega (arith, l);
          numbers = let l = g.numbers in omega (arith, l);
        } in
        joined (others v roomy)
      where
        v : World
        v = goes_on h.starts h.n w f.events

        ends : IsDecided aim v
        ends = f.ends

        joined : AllDecide h (2 * lacking v h.top h.desks + length es * each h) es rest v
            → AllDecide h (2 * lacking w h.top h.desks + length (e ∷ es) * each h) (e ∷ es) rest w
        joined o =
            let r : IsReached h.n v = ends.reached in
            let grows : IsPrefix (v.desks h.d).log
            ((goes_on h.starts h.n v o.events).desks h.d).log = let g = run_goes_on h.starts h.n v
            o.events in subst (λ (u : World). IsPrefix (v.desks h.d).log (u.desks h.d).log) g.1
            (run_log h.n v g.0 (rw r.same at (after_sound h.n r.past)) h.d) in
            let stand : StandFrom (length (w.desks h.d).log) (e ∷ es)
            ((goes_on h.starts h.n v o.events).desks h.d).log = (
              ends.at,
              ends.past,
              prefix_get _ _ _ e grows ends.entry,
              stand_from _ _ _ _ (slice_get_within (v.desks h.d).log ends.at e ends.entry)
                  o.decided,
            ) in
            record {
              events = f.events ++ o.events;
              help = help_append h.starts h.n h.d h.desks h.start w f.events o.events f.help o.help;
              few =
                  omega (
                    arith,
                    length-append f.events o.events,
                    ap (λ u. lacking u h.top h.desks)
                        (goes_append h.starts h.n w f.events o.events),
                    f.few,
                    o.few,
                    suc-mul (length es)
                        (each h),
                  );
              decided = subst (λ (u : World). StandFrom (length (w.desks h.d).log) (e ∷ es)
                  (u.desks h.d).log) (sym (goes_append h.starts h.n w f.events o.events)) stand;
              queue =
                  ap (λ u. (u.desks h.d).queue) (goes_append h.starts h.n w f.events o.events)
                  ∙ o.queue;
            }

-- of longer logs each desk lacks as much more
lacking_taller : (w : World) (len more : ℕ) (ks : List ℕ)
    → lacking w (len + more) ks ≤ lacking w len ks + more * length ks
lacking_taller w len more [] = omega arith
lacking_taller w len more (k ∷ ks) =
    omega (arith, lacking_taller w len more ks, mul-suc more (length ks))

-- for each entry 15 for each desk and 10, and four more for each desk
shares : (c p : ℕ) → c * (15 * p + 10) + 2 * (2 * c * p) ≡ c * (19 * p + 10)
shares zero p = omega arith
shares (suc c) p =
    let s = shares c p in
    let a = suc-mul c (15 * p + 10) in
    let b = suc-mul c (19 * p + 10) in
    let m : 2 * suc c * p ≡ 2 * c * p + 2 *
    p = (let e : 2 * suc c ≡ 2 * c + 2 = omega arith in ap (λ z. z * p) e ∙ add-mul (2 * c) 2 p) in
    omega (arith, s, a, b, m)

pub at_most_longest : (w : World) (ks : List ℕ) (k : ℕ) → Has ks k
    → length (w.desks k).log ≤ longest w ks
at_most_longest w [] k h = elim h [ ]
at_most_longest w (x ∷ ks) k h = go h (λ i. at_most_longest w ks k i)
  where
    go : Has (x ∷ ks) k → (Has ks k → length (w.desks k).log ≤ longest w ks)
        → length (w.desks k).log ≤ longest w (x ∷ ks)
    go (inl s) ih = let e = ap (λ j. length (w.desks j).log) s in omega (arith, e)
    go (inr i) ih = let l = ih i in omega (arith, l)

pub longest_fits : (w : World) (ks : List ℕ) (more : ℕ) → more ≤ 65536
    → ((k : ℕ) → Has ks k → length (w.desks k).log + more ≤ 65536) → longest w ks + more ≤ 65536
longest_fits w [] more low h = omega (arith, low)
longest_fits w (k ∷ ks) more low h =
    omega (arith, h k (inl refl), longest_fits w ks more low (λ j i. h j (inr i)))

-- a number that is above none of these, with what they may cost, is far enough from the last
numbers_fit : (w : World) (d : ℕ) (ks : List ℕ) (cost more : ℕ)
    → (w.desks d).stored.tried + (cost + more) ≤ 4294967295
    → (w.desks d).seen + (cost + more) ≤ 4294967295
    → ((k : ℕ) → Has ks k → (w.desks k).stored.promised.number + (cost + more) ≤ 4294967295)
    → (number : ℕ) × (number + more ≤ 4294967295) × ((w.desks d).stored.tried + cost ≤ number)
    × ((w.desks d).seen + cost ≤ number)
    × ((k : ℕ) → Has ks k → (w.desks k).stored.promised.number + cost ≤ number)
numbers_fit w d [] cost more t s h = (
  max (w.desks d).stored.tried (w.desks d).seen + cost,
  omega (arith, t, s),
  omega arith,
  omega arith,
  λ k i. elim i [ ],
)
numbers_fit w d (x ∷ ks) cost more t s h =
    go (numbers_fit w d ks cost more t s (λ k i. h k (inr i)))
  where
    go : (number : ℕ) × (number + more ≤ 4294967295) × ((w.desks d).stored.tried + cost ≤ number)
        × ((w.desks d).seen + cost ≤ number)
        × ((k : ℕ) → Has ks k → (w.desks k).stored.promised.number + cost ≤ number)
        → (number : ℕ) × (number + more ≤ 4294967295) × ((w.desks d).stored.tried + cost ≤ number)
        × ((w.desks d).seen + cost ≤ number)
        × ((k : ℕ) → Has (x ∷ ks) k → (w.desks k).stored.promised.number + cost ≤ number)
    go r =
        let here = h x (inl refl) in
        let low = r.1 in
        let t1 = r.2 in
        let s1 = r.3 in (
          max ((w.desks x).stored.promised.number + cost) r.0,
          omega (arith, here, low),
          omega (arith, t1),
          omega (arith, s1),
          λ k i. elim i [
            | inl e ↦ (let p = ap (λ j. (w.desks j).stored.promised.number) e in omega (arith, p))
            | inr m ↦ (let p = r.4 k m in omega (arith, p))
          ],
        )

-- what the laws say, of events alone or of turns
record QueueDecides (s : Bool) (n d : ℕ) (desks : List ℕ) (w : World) (es rest : List Entry)
    : Type 0 where
  pub events : List WorldEvent
  pub help : AreHelps s n d desks (length w.sent) w events
  pub few : length events ≤ enough w desks (length es)
  pub decided : StandFrom (length (w.desks d).log) es ((goes_on s n w events).desks d).log
  pub queue : ((goes_on s n w events).desks d).queue ≡ rest

-- what has to be left above each of the numbers
abbrev needed : Bool → ℕ → List ℕ → World → ℕ → ℕ
needed s d desks w count =
    cost_of s ((longest w desks + 2 * count) - length (w.desks d).log) + 2 * count

queue_decides : (s : Bool) (n : ℕ) (past : List WorldEvent) (d : ℕ) (desks : List ℕ)
    (es rest : List Entry) → IsMajority n desks → Has desks d
    → ((after n past).desks d).queue ≡ es ++ rest
    → ((k : ℕ) → Has desks k → length ((after n past).desks k).log + 2 * length es ≤ 65536)
    → ((k : ℕ) → Has desks k → ((after n past).desks k).stored.promised.number
    + needed s d desks (after n past) (length es) ≤ 4294967295)
    → ((after n past).desks d).stored.tried + needed s d desks (after n past) (length es)
    ≤ 4294967295
    → ((after n past).desks d).seen + needed s d desks (after n past) (length es) ≤ 4294967295
    → QueueDecides s n d desks (after n past) es rest
queue_decides s n past d desks es rest most mine queue logs promised tried seen =
    go (numbers_fit w d _ _ _ tried seen promised)
  where
    w : World
    w = after n past

    count : ℕ
    count = length es

    top : ℕ
    top = longest w desks + 2 * count

    h : Hall
    h =
        record {
          starts = s;
          n = n;
          d = d;
          desks = desks;
          start = length w.sent;
          top = top;
          majority = most;
          mine = mine;
          room = longest_fits w desks (2 * count)
              (let l = logs d mine in omega (arith, l)) logs;
        }

    done : AllDecide h (2 * lacking w top desks + count * each h) es rest w
        → QueueDecides s n d desks w es rest
    done o =
        record {
          events = o.events;
          help = o.help;
          few =
              omega (
                arith,
                o.few,
                lacking_taller w (longest w desks) (2 * count) desks,
                shares
                    count (length desks),
              );
          decided = o.decided;
          queue = o.queue;
        }

    go : (number : ℕ) × (number + 2 * count ≤ 4294967295)
        × ((w.desks d).stored.tried + cost_of s (top - length (w.desks d).log) ≤ number)
        × ((w.desks d).seen + cost_of s (top - length (w.desks d).log) ≤ number)
        × ((k : ℕ) → Has desks k → (w.desks k).stored.promised.number
        + cost_of s (top - length (w.desks d).log) ≤ number) → QueueDecides s n d desks w es rest
    go r =
        done (all_decided h es rest (longest w desks) r.0 w
        (search (at_most_longest w desks, arith)))

-- ---- the laws

plain_goes : (n : ℕ) (w : World) (es : List WorldEvent) → goes_on false n w es ≡ run n w es
plain_goes n w [] = refl
plain_goes n w (e ∷ es) = plain_goes n (happens n w e) es

plain_help : (n d : ℕ) (desks : List ℕ) (start : ℕ) (w : World) (es : List WorldEvent)
    → AreHelps false n d desks start w es → AreHelp n d desks start w es
plain_help n d desks start w [] h = tt
plain_help n d desks start w (e ∷ es) h = (h.0, plain_help n d desks start (happens n w e) es h.1)

turns_go : (n : ℕ) (w : World) (es : List WorldEvent) → goes_on true n w es ≡ take_turns n w es
turns_go n w [] = refl
turns_go n w (e ∷ es) = turns_go n (takes_turn n w e) es

turns_help : (n d : ℕ) (desks : List ℕ) (start : ℕ) (w : World) (es : List WorldEvent)
    → AreHelps true n d desks start w es → AreTurns n d desks start w es
turns_help n d desks start w [] h = tt
turns_help n d desks start w (e ∷ es) h =
    (h.0, turns_help n d desks start (takes_turn n w e) es h.1)

pub no_queue_is_stuck : NoQueueIsStuck
no_queue_is_stuck n past d desks es rest most mine queue room =
    said (queue_decides false n past d desks es rest most mine queue room.logs
    (λ k i. let p = room.promised k i in omega (arith, p))
    (let t = room.tried in omega (arith, t)) (let s = room.seen in omega (arith, s)))
  where
    said : QueueDecides false n d desks (after n past) es rest
        → CanDecide n d desks (after n past) es rest
    said q =
        record {
          events = q.events;
          help = plain_help n d desks (length (after n past).sent) (after n past) q.events q.help;
          few = q.few;
          decided = subst (λ (u : World). StandFrom (length ((after n past).desks d).log) es
              (u.desks d).log) (plain_goes n (after n past) q.events) q.decided;
          queue = cc (plain_goes n (after n past) q.events);
        }

pub no_desk_is_stuck : NoDeskIsStuck
no_desk_is_stuck n past d desks e rest most mine queue room =
    no_queue_is_stuck n past d desks (e ∷ []) rest most mine queue room

pub no_serving_desk_is_stuck : NoServingDeskIsStuck
no_serving_desk_is_stuck n past d desks es rest most mine queue room =
    said
    (queue_decides true n past d desks es rest most mine queue room.logs room.promised room.tried
    room.seen)
  where
    said : QueueDecides true n d desks (after n past) es rest
        → TurnsDecide n d desks (after n past) es rest
    said q =
        record {
          turns = q.events;
          help = turns_help n d desks (length (after n past).sent) (after n past) q.events q.help;
          few = q.few;
          decided = subst (λ (u : World). StandFrom (length ((after n past).desks d).log) es
              (u.desks d).log) (turns_go n (after n past) q.events) q.decided;
          queue = ap (λ u. (u.desks d).queue) (sym (turns_go n (after n past) q.events))
              ∙ q.queue;
        }
