-- A desk that neither proposes nor leads on makes ballots, until its first entry is decided.
use Rattle.std.proofs.Common.{◌≡◌, ℕ, suc, ◌≤◌, ◌<◌, ◌+◌, ◌-◌, ◌*◌, max, not, Bool, true, false}
use Rattle.std.proofs.Common.{if◌then◌else◌, ◌==◌, nat_lt, List, [], ◌∷◌, inl, inr, Some, None}
use Rattle.std.proofs.Common.{Result, Ok, Err, length, refl, sym, ap, ◌∙◌, subst, arith}
use Rattle.std.proofs.lemmas.Bool.Decides.{nat_tests}
use Rattle.acceptor.specs.declared.{ballot.Ballot.Ballot, entry.Entry.Entry, stored.Stored.Stored}
use Rattle.acceptor.specs.{Entries.is_same_entry, declared.message.Message.Message}
use Rattle.acceptor.specs.declared.message.Body.TheVariants.{Prepare, Accept, Nack, Decided}
use Rattle.acceptor.specs.Messages.{message, to_all}
use Rattle.proposer.specs.declared.fault.Refusal.{Refusal, TheVariants.BallotsSpent}
use Rattle.proposer.specs.declared.{role.Role.Role, plan.Plan.Plan}
use Rattle.proposer.specs.declared.role.Role.TheVariants.{Idle, Gathering, Proposing, Leading}
use Rattle.proposer.specs.Proposing.{is_full, last_number, gather, new_ballot, ask, ask_next}
use Rattle.proposer.specs.Proposing.{wants_ballot, tell_length, tick_idle, tick, tick_by_role}
use Rattle.learner.specs.{Chosen.Has, Chosen.IsMajority, Desks.Desk, Desks.adopt, Desks.passing}
use Rattle.learner.specs.{Order.IsAtMost, Order.IsBelow, Steps.on_body, Worlds.World}
use Rattle.learner.proofs.Order.{below_from_less, at_most_from_below}
use Rattle.progress.proofs.Aims.{Aim, lack, cost, IsReached, Decides, decides_more, carried}
use Rattle.progress.proofs.Aims.{put_same, put_self, IsPending, pending_new, comes, ticks}
use Rattle.progress.proofs.Fits.{Fit, fit_more, seen_at, fit_plain, fit_tried}
use Rattle.progress.proofs.Answers.{refuses, tells, gives_up, prepare_ahead, prepare_past}
use Rattle.progress.proofs.Answers.{refused_at, nack_heard, is_own_gathering}
use Rattle.progress.proofs.Starting.{IsFreeIn, IsFree, free_idle, all_pending}
use Rattle.progress.proofs.Levels.{desks_same, Level, levels, Taken, pull}
use Rattle.progress.proofs.Votes.{IsClear, Asks, LeadsOrAsks, Leads, low_more, self_same, hear_all}
use Rattle.progress.proofs.Promises.{Gathers, Proposes, gather_all}

-- the Tick of a free desk that has an entry, room and a number left
pub tick_makes : (n d : ℕ) (x : Desk) (e : Entry) (rest : List Entry)
    → IsFree x → x.queue ≡ e ∷ rest
    → length x.log < 65536 → last_number x.stored (passing x) < 4294967295
    → tick n d x.stored (length x.log) (passing x)
    ≡ Ok (gather n d x.stored (length x.log) (passing x) (last_number x.stored (passing x) + 1))
tick_makes n d x e rest free queue room number = go x.role free
  where
    made : Result Plan Refusal
    made = Ok (gather n d x.stored (length x.log) (passing x)
        (last_number x.stored (passing x) + 1))

    tells_length : Result Plan Refusal
    tells_length = Ok (tell_length n d (length x.log) (passing x))

    spent : (last_number x.stored (passing x) == 4294967295) ≡ false
    spent = grind (arith, nat_tests)

    fresh : new_ballot n d x.stored (length x.log) (passing x) ≡ made
    fresh = ap (λ t. if t then Err BallotsSpent else made) spent

    full : is_full (length x.log) ≡ false
    full = grind (arith, nat_tests)

    idle : tick_idle n d x.stored (length x.log) (passing x) ≡ made
    idle =
        ap (λ q. if wants_ballot q (length x.log) then new_ballot n d x.stored (length x.log)
        (passing x) else tells_length) queue
        ∙ ap (λ t. if not t then new_ballot n d x.stored (length x.log) (passing x)
        else tells_length) full ∙ fresh

    go : (role : Role) → IsFreeIn x.stored.promised role
        → tick_by_role n d x.stored (length x.log) (passing x) role ≡ made
    go Idle h = idle
    go (Gathering b pos heard) h = fresh
    go (Proposing b pos f heard) h = absurd h
    go (Leading own) h =
        ap (λ t. if t then tick_idle n d x.stored (length x.log) (passing x)
        else (if wants_ballot x.queue (length x.log) then Ok
        (ask_next n d (length x.log) (passing x) own x.queue) else tells_length)) h ∙ idle

-- the Tick of one that leads, and is not outbid
pub tick_leads : (n d : ℕ) (x : Desk) (b : Ballot) (e : Entry) (rest : List Entry)
    → x.role ≡ Leading b → IsAtMost x.stored.promised b → x.queue ≡ e ∷ rest → length x.log < 65536
    → tick n d x.stored (length x.log) (passing x) ≡ Ok (ask n d (passing x) b (length x.log) e)
tick_leads n d x b e rest role low queue room =
    let full : is_full (length x.log) ≡ false = grind (arith, nat_tests) in
    cc
  where
    tells_length : Result Plan Refusal
    tells_length = Ok (tell_length n d (length x.log) (passing x))

    next : List Entry → Result Plan Refusal
    next q = if wants_ballot q (length x.log) then Ok (ask_next n d (length x.log) (passing x) b q)
        else tells_length

-- the greatest number that desk d knows of
abbrev pub known : Aim → World → ℕ
known a w = last_number (w.desks a.d).stored (passing (w.desks a.d))

known_under : (a : Aim) (r : ℕ) (w : World) → Fit a r w → known a w + cost a w ≤ r
known_under a r w h = omega (arith, h.tried, h.promised a.d a.mine, h.seen)

-- going from w to v, desk d has made this ballot
record Made (a : Aim) (r : ℕ) (b : Ballot) (w v : World) : Type 0 where
  pub fit : Fit a r v
  pub role : (v.desks a.d).role ≡ Gathering b (length (w.desks a.d).log) []
  pub tried : b.number + cost a v ≤ r
  pub logs : (j : ℕ) → (v.desks j).log ≡ (w.desks j).log
  pub promised : (j : ℕ) → (v.desks j).stored.promised ≡ (w.desks j).stored.promised
  pub known : b.number ≤ known a v
  pub asked : (k : ℕ) → Has a.desks k
      → IsPending a v (message a.d k (Prepare b (length (w.desks a.d).log)))

makes_ballot : (a : Aim) (c r s : ℕ) (w : World) → Fit a r w → IsFree (w.desks a.d) → r ≤ s
    → s ≤ a.number + 2 → known a w + cost a w < s
    → ((v : World) → Made a s (record { number = known a w + 1; desk = a.d }) w v
    → Decides a (lack a v + c) v) → Decides a (lack a w + suc c) w
makes_ballot a c r s w h free less under room next =
    let x : Desk = w.desks a.d in
    let b : Ballot =
    record { number = known a w + 1; desk = a.d } in
    let made : Plan = gather a.n a.d x.stored (length x.log) (passing x) (known a w + 1) in
    let v : World = carried w a.d made in
    let self : v.desks a.d ≡ adopt x made = put_self w.desks a.d (adopt x made) in
    ticks a c w made h.reached (tick_makes a.n a.d x a.first a.rest free h.queue
    (let l = h.lens a.d a.mine in let o = a.room in omega (arith, l, o))
    (let o = a.numbers in omega (arith, o, under, room))) (omega arith) (λ reached1. next v
    (record {
      fit = fit_tried a s w (known a w + 1) (Some (Gathering b (length x.log) []))
          (to_all a.n a.d (Prepare b (length x.log)))
          (fit_more a r s w less under h) reached1 (omega (arith, room));
      role = ap (λ y. y.role) self;
      tried = low_more a s (known a w + 1) w a.d made (omega (arith, room));
      logs = λ j. put_same (λ y. y.log) w.desks a.d (adopt x made) refl j;
      promised = λ j. put_same (λ y. y.stored.promised) w.desks a.d (adopt x made) refl j;
      known = subst (λ (y : Desk). known a w + 1 ≤ last_number y.stored (passing y)) (sym self)
          (omega arith);
      asked = λ k i. all_pending a w made (Prepare b (length x.log)) k refl h.late i;
    }))

-- it has asked all for votes for its first entry
pub asks_all : (a : Aim) (r m : ℕ) (C : Type 0) (b : Ballot) (w : World) → Fit a r w
    → (w.desks a.d).role ≡ Proposing b m a.first [] → length (w.desks a.d).log ≡ m
    → ((k : ℕ) → Has a.desks k → IsPending a w (message a.d k (Accept b m a.first)))
    → b.number + cost a w ≤ r → (C → IsClear a b m w) → Asks a r C b m a.first a.desks [] w
asks_all a r m C b w h role own asked low clear =
    let most : IsMajority a.n a.desks = a.majority in
    record {
      fit = h;
      role = role;
      own = own;
      asked = asked;
      new = λ k i. refl;
      within = λ k i. i;
      distinct = most.distinct;
      few = grind (arith, nat_tests);
      enough = let many : a.n < 2 * length a.desks = most.many in omega (arith, many);
      old = inr refl;
      low = low;
      clear = clear;
    }

-- a desk that leads, and is not outbid, asks for them
pub lead_asks : (a : Aim) (c r m : ℕ) (C : Type 0) (b : Ballot) (w : World) → Fit a r w
    → (w.desks a.d).role ≡ Leading b → IsAtMost (w.desks a.d).stored.promised b
    → length (w.desks a.d).log ≡ m → b.number + cost a w ≤ r → (C → IsClear a b m w)
    → ((v : World) → Asks a r C b m a.first a.desks [] v → Decides a (lack a v + c) v)
    → Decides a (lack a w + suc c) w
lead_asks a c r m C b w h role low own number clear next =
    let x : Desk = w.desks a.d in
    let plan : Plan = ask a.n a.d (passing x) b m a.first in
    let v : World = carried w a.d plan in
    ticks a c w plan h.reached (tick_leads a.n a.d x b a.first a.rest role low h.queue
    (let l = h.lens a.d a.mine in let o = a.room in omega (arith, l, o))
    ∙ ap (λ l. Ok (ask a.n a.d (passing x) b l a.first)) own) (omega arith) (λ reached1. next v
    (asks_all a r m C b v (fit_plain a r w a.d x.seen (Some (Proposing b m a.first []))
    (to_all a.n a.d (Accept b m a.first)) h a.mine reached1 (λ s. h.seen))
    (ap (λ y. y.role) (put_self w.desks a.d (adopt x plan)))
    (ap (λ y. length y.log) (put_self w.desks a.d (adopt x plan)) ∙ own)
    (λ k i. all_pending a w plan (Accept b m a.first) k refl h.late i)
    (low_more a r b.number w a.d plan number) (λ t j i. let q = clear t j i in (
      rw (put_same (λ y. y.stored) w.desks a.d (adopt x plan) refl j) q.0,
      rw (put_same (λ y. y.log) w.desks a.d (adopt x plan) refl j) q.1,
    ))))

-- or it has asked by a Start
pub leads_or_asks : (a : Aim) (c r m : ℕ) (C : Type 0) (b : Ballot) (w : World) → Fit a r w
    → LeadsOrAsks a b m w → IsAtMost (w.desks a.d).stored.promised b
    → length (w.desks a.d).log ≡ m → b.number + cost a w ≤ r → (C → IsClear a b m w)
    → ((v : World) → Asks a r C b m a.first a.desks [] v → Decides a (lack a v + c) v)
    → Decides a (lack a w + suc c) w
leads_or_asks a c r m C b w h (inl role) low own number clear next =
    lead_asks a c r m C b w h role low own number clear next
leads_or_asks a c r m C b w h (inr asked) low own number clear next =
    decides_more a (lack a w + c) (lack a w + suc c) w (omega arith)
    (next w (asks_all a r m C b w h asked.0 own asked.1 number clear))

-- its own entry is not another
pub not_other : (e : Entry) → is_same_entry e e ≡ false → ⊥
not_other e h = let s = self_same e in grind (arith, h, s)

-- with the longest log, and no number promised above those that it knows of, the next ballot
-- decides
last_ballot : (a : Aim) (r : ℕ) (w : World) → Fit a r w → r + 1 ≤ a.number + 2
    → IsFree (w.desks a.d)
    → ((j : ℕ) → Has a.desks j → length (w.desks j).log ≤ length (w.desks a.d).log)
    → ((j : ℕ) → Has a.desks j → (w.desks j).stored.promised.number ≤ known a w)
    → Decides a (lack a w + (9 * length a.desks + 2)) w
last_ballot a r w h room free lens numbers =
    decides_more a (lack a w + suc (3 * length
    a.desks + (3 * length a.desks + suc (3 * length a.desks + 0))))
    (lack a w + (9 * length a.desks + 2)) w (omega arith)
    (makes_ballot a (3 * length a.desks + (3 * length a.desks + suc (3 * length a.desks + 0))) r s w
    h free (let u = h.under in u) (omega arith) (omega (arith, known_under a r w h, room))
    (λ v made. gather_all a (3 * length a.desks + suc (3 * length a.desks + 0)) s b m asks a.desks
    [] v (gathers v made)))
  where
    most : IsMajority a.n a.desks
    most = a.majority

    m : ℕ
    m = length (w.desks a.d).log

    b : Ballot
    b = record { number = known a w + 1; desk = a.d }

    s : ℕ
    s = a.number + 2

    last : (v : World) → Asks a s (Unit {0}) b (suc m) a.first a.desks [] v
        → Decides a (lack a v + (3 * length a.desks + 0)) v
    last v g =
        hear_all a 0 s (Unit {0}) b (suc m) a.first (λ u y. absurd (y.against tt))
        (λ u l t. absurd (not_other a.first t)) a.desks [] v g

    leads : (f : Entry) (v : World) → Leads a s (Unit {0}) b m v
        → Decides a (lack a v + suc (3 * length a.desks + 0)) v
    leads f v l =
        leads_or_asks a (3 * length a.desks + 0) s (suc m) (Unit {0}) b v l.fit l.role
        (l.clear tt a.d a.mine).0 l.own l.number l.clear last

    asks : (f : Entry) (v : World) → Proposes a s b m f v
        → Decides a (lack a v + (3 * length a.desks + suc (3 * length a.desks + 0))) v
    asks f v p =
        hear_all a (suc (3 * length a.desks + 0)) s (Unit {0}) b m f (λ u y. absurd (y.against tt))
        (λ u l t. leads f u l) a.desks [] v (record {
          fit = p.fit;
          role = p.role;
          own = p.own;
          asked = p.asked;
          new = λ k i. refl;
          within = λ k i. i;
          distinct = most.distinct;
          few = grind (arith, nat_tests);
          enough = let many : a.n < 2 * length a.desks = most.many in omega (arith, many);
          old = p.old;
          low = p.tried;
          clear = λ t. p.clear;
        })

    gathers : (v : World) → Made a s b w v → Gathers a s b m a.desks [] v
    gathers v g =
        record {
          fit = g.fit;
          role = g.role;
          own = ap (λ l. length l) (g.logs a.d);
          asked = g.asked;
          new = λ k i. refl;
          within = λ k i. i;
          distinct = most.distinct;
          few = grind (arith, nat_tests);
          enough = let many : a.n < 2 * length a.desks = most.many in omega (arith, many);
          fair = tt;
          low = low;
          clear = λ k i. (
            at_most_from_below (v.desks k).stored.promised b (low k i),
            subst (λ (l : List Entry). length l ≤ m) (sym (g.logs k)) (lens k i),
          );
          tried = g.tried;
        }
      where
        low : (k : ℕ) → Has a.desks k → IsBelow (v.desks k).stored.promised b
        low k i =
            subst (λ (p : Ballot). IsBelow p b) (sym (g.promised k))
            (below_from_less (w.desks k).stored.promised b (inl (omega (arith, numbers k i))))

-- one of these is greatest
pub greatest : (f : ℕ → ℕ) (ks : List ℕ) (d : ℕ) → Has ks d
    → (k : ℕ) × Has ks k × ((j : ℕ) → Has ks j → f j ≤ f k)
greatest f [] d h = elim h [ ]
greatest f (x ∷ []) d h =
    (x, inl refl, λ j i. elim i [ inl e ↦ (omega (arith, ap f e)) | inr m ↦ elim m [ ] ])
greatest f (x ∷ y ∷ ys) d h = go (greatest f (y ∷ ys) y (inl refl))
  where
    go : (k : ℕ) × Has (y ∷ ys) k × ((j : ℕ) → Has (y ∷ ys) j → f j ≤ f k)
        → (k : ℕ) × Has (x ∷ y ∷ ys) k × ((j : ℕ) → Has (x ∷ y ∷ ys) j → f j ≤ f k)
    go r = pick (nat_lt (f r.0) (f x)) refl
      where
        pick : (t : Bool) → nat_lt (f r.0) (f x) ≡ t
            → (k : ℕ) × Has (x ∷ y ∷ ys) k × ((j : ℕ) → Has (x ∷ y ∷ ys) j → f j ≤ f k)
        pick true t = (
          x,
          inl refl,
          λ j i. elim i [
            | inl e ↦ (let s = ap f e in omega (arith, s))
            | inr m
                ↦ (let o = r.2 j m in let b : f r.0 < f x = grind (arith, nat_tests) in omega
                (arith, o, b))
          ],
        )
        pick false t = (
          r.0,
          inr r.1,
          λ j i. elim i [
            | inl e ↦ (let s = ap f e in let b : f x ≤ f r.0 = grind (arith, nat_tests) in omega
                (arith, s, b))
            | inr m ↦ r.2 j m
          ],
        )

-- desk k refuses the ballot, and shows the number that it has promised
learns : (a : Aim) (r m k : ℕ) (b : Ballot) (w : World) → Fit a r w → r + 1 ≤ a.number + 2
    → (w.desks a.d).role ≡ Gathering b m [] → length (w.desks a.d).log ≡ m
    → ((j : ℕ) → Has a.desks j → length (w.desks j).log ≤ m) → Has a.desks k
    → ((j : ℕ) → Has a.desks j → (w.desks j).stored.promised.number
    ≤ (w.desks k).stored.promised.number)
    → b.number < (w.desks k).stored.promised.number → IsPending a w (message a.d k (Prepare b m))
    → length (w.desks k).log ≡ m → Decides a (lack a w + suc (suc (9 * length a.desks + 2))) w
learns a r m k b w h room role own lens i most high asked here =
    let above : IsBelow b q = below_from_less b q (inl high) in
    let self : v.desks a.d ≡ adopt (u.desks a.d) (gives_up (u.desks a.d) q.number) = put_self
    u.desks a.d (adopt (u.desks a.d) (gives_up (u.desks a.d) q.number)) in
    let learnt : q.number ≤ known a v = rw self (omega arith) in
    comes a (suc (9 * length a.desks + 2)) w (message a.d k (Prepare b m)) (refuses x k a.d b m)
    h.reached a.mine i asked
    (refused_at a.n a.d k x b m here (at_most_from_below b q above)) (omega arith)
    (λ reached1. comes a (9 * length a.desks + 2) u (message k a.d (Nack b m q))
    (gives_up (u.desks a.d) q.number) reached1 i a.mine
    (pending_new a w k (refuses x k a.d b m) 0 (message k a.d (Nack b m q)) h.late refl)
    (nack_heard a.n a.d k (u.desks a.d) b m q
    (is_own_gathering (u.desks a.d) b m [] (ap (λ z. z.role) (same a.d) ∙ role)) above)
    (omega arith) (λ reached2. last_ballot a r v (fit2 (fit1 reached1) reached2) room
    (free_idle (v.desks a.d) (ap (λ z. z.role) self))
    (λ j p. subst (λ (l : List Entry). length l ≤ length (v.desks a.d).log) (sym (logs j))
    (let l = ap (λ l. length l) (logs a.d) in let o = lens j p in omega (arith, l, o, own)))
    (λ j p. subst (λ (s : Stored). s.promised.number ≤ known a v) (sym (stored j))
    (let o = most j p in let e = learnt in omega (arith, o, e)))))
  where
    x : Desk
    x = w.desks k

    q : Ballot
    q = x.stored.promised

    ms : List Message
    ms = message k a.d (Nack b m q) ∷ []

    u : World
    u = carried w k (refuses x k a.d b m)

    same : (j : ℕ) → u.desks j ≡ w.desks j
    same j = desks_same w k ms j

    v : World
    v = carried u a.d (gives_up (u.desks a.d) q.number)

    logs : (j : ℕ) → (v.desks j).log ≡ (w.desks j).log
    logs j = put_same (λ z. z.log) u.desks _ _ refl j ∙ ap (λ z. z.log) (same j)

    stored : (j : ℕ) → (v.desks j).stored ≡ (w.desks j).stored
    stored j = put_same (λ z. z.stored) u.desks _ _ refl j ∙ ap (λ z. z.stored) (same j)

    fit1 : IsReached a.n u → Fit a r u
    fit1 reached1 = fit_plain a r w k x.seen None ms h i reached1 (seen_at a r w k h)

    fit2 : Fit a r u → IsReached a.n v → Fit a r v
    fit2 g reached2 =
        fit_plain a r u a.d (max (u.desks a.d).seen q.number) (Some Idle) [] g a.mine reached2
        (λ s. let l = low_more a r q.number w k (refuses x k a.d b m) (h.promised k i) in
        let o = g.seen in omega (arith, l, o))

-- with the longest log, whatever was promised
longest_decides : (a : Aim) (r : ℕ) (w : World) → Fit a r w → r + 1 ≤ a.number + 2
    → IsFree (w.desks a.d)
    → ((j : ℕ) → Has a.desks j → length (w.desks j).log ≤ length (w.desks a.d).log)
    → Decides a (lack a w + (9 * length a.desks + 6)) w
longest_decides a r w h room free lens =
    go (greatest (λ j. (w.desks j).stored.promised.number) a.desks a.d a.mine)
  where
    m : ℕ
    m = length (w.desks a.d).log

    b : Ballot
    b = record { number = known a w + 1; desk = a.d }

    all : ℕ
    all = 9 * length a.desks + 2

    go : (k : ℕ) × Has a.desks k × ((j : ℕ) → Has a.desks j
        → (w.desks j).stored.promised.number ≤ (w.desks k).stored.promised.number)
        → Decides a (lack a w + (9 * length a.desks + 6)) w
    go g = knows (nat_lt (known a w) (w.desks g.0).stored.promised.number) refl
      where
        k : ℕ
        k = g.0

        q : ℕ
        q = (w.desks k).stored.promised.number

        own : (v : World) → Made a r b w v → length (v.desks a.d).log ≡ m
        own v made = ap (λ l. length l) (made.logs a.d)

        lens1 : (v : World) → Made a r b w v → (j : ℕ) → Has a.desks j → length (v.desks j).log ≤ m
        lens1 v made j p = subst (λ (l : List Entry). length l ≤ m) (sym (made.logs j)) (lens j p)

        most1 : (v : World) → Made a r b w v → (j : ℕ) → Has a.desks j
            → (v.desks j).stored.promised.number ≤ q
        most1 v made j p = subst (λ (s : Ballot). s.number ≤ q) (sym (made.promised j)) (g.2 j p)

        refused : (v : World) → Made a r b w v → known a w + 1 < q
            → Decides a (lack a v + suc (suc (suc all))) v
        refused v made high =
            levels a (suc all) r k m v (Prepare b m) g.1 made.fit (own v made) (lens1 v made k g.1)
            (made.asked k g.1) (λ x less. prepare_ahead a.n a.d k x b m less)
            (λ u l. learns a r m k b u l.fit room (ap (λ z. z.role) l.own ∙ made.role)
            (ap (λ z. length z.log) l.own ∙ own v made) (λ j p. lens2 v made u l j p) g.1
            (λ j p. subst (λ (s : Ballot). s.number ≤ (u.desks k).stored.promised.number)
            (sym (l.promised j))
            (subst (λ (s : Ballot). (v.desks j).stored.promised.number ≤ s.number)
            (sym (l.promised k)) (rw (made.promised k) (most1 v made j p))))
            (subst (λ (s : Ballot). known a w + 1 < s.number) (sym (l.promised k))
            (subst (λ (s : Ballot). known a w + 1 < s.number) (sym (made.promised k)) high))
            (l.sent (message a.d k (Prepare b m)) (made.asked k g.1)) l.here)
          where
            lens2 : (v : World) → Made a r b w v → (u : World) → Level a r k m v u → (j : ℕ)
                → Has a.desks j → length (u.desks j).log ≤ m
            lens2 v made u l j p = pick (k == j) refl
              where
                pick : (t : Bool) → (k == j) ≡ t → length (u.desks j).log ≤ m
                pick true t =
                    let s : k ≡ j = grind (arith, nat_tests) in
                    omega (arith, ap (λ z. length (u.desks z).log) s, l.here)
                pick false t =
                    let e = ap (λ z. length z.log) (l.others j (λ s. grind (arith, nat_tests))) in
                    let o = lens1 v made j p in omega (arith, e, o)

        reached : (v : World) → Made a r b w v → q ≤ known a w + 1 → Decides a (lack a v + all) v
        reached v made near =
            last_ballot a r v made.fit room (rw made.role tt)
            (λ j p. let o = lens1 v made j p in let e = own v made in omega (arith, o, e))
            (λ j p. let o = most1 v made j p in let e = made.known in omega (arith, o, e, near))

        tried : (v : World) → Made a r b w v → (s : Bool) → nat_lt (known a w + 1) q ≡ s
            → Decides a (lack a v + suc (suc (suc all))) v
        tried v made true s = refused v made (grind (arith, nat_tests))
        tried v made false s =
            decides_more a _ _ v (omega arith) (reached v made (grind (arith, nat_tests)))

        knows : (t : Bool) → nat_lt (known a w) q ≡ t
            → Decides a (lack a w + (9 * length a.desks + 6)) w
        knows false t =
            decides_more a _ _ w (omega arith) (last_ballot a r w h room free lens
            (λ j p. let o = g.2 j p in let s : q ≤ known a w = grind (arith, nat_tests) in omega
            (arith, o, s)))
        knows true t =
            decides_more a _ _ w (omega arith) (makes_ballot a _ r r w h free (omega arith) h.under
            (let l = h.promised k g.1 in let s : known a w < q = grind (arith, nat_tests) in omega
            (arith, l, s)) (λ v made. tried v made (nat_lt (known a w + 1) q) refl))

-- from every world in which desk d is free
pub free_decides : (a : Aim) (r : ℕ) (w : World) → Fit a r w → r ≤ a.number → IsFree (w.desks a.d)
    → Decides a (lack a w + (9 * length a.desks + 8)) w
free_decides a r w h under free = go (greatest (λ j. length (w.desks j).log) a.desks a.d a.mine)
  where
    m : ℕ
    m = length (w.desks a.d).log

    b : Ballot
    b = record { number = known a w + 1; desk = a.d }

    all : ℕ
    all = 9 * length a.desks + 6

    go : (k : ℕ) × Has a.desks k × ((j : ℕ) → Has a.desks j
        → length (w.desks j).log ≤ length (w.desks k).log)
        → Decides a (lack a w + (9 * length a.desks + 8)) w
    go g = longer (nat_lt m (length (w.desks g.0).log)) refl
      where
        k : ℕ
        k = g.0

        len : ℕ
        len = length (w.desks k).log

        caught_up : (v : World) → ((j : ℕ) → (v.desks j).log ≡ (w.desks j).log) → (u : World)
            → Taken a (suc r) k len v u → Decides a (lack a u + all) u
        caught_up v logs u t = longest_decides a (suc r) u t.fit (omega (arith, under)) t.free lens
          where
            lens : (j : ℕ) → Has a.desks j → length (u.desks j).log ≤ length (u.desks a.d).log
            lens j p = pick (a.d == j) refl
              where
                pick : (s : Bool) → (a.d == j) ≡ s
                    → length (u.desks j).log ≤ length (u.desks a.d).log
                pick true s =
                    let i : a.d ≡ j = grind (arith, nat_tests) in
                    let e = ap (λ z. length (u.desks z).log) i in omega (arith, e)
                pick false s =
                    omega (
                      arith,
                      ap (λ z. length z.log)
                          (t.others j (λ i. grind (arith, nat_tests))),
                      ap (λ l. length l) (logs j),
                      g.2 j
                          p,
                      t.here,
                    )

        asks : m < len → (v : World) → Made a (suc r) b w v
            → (y : Entry) × (on_body a.n k (v.desks k) a.d (Prepare b m) ≡ tells (v.desks k) k a.d m
            y) → Decides a (lack a v + suc all) v
        asks less v made t =
            let f : Fit a (suc r) v = made.fit in
            let ms : List Message = message k a.d (Decided m t.0) ∷ [] in
            let u : World = carried v k (tells (v.desks k) k a.d m t.0) in
            comes a all v (message a.d k (Prepare b m)) (tells (v.desks k) k a.d m t.0) f.reached
            a.mine g.1 (made.asked k g.1) t.1 (omega arith)
            (λ reached1. pull a all (suc r) k len g.1 (len - suc m) u m t.0
            (fit_plain a (suc r) v k (v.desks k).seen None ms f g.1 reached1
            (seen_at a (suc r) v k f))
            (ap (λ z. length z.log) (desks_same v k ms a.d) ∙ ap (λ l. length l) (made.logs a.d))
            (omega (arith, less))
            (ap (λ z. length z.log) (desks_same v k ms k) ∙ ap (λ l. length l) (made.logs k))
            (pending_new a v k (tells (v.desks k) k a.d m t.0) 0 (message k a.d (Decided m t.0))
            f.late refl)
            (λ z q. caught_up u (λ j. ap (λ y. y.log) (desks_same v k ms j) ∙ made.logs j) z q))

        longer : (t : Bool) → nat_lt m len ≡ t → Decides a (lack a w + (9 * length a.desks + 8)) w
        longer false t =
            decides_more a _ _ w (omega arith) (longest_decides a r w h (omega (arith, under)) free
            (λ j p. let o = g.2 j p in let s : len ≤ m = grind (arith, nat_tests) in omega
            (arith, o, s)))
        longer true t =
            let less : m < len = grind (arith, nat_tests) in
            decides_more a (lack a w + suc (suc all)) (lack a w + (9 * length a.desks + 8)) w
            (omega arith)
            (makes_ballot a (suc all) r (suc r) w h free (omega arith) (omega (arith, under))
            (let o = known_under a r w h in omega (arith, o)) (λ v made. asks less v made
            (prepare_past a.n a.d k (v.desks k) b m
            (let l = ap (λ l. length l) (made.logs k) in let s = less in omega (arith, l, s)))))
