-- Desk d gathers promises of a ballot against which nothing is, until it can ask for votes.
use Rattle.std.proofs.Common.{◌≡◌, ℕ, suc, ◌≤◌, ◌<◌, ◌+◌, ◌*◌, Bool, true, false, if◌then◌else◌}
use Rattle.std.proofs.Common.{◌==◌, List, [], ◌∷◌, ◌⊎◌, inl, inr, Option, Some, None, length, refl}
use Rattle.std.proofs.Common.{sym, ap, ◌∙◌, subst, arith}
use Rattle.std.proofs.lemmas.Bool.Decides.{nat_tests}
use Rattle.acceptor.specs.declared.{ballot.Ballot.Ballot, entry.Entry.Entry, message.Report.Report}
use Rattle.acceptor.specs.{Ballots.is_below, Storing.log_after, Answers.reported}
use Rattle.acceptor.specs.declared.message.Body.TheVariants.{Prepare, Promise, Accept}
use Rattle.acceptor.specs.declared.stored.{Stored.Stored, Vote.Vote}
use Rattle.acceptor.specs.Messages.{message, to_all}
use Rattle.proposer.specs.declared.{role.PromisingDesk.PromisingDesk, plan.Plan.Plan}
use Rattle.proposer.specs.declared.role.Role.TheVariants.{Gathering, Proposing}
use Rattle.proposer.specs.{Plans.become, Proposing.choice, Proposing.propose, Proposing.ask}
use Rattle.proposer.specs.Proposing.{promises_heard, is_majority, was_heard, higher, highest}
use Rattle.learner.specs.{Chosen.Has, Chosen.IsDistinct, Desks.Desk, Order.IsBelow, Worlds.World}
use Rattle.learner.{specs.Desks.adopt, specs.Desks.passing, proofs.Order.at_most_self}
use Rattle.progress.proofs.Aims.{Aim, lack, cost, cost_less, IsReached, Decides, decides_more}
use Rattle.progress.proofs.Aims.{carried, put_other, put_same, put_self, IsPending, pending_more}
use Rattle.progress.proofs.{Aims.pending_new, Aims.comes, Starting.all_pending, Levels.levels}
use Rattle.progress.proofs.Fits.{IsOldOr, Fit, fit_plain, fit_promised}
use Rattle.progress.proofs.Answers.{promises, prepare_ahead, promised_at, promise_heard}
use Rattle.progress.proofs.Votes.{IsClear, low_more, clear_level, clear_at, not_same, heard_test}

-- a vote that is reported is for an old position, or for the entry itself
abbrev pub IsFair : Aim → ℕ → Option Report → Type 0
IsFair a m None = Unit {0}
IsFair a m (Some r) = (m ≤ a.old) ⊎ (r.entry ≡ a.first)

pub fair_report : (a : Aim) (m : ℕ) (v : Option Vote) → IsOldOr a v → IsFair a m (reported v m)
fair_report a m None h = tt
fair_report a m (Some v) h = go (v.pos == m) refl
  where
    go : (t : Bool) → (v.pos == m) ≡ t
        → IsFair a m (if t then Some (record { ballot = v.ballot; entry = v.entry }) else None)
    go true t = let s : v.pos ≡ m = grind (arith, nat_tests) in elim h
        [ inl l ↦ inl (omega (arith, l, s)) | inr e ↦ inr e ]
    go false t = tt

pub fair_higher : (a : Aim) (m : ℕ) (v o : Option Report) → IsFair a m v → IsFair a m o
    → IsFair a m (higher v o)
fair_higher a m None o h g = g
fair_higher a m (Some r) None h g = h
fair_higher a m (Some r) (Some s) h g = go (is_below r.ballot s.ballot)
  where
    go : (t : Bool) → IsFair a m (if t then Some s else Some r)
    go true = g
    go false = h

-- the entry that is to be proposed
pub fair_choice : (a : Aim) (m : ℕ) (top : Option Report) → IsFair a m top
    → (f : Entry) × (choice top (a.first ∷ a.rest) ≡ Some f) × ((m ≤ a.old) ⊎ (f ≡ a.first))
fair_choice a m None h = (a.first, refl, inr refl)
fair_choice a m (Some r) h = (r.entry, refl, h)

-- desk d gathers promises of its ballot, and has still to hear these desks
pub record Gathers (a : Aim) (r : ℕ) (b : Ballot) (m : ℕ) (left : List ℕ)
    (heard : List PromisingDesk) (w : World) : Type 0 where
  pub fit : Fit a r w
  pub role : (w.desks a.d).role ≡ Gathering b m heard
  pub own : length (w.desks a.d).log ≡ m
  pub asked : (k : ℕ) → Has left k → IsPending a w (message a.d k (Prepare b m))
  pub new : (k : ℕ) → Has left k → was_heard heard k ≡ false
  pub within : (k : ℕ) → Has left k → Has a.desks k
  pub distinct : IsDistinct left
  pub few : is_majority a.n (length heard) ≡ false
  pub enough : a.n < 2 * (length heard + length left)
  pub fair : IsFair a m (highest heard)
  pub low : (k : ℕ) → Has left k → IsBelow (w.desks k).stored.promised b
  pub clear : IsClear a b m w
  pub tried : b.number + cost a w ≤ r

-- desk d has asked all for their votes, and nothing is against its ballot
pub record Proposes (a : Aim) (r : ℕ) (b : Ballot) (m : ℕ) (f : Entry) (w : World) : Type 0 where
  pub fit : Fit a r w
  pub role : (w.desks a.d).role ≡ Proposing b m f []
  pub own : length (w.desks a.d).log ≡ m
  pub asked : (k : ℕ) → Has a.desks k → IsPending a w (message a.d k (Accept b m f))
  pub old : (m ≤ a.old) ⊎ (f ≡ a.first)
  pub clear : IsClear a b m w
  pub tried : b.number + cost a w ≤ r

-- the entry that is to be proposed does not change the log
still_proposes : (n d : ℕ) (x : Desk) (b : Ballot) (m : ℕ) (o : Option Entry)
    → length (log_after x.log (propose n d (passing x) b m o).change) ≤ length x.log
still_proposes n d x b m None = omega arith
still_proposes n d x b m (Some e) = omega arith

-- a desk promises
gives : (a : Aim) (c r : ℕ) (b : Ballot) (m k : ℕ) (ks : List ℕ) (heard : List PromisingDesk)
    (w : World) → Gathers a r b m (k ∷ ks) heard w → length (w.desks k).log ≡ m
    → ((f : Entry) (v : World) → Proposes a r b m f v → Decides a (lack a v + c) v)
    → ((more : List PromisingDesk) (v : World) → Gathers a r b m ks more v
    → Decides a (lack a v + c) v) → Decides a (lack a w + suc (suc c)) w
gives a c r b m k ks heard w g here proposes again =
    let role1 : z.role ≡ Gathering b m heard = put_same (λ y. y.role) w.desks k (adopt x promising)
    refl a.d ∙ g.role in
    comes a (suc c) w (message a.d k (Prepare b m)) promising fit.reached a.mine i
    (g.asked k (inl refl)) (promised_at a.n a.d k x b m here (g.low k (inl refl))) (omega arith)
    (λ reached1. comes a c u (message k a.d (Promise b m vote))
    (promises_heard a.n a.d (passing z) b m more) reached1 i a.mine
    (pending_new a w k promising 0 (message k a.d (Promise b m vote)) fit.late refl)
    (promise_heard a.n a.d k z b m heard vote role1 (g.new k (inl refl)))
    (still (is_majority a.n (length more)))
    (count (fit1 reached1) (is_majority a.n (length more)) refl))
  where
    fit : Fit a r w
    fit = g.fit

    i : Has a.desks k
    i = g.within k (inl refl)

    x : Desk
    x = w.desks k

    vote : Option Report
    vote = reported x.stored.vote m

    promising : Plan
    promising = promises x k a.d b m

    u : World
    u = carried w k promising

    z : Desk
    z = u.desks a.d

    more : List PromisingDesk
    more = record { desk = k; vote = vote } ∷ heard

    own1 : length z.log ≡ m
    own1 = put_same (λ y. length y.log) w.desks k (adopt x promising) refl a.d ∙ g.own

    clear1 : IsClear a b m u
    clear1 = clear_at a b m m w k promising (at_most_self b) (omega (arith, here)) (omega arith)
        g.clear

    fit1 : IsReached a.n u → Fit a r u
    fit1 reached1 = fit_promised a r w k b (message k a.d (Promise b m vote) ∷ []) fit i reached1
        g.tried

    fair1 : IsFair a m (highest more)
    fair1 = fair_higher a m vote (highest heard) (fair_report a m x.stored.vote (fit.votes k i))
        g.fair

    waits : Plan
    waits = become (passing z) (Gathering b m more) []

    next : Bool → Plan
    next t = if t then propose a.n a.d (passing z) b m (choice (highest more) z.queue) else waits

    still : (t : Bool) → length (log_after z.log (next t).change) ≤ length z.log
    still true = still_proposes a.n a.d z b m (choice (highest more) z.queue)
    still false = omega arith

    tried1 : b.number + cost a u ≤ r
    tried1 = low_more a r b.number w k promising g.tried

    count : Fit a r u → (t : Bool) → is_majority a.n (length more) ≡ t
        → IsReached a.n (carried u a.d (next t))
        → Decides a (lack a (carried u a.d (next t)) + c) (carried u a.d (next t))
    count h true t reached2 = asks (fair_choice a m (highest more) fair1)
      where
        asks : (f : Entry) × (choice (highest more) (a.first ∷ a.rest) ≡ Some f)
            × ((m ≤ a.old) ⊎ (f ≡ a.first))
            → Decides a (lack a (carried u a.d (next true)) + c) (carried u a.d (next true))
        asks f =
            let plan : Plan = ask a.n a.d (passing z) b m f.0 in
            let same : next true ≡ plan = ap (λ q. propose a.n a.d (passing z) b m
            (choice (highest more) q)) h.queue ∙ ap (λ o. propose a.n a.d (passing z) b m o) f.1 in
            subst (λ (p : Plan). Decides a (lack a (carried u a.d p) + c) (carried u a.d p))
            (sym same) (proposes f.0 (carried u a.d plan) (record {
              fit = fit_plain a r u a.d z.seen (Some (Proposing b m f.0 []))
                  (to_all a.n a.d (Accept b m f.0)) h a.mine
                  (subst (λ (p : Plan). IsReached a.n (carried u a.d p)) same reached2)
                  (λ s. h.seen);
              role = ap (λ y. y.role) (put_self u.desks a.d (adopt z plan));
              own = ap (λ y. length y.log) (put_self u.desks a.d (adopt z plan)) ∙ own1;
              asked = λ j q. all_pending a u plan (Accept b m f.0) j refl h.late q;
              old = f.2;
              clear = clear_at a b m m u a.d plan (clear1 a.d a.mine).0
                  (let o = own1 in omega (arith, o)) (omega arith) clear1;
              tried = low_more a r b.number u a.d plan tried1;
            }))
    count h false t reached2 =
        again more (carried u a.d waits) (record {
          fit = fit_plain a r u a.d z.seen (Some (Gathering b m more)) [] h a.mine reached2
              (λ s. h.seen);
          role = ap (λ y. y.role) (put_self u.desks a.d (adopt z waits));
          own = ap (λ y. length y.log) (put_self u.desks a.d (adopt z waits)) ∙ own1;
          asked = λ j q. pending_more a u a.d waits (message a.d j (Prepare b m))
              (pending_more a w k promising (message a.d j (Prepare b m)) (g.asked j (inr q)));
          new = λ j q. heard_test k j (was_heard heard j) (not_same k j ks g.distinct.0 q)
              (g.new j (inr q));
          within = λ j q. g.within j (inr q);
          distinct = g.distinct.1;
          few = t;
          enough = let e = g.enough in omega (arith, e);
          fair = fair1;
          low = λ j q. subst (λ (s : Stored). IsBelow s.promised b) (sym (stored2 j q))
              (g.low j (inr q));
          clear = clear_at a b m m u a.d waits (clear1 a.d a.mine).0
              (let o = own1 in omega (arith, o)) (omega arith) clear1;
          tried = low_more a r b.number u a.d waits tried1;
        })
      where
        stored2 : (j : ℕ) → Has ks j → ((carried u a.d waits).desks j).stored ≡ (w.desks j).stored
        stored2 j q =
            put_same (λ y. y.stored) u.desks a.d (adopt z waits) refl j
            ∙ ap (λ y. y.stored) (put_other w.desks k (adopt x promising) j
            (not_same k j ks g.distinct.0 q))

-- the next desk is heard
gather_one : (a : Aim) (c r : ℕ) (b : Ballot) (m k : ℕ) (ks : List ℕ) (heard : List PromisingDesk)
    (w : World) → Gathers a r b m (k ∷ ks) heard w
    → ((f : Entry) (v : World) → Proposes a r b m f v → Decides a (lack a v + c) v)
    → ((more : List PromisingDesk) (v : World) → Gathers a r b m ks more v
    → Decides a (lack a v + c) v) → Decides a (lack a w + suc (suc (suc c))) w
gather_one a c r b m k ks heard w g proposes again =
    let i : Has a.desks k = g.within k (inl refl) in
    levels a (suc c) r k m w (Prepare b m) i g.fit g.own (g.clear k i).1 (g.asked k (inl refl))
    (λ x less. prepare_ahead a.n a.d k x b m less) (λ v l. gives a c r b m k ks heard v (record {
      fit = l.fit;
      role = ap (λ z. z.role) l.own ∙ g.role;
      own = ap (λ z. length z.log) l.own ∙ g.own;
      asked = λ j q. l.sent (message a.d j (Prepare b m)) (g.asked j q);
      new = g.new;
      within = g.within;
      distinct = g.distinct;
      few = g.few;
      enough = g.enough;
      fair = g.fair;
      low = λ j q. subst (λ (q : Ballot). IsBelow q b) (sym (l.promised j)) (g.low j q);
      clear = clear_level a r b k m w v l g.clear;
      tried = let c = cost_less a v w
          (let e = ap (λ z. length z.log) l.own in omega (arith, e)) in
          let o = g.tried in omega (arith, o, c);
    }) l.here proposes again)

-- all are heard, until a majority has promised
pub gather_all : (a : Aim) (c r : ℕ) (b : Ballot) (m : ℕ)
    → ((f : Entry) (v : World) → Proposes a r b m f v → Decides a (lack a v + c) v)
    → (left : List ℕ) (heard : List PromisingDesk) (w : World) → Gathers a r b m left heard w
    → Decides a (lack a w + (3 * length left + c)) w
gather_all a c r b m proposes [] heard w g =
    let few = g.few in let enough = g.enough in absurd (grind (arith, nat_tests, few, enough))
gather_all a c r b m proposes (k ∷ ks) heard w g =
    decides_more a _ _ w (omega arith) (gather_one a _ r b m k _ _ w g
    (λ f v p. decides_more a _ _ v (omega arith) (proposes f v p))
    (λ more v h. gather_all a c r b m proposes _ _ v h))
