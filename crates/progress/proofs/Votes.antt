-- Desk d has asked for votes, and hears the desks one after the other: it gives way, or it leads.
use Rattle.std.proofs.Common.{◌≡◌, ℕ, suc, ◌≤◌, ◌<◌, ◌+◌, ◌*◌, ◌||◌, max, Bool, true, false}
use Rattle.std.proofs.Common.{if◌then◌else◌, ◌==◌, nat_lt, List, [], ◌∷◌, ◌⊎◌, inl, inr, Some, None}
use Rattle.std.proofs.Common.{length, refl, sym, ap, ◌∙◌, subst, arith, length-append}
use Rattle.std.proofs.lemmas.{Bool.Decides.nat_tests, Slice.Eq.bytes_eq-Decides}
use Rattle.acceptor.specs.declared.{ballot.Ballot.Ballot, entry.Entry.Entry}
use Rattle.acceptor.specs.{Ballots.is_below, Entries.is_same_entry, Messages.message, Messages.has}
use Rattle.acceptor.specs.declared.message.Body.TheVariants.{Accept, Accepted, Nack, Decided}
use Rattle.acceptor.specs.{declared.message.Message.Message, Messages.to_others}
use Rattle.proposer.specs.declared.role.Role.TheVariants.{Idle, Proposing, Leading}
use Rattle.proposer.specs.{declared.plan.Plan.Plan, Proposing.is_majority}
use Rattle.proposer.specs.Plans.{append, become}
use Rattle.learner.specs.{Chosen.Has, Chosen.IsDistinct, Desks.Desk, Desks.adopt, Desks.passing}
use Rattle.learner.specs.{Order.IsAtMost, Order.IsBelow, Steps.on_body, Worlds.World}
use Rattle.learner.proofs.Order.{at_most_self}
use Rattle.progress.proofs.Aims.{Aim, lack, cost, cost_less, IsReached, Decides, decides_here}
use Rattle.progress.proofs.Aims.{decides_more, carried, put_at, put_same, put_self, IsPending}
use Rattle.progress.proofs.Aims.{pending_more, pending_new, logs_grow, comes}
use Rattle.progress.proofs.Fits.{Fit, seen_at, fit_plain, fit_voted, fit_appended, fit_decided}
use Rattle.progress.proofs.Starting.{IsFree, free_idle, Started, HasAsked, LeadsOn, wins}
use Rattle.progress.proofs.Starting.{cost_started, fit_started, start_paid, decided_started}
use Rattle.progress.proofs.Answers.{refuses, votes_for, tells, gives_up, accept_past, accept_ahead}
use Rattle.progress.proofs.Answers.{voted_at, outvoted_at, vote_heard, nack_heard, is_own_proposing}
use Rattle.progress.proofs.Levels.{desks_same, Level, levels, take_one}

-- of the desks none has promised a ballot above this one, and none has a longer log
abbrev pub IsClear : Aim → Ballot → ℕ → World → Type 0
IsClear a b m w =
    (k : ℕ) → Has a.desks k → IsAtMost (w.desks k).stored.promised b × (length (w.desks k).log ≤ m)

pub clear_level : (a : Aim) (r : ℕ) (b : Ballot) (k m : ℕ) (w v : World) → Level a r k m w v
    → IsClear a b m w → IsClear a b m v
clear_level a r b k m w v l h j i = (rw (l.promised j) (h j i).0, go (k == j) refl)
  where
    go : (t : Bool) → (k == j) ≡ t → length (v.desks j).log ≤ m
    go true t =
        let s : k ≡ j = grind (arith, nat_tests) in
        omega (arith, ap (λ z. length (v.desks z).log) s, l.here)
    go false t =
        let e = ap (λ z. length z.log) (l.others j (λ s. grind (arith, nat_tests))) in
        let o = (h j i).1 in omega (arith, e, o)

-- desk k's promise and log have come to be such
pub clear_at : (a : Aim) (b : Ballot) (m l : ℕ) (w : World) (k : ℕ) (p : Plan)
    → IsAtMost (adopt (w.desks k) p).stored.promised b → length (adopt (w.desks k) p).log ≤ l
    → m ≤ l → IsClear a b m w → IsClear a b l (carried w k p)
clear_at a b m l w k p s t u h j i = (
  put_at (λ x. IsAtMost x.stored.promised b) w.desks k (adopt (w.desks k) p) j (λ e. s) (h j i).0,
  put_at (λ x. length x.log ≤ l) w.desks k (adopt (w.desks k) p) j (λ e. t)
      (let o = (h j i).1 in omega (arith, o, u)),
)

-- desk d has asked for votes for this entry, and has still to hear these desks. C: nothing is
-- against its ballot
pub record Asks (a : Aim) (r : ℕ) (C : Type 0) (b : Ballot) (m : ℕ) (f : Entry)
    (left heard : List ℕ) (w : World) : Type 0 where
  pub fit : Fit a r w
  pub role : (w.desks a.d).role ≡ Proposing b m f heard
  pub own : length (w.desks a.d).log ≡ m
  pub asked : (k : ℕ) → Has left k → IsPending a w (message a.d k (Accept b m f))
  pub new : (k : ℕ) → Has left k → has heard k ≡ false
  pub within : (k : ℕ) → Has left k → Has a.desks k
  pub distinct : IsDistinct left
  pub few : is_majority a.n (length heard) ≡ false
  pub enough : a.n < 2 * (length heard + length left)
  pub old : (m ≤ a.old) ⊎ (f ≡ a.first)
  pub low : b.number + cost a w ≤ r
  pub clear : C → IsClear a b m w

-- something stood against its ballot, and it is free
pub record Yields (a : Aim) (r : ℕ) (C : Type 0) (v : World) : Type 0 where
  pub fit : Fit a r v
  pub free : IsFree (v.desks a.d)
  pub against : C → ⊥

-- it leads, or has asked all for their votes for its first entry by a Start
abbrev pub LeadsOrAsks : Aim → Ballot → ℕ → World → Type 0
LeadsOrAsks a b m v =
    ((v.desks a.d).role ≡ Leading b) ⊎ (((v.desks a.d).role ≡ Proposing b m a.first [])
    × ((k : ℕ) → Has a.desks k → IsPending a v (message a.d k (Accept b m a.first))))

-- another entry than its first was decided, and it leads on
pub record Leads (a : Aim) (r : ℕ) (C : Type 0) (b : Ballot) (m : ℕ) (v : World) : Type 0 where
  pub fit : Fit a r v
  pub role : LeadsOrAsks a b (suc m) v
  pub own : length (v.desks a.d).log ≡ suc m
  pub low : m ≤ a.old
  pub number : b.number + cost a v ≤ r
  pub clear : C → IsClear a b (suc m) v

-- a number that is low enough is so after a plan
pub low_more : (a : Aim) (r number : ℕ) (w : World) (k : ℕ) (p : Plan) → number + cost a w ≤ r
    → number + cost a (carried w k p) ≤ r
low_more a r number w k p low =
    let c = cost_less a (carried w k p) w (logs_grow w k p a.d) in omega (arith, low, c)

pub not_same : (k j : ℕ) (ks : List ℕ) → ¬ Has ks k → Has ks j → ¬ (k ≡ j)
not_same k j ks h i e = h (subst (λ (z : ℕ). Has ks z) (sym e) i)

pub heard_test : (k j : ℕ) (t : Bool) → ¬ (k ≡ j) → t ≡ false → ((k == j) || t) ≡ false
heard_test k j t ne h = go (k == j) refl
  where
    go : (s : Bool) → (k == j) ≡ s → (s || t) ≡ false
    go true e = absurd (ne (grind (arith, nat_tests)))
    go false e = h

pub self_same : (e : Entry) → is_same_entry e e ≡ true
self_same e = let words = bytes_eq-Decides e.text e.text in grind (arith, nat_tests, words)

-- another entry is asked for at an old position only
pub old_of : (a : Aim) (m : ℕ) (f : Entry) → is_same_entry a.first f ≡ false
    → (m ≤ a.old) ⊎ (f ≡ a.first) → m ≤ a.old
old_of a m f t h =
    elim h [
      | inl l ↦ l
      | inr e ↦ absurd (differs (subst (λ (y : Entry). is_same_entry a.first y ≡ false) e t))
    ]
  where
    differs : is_same_entry a.first a.first ≡ false → ⊥
    differs s = let q = self_same a.first in grind (arith, s, q)

-- a desk with a longer log tells the entry there
taught : (a : Aim) (c r : ℕ) (C : Type 0) (b : Ballot) (m : ℕ) (f : Entry) (k : ℕ)
    (ks heard : List ℕ) (w : World) → Asks a r C b m f (k ∷ ks) heard w → m < length (w.desks k).log
    → ((v : World) → Yields a r C v → Decides a (lack a v + c) v) → Decides a (lack a w + suc c) w
taught a c r C b m f k ks heard w g longer yields = told (accept_past a.n a.d k x b m f longer)
  where
    fit : Fit a r w
    fit = g.fit

    i : Has a.desks k
    i = g.within k (inl refl)

    x : Desk
    x = w.desks k

    told : (y : Entry) × (on_body a.n k x a.d (Accept b m f) ≡ tells x k a.d m y)
        → Decides a (lack a w + suc c) w
    told t =
        let ms : List Message = message k a.d (Decided m t.0) ∷ [] in
        let u : World = carried w k (tells x k a.d m t.0) in
        comes a c w (message a.d k (Accept b m f)) (tells x k a.d m t.0) fit.reached a.mine i
        (g.asked k (inl refl)) t.1 (omega arith) (λ reached1. take_one a c r k m u t.0 i
        (fit_plain a r w k x.seen None ms fit i reached1 (seen_at a r w k fit))
        (ap (λ z. length z.log) (desks_same w k ms a.d) ∙ g.own)
        (let l = fit.lens k i in omega (arith, l, longer))
        (pending_new a w k (tells x k a.d m t.0) 0 (message k a.d (Decided m t.0)) fit.late refl)
        (λ v q p. decides_more a (lack a v + c) (lack a v + suc c) v (omega arith) (yields v
        (record {
          fit = q.fit;
          free = q.free;
          against = λ z. let l = (g.clear z k i).1 in omega (arith, l, longer);
        }))))

-- a desk that has promised a higher ballot refuses
outbid : (a : Aim) (c r : ℕ) (C : Type 0) (b : Ballot) (m : ℕ) (f : Entry) (k : ℕ)
    (ks heard : List ℕ) (w : World) → Asks a r C b m f (k ∷ ks) heard w
    → length (w.desks k).log ≡ m → IsBelow b (w.desks k).stored.promised
    → ((v : World) → Yields a r C v → Decides a (lack a v + c) v)
    → Decides a (lack a w + suc (suc c)) w
outbid a c r C b m f k ks heard w g here high yields =
    let v : World = carried u a.d (gives_up (u.desks a.d) q.number) in
    comes a (suc c) w (message a.d k (Accept b m f)) (refuses x k a.d b m) fit.reached a.mine i
    (g.asked k (inl refl)) (outvoted_at a.n a.d k x b m f here high) (omega arith)
    (λ reached1. comes a c u (message k a.d (Nack b m q)) (gives_up (u.desks a.d) q.number) reached1
    i a.mine (pending_new a w k (refuses x k a.d b m) 0 (message k a.d (Nack b m q)) fit.late refl)
    (nack_heard a.n a.d k (u.desks a.d) b m q
    (is_own_proposing (u.desks a.d) b m f heard (ap (λ z. z.role) (desks_same w k ms a.d) ∙ g.role))
    high) (omega arith) (λ reached2. yields v (record {
      fit = fit_plain a r u a.d (max (u.desks a.d).seen q.number) (Some Idle) [] (fit1 reached1)
          a.mine reached2
          (λ s. let l = low_more a r q.number w k (refuses x k a.d b m) (fit.promised k i) in
          let o = (fit1 reached1).seen in omega (arith, l, o));
      free = free_idle (v.desks a.d) (ap (λ z. z.role) (put_self u.desks a.d
          (adopt (u.desks a.d) (gives_up (u.desks a.d) q.number))));
      against = λ z. let l = (g.clear z k i).0 in grind (arith, l, high);
    })))
  where
    fit : Fit a r w
    fit = g.fit

    i : Has a.desks k
    i = g.within k (inl refl)

    x : Desk
    x = w.desks k

    q : Ballot
    q = x.stored.promised

    ms : List Message
    ms = message k a.d (Nack b m q) ∷ []

    u : World
    u = carried w k (refuses x k a.d b m)

    fit1 : IsReached a.n u → Fit a r u
    fit1 reached1 = fit_plain a r w k x.seen None ms fit i reached1 (seen_at a r w k fit)

head_or : Entry → List Entry → Entry
head_or e [] = e
head_or e (x ∷ xs) = x

-- what it has asked for by a Start is its first entry
asked_first : (a : Aim) (b : Ballot) (m : ℕ) (u v : World) → HasAsked a b u v
    → (u.desks a.d).queue ≡ a.first ∷ a.rest → length (u.desks a.d).log ≡ m → LeadsOrAsks a b m v
unfolding head_or
asked_first a b m u v h queue long =
    let same : h.entry ≡ a.first = ap (λ q. head_or a.first q) (sym h.queue ∙ queue) in
    inr (
      h.role ∙ ap (λ l. Proposing b l h.entry []) long ∙ ap (λ e. Proposing b m e []) same,
      λ k i. subst (λ (e : Entry). IsPending a v (message a.d k (Accept b m e))) same
          (rw long at (h.asked k i)),
    )

-- desk d has won the votes for an entry at this position, and may have started
record Won (a : Aim) (r : ℕ) (C : Type 0) (b : Ballot) (m : ℕ) (f : Entry) (u : World)
    (ms : List Message) (v : World) : Type 0 where
  pub fit : Fit a r u
  pub own : length (u.desks a.d).log ≡ m
  pub low : b.number + cost a u ≤ r
  pub old : (m ≤ a.old) ⊎ (f ≡ a.first)
  pub clear : C → IsClear a b m u
  pub started : Started a a.d (carried u a.d (append (passing (u.desks a.d)) f (Leading b) ms)) v
  pub leads : LeadsOn a b (carried u a.d (append (passing (u.desks a.d)) f (Leading b) ms)) v

-- if that is its first, it is done; else it leads on, or is outbid
won : (a : Aim) (c r : ℕ) (C : Type 0) (b : Ballot) (m : ℕ) (f : Entry) (u : World)
    (ms : List Message) (v : World) → Won a r C b m f u ms v
    → (Yields a r C v → Decides a (lack a v + c) v)
    → (Leads a r C b m v → is_same_entry a.first f ≡ false → Decides a (lack a v + c) v)
    → Decides a (lack a v + c) v
won a c r C b m f u ms v h yields leads = go (is_same_entry a.first f) refl
  where
    z : Desk
    z = u.desks a.d

    fit : Fit a r u
    fit = h.fit

    s : Started a a.d (carried u a.d (append (passing (u.desks a.d)) f (Leading b) ms)) v
    s = h.started

    p : Plan
    p = append (passing z) f (Leading b) ms

    y : World
    y = carried u a.d p

    short : length z.log < a.top
    short = let o = fit.lens a.d a.mine in let t = a.tall in omega (arith, o, t)

    paid : (v.desks a.d).stored.tried + cost a v ≤ r
    paid = start_paid a r u f (Leading b) ms v fit short s

    long : length (y.desks a.d).log ≡ suc m
    long =
        omega (
          arith,
          ap (λ x. length x.log) (put_self u.desks a.d (adopt z p)),
          length-append z.log
              (f ∷ []),
          h.own,
        )

    clear1 : C → IsClear a b (suc m) y
    clear1 t =
        clear_at a b m (suc m) u a.d p (h.clear t a.d a.mine).0
        (omega (arith, length-append z.log (f ∷ []), h.own)) (omega arith) (h.clear t)

    clear2 : C → IsClear a b (suc m) v
    clear2 t j i = (
      subst (λ (q : Ballot). IsAtMost q b) (sym (s.promised j)) (clear1 t j i).0,
      let e = ap (λ l. length l) (s.logs j) in let o = (clear1 t j i).1 in omega (arith, e, o),
    )

    go : (t : Bool) → is_same_entry a.first f ≡ t → Decides a (lack a v + c) v
    go true t =
        decides_here a (lack a v + c) v (omega arith)
        (decided_started a y v s (fit_decided a r u f (Leading b) ms fit s.first t)
        (let o = paid in let l = fit.under in omega (arith, o, l)))
    go false t = by_role h.leads
      where
        fit1 : Fit a r y
        fit1 =
            fit_appended a r u a.d f (Leading b) ms fit a.mine s.first
            (let o = h.own in let l = old_of a m f t h.old in omega (arith, o, l)) (λ e. t)

        fit2 : Fit a r v
        fit2 = fit_started a r a.d y v s fit1 (λ e. paid)

        led : LeadsOrAsks a b (suc m) v → Decides a (lack a v + c) v
        led role =
            leads (record {
              fit = fit2;
              role = role;
              own = ap (λ l. length l) (s.logs a.d) ∙ long;
              low = old_of a m f t h.old;
              number = omega (arith, low_more a r b.number u a.d p h.low, cost_started a a.d y v s);
              clear = clear2;
            }) t

        by_role : LeadsOn a b y v → Decides a (lack a v + c) v
        by_role (inl role) = led (inl role)
        by_role (inr (inl asked)) = led (asked_first a b (suc m) y v asked fit1.queue long)
        by_role (inr (inr outbid)) =
            yields (record {
              fit = fit2;
              free = outbid.0;
              against = λ q. grind (arith, (clear1 q a.d a.mine).0, outbid.1);
            })

-- a desk votes
votes : (a : Aim) (c r : ℕ) (C : Type 0) (b : Ballot) (m : ℕ) (f : Entry) (k : ℕ)
    (ks heard : List ℕ) (w : World) → Asks a r C b m f (k ∷ ks) heard w
    → length (w.desks k).log ≡ m → IsAtMost (w.desks k).stored.promised b
    → ((v : World) → Yields a r C v → Decides a (lack a v + c) v)
    → ((v : World) → Leads a r C b m v → is_same_entry a.first f ≡ false
    → Decides a (lack a v + c) v)
    → ((more : List ℕ) (v : World) → Asks a r C b m f ks more v → Decides a (lack a v + c) v)
    → Decides a (lack a w + suc (suc c)) w
votes a c r C b m f k ks heard w g here low yields leads again =
    comes a (suc c) w (message a.d k (Accept b m f)) voting fit.reached a.mine i
    (g.asked k (inl refl)) (voted_at a.n a.d k x b m f here low) (omega arith)
    (λ reached1. count (fit1 reached1) (is_majority a.n (length (k ∷ heard))) refl)
  where
    fit : Fit a r w
    fit = g.fit

    i : Has a.desks k
    i = g.within k (inl refl)

    x : Desk
    x = w.desks k

    voting : Plan
    voting = votes_for x k a.d b m f

    u : World
    u = carried w k voting

    z : Desk
    z = u.desks a.d

    role1 : z.role ≡ Proposing b m f heard
    role1 = put_same (λ y. y.role) w.desks k (adopt x voting) refl a.d ∙ g.role

    own1 : length z.log ≡ m
    own1 = put_same (λ y. length y.log) w.desks k (adopt x voting) refl a.d ∙ g.own

    clear1 : C → IsClear a b m u
    clear1 t = clear_at a b m m w k voting (at_most_self b) (omega (arith, here)) (omega arith)
        (g.clear t)

    low1 : b.number + cost a u ≤ r
    low1 = low_more a r b.number w k voting g.low

    fit1 : IsReached a.n u → Fit a r u
    fit1 reached1 =
        fit_voted a r w k (record { pos = m; ballot = b; entry = f })
        (message k a.d (Accepted b m) ∷ []) fit i reached1 g.low g.old

    others : List Message
    others = to_others a.n a.d (Decided m f)

    winning : Plan
    winning = append (passing z) f (Leading b) others

    waiting : Plan
    waiting = become (passing z) (Proposing b m f (k ∷ heard)) []

    told : IsPending a u (message k a.d (Accepted b m))
    told = pending_new a w k voting 0 (message k a.d (Accepted b m)) fit.late refl

    plan : (t : Bool) → is_majority a.n (length (k ∷ heard)) ≡ t
        → on_body a.n a.d z k (Accepted b m) ≡ (if t then winning else waiting)
    plan t e =
        vote_heard a.n a.d k z b m f heard role1 (g.new k (inl refl))
        ∙ ap (λ o. if o then winning else waiting) e

    count : Fit a r u → (t : Bool) → is_majority a.n (length (k ∷ heard)) ≡ t
        → Decides a (lack a u + suc c) u
    count h true t =
        wins a c u k m b f others h.reached h.late i told (plan true t)
        (λ v s l. won a c r C b m f u others v (record {
          fit = h;
          own = own1;
          low = low1;
          old = g.old;
          clear = clear1;
          started = s;
          leads = l;
        }) (λ y. yields v y) (λ q e. leads v q e))
    count h false t =
        comes a c u (message k a.d (Accepted b m)) waiting h.reached i a.mine told (plan false t)
        (omega arith) (λ reached2. again (k ∷ heard) (carried u a.d waiting) (record {
          fit = fit_plain a r u a.d z.seen (Some (Proposing b m f (k ∷ heard))) [] h a.mine reached2
              (λ s. h.seen);
          role = ap (λ y. y.role) (put_self u.desks a.d (adopt z waiting));
          own = ap (λ y. length y.log) (put_self u.desks a.d (adopt z waiting)) ∙ own1;
          asked = λ j q. pending_more a u a.d waiting (message a.d j (Accept b m f))
              (pending_more a w k voting (message a.d j (Accept b m f)) (g.asked j (inr q)));
          new = λ j q. heard_test k j (has heard j) (not_same k j ks g.distinct.0 q)
              (g.new j (inr q));
          within = λ j q. g.within j (inr q);
          distinct = g.distinct.1;
          few = t;
          enough = let e = g.enough in omega (arith, e);
          old = g.old;
          low = low_more a r b.number u a.d waiting low1;
          clear = λ q. clear_at a b m m u a.d waiting (clear1 q a.d a.mine).0
              (let o = own1 in omega (arith, o)) (omega arith) (clear1 q);
        }))

-- the next desk is heard
hear_one : (a : Aim) (c r : ℕ) (C : Type 0) (b : Ballot) (m : ℕ) (f : Entry) (k : ℕ)
    (ks heard : List ℕ) (w : World) → Asks a r C b m f (k ∷ ks) heard w
    → ((v : World) → Yields a r C v → Decides a (lack a v + c) v)
    → ((v : World) → Leads a r C b m v → is_same_entry a.first f ≡ false
    → Decides a (lack a v + c) v)
    → ((more : List ℕ) (v : World) → Asks a r C b m f ks more v → Decides a (lack a v + c) v)
    → Decides a (lack a w + (3 + c)) w
hear_one a c r C b m f k ks heard w g yields leads again = go (nat_lt m (length (w.desks k).log))
    refl
  where
    i : Has a.desks k
    i = g.within k (inl refl)

    fit : Fit a r w
    fit = g.fit

    levelled : (v : World) → Level a r k m w v → Asks a r C b m f (k ∷ ks) heard v
    levelled v l =
        record {
          fit = l.fit;
          role = ap (λ z. z.role) l.own ∙ g.role;
          own = ap (λ z. length z.log) l.own ∙ g.own;
          asked = λ j q. l.sent (message a.d j (Accept b m f)) (g.asked j q);
          new = g.new;
          within = g.within;
          distinct = g.distinct;
          few = g.few;
          enough = g.enough;
          old = g.old;
          low = let c = cost_less a v w
              (let e = ap (λ z. length z.log) l.own in omega (arith, e)) in
              let o = g.low in omega (arith, o, c);
          clear = λ t. clear_level a r b k m w v l (g.clear t);
        }

    at : (v : World) → Level a r k m w v → (t : Bool) → is_below b (v.desks k).stored.promised ≡ t
        → Decides a (lack a v + suc (suc c)) v
    at v l true t = outbid a c r C b m f k ks heard v (levelled v l) l.here t yields
    at v l false t = votes a c r C b m f k ks heard v (levelled v l) l.here t yields leads again

    go : (t : Bool) → nat_lt m (length (w.desks k).log) ≡ t → Decides a (lack a w + (3 + c)) w
    go true t =
        decides_more a (lack a w + suc c) (lack a w + (3 + c)) w (omega arith)
        (taught a c r C b m f k ks heard w g (grind (arith, nat_tests)) yields)
    go false t =
        decides_more a (lack a w + suc (suc (suc c))) (lack a w + (3 + c)) w (omega arith)
        (levels a (suc c) r k m w (Accept b m f) i fit g.own (grind (arith, nat_tests))
        (g.asked k (inl refl)) (λ x less. accept_ahead a.n a.d k x b m f less)
        (λ v l. at v l (is_below b (v.desks k).stored.promised) refl))

-- all are heard, until it gives way or leads
pub hear_all : (a : Aim) (c r : ℕ) (C : Type 0) (b : Ballot) (m : ℕ) (f : Entry)
    → ((v : World) → Yields a r C v → Decides a (lack a v + c) v)
    → ((v : World) → Leads a r C b m v → is_same_entry a.first f ≡ false
    → Decides a (lack a v + c) v)
    → (left heard : List ℕ) (w : World) → Asks a r C b m f left heard w
    → Decides a (lack a w + (3 * length left + c)) w
hear_all a c r C b m f yields leads [] heard w g =
    let few = g.few in let enough = g.enough in absurd (grind (arith, nat_tests, few, enough))
hear_all a c r C b m f yields leads (k ∷ ks) heard w g =
    decides_more a _ _ w (omega arith) (hear_one a _ r C b m f k _ _ w g
    (λ v y. decides_more a _ _ v (omega arith) (yields v y))
    (λ v l s. decides_more a _ _ v (omega arith) (leads v l s))
    (λ more v h. hear_all a c r C b m f yields leads _ _ v h))
