-- Logs are brought to one length, entry by entry: a Behind, and the Decided that answers it.
use Rattle.std.proofs.Common.{◌≡◌, ℕ, zero, suc, ◌≤◌, ◌<◌, ◌+◌, ◌-◌, Bool, true, false, nat_lt}
use Rattle.std.proofs.Common.{List, [], ◌∷◌, None, length, refl, sym, ap, ◌∙◌, subst, arith}
use Rattle.std.proofs.{Common.length-append, lemmas.Bool.Decides.nat_tests}
use Rattle.acceptor.specs.declared.{entry.Entry.Entry, message.Body.Body, message.Message.Message}
use Rattle.acceptor.specs.{Entries.is_same_entry, Messages.message}
use Rattle.acceptor.specs.declared.message.Body.TheVariants.{Behind, Decided}
use Rattle.proposer.specs.declared.{role.Role.TheVariants.Idle, plan.Plan.Plan}
use Rattle.learner.specs.{Chosen.Has, Desks.Desk, Desks.adopt, Steps.on_body, Worlds.World}
use Rattle.progress.proofs.Aims.{Aim, lack, IsReached, Decides, decides_here, decides_more, carried}
use Rattle.progress.proofs.Aims.{put_other, put_same, put_self, IsPending, pending_more, comes}
use Rattle.progress.proofs.{Aims.pending_new, Fits.fit_decided, Starting.decided_started}
use Rattle.progress.proofs.Fits.{Fit, makes, queue_kept, seen_at, fit_plain, fit_appended}
use Rattle.progress.proofs.Answers.{asks_more, takes_in, told_at}
use Rattle.progress.proofs.Starting.{IsFree, Started, takes, fit_started, start_paid}

-- what only says something leaves the desk as it is
pub said_same : (x : Desk) (ms : List Message) → adopt x (makes x.seen None None ms) ≡ x
said_same x ms = λ i. record {
  stored = x.stored;
  log = x.log;
  role = x.role;
  queue = queue_kept
      x.queue i;
  seen = x.seen;
}

pub desks_same : (w : World) (k : ℕ) (ms : List Message) (j : ℕ)
    → (carried w k (makes (w.desks k).seen None None ms)).desks j ≡ w.desks j
desks_same w k ms j =
    put_same (λ y. y) w.desks k (adopt (w.desks k) (makes (w.desks k).seen None None ms))
    (said_same (w.desks k) ms) j

-- going from w to v, desk k's log has come to this length, and nothing else has changed but what
-- runs with desk k
pub record Level (a : Aim) (r k len : ℕ) (w v : World) : Type 0 where
  pub fit : Fit a r v
  pub own : v.desks a.d ≡ w.desks a.d
  pub here : length (v.desks k).log ≡ len
  pub others : (j : ℕ) → ¬ (k ≡ j) → v.desks j ≡ w.desks j
  pub promised : (j : ℕ) → (v.desks j).stored.promised ≡ (w.desks j).stored.promised
  pub sent : (m : Message) → IsPending a w m → IsPending a v m

-- desk d tells desk k its next entry, and desk k takes it
push_one : (a : Aim) (c r k len : ℕ) (w : World) → Has a.desks k → Fit a r w
    → length (w.desks a.d).log ≡ len → length (w.desks k).log < len
    → IsPending a w (message k a.d (Behind (length (w.desks k).log)))
    → ((v : World) → Level a r k (suc (length (w.desks k).log)) w v
    → IsPending a v (message k a.d (Behind (length (v.desks k).log)))
    → Decides a (lack a v + suc c) v) → Decides a (lack a w + suc c) w
push_one a c r k len w i h own less asked next = telling
    (told_at a.n k a.d (w.desks a.d) (length (w.desks k).log) (omega (arith, own, less)))
  where
    m : ℕ
    m = length (w.desks k).log

    telling : (y : Entry) × (more : List Message)
        × (on_body a.n a.d (w.desks a.d) k (Behind m) ≡ makes (w.desks a.d).seen None None
        (message a.d k (Decided m y) ∷ more)) → Decides a (lack a w + suc c) w
    telling t =
        comes a c w (message k a.d (Behind m)) p h.reached i a.mine asked t.2 (omega arith)
        (λ reached1. takes a c u k a.d m t.0 reached1 a.mine i
        (pending_new a w a.d p 0 (message a.d k (Decided m t.0)) h.late refl) same
        (let s = same in let l = h.lens a.d a.mine in let z = a.tall in omega
        (arith, s, l, z, own, less)) (λ v s free. next v (level reached1 v s)
        (subst (λ (l : ℕ). IsPending a v (message k a.d (Behind l)))
        (sym (ap (λ z. length z) (s.logs k) ∙ long))
        (s.sent (message k a.d (Behind (length (u.desks k).log + 1)))
        (pending_new a u k taken 0 (message k a.d (Behind (length (u.desks k).log + 1)))
        (fit1 reached1).late refl)))))
      where
        ms : List Message
        ms = message a.d k (Decided m t.0) ∷ t.1

        p : Plan
        p = makes (w.desks a.d).seen None None ms

        u : World
        u = carried w a.d p

        same : length (u.desks k).log ≡ m
        same = ap (λ z. length z.log) (desks_same w a.d ms k)

        taken : Plan
        taken = takes_in (u.desks k) k a.d t.0

        after : World
        after = carried u k taken

        long : length (after.desks k).log ≡ length (u.desks k).log + 1
        long = ap (λ z. length z.log) (put_self u.desks k (adopt (u.desks k) taken))
            ∙ length-append (u.desks k).log (t.0 ∷ [])

        apart : ¬ (k ≡ a.d)
        apart s = let e = ap (λ j. length (w.desks j).log) s in omega (arith, e, own, less)

        fit1 : IsReached a.n u → Fit a r u
        fit1 reached1 = fit_plain a r w a.d (w.desks a.d).seen None ms h a.mine reached1
            (λ s. h.seen)

        level : IsReached a.n u → (v : World) → Started a k after v → Level a r k (suc m) w v
        level reached1 v s =
            record {
              fit = fit_started a r k after v s
                  (fit_appended a r u k t.0 Idle
                  (message k a.d (Behind (length (u.desks k).log + 1)) ∷ []) (fit1 reached1) i
                  s.first
                  (let l = h.lens a.d a.mine in let e = same in omega (arith, l, e, own, less))
                  (λ e. absurd (apart e))) (λ e. absurd (apart e));
              own = s.others a.d apart ∙ put_other u.desks k (adopt (u.desks k) taken) a.d apart
                  ∙ desks_same w a.d ms a.d;
              here = ap (λ z. length z) (s.logs k) ∙ long ∙ (let e = same in omega (arith, e));
              others = λ j ne. s.others j ne
                  ∙ put_other u.desks k (adopt (u.desks k) taken) j ne ∙ desks_same w a.d ms j;
              promised = λ j. s.promised j
                  ∙ put_same (λ z. z.stored.promised) u.desks k (adopt (u.desks k) taken) refl j
                  ∙ ap (λ z. z.stored.promised) (desks_same w a.d ms j);
              sent = λ x z. s.sent x (pending_more a u k taken x (pending_more a w a.d p x z));
            }

level_on : (a : Aim) (r k l len : ℕ) (w u v : World) → Level a r k l w u → Level a r k len u v
    → Level a r k len w v
level_on a r k l len w u v h g =
    record {
      fit = g.fit;
      own = g.own ∙ h.own;
      here = g.here;
      others = λ j ne. g.others j ne ∙ h.others j ne;
      promised = λ j. g.promised j ∙ h.promised j;
      sent = λ m z. g.sent m (h.sent m z);
    }

push : (a : Aim) (c r k len : ℕ) → Has a.desks k → (gap : ℕ) (w : World) → Fit a r w
    → length (w.desks a.d).log ≡ len → length (w.desks k).log + suc gap ≡ len
    → IsPending a w (message k a.d (Behind (length (w.desks k).log)))
    → ((v : World) → Level a r k len w v → Decides a (lack a v + suc c) v)
    → Decides a (lack a w + suc c) w
push a c r k len i zero w h own short asked next =
    push_one a c r k len w i h own (omega (arith, short)) asked
    (λ v l q. next v (subst (λ (z : ℕ). Level a r k z w v)
    (let g : suc (length (w.desks k).log) ≡ len = omega (arith, short) in g) l))
push a c r k len i (suc gap) w h own short asked next =
    push_one a c r k len w i h own (omega (arith, short)) asked
    (λ v l q. push a c r k len i gap v l.fit (ap (λ z. length z.log) l.own ∙ own)
    (let e = l.here in omega (arith, e, short)) q
    (λ u g. next u (level_on a r k (suc (length (w.desks k).log)) len w v u l g)))

level_here : (a : Aim) (r k : ℕ) (w : World) → Fit a r w → Level a r k (length (w.desks k).log) w w
level_here a r k w h = search

-- desk k is at a position past its log's end, and says so; then desk d brings it there
pub levels : (a : Aim) (c r k len : ℕ) (w : World) (body : Body) → Has a.desks k → Fit a r w
    → length (w.desks a.d).log ≡ len → length (w.desks k).log ≤ len
    → IsPending a w (message a.d k body)
    → ((x : Desk) → length x.log < len → on_body a.n k x a.d body ≡ asks_more x k a.d)
    → ((v : World) → Level a r k len w v → Decides a (lack a v + suc c) v)
    → Decides a (lack a w + suc (suc c)) w
levels a c r k len w body i h own under asked ahead next = go (nat_lt (length (w.desks k).log) len)
    refl
  where
    go : (t : Bool) → nat_lt (length (w.desks k).log) len ≡ t → Decides a (lack a w + suc (suc c)) w
    go false t =
        decides_more a (lack a w + suc c) (lack a w + suc (suc c)) w (omega arith)
        (next w (subst (λ (z : ℕ). Level a r k z w w) (let g : length (w.desks k).log ≡ len
        = (let q : len ≤ length (w.desks k).log = grind (arith, nat_tests) in omega
        (arith, q, under)) in g) (level_here a r k w h)))
    go true t =
        let less : length (w.desks k).log < len = grind (arith, nat_tests) in
        comes a (suc c) w (message a.d k body) p h.reached a.mine i asked (ahead (w.desks k) less)
        (omega arith)
        (λ reached1. push a c r k len i (len - suc (length (w.desks k).log)) u (fit1 reached1)
        (ap (λ z. length z.log) (same a.d) ∙ own)
        (let s = ap (λ z. length z.log) (same k) in let l = less in omega (arith, s, l))
        (rw (ap (λ z. length z.log) (same k))
        (pending_new a w k p 0 (message k a.d (Behind (length (w.desks k).log))) h.late refl))
        (λ v g. next v (record {
          fit = g.fit;
          own = g.own ∙ same a.d;
          here = g.here;
          others = λ j ne. g.others j ne ∙ same j;
          promised = λ j. g.promised j ∙ ap (λ z. z.stored.promised) (same j);
          sent = λ m z. g.sent m (pending_more a w k p m z);
        })))
      where
        ms : List Message
        ms = message k a.d (Behind (length (w.desks k).log)) ∷ []

        p : Plan
        p = makes (w.desks k).seen None None ms

        u : World
        u = carried w k p

        same : (j : ℕ) → u.desks j ≡ w.desks j
        same j = desks_same w k ms j

        fit1 : IsReached a.n u → Fit a r u
        fit1 reached1 = fit_plain a r w k (w.desks k).seen None ms h i reached1 (seen_at a r w k h)

-- desk d has taken an entry, and asked for the next
pub record Taken (a : Aim) (r k len : ℕ) (w v : World) : Type 0 where
  pub fit : Fit a r v
  pub free : IsFree (v.desks a.d)
  pub here : length (v.desks a.d).log ≡ len
  pub others : (j : ℕ) → ¬ (a.d ≡ j) → v.desks j ≡ w.desks j

-- desk d takes an entry of desk k
pub take_one : (a : Aim) (c r k m : ℕ) (w : World) (e : Entry) → Has a.desks k → Fit a r w
    → length (w.desks a.d).log ≡ m → m ≤ a.old → IsPending a w (message k a.d (Decided m e))
    → ((v : World) → Taken a r k (suc m) w v → IsPending a v (message a.d k (Behind (suc m)))
    → Decides a (lack a v + suc c) v) → Decides a (lack a w + c) w
take_one a c r k m w e i h own low told next =
    takes a c w a.d k m e h.reached i a.mine told own short
    (λ v s free. go (is_same_entry a.first e) refl v s free)
  where
    x : Desk
    x = w.desks a.d

    ms : List Message
    ms = message a.d k (Behind (length x.log + 1)) ∷ []

    taken : Plan
    taken = takes_in x a.d k e

    u : World
    u = carried w a.d taken

    short : length x.log < a.top
    short = let z = a.tall in omega (arith, own, low, z)

    long : length (u.desks a.d).log ≡ suc m
    long = ap (λ z. length z.log) (put_self w.desks a.d (adopt x taken))
        ∙ length-append x.log (e ∷ []) ∙ omega (arith, own)

    go : (t : Bool) → is_same_entry a.first e ≡ t → (v : World) → Started a a.d u v
        → IsFree (v.desks a.d) → Decides a (lack a v + suc c) v
    go true t v s free =
        decides_here a (lack a v + suc c) v (omega arith)
        (decided_started a u v s (fit_decided a r w e Idle ms h s.first t)
        (let l = start_paid a r w e Idle ms v h short s in let y = h.under in omega (arith, l, y)))
    go false t v s free =
        next v (record {
          fit = fit_started a r a.d u v s
              (fit_appended a r w a.d e Idle ms h a.mine s.first (omega (arith, own, low)) (λ q. t))
              (λ q. start_paid a r w e Idle ms v h short s);
          free = free;
          here = ap (λ z. length z) (s.logs a.d) ∙ long;
          others = λ j ne. s.others j ne ∙ put_other w.desks a.d (adopt x taken) j ne;
        }) (s.sent (message a.d k (Behind (suc m)))
        (subst (λ (l : ℕ). IsPending a u (message a.d k (Behind l)))
        (let q : length x.log + 1 ≡ suc m = omega (arith, own) in q)
        (pending_new a w a.d taken 0 (message a.d k (Behind (length x.log + 1))) h.late refl)))

-- desk d takes all that desk k has more
pub pull : (a : Aim) (c r k len : ℕ) → Has a.desks k → (gap : ℕ) (w : World) (m : ℕ) (e : Entry)
    → Fit a r w → length (w.desks a.d).log ≡ m → m + suc gap ≡ len → length (w.desks k).log ≡ len
    → IsPending a w (message k a.d (Decided m e))
    → ((v : World) → Taken a r k len w v → Decides a (lack a v + c) v) → Decides a (lack a w + c) w
pull a c r k len i zero w m e h own short there told next =
    take_one a c r k m w e i h own (let l = h.lens k i in omega (arith, l, short, there)) told
    (λ v t q. decides_more a (lack a v + c) (lack a v + suc c) v (omega arith)
    (next v (subst (λ (z : ℕ). Taken a r k z w v) (let s : suc m ≡ len = omega (arith, short) in s)
    t)))
pull a c r k len i (suc gap) w m e h own short there told next =
    take_one a c r k m w e i h own (let l = h.lens k i in omega (arith, l, short, there)) told
    (λ v t q. tells_next (λ u y. pull a c r k len i gap u (suc m) y) v t q
    (told_at a.n a.d k (v.desks k) (suc m) (let s = still v t in omega (arith, s, short, there))))
  where
    apart : ¬ (a.d ≡ k)
    apart s = let z = ap (λ j. length (w.desks j).log) s in omega (arith, z, own, short, there)

    still : (v : World) → Taken a r k (suc m) w v → length (v.desks k).log ≡ length (w.desks k).log
    still v t = ap (λ z. length z.log) (t.others k apart)

    tells_next : ((u : World) (y : Entry) → Fit a r u → length (u.desks a.d).log ≡ suc m
        → suc m + suc gap ≡ len → length (u.desks k).log ≡ len
        → IsPending a u (message k a.d (Decided (suc m) y))
        → ((z : World) → Taken a r k len u z → Decides a (lack a z + c) z)
        → Decides a (lack a u + c) u)
        → (v : World) → Taken a r k (suc m) w v → IsPending a v (message a.d k (Behind (suc m)))
        → (y : Entry) × (more : List Message)
        × (on_body a.n k (v.desks k) a.d (Behind (suc m)) ≡ makes (v.desks k).seen None None
        (message k a.d (Decided (suc m) y) ∷ more)) → Decides a (lack a v + suc c) v
    tells_next again v t q s =
        let f : Fit a r v = t.fit in
        let ms : List Message = message k a.d (Decided (suc m) s.0) ∷ s.1 in
        let p : Plan = makes (v.desks k).seen None None ms in
        let u : World = carried v k p in
        comes a c v (message a.d k (Behind (suc m))) p f.reached a.mine i q s.2 (omega arith)
        (λ reached1. again u s.0
        (fit_plain a r v k (v.desks k).seen None ms f i reached1 (seen_at a r v k f))
        (ap (λ z. length z.log) (desks_same v k ms a.d) ∙ t.here) (omega (arith, short))
        (ap (λ z. length z.log) (desks_same v k ms k) ∙ still v t ∙ there)
        (pending_new a v k p 0 (message k a.d (Decided (suc m) s.0)) f.late refl) (λ z g. next z
        (record {
          fit = g.fit;
          free = g.free;
          here = g.here;
          others = λ j ne. g.others j ne ∙ desks_same v k ms j ∙ t.others j ne;
        })))
