-- What holds of the world on the way to the aim, and that what desks do keeps it.
use Rattle.std.proofs.Common.{◌≡◌, ℕ, [], None, length, slice_get, refl, sym, ap, ◌∙◌, subst, arith}
use Rattle.std.proofs.Common.{◌≤◌, ◌+◌, true, false, List, ◌∷◌, ◌++◌, ◌⊎◌, Option, length-append}
use Rattle.std.proofs.{Common.Some, lemmas.Bool.Decides.nat_tests, lemmas.Slice.Eq.bytes_eq-Decides}
use Rattle.acceptor.specs.declared.{ballot.Ballot.Ballot, entry.Entry.Entry}
use Rattle.acceptor.specs.Entries.{is_same_entry}
use Rattle.acceptor.specs.declared.{message.Message.Message, stored.Vote.Vote, stored.Change.Change}
use Rattle.acceptor.specs.declared.stored.Change.TheVariants.{Promised, Voted, Tried}
use Rattle.proposer.specs.declared.{role.Role.Role, plan.Plan.Plan}
use Rattle.proposer.specs.Plans.{queue_after, begins_with, append}
use Rattle.learner.specs.{Chosen.Has, Desks.Desk, Desks.adopt, Desks.passing, Worlds.World}
use Rattle.progress.proofs.Aims.{Aim, IsReached, cost, cost_less, IsDecided, carried, put_at}
use Rattle.progress.proofs.Aims.{put_self, late_more, logs_grow}

-- the vote is no later than the logs were at first, or it is for the entry itself
abbrev pub IsOldOr : Aim → Option Vote → Type 0
IsOldOr a None = Unit {0}
IsOldOr a (Some v) = (v.pos ≤ a.old) ⊎ (v.entry ≡ a.first)

-- the entry is not yet decided, no log is longer than `old` and one more, and no number, with those
-- that Starts may cost, is above r
pub record Fit (a : Aim) (r : ℕ) (w : World) : Type 0 where
  pub reached : IsReached a.n w
  pub late : a.start ≤ length w.sent
  pub queue : (w.desks a.d).queue ≡ a.first ∷ a.rest
  pub past : a.from ≤ length (w.desks a.d).log
  pub lens : (k : ℕ) → Has a.desks k → length (w.desks k).log ≤ a.old + 1
  pub votes : (k : ℕ) → Has a.desks k → IsOldOr a (w.desks k).stored.vote
  pub promised : (k : ℕ) → Has a.desks k → (w.desks k).stored.promised.number + cost a w ≤ r
  pub tried : (w.desks a.d).stored.tried + cost a w ≤ r
  pub seen : (w.desks a.d).seen + cost a w ≤ r
  pub under : r ≤ a.number + 2

pub fit_more : (a : Aim) (r s : ℕ) (w : World) → r ≤ s → s ≤ a.number + 2 → Fit a r w → Fit a s w
fit_more a r s w l u h =
    record {
      reached = h.reached;
      late = h.late;
      queue = h.queue;
      past = h.past;
      lens = h.lens;
      votes = h.votes;
      promised = λ k i. let p = h.promised k i in omega (arith, p, l);
      tried = let t = h.tried in omega (arith, t, l);
      seen = let t = h.seen in omega (arith, t, l);
      under = u;
    }

-- what desk k has to keep, going from x to y, with these numbers to spare
pub record Keeps (a : Aim) (r spare k : ℕ) (x y : Desk) : Type 0 where
  pub queue : k ≡ a.d → y.queue ≡ x.queue
  pub longer : length x.log ≤ length y.log
  pub lens : length y.log ≤ a.old + 1
  pub votes : IsOldOr a y.stored.vote
  pub promised : y.stored.promised.number + spare ≤ r
  pub tried : k ≡ a.d → y.stored.tried + spare ≤ r
  pub seen : k ≡ a.d → y.seen + spare ≤ r

pub fit_goes : (a : Aim) (r : ℕ) (w : World) (k : ℕ) (p : Plan) → Fit a r w
    → IsReached a.n (carried w k p) → Keeps a r (cost a w) k (w.desks k) (adopt (w.desks k) p)
    → Fit a r (carried w k p)
fit_goes a r w k p h reached g =
    let y : Desk = adopt (w.desks k) p in
    let v : World = carried w k p in
    let cheap : cost a v ≤ cost a w = cost_less a v w (logs_grow w k p a.d) in
    record {
      reached = reached;
      late = late_more a w k p h.late;
      queue = put_at (λ x. x.queue ≡ a.first ∷ a.rest) w.desks k y a.d
          (λ s. g.queue s ∙ ap (λ j. (w.desks j).queue) s ∙ h.queue) h.queue;
      past = put_at (λ x. a.from ≤ length x.log) w.desks k y a.d
          (λ s. let t = ap (λ j. length (w.desks j).log) s in let q = h.past in let l = g.longer in
          omega (arith, t, q, l)) h.past;
      lens = λ j i. put_at (λ x. length x.log ≤ a.old + 1) w.desks k y j (λ s. g.lens) (h.lens j i);
      votes = λ j i. put_at (λ x. IsOldOr a x.stored.vote) w.desks k y j (λ s. g.votes)
          (h.votes j i);
      promised = λ j i. put_at (λ x. x.stored.promised.number + cost a v ≤ r) w.desks k y j
          (λ s. let l = g.promised in let c = cheap in omega (arith, l, c))
          (let l = h.promised j i in let c = cheap in omega (arith, l, c));
      tried = put_at (λ x. x.stored.tried + cost a v ≤ r) w.desks k y a.d
          (λ s. let l = g.tried s in let c = cheap in omega (arith, l, c))
          (let l = h.tried in let c = cheap in omega (arith, l, c));
      seen = put_at (λ x. x.seen + cost a v ≤ r) w.desks k y a.d
          (λ s. let l = g.seen s in let c = cheap in omega (arith, l, c))
          (let l = h.seen in let c = cheap in omega (arith, l, c));
      under = h.under;
    }

pub queue_kept : (q : List Entry) → queue_after q false ≡ q
queue_kept [] = refl
queue_kept (e ∷ es) = refl

-- a plan that keeps the queue and makes this change
abbrev pub makes : ℕ → Option Role → Option Change → List Message → Plan
makes seen role change ms =
    record { role = role; seen = seen; drop_first = false; change = change; messages = ms }

-- nothing of desk k's is stored
pub fit_plain : (a : Aim) (r : ℕ) (w : World) (k seen : ℕ) (role : Option Role) (ms : List Message)
    → Fit a r w → Has a.desks k → IsReached a.n (carried w k (makes seen role None ms))
    → (k ≡ a.d → seen + cost a w ≤ r) → Fit a r (carried w k (makes seen role None ms))
fit_plain a r w k seen role ms h i reached low =
    fit_goes a r w k (makes seen role None ms) h reached (record {
      queue = λ s. queue_kept (w.desks k).queue;
      longer = omega arith;
      lens = h.lens k i;
      votes = h.votes k i;
      promised = h.promised k i;
      tried = λ s. subst (λ (j : ℕ). (w.desks j).stored.tried + cost a w ≤ r) (sym s) h.tried;
      seen = low;
    })

-- what desk k has seen, where it is desk d
pub seen_at : (a : Aim) (r : ℕ) (w : World) (k : ℕ) → Fit a r w → k ≡ a.d
    → (w.desks k).seen + cost a w ≤ r
seen_at a r w k h s = subst (λ (j : ℕ). (w.desks j).seen + cost a w ≤ r) (sym s) h.seen

-- desk k promises
pub fit_promised : (a : Aim) (r : ℕ) (w : World) (k : ℕ) (b : Ballot) (ms : List Message)
    → Fit a r w → Has a.desks k
    → IsReached a.n (carried w k (makes (w.desks k).seen None (Some (Promised b)) ms))
    → b.number + cost a w ≤ r
    → Fit a r (carried w k (makes (w.desks k).seen None (Some (Promised b)) ms))
fit_promised a r w k b ms h i reached low =
    fit_goes a r w k (makes (w.desks k).seen None (Some (Promised b)) ms) h reached (record {
      queue = λ s. queue_kept (w.desks k).queue;
      longer = omega arith;
      lens = h.lens k i;
      votes = h.votes k i;
      promised = low;
      tried = λ s. subst (λ (j : ℕ). (w.desks j).stored.tried + cost a w ≤ r) (sym s) h.tried;
      seen = seen_at a r w k h;
    })

-- desk k votes
pub fit_voted : (a : Aim) (r : ℕ) (w : World) (k : ℕ) (v : Vote) (ms : List Message) → Fit a r w
    → Has a.desks k → IsReached a.n (carried w k (makes (w.desks k).seen None (Some (Voted v)) ms))
    → v.ballot.number + cost a w ≤ r → (v.pos ≤ a.old) ⊎ (v.entry ≡ a.first)
    → Fit a r (carried w k (makes (w.desks k).seen None (Some (Voted v)) ms))
fit_voted a r w k v ms h i reached low old =
    fit_goes a r w k (makes (w.desks k).seen None (Some (Voted v)) ms) h reached (record {
      queue = λ s. queue_kept (w.desks k).queue;
      longer = omega arith;
      lens = h.lens k i;
      votes = old;
      promised = low;
      tried = λ s. subst (λ (j : ℕ). (w.desks j).stored.tried + cost a w ≤ r) (sym s) h.tried;
      seen = seen_at a r w k h;
    })

-- desk d makes a ballot
pub fit_tried : (a : Aim) (r : ℕ) (w : World) (number : ℕ) (role : Option Role) (ms : List Message)
    → Fit a r w → IsReached a.n (carried w a.d
    (makes (w.desks a.d).seen role (Some (Tried number)) ms)) → number + cost a w ≤ r
    → Fit a r (carried w a.d (makes (w.desks a.d).seen role (Some (Tried number)) ms))
fit_tried a r w number role ms h reached low =
    fit_goes a r w a.d (makes (w.desks a.d).seen role (Some (Tried number)) ms) h reached (search (
      queue_kept (w.desks a.d).queue,
      h.lens a.d a.mine,
      h.votes a.d a.mine,
      h.promised a.d
          a.mine,
      arith,
    ))

-- desk k appends an entry, which is not the first of desk d's queue
pub fit_appended : (a : Aim) (r : ℕ) (w : World) (k : ℕ) (c : Entry) (role : Role)
    (ms : List Message) → Fit a r w → Has a.desks k
    → IsReached a.n (carried w k (append (passing (w.desks k)) c role ms))
    → length (w.desks k).log ≤ a.old → (k ≡ a.d → is_same_entry a.first c ≡ false)
    → Fit a r (carried w k (append (passing (w.desks k)) c role ms))
fit_appended a r w k c role ms h i reached low other =
    fit_goes a r w k (append (passing (w.desks k)) c role ms) h reached (record {
      queue = kept;
      longer = let l = length-append (w.desks k).log (c ∷ []) in omega (arith, l);
      lens = let l = length-append (w.desks k).log (c ∷ []) in omega (arith, l, low);
      votes = h.votes k i;
      promised = h.promised k i;
      tried = λ s. subst (λ (j : ℕ). (w.desks j).stored.tried + cost a w ≤ r) (sym s) h.tried;
      seen = seen_at a r w k h;
    })
  where
    kept : k ≡ a.d → queue_after (w.desks k).queue
        (begins_with (w.desks k).queue c) ≡ (w.desks k).queue
    kept s =
        let q : (w.desks k).queue ≡ a.first ∷ a.rest = ap (λ j. (w.desks j).queue) s ∙ h.queue in
        cc (other s)

entry_ext : (a b : Entry) → a.id ≡ b.id → a.text ≡ b.text → a ≡ b
entry_ext a b i t = λ k. record { id = i k; text = t k }

-- entries that the test finds equal are equal
pub same_entry : (a b : Entry) → is_same_entry a b ≡ true → a ≡ b
same_entry a b h =
    let words = bytes_eq-Decides a.text b.text in
    entry_ext a b (grind (arith, nat_tests)) (grind (arith, nat_tests, words))

pub last_get : (xs : List Entry) (c : Entry) → slice_get (xs ++ c ∷ []) (length xs) ≡ Some c
last_get [] c = refl
last_get (x ∷ xs) c = last_get xs c

-- desk d appends its first entry: it is decided
pub fit_decided : (a : Aim) (r : ℕ) (w : World) (c : Entry) (role : Role) (ms : List Message)
    → Fit a r w → IsReached a.n (carried w a.d (append (passing (w.desks a.d)) c role ms))
    → is_same_entry a.first c ≡ true
    → IsDecided a (carried w a.d (append (passing (w.desks a.d)) c role ms))
fit_decided a r w c role ms h reached same =
    let x : Desk = w.desks a.d in
    let p : Plan = append (passing x) c role ms in
    let y : Desk = adopt x p in
    let self : (carried w a.d p).desks a.d ≡ y = put_self w.desks a.d y in
    let v : World = carried w a.d p in
    let cheap : cost a v ≤ cost a w = cost_less a v w (logs_grow w a.d p a.d) in
    let under : r ≤ a.number + 2 = h.under in
    record {
      reached = reached;
      late = late_more a w a.d p h.late;
      queue = cc;
      at = length x.log;
      past = h.past;
      entry = cc (last_get x.log c, same_entry a.first c same);
      lens = λ j i. put_at (λ z. length z.log ≤ a.old + 2) w.desks a.d y j
          (λ s. let l = length-append x.log (c ∷ []) in let o = h.lens a.d a.mine in omega
          (arith, l, o)) (let o = h.lens j i in omega (arith, o));
      promised = λ j i. put_at (λ z. z.stored.promised.number + cost a v ≤ a.number + 2) w.desks a.d
          y j (λ s. let o = h.promised a.d a.mine in let c = cheap in omega (arith, o, c, under))
          (let o = h.promised j i in let c = cheap in omega (arith, o, c, under));
      tried = put_at (λ z. z.stored.tried + cost a v ≤ a.number + 2) w.desks a.d y a.d
          (λ s. let o = h.tried in let c = cheap in omega (arith, o, c, under))
          (let o = h.tried in let c = cheap in omega (arith, o, c, under));
      seen = put_at (λ z. z.seen + cost a v ≤ a.number + 2) w.desks a.d y a.d
          (λ s. let o = h.seen in let c = cheap in omega (arith, o, c, under))
          (let o = h.seen in let c = cheap in omega (arith, o, c, under));
    }
