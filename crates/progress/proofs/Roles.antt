-- Whatever its role, desk d gets its first entry decided.
use Rattle.std.proofs.Common.{◌≡◌, ℕ, zero, suc, ◌≤◌, ◌<◌, ◌+◌, ◌*◌, ◌||◌, Bool, true, false}
use Rattle.std.proofs.Common.{if◌then◌else◌, ◌==◌, List, [], ◌∷◌, inl, inr, Option, Some, None}
use Rattle.std.proofs.Common.{length, slice_get, refl, sym, ap, ◌∙◌, subst, arith}
use Rattle.std.proofs.lemmas.Bool.Decides.{nat_tests}
use Rattle.acceptor.specs.declared.{ballot.Ballot.Ballot, entry.Entry.Entry, stored.Vote.Vote}
use Rattle.acceptor.specs.Ballots.{is_below}
use Rattle.acceptor.specs.declared.message.{Body.Body, Body.TheVariants.Accept, Message.Message}
use Rattle.acceptor.specs.Messages.{message, has, desks_from, without, to_each}
use Rattle.proposer.specs.declared.{role.Role.Role, plan.Plan.Plan}
use Rattle.proposer.specs.declared.role.Role.TheVariants.{Idle, Gathering, Proposing, Leading}
use Rattle.proposer.specs.Proposing.{is_majority, ask_again, tick_by_role}
use Rattle.learner.specs.Chosen.{Has, IsDistinct, IsMajority}
use Rattle.learner.specs.{Desks.Desk, Desks.passing, Steps.IsDesk, Worlds.World}
use Rattle.learner.{proofs.Runs.after_sound, specs.Invariant.RoleStands, specs.Invariant.IsSound}
use Rattle.learner.proofs.Quorum.{drop_each, length-drop_each, Has-drop_each, IsDistinct-drop_each}
use Rattle.progress.proofs.Aims.{Aim, lack, cost, IsReached, Decides, decides_more, carried}
use Rattle.progress.proofs.{Aims.IsPending, Aims.pending_new, Aims.ticks, Levels.desks_same}
use Rattle.progress.proofs.Fits.{IsOldOr, Fit, fit_plain}
use Rattle.progress.proofs.Starting.{IsFreeIn, IsFree, free_idle}
use Rattle.progress.proofs.Votes.{Asks, Yields, LeadsOrAsks, Leads, low_more, hear_all}
use Rattle.progress.proofs.Ballots.{asks_all, lead_asks, not_other, free_decides}
use Rattle.progress.proofs.Standing.{IsVotedBy, Waits, IsSteady, all_are_steady}

-- those not heard
abbrev pub unheard : List ℕ → List ℕ → List ℕ
unheard desks [] = desks
unheard desks (h ∷ hs) = drop_each (unheard desks hs) h

pub unheard_distinct : (desks hs : List ℕ) → IsDistinct desks → IsDistinct (unheard desks hs)
unheard_distinct desks [] h = h
unheard_distinct desks (x ∷ hs) h =
    IsDistinct-drop_each (unheard desks hs) x (unheard_distinct desks hs h)

pub unheard_long : (desks hs : List ℕ) → IsDistinct desks
    → length desks ≤ length (unheard desks hs) + length hs
unheard_long desks [] h = omega arith
unheard_long desks (x ∷ hs) h =
    let a = length-drop_each (unheard desks hs) x (unheard_distinct desks hs h) in
    let b = unheard_long desks hs h in omega (arith, a, b)

dropped_short : (xs : List ℕ) (d : ℕ) → length (drop_each xs d) ≤ length xs
dropped_short [] d = omega arith
dropped_short (x ∷ xs) d = go (x == d) (dropped_short xs d)
  where
    go : (t : Bool) → length (drop_each xs d) ≤ length xs
        → length (if t then drop_each xs d else x ∷ drop_each xs d) ≤ length (x ∷ xs)
    go true h = omega (arith, h)
    go false h = omega (arith, h)

unheard_short : (desks hs : List ℕ) → length (unheard desks hs) ≤ length desks
unheard_short desks [] = omega arith
unheard_short desks (x ∷ hs) =
    omega (arith, dropped_short (unheard desks hs) x, unheard_short desks hs)

pub not_heard : (desks hs : List ℕ) (k : ℕ) → Has (unheard desks hs) k
    → Has desks k × (has hs k ≡ false)
not_heard desks [] k h = (h, refl)
not_heard desks (x ∷ hs) k h =
    go (x == k) refl (not_heard desks hs k (Has-drop_each (unheard desks hs) x k h).0)
  where
    go : (t : Bool) → (x == k) ≡ t → Has desks k × (has hs k ≡ false)
        → Has desks k × ((t || has hs k) ≡ false)
    go true e r = absurd ((Has-drop_each (unheard desks hs) x k h).1 (grind (arith, nat_tests)))
    go false e r = r

-- among what is sent to those not heard is what is sent to one of them
pub asked_get : (from : ℕ) (body : Body) (first count k : ℕ) (hs : List ℕ) → has hs k ≡ false
    → first ≤ k → k < first + count
    → (i : ℕ) × (slice_get (to_each from (without (desks_from first count) hs) body) i ≡ Some
    (message from k body))
asked_get from body first zero k hs ne low high = absurd (omega (arith, low, high))
asked_get from body first (suc count) k hs ne low high =
    go (first == k) (has hs first) refl refl
    (λ above. asked_get from body (suc first) count k hs ne above (omega (arith, high)))
  where
    others : List ℕ
    others = without (desks_from (suc first) count) hs

    go : (t s : Bool) → (first == k) ≡ t → has hs first ≡ s
        → (suc first ≤ k → (i : ℕ) × (slice_get (to_each from others body) i ≡ Some
        (message from k body)))
        → (i : ℕ) × (slice_get (to_each from (if s then others else first ∷ others) body) i ≡ Some
        (message from k body))
    go true true e g ih =
        let same : first ≡ k = grind (arith, nat_tests) in
        let bad : has hs first ≡ false = rw same ne in absurd cc
    go true false e g ih =
        let same : first ≡ k = grind (arith, nat_tests) in
        (0, ap (λ j. Some (message from j body)) same)
    go false true e g ih = let above : suc first ≤ k = grind (arith, nat_tests) in ih above
    go false false e g ih =
        let above : suc first ≤ k = grind (arith, nat_tests) in
        let r = ih above in (suc r.0, r.1)

-- a desk that leads, or has asked by a Start, by a number that it knows
lead_decides : (a : Aim) (b : Ballot) (m : ℕ) (w : World) → Fit a a.number w
    → LeadsOrAsks a b m w → length (w.desks a.d).log ≡ m → b.number + cost a w ≤ a.number
    → Decides a (lack a w + (12 * length a.desks + 9)) w
lead_decides a b m w h role own low = by_role role
  where
    all : ℕ
    all = 9 * length a.desks + 8

    yields : (v : World) → Yields a a.number ⊥ v → Decides a (lack a v + all) v
    yields v y = free_decides a a.number v y.fit (omega arith) y.free

    asked : (v : World) → Asks a a.number ⊥ b m a.first a.desks [] v
        → Decides a (lack a v + (3 * length a.desks + all)) v
    asked v g =
        hear_all a all a.number ⊥ b m a.first yields (λ u l s. absurd (not_other a.first s))
        a.desks [] v g

    leads : (w.desks a.d).role ≡ Leading b → (t : Bool)
        → is_below b (w.desks a.d).stored.promised ≡ t
        → Decides a (lack a w + (12 * length a.desks + 9)) w
    leads leading true t =
        decides_more a _ _ w (omega arith) (free_decides a _ w h (omega arith)
        (subst (λ (r : Role). IsFreeIn (w.desks a.d).stored.promised r) (sym leading) t))
    leads leading false t =
        decides_more a _ _ w (omega arith) (lead_asks a _ _ m ⊥ b w h leading t own low
        (λ z. absurd z) asked)

    by_role : LeadsOrAsks a b m w → Decides a (lack a w + (12 * length a.desks + 9)) w
    by_role (inl leading) = leads leading (is_below b (w.desks a.d).stored.promised) refl
    by_role (inr asking) =
        decides_more a _ _ w (omega arith) (asked w
        (asks_all a _ m ⊥ b w h asking.0 own asking.1 low (λ z. absurd z)))

-- a desk that proposes, by a number that it knows
proposer_decides : (a : Aim) (b : Ballot) (m : ℕ) (f : Entry) (heard : List ℕ) (w : World)
    → Fit a a.number w → (w.desks a.d).role ≡ Proposing b m f heard → length (w.desks a.d).log ≡ m
    → m ≤ a.old → b.number + cost a w ≤ a.number → is_majority a.n (length heard) ≡ false
    → Decides a (lack a w + (15 * length a.desks + 10)) w
proposer_decides a b m f heard w h role own old low few =
    decides_more a (lack a w + suc (3 * length left + all)) (lack a w + (15 * length a.desks + 10))
    w (omega (arith, unheard_short a.desks heard)) (ticks a (3 * length left + all) w plan h.reached
    (ap (λ r. tick_by_role a.n a.d x.stored (length x.log) (passing x) r) role) (omega arith)
    (λ reached1. hear_all a all a.number ⊥ b m f yields leads left heard v (asks reached1)))
  where
    most : IsMajority a.n a.desks
    most = a.majority

    all : ℕ
    all = 12 * length a.desks + 9

    left : List ℕ
    left = unheard a.desks heard

    x : Desk
    x = w.desks a.d

    ms : List Message
    ms = to_each a.d (without (desks_from 1 a.n) heard) (Accept b m f)

    plan : Plan
    plan = ask_again a.n a.d (passing x) b m f heard

    v : World
    v = carried w a.d plan

    yields : (u : World) → Yields a a.number ⊥ u → Decides a (lack a u + all) u
    yields u y = decides_more a _ _ u (omega arith) (free_decides a _ u y.fit (omega arith) y.free)

    leads : (u : World) → Leads a a.number ⊥ b m u
        → Rattle.acceptor.specs.Entries.is_same_entry a.first f ≡ false
        → Decides a (lack a u + all) u
    leads u l s = lead_decides a b (suc m) u l.fit l.role l.own l.number

    asked : (k : ℕ) → Has left k → IsPending a v (message a.d k (Accept b m f))
    asked k i =
        let q = not_heard a.desks heard k i in
        let ours : IsDesk a.n k = most.ours k q.0 in
        let above = ours.0 in
        let under = ours.1 in
        let g = asked_get a.d (Accept b m f) 1 a.n k heard q.1 above (omega (arith, under)) in
        pending_new a w a.d plan g.0 (message a.d k (Accept b m f)) h.late g.1

    asks : IsReached a.n v → Asks a a.number ⊥ b m f left heard v
    asks reached1 =
        record {
          fit = fit_plain a a.number w a.d x.seen None ms h a.mine reached1 (λ s. h.seen);
          role = ap (λ z. z.role) (desks_same w a.d ms a.d) ∙ role;
          own = ap (λ z. length z.log) (desks_same w a.d ms a.d) ∙ own;
          asked = asked;
          new = λ k i. (not_heard a.desks heard k i).1;
          within = λ k i. (not_heard a.desks heard k i).0;
          distinct = unheard_distinct a.desks heard most.distinct;
          few = few;
          enough = let many : a.n < 2 * length a.desks = most.many in
              let l = unheard_long a.desks heard most.distinct in omega (arith, many, l);
          old = inl old;
          low = low_more a a.number b.number w a.d plan low;
          clear = λ z. absurd z;
        }

-- what holds at first
pub record Begins (a : Aim) (w : World) : Type 0 where
  pub reached : IsReached a.n w
  pub late : a.start ≤ length w.sent
  pub queue : (w.desks a.d).queue ≡ a.first ∷ a.rest
  pub past : a.from ≤ length (w.desks a.d).log
  pub lens : (k : ℕ) → Has a.desks k → length (w.desks k).log ≤ a.old
  pub promised : (k : ℕ) → Has a.desks k → (w.desks k).stored.promised.number + cost a w ≤ a.number
  pub tried : (w.desks a.d).stored.tried + cost a w ≤ a.number
  pub seen : (w.desks a.d).seen + cost a w ≤ a.number

pub old_vote : (a : Aim) (len : ℕ) (v : Option Vote) → len ≤ a.old → IsVotedBy len v → IsOldOr a v
old_vote a len None l h = tt
old_vote a len (Some v) l h = inl (omega (arith, l, h))

-- the first entry is decided
pub first_decided : (a : Aim) (w : World) → Begins a w
    → Decides a (lack a w + (15 * length a.desks + 10)) w
first_decided a w h = by_role (w.desks a.d).role refl
  where
    r : IsReached a.n w
    r = h.reached

    steady : (k : ℕ) → IsSteady a.n (w.desks k)
    steady k = subst (λ (u : World). IsSteady a.n (u.desks k)) r.same (all_are_steady a.n r.past k)

    sound : IsSound a.n w
    sound = subst (λ (u : World). IsSound a.n u) r.same (after_sound a.n r.past)

    fit : Fit a a.number w
    fit =
        record {
          reached = r;
          late = h.late;
          queue = h.queue;
          past = h.past;
          lens = λ k i. let l = h.lens k i in omega (arith, l);
          votes = λ k i. let s = steady k in old_vote a _ _ (h.lens k i) s.vote;
          promised = h.promised;
          tried = h.tried;
          seen = h.seen;
          under = omega arith;
        }

    free : IsFree (w.desks a.d) → Decides a (lack a w + (15 * length a.desks + 10)) w
    free f = decides_more a _ _ w (omega arith) (free_decides a _ w fit (omega arith) f)

    Stands : Role → Type 0
    Stands role = RoleStands a.n w.sent a.d (w.desks a.d).stored.tried (length (w.desks a.d).log)
        role

    stands : Stands (w.desks a.d).role
    stands = let d = sound.desks a.d in d.role

    by_role : (role : Role) → (w.desks a.d).role ≡ role
        → Decides a (lack a w + (15 * length a.desks + 10)) w
    by_role Idle same = free (free_idle (w.desks a.d) same)
    by_role (Gathering b m heard) same = free (rw same tt)
    by_role (Proposing b m f heard) same =
        let s = subst Stands same stands in
        let own : length (w.desks a.d).log ≡ m = sym s.place in
        proposer_decides a b m f heard w fit same own (omega (arith, own, h.lens a.d a.mine))
        (omega (arith, s.tried, h.tried))
        (let q = steady a.d in subst (λ (o : Role). Waits a.n o) same q.role)
    by_role (Leading b) same =
        let s = subst Stands same stands in
        decides_more a (lack a w + (12 * length a.desks + 9))
        (lack a w + (15 * length a.desks + 10)) w (omega arith)
        (lead_decides a b (length (w.desks a.d).log) w fit (inl same) refl
        (let t = s.tried in let u = h.tried in omega (arith, t, u)))
