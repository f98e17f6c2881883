-- What desk d aims at: that its first entry is decided, with help alone and in this many events. It
-- is shown at once of desks that take events alone, and of those that start where their logs grow.
use Rattle.learner.proofs.{Cases.by_test, Runs.run_append, InRange.messages_are_in_range}
use Rattle.std.proofs.Common.{◌≡◌, ℕ, zero, suc, ◌≤◌, ◌<◌, ◌+◌, ◌-◌, ◌*◌, Bool, true, false}
use Rattle.std.proofs.Common.{if◌then◌else◌, ◌==◌, ◌&&◌, nat_lt, List, [], ◌∷◌, ◌++◌, inl, inr}
use Rattle.std.proofs.Common.{Option, Some, None, Ok, length, slice_get, refl, sym, ap, ◌∙◌, subst}
use Rattle.std.proofs.{Common.arith, Common.length-append, lemmas.Bool.Decides.nat_tests}
use Rattle.acceptor.specs.declared.{entry.Entry.Entry, message.Message.Message}
use Rattle.acceptor.specs.{declared.stored.Change.Change, Storing.log_after}
use Rattle.acceptor.specs.declared.stored.Change.TheVariants.{Promised, Voted, Tried, Appended}
use Rattle.proposer.specs.{declared.plan.Plan.Plan, Proposing.tick}
use Rattle.learner.specs.declared.event.DeskEvent.TheVariants.{Start, Tick, Deliver}
use Rattle.learner.specs.declared.event.WorldEvent.{WorldEvent, TheVariants.Submit as SubmitAt}
use Rattle.learner.specs.declared.event.WorldEvent.TheVariants.{Start as StartAt, Tick as TickAt}
use Rattle.learner.specs.{declared.event.WorldEvent.TheVariants.Deliver as DeliverNth, Steps.IsDesk}
use Rattle.learner.specs.{declared.event.WorldEvent.TheVariants.Restart as RestartAt, Steps.is_desk}
use Rattle.learner.specs.{Desks.Desk, Desks.adopt, Desks.passing, Steps.is_heeded, Steps.on_body}
use Rattle.learner.specs.{Chosen.Has, Chosen.IsMajority, Ranges.IsInRange, Worlds.new_world}
use Rattle.learner.specs.Worlds.{World, put, at_desk, nth_sent, delivered, happens, run, after}
use Rattle.progress.specs.Progress.{IsAmong, IsHelp, lacking}
use Rattle.progress.specs.Turns.{has_grown, started, turn_of, takes_turn}

-- events have led to the world
pub record IsReached (n : ℕ) (w : World) : Type 0 where
  pub past : List WorldEvent
  pub same : after n past ≡ w

pub reached_more : (n : ℕ) (w : World) (e : WorldEvent) → IsReached n w
    → IsReached n (happens n w e)
reached_more n w e r =
    record {
      past = r.past ++ e ∷ [];
      same = run_append n new_world r.past (e ∷ []) ∙ ap (λ v. happens n v e) r.same;
    }

-- ---- events, and turns

-- the event alone, or a turn
abbrev pub goes : Bool → ℕ → World → WorldEvent → World
goes false n w e = happens n w e
goes true n w e = takes_turn n w e

abbrev pub goes_on : Bool → ℕ → World → List WorldEvent → World
goes_on s n w [] = w
goes_on s n w (e ∷ es) = goes_on s n (goes s n w e) es

-- each of them is help
abbrev pub AreHelps : Bool → ℕ → ℕ → List ℕ → ℕ → World → List WorldEvent → Type 0
AreHelps s n d desks start w [] = Unit {0}
AreHelps s n d desks start w (e ∷ es) =
    IsHelp d desks start w e × AreHelps s n d desks start (goes s n w e) es

-- desk k starts where its log has more than this many entries, if desks do
abbrev pub may_start : Bool → ℕ → ℕ → ℕ → World → World
may_start false n k before u = u
may_start true n k before u = started n k before u

-- one whose log has not grown does not
rests : (s : Bool) (n k before : ℕ) (u : World) → length (u.desks k).log ≤ before
    → may_start s n k before u ≡ u
rests false n k before u short = refl
rests true n k before u short = go (nat_lt before (length (u.desks k).log)) refl
  where
    go : (t : Bool) → nat_lt before (length (u.desks k).log) ≡ t
        → (if t && nat_lt 0 (length (u.desks k).queue) then at_desk n u k Start else u) ≡ u
    go true t = absurd (grind (arith, nat_tests))
    go false t = refl

-- it is events of the world
abbrev pub IsRunTo : ℕ → World → World → Type 0
IsRunTo n w v = (es : List WorldEvent) × (run n w es ≡ v)

run_starts : (n k before : ℕ) (w v : World) (e : WorldEvent) → happens n w e ≡ v
    → IsRunTo n w (started n k before v)
run_starts n k before w v e same =
    by_test (IsRunTo n w) (has_grown before (v.desks k)) _ _
    (λ t. (e ∷ StartAt k ∷ [], ap (λ u. at_desk n u k Start) same)) (λ t. (e ∷ [], same))

run_goes : (s : Bool) (n : ℕ) (w : World) (e : WorldEvent) → IsRunTo n w (goes s n w e)
run_goes false n w e = (e ∷ [], refl)
run_goes true n w (SubmitAt d e) = ([], refl)
run_goes true n w (StartAt d) = ([], refl)
run_goes true n w (TickAt d) =
    run_starts n d (length (w.desks d).log) w (at_desk n w d Tick) (TickAt d) refl
run_goes true n w (DeliverNth k) = go (nth_sent w.sent k) refl
  where
    go : (o : Option Message) → nth_sent w.sent k ≡ o → IsRunTo n w (turn_of n w o)
    go None same = ([], refl)
    go (Some m) same =
        run_starts n m.to (length (w.desks m.to).log) w (at_desk n w m.to (Deliver m))
        (DeliverNth k) (ap (λ o. delivered n w o) same)
run_goes true n w (RestartAt d) = ([], refl)

pub run_goes_on : (s : Bool) (n : ℕ) (w : World) (es : List WorldEvent)
    → IsRunTo n w (goes_on s n w es)
run_goes_on s n w [] = ([], refl)
run_goes_on s n w (e ∷ es) =
    let h = run_goes s n w e in
    let t = run_goes_on s n (goes s n w e) es in
    (h.0 ++ t.0, run_append n w h.0 t.0 ∙ ap (λ v. run n v t.0) h.1 ∙ t.1)

-- ---- the aim

-- what is aimed at: desk d of n, which has these entries in its queue, is to have the first decided
-- with the help of these desks, by messages after the first `start`. At first their logs are at
-- most `old` long, and no number among them is above `number`. Desks start where their logs grow,
-- or do not
pub record Aim : Type 0 where
  pub starts : Bool
  pub n : ℕ
  pub d : ℕ
  pub desks : List ℕ
  pub start : ℕ
  pub from : ℕ
  pub old : ℕ
  pub number : ℕ
  pub top : ℕ
  pub first : Entry
  pub rest : List Entry
  pub majority : IsMajority n desks
  pub mine : Has desks d
  pub tall : old + 2 ≤ top
  pub room : old + 2 ≤ 65536
  pub numbers : number + 2 ≤ 4294967295

-- twice the entries that the desks lack: a Behind and a Decided bring one
abbrev pub lack : Aim → World → ℕ
lack a w = 2 * lacking w a.top a.desks

-- the numbers that desk d may still make by Starts: one for each entry that it lacks
abbrev pub cost_of : Bool → ℕ → ℕ
cost_of false lacks = 0
cost_of true lacks = lacks

abbrev pub cost : Aim → World → ℕ
cost a w = cost_of a.starts (a.top - length (w.desks a.d).log)

pub cost_less : (a : Aim) (v w : World) → length (w.desks a.d).log ≤ length (v.desks a.d).log
    → cost a v ≤ cost a w
cost_less a v w l = go a.starts
  where
    go : (s : Bool) → cost_of s (a.top - length (v.desks a.d).log) ≤ cost_of s
        (a.top - length (w.desks a.d).log)
    go false = omega arith
    go true = omega (arith, l)

-- an entry that it learns pays for one
pub cost_pays : (a : Aim) (v w : World) → length (w.desks a.d).log < length (v.desks a.d).log
    → length (w.desks a.d).log < a.top → cost a v + cost_of a.starts 1 ≤ cost a w
cost_pays a v w l low = go a.starts
  where
    go : (s : Bool) → cost_of s (a.top - length (v.desks a.d).log) + cost_of s 1
        ≤ cost_of s (a.top - length (w.desks a.d).log)
    go false = omega arith
    go true = omega (arith, l, low)

-- the first entry is in the log, past what stood there, and there is room for another
pub record IsDecided (a : Aim) (w : World) : Type 0 where
  pub reached : IsReached a.n w
  pub late : a.start ≤ length w.sent
  pub queue : (w.desks a.d).queue ≡ a.rest
  pub at : ℕ
  pub past : a.from ≤ at
  pub entry : slice_get (w.desks a.d).log at ≡ Some a.first
  pub lens : (k : ℕ) → Has a.desks k → length (w.desks k).log ≤ a.old + 2
  pub promised : (k : ℕ) → Has a.desks k
      → (w.desks k).stored.promised.number + cost a w ≤ a.number + 2
  pub tried : (w.desks a.d).stored.tried + cost a w ≤ a.number + 2
  pub seen : (w.desks a.d).seen + cost a w ≤ a.number + 2

-- with help in this many events it is decided; what the desks then lack counts with these
pub record Decides (a : Aim) (most : ℕ) (w : World) : Type 0 where
  pub events : List WorldEvent
  pub help : AreHelps a.starts a.n a.d a.desks a.start w events
  pub few : length events + lack a (goes_on a.starts a.n w events) ≤ most
  pub ends : IsDecided a (goes_on a.starts a.n w events)

pub decides_here : (a : Aim) (most : ℕ) (w : World) → lack a w ≤ most → IsDecided a w
    → Decides a most w
decides_here a most w l h = record { events = []; help = tt; few = omega (arith, l); ends = h }

pub decides_more : (a : Aim) (few many : ℕ) (w : World) → few ≤ many → Decides a few w
    → Decides a many w
decides_more a few many w l h =
    record {
      events = h.events;
      help = h.help;
      few = (let f = h.few in omega (arith, f, l));
      ends = h.ends;
    }

-- one event, and then others
pub decides_by : (a : Aim) (few many : ℕ) (w v : World) (e : WorldEvent)
    → IsHelp a.d a.desks a.start w e → goes a.starts a.n w e ≡ v → suc few ≤ many
    → Decides a few v → Decides a many w
decides_by a few many w v e h same l next = go (rw same next)
  where
    go : Decides a few (goes a.starts a.n w e) → Decides a many w
    go k =
        record {
          events = e ∷ k.events;
          help = (h, k.help);
          few = let f = k.few in omega (arith, f, l);
          ends = k.ends;
        }

-- the world after a plan of desk k
abbrev pub carried : World → ℕ → Plan → World
carried w k p =
    record { desks = put w.desks k (adopt (w.desks k) p); sent = w.sent ++ p.messages }

-- what holds of the desk that was put there, and of the old one elsewhere
pub put_at : (P : Desk → Type 0) (desks : ℕ → Desk) (k : ℕ) (y : Desk) (j : ℕ) → (k ≡ j → P y)
    → P (desks j) → P (put desks k y j)
put_at P desks k y j new old =
    by_test P (k == j) _ _ (λ e. new (grind (arith, nat_tests))) (λ e. old)

pub put_other : (desks : ℕ → Desk) (k : ℕ) (y : Desk) (j : ℕ) → ¬ (k ≡ j)
    → put desks k y j ≡ desks j
put_other desks k y j ne = put_at (λ x. x ≡ desks j) desks k y j (λ s. absurd (ne s)) refl

-- a part of a desk that a step leaves as it is, is the same at all desks
pub put_same : {A : Type 0} (f : Desk → A) (desks : ℕ → Desk) (k : ℕ) (y : Desk)
    → f y ≡ f (desks k) → (j : ℕ) → f (put desks k y j) ≡ f (desks j)
put_same f desks k y h j =
    by_test (λ z. f z ≡ f (desks j)) (k == j) _ _
    (λ e. let same : k ≡ j = grind (arith, nat_tests) in h ∙ ap (λ i. f (desks i)) same) (λ e. refl)

pub self_test : (k : ℕ) → (k == k) ≡ true
self_test k = grind (arith, nat_tests)

pub put_self : (desks : ℕ → Desk) (k : ℕ) (y : Desk) → put desks k y k ≡ y
put_self desks k y = ap (λ t. if t then y else desks k) (self_test k)

pub desk_test : (n d : ℕ) → IsDesk n d → is_desk n d ≡ true
desk_test n d h = let low = h.0 in let high = h.1 in grind (arith, nat_tests)

both_true : (a b : Bool) → a ≡ true → b ≡ true → (a && b) ≡ true
both_true true b h k = k
both_true false b h k = absurd cc

pub heeded_test : (n : ℕ) (m : Message) → IsInRange n m → is_heeded n m.to m ≡ true
heeded_test n m r =
    both_true _ _ (both_true _ _ (self_test m.to) (desk_test n m.from r.from)) r.body

-- a message in range comes to its receiver, and is heeded
heard_is : (n : ℕ) (w : World) (m : Message) → IsInRange n m → at_desk n w m.to (Deliver m)
    ≡ carried w m.to (on_body n m.to (w.desks m.to) m.from m.body)
heard_is n w m r = cc (desk_test n m.to r.to, heeded_test n m r)

-- a Tick that is not refused
pub tick_is : (n : ℕ) (w : World) (d : ℕ) (p : Plan) → IsDesk n d
    → tick n d (w.desks d).stored (length (w.desks d).log) (passing (w.desks d)) ≡ Ok p
    → at_desk n w d Tick ≡ carried w d p
tick_is n w d p ours h = cc (desk_test n d ours)

-- what was sent stays at its place
pub get_left : {A : Type 0} (xs ys : List A) (i : ℕ) (m : A) → slice_get xs i ≡ Some m
    → slice_get (xs ++ ys) i ≡ Some m
get_left [] ys i m h = absurd cc
get_left (x ∷ xs) ys zero m h = h
get_left (x ∷ xs) ys (suc i) m h = get_left xs ys i m h

-- and what is sent is behind it
get_right : (xs ys : List Message) (i : ℕ) (m : Message) → slice_get ys i ≡ Some m
    → slice_get (xs ++ ys) (length xs + i) ≡ Some m
get_right [] ys i m h = subst (λ (j : ℕ). slice_get ys j ≡ Some m) (omega arith) h
get_right (x ∷ xs) ys i m h =
    let same : length (x ∷ xs) + i ≡ suc (length xs + i) = omega arith in
    subst (λ (j : ℕ). slice_get (x ∷ xs ++ ys) j ≡ Some m) (sym same) (get_right xs ys i m h)

-- it was sent after the first `start`
abbrev pub IsPending : Aim → World → Message → Type 0
IsPending a w m = (i : ℕ) × (a.start ≤ i) × (slice_get w.sent i ≡ Some m)

pub pending_more : (a : Aim) (w : World) (k : ℕ) (p : Plan) (m : Message) → IsPending a w m
    → IsPending a (carried w k p) m
pending_more a w k p m h = (h.0, h.1, get_left w.sent p.messages h.0 m h.2)

pub pending_new : (a : Aim) (w : World) (k : ℕ) (p : Plan) (i : ℕ) (m : Message)
    → a.start ≤ length w.sent → slice_get p.messages i ≡ Some m → IsPending a (carried w k p) m
pending_new a w k p i m h at = (length w.sent + i, omega (arith, h), search get_right)

pub late_more : (a : Aim) (w : World) (k : ℕ) (p : Plan) → a.start ≤ length w.sent
    → a.start ≤ length (carried w k p).sent
late_more a w k p h = let l = length-append w.sent p.messages in omega (arith, l, h)

-- desks lack no more where no log is shorter
pub lacking_less : (v w : World) (top : ℕ) (ks : List ℕ)
    → ((j : ℕ) → length (w.desks j).log ≤ length (v.desks j).log)
    → lacking v top ks ≤ lacking w top ks
lacking_less v w top [] h = omega arith
lacking_less v w top (k ∷ ks) h = omega (arith, h k, lacking_less v w top ks h)

pays_first : (v w : World) (top x : ℕ) (ks : List ℕ) (k : ℕ)
    → ((j : ℕ) → length (w.desks j).log ≤ length (v.desks j).log) → Has (x ∷ ks) k
    → length (w.desks k).log < length (v.desks k).log → length (w.desks k).log < top
    → (Has ks k → lacking v top ks + 1 ≤ lacking w top ks)
    → lacking v top (x ∷ ks) + 1 ≤ lacking w top (x ∷ ks)
pays_first v w top x ks k h i longer low later = elim i [ inl s ↦ here s | inr m ↦ there m ]
  where
    here : x ≡ k → lacking v top (x ∷ ks) + 1 ≤ lacking w top (x ∷ ks)
    here s =
        omega (
          arith,
          ap (λ j. length (w.desks j).log) s,
          ap (λ j. length (v.desks j).log) s,
          lacking_less v w top ks h,
          longer,
          low,
        )

    there : Has ks k → lacking v top (x ∷ ks) + 1 ≤ lacking w top (x ∷ ks)
    there m = let r = later m in let p = h x in omega (arith, p, r)

-- and less where one of them is longer
pub lacking_pays : (v w : World) (top : ℕ) (ks : List ℕ) (k : ℕ)
    → ((j : ℕ) → length (w.desks j).log ≤ length (v.desks j).log) → Has ks k
    → length (w.desks k).log < length (v.desks k).log → length (w.desks k).log < top
    → lacking v top ks + 1 ≤ lacking w top ks
lacking_pays v w top [] k h i longer low = elim i [ ]
lacking_pays v w top (x ∷ ks) k h i longer low =
    pays_first v w top x ks k h i longer low (λ m. lacking_pays v w top ks k h m longer low)

pub log_grows : (log : List Entry) (c : Option Change) → length log ≤ length (log_after log c)
log_grows log None = omega arith
log_grows log (Some (Promised b)) = omega arith
log_grows log (Some (Voted v)) = omega arith
log_grows log (Some (Tried r)) = omega arith
log_grows log (Some (Appended e)) = let l = length-append log (e ∷ []) in omega (arith, l)

pub logs_grow : (w : World) (k : ℕ) (p : Plan) (j : ℕ)
    → length (w.desks j).log ≤ length ((carried w k p).desks j).log
logs_grow w k p j =
    put_at (λ y. length (w.desks j).log ≤ length y.log) w.desks k (adopt (w.desks k) p) j
    (λ s. subst (λ (i : ℕ). length (w.desks i).log ≤ length (log_after (w.desks k).log p.change)) s
    (log_grows (w.desks k).log p.change)) (omega arith)

pub lack_less : (a : Aim) (w : World) (k : ℕ) (p : Plan) → lack a (carried w k p) ≤ lack a w
lack_less a w k p = omega (arith, lacking_less (carried w k p) w a.top a.desks (logs_grow w k p))

pub lack_pays : (a : Aim) (w : World) (k : ℕ) (p : Plan) (c : Entry) → Has a.desks k
    → p.change ≡ Some (Appended c) → length (w.desks k).log < a.top
    → lack a (carried w k p) + 2 ≤ lack a w
lack_pays a w k p c i change low =
    let grown : length ((carried w k p).desks k).log ≡ length (w.desks k).log + 1 = ap
    (λ y. length y.log) (put_self w.desks k (adopt (w.desks k) p)) ∙ ap
    (λ o. length (log_after (w.desks k).log o)) change ∙ length-append (w.desks k).log (c ∷ []) in
    let long : length ((carried w k p).desks k).log ≡ length (w.desks k).log + 1 = grown in
    omega (
      arith,
      lacking_pays (carried w k p) w a.top a.desks k (logs_grow w k p) i
          (omega (arith, long)) low,
    )

-- a pending message among the desks comes, the receiver carries out this plan, and may start
pub arrives : (a : Aim) (few many : ℕ) (w : World) (m : Message) (p : Plan) → IsReached a.n w
    → Has a.desks m.from → Has a.desks m.to → IsPending a w m
    → on_body a.n m.to (w.desks m.to) m.from m.body ≡ p → suc few ≤ many
    → (IsReached a.n (carried w m.to p) → Decides a few
    (may_start a.starts a.n m.to (length (w.desks m.to).log) (carried w m.to p))) → Decides a many w
arrives a few many w m p r from to h same l next =
    let late = h.1 in
    decides_by a few many w (may_start a.starts a.n m.to before (carried w m.to p))
    (DeliverNth (suc h.0))
    (omega (arith, late), subst (λ (o : Option Message). IsAmong a.desks o) (sym h.2) (from, to))
    (went a.starts) l (next (subst (λ (v : World). IsReached a.n v) (went false)
    (reached_more a.n w (DeliverNth (suc h.0)) r)))
  where
    before : ℕ
    before = length (w.desks m.to).log

    range : IsInRange a.n m
    range = messages_are_in_range a.n r.past h.0 m (rw (← r.same) at h.2)

    is : at_desk a.n w m.to (Deliver m) ≡ carried w m.to p
    is = heard_is a.n w m range ∙ ap (λ q. carried w m.to q) same

    went : (s : Bool) → goes s a.n w (DeliverNth (suc h.0))
        ≡ may_start s a.n m.to before (carried w m.to p)
    went false = ap (λ o. delivered a.n w o) h.2 ∙ is
    went true = ap (λ o. turn_of a.n w o) h.2 ∙ ap (λ v. started a.n m.to before v) is

-- one whose log does not grow does not start
pub comes : (a : Aim) (c : ℕ) (w : World) (m : Message) (p : Plan) → IsReached a.n w
    → Has a.desks m.from → Has a.desks m.to → IsPending a w m
    → on_body a.n m.to (w.desks m.to) m.from m.body ≡ p
    → length (log_after (w.desks m.to).log p.change) ≤ length (w.desks m.to).log
    → (IsReached a.n (carried w m.to p)
    → Decides a (lack a (carried w m.to p) + c) (carried w m.to p)) → Decides a (lack a w + suc c) w
comes a c w m p r from to h same short next =
    let still : length ((carried w m.to p).desks m.to).log ≤ length (w.desks m.to).log = let e = ap
    (λ y. length y.log) (put_self w.desks m.to (adopt (w.desks m.to) p)) in let s = short in omega
    (arith, e, s) in
    let l = lack_less a w m.to p in
    arrives a _ _ w m p r from to h same (omega (arith, l))
    (λ reached. subst (λ (v : World). Decides a (lack a (carried w m.to p) + c) v)
    (sym (rests _ _ _ _ _ still)) (next reached))

-- desk d ticks, and its log does not grow
pub ticks : (a : Aim) (c : ℕ) (w : World) (p : Plan) → IsReached a.n w
    → tick a.n a.d (w.desks a.d).stored (length (w.desks a.d).log) (passing (w.desks a.d)) ≡ Ok p
    → length (log_after (w.desks a.d).log p.change) ≤ length (w.desks a.d).log
    → (IsReached a.n (carried w a.d p) → Decides a (lack a (carried w a.d p) + c) (carried w a.d p))
    → Decides a (lack a w + suc c) w
ticks a c w p r h short next =
    let l = lack_less a w a.d p in
    decides_by a (lack a (carried w a.d p) + c) (lack a w + suc c) w (carried w a.d p) (TickAt a.d)
    refl (went a.starts) (omega (arith, l))
    (next (subst (λ (v : World). IsReached a.n v) is (reached_more a.n w (TickAt a.d) r)))
  where
    ours : IsDesk a.n a.d
    ours = let m = a.majority in m.ours a.d a.mine

    is : at_desk a.n w a.d Tick ≡ carried w a.d p
    is = tick_is a.n w a.d p ours h

    still : length ((carried w a.d p).desks a.d).log ≤ length (w.desks a.d).log
    still =
        let e = ap (λ y. length y.log) (put_self w.desks a.d (adopt (w.desks a.d) p)) in
        let s = short in omega (arith, e, s)

    went : (s : Bool) → goes s a.n w (TickAt a.d) ≡ carried w a.d p
    went false = is
    went true =
        ap (λ v. started a.n a.d (length (w.desks a.d).log) v) is
        ∙ rests true a.n a.d (length (w.desks a.d).log) (carried w a.d p) still
