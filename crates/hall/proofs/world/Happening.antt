-- What one event makes of a hall.
use Rattle.std.proofs.Common.{◌≡◌, ℕ, suc, zero, ◌+◌, ◌==◌, ◌-◌, Bool, true, false, if◌then◌else◌}
use Rattle.std.proofs.Common.{List, [], ◌∷◌, ◌++◌, Option, Some, None, Result, Ok, Err, IfOk, OnOk}
use Rattle.std.proofs.Common.{OnErr, get_or, set, slice_get, refl, sym, ap, ◌∙◌, subst, arith}
use Rattle.acceptor.specs.declared.{entry.Entry.Entry, message.Message.Message}
use Rattle.proposer.specs.declared.fault.Refusal.{Refusal}
use Rattle.learner.specs.declared.event.{DeskEvent.DeskEvent, WorldEvent.WorldEvent}
use Rattle.std.proofs.Math.Path.{fun_ext}
use Rattle.learner.{specs.Desks.first_desk, specs.Desks.restarted, proofs.Runs.run_append}
use Rattle.learner.specs.Steps.{Done, done, idle, is_desk, is_heeded, on_body, step}
use Rattle.learner.specs.declared.event.DeskEvent.TheVariants.{Submit, Deliver}
use Rattle.learner.specs.Worlds.{World, new_world, put, world_after, at_desk, nth_sent, delivered}
use Rattle.learner.specs.Worlds.{restart_at, happens, run, after}
use Rattle.replica.specs.roles.model.RunningDesks.{RunningDesk}
use Rattle.hall.specs.world.model.Halls.{HallValue, desk_from, known_by, world_of, AreNumbered}
use Rattle.hall.specs.world.model.Halls.{Does, IsAfter}
use Rattle.hall.specs.world.WorldValues.{refusal_of, refusal_at, refusal, refused_by, last_refusal}
use Rattle.hall.proofs.world.Places.{here_at, known_at, known_same, put_desk, stands}

abbrev pub hall_of : ℕ → List RunningDesk → List Message → HallValue
hall_of n places sent = record { desks = n; places = known_by places; sent = sent }

-- the hall after an event, and the answer for it, where memory was refused or not
pub record Follows {E : Type 0} (n : ℕ) (new : List RunningDesk) (more : List Message)
    (result : Result (Option Refusal) E) (old : HallValue) (next : World)
    (why : Option Refusal) : Type 0 where
  pub world : OnOk result (world_of (hall_of n new more) ≡ next)
  pub refused : IfOk result (λ r. r ≡ why)
  pub err : OnErr result (hall_of n new more ≡ old)

on_ok : {A E : Type 0} {Q : Type 0} (f : A → Type 0) (r : Result A E) → ((a : A) → f a → Q)
    → IfOk r f → OnOk r Q
on_ok f (Ok a) g h = g a h
on_ok f (Err e) g h = h

pub if_ok : {A E : Type 0} (f q : A → Type 0) (r : Result A E) → ((a : A) → f a → q a) → IfOk r f
    → IfOk r q
if_ok f q (Ok a) g h = g a h
if_ok f q (Err e) g h = h

pub on_err : {A E : Type 0} {P Q : Type 0} (r : Result A E) → (P → Q) → OnErr r P → OnErr r Q
on_err (Ok a) g h = h
on_err (Err e) g h = g h

does_world : (n d : ℕ) (places : List RunningDesk) (x y : RunningDesk) (sent more : List Message)
    (r : Option Refusal) → is_desk n d ≡ true → slice_get places (d - 1) ≡ Some x
    → (s : Result Done Refusal) → Does x y sent more r s
    → world_of (hall_of n (set places (d - 1) y) more)
    ≡ world_after (world_of (hall_of n places sent)) d s
does_world n d places x y sent more r ours here (Ok q) h =
    let moved = put_desk n d places x y ours here
    ∙ ap (λ z. put (desk_from 1 (known_by places)) d z) h.0 in
    λ i. record { desks = moved i; sent = h.1 i }
does_world n d places x y sent more r ours here (Err why) h =
    let same = ap (desk_from 1) (known_same (d - 1) places x y here h.0) in
    λ i. record { desks = same i; sent = h.1 i }

does_refused : (x y : RunningDesk) (sent more : List Message) (r : Option Refusal)
    (s : Result Done Refusal) → Does x y sent more r s → r ≡ refusal_of s
does_refused x y sent more r (Ok q) h = h.2
does_refused x y sent more r (Err why) h = h.2

-- the event at a desk that there is
at_there : (n d : ℕ) (w : World) (event : DeskEvent) → is_desk n d ≡ true
    → at_desk n w d event ≡ world_after w d (step n d (w.desks d) event)
at_there n d w event ours =
    ap (λ t. if t then world_after w d (step n d (w.desks d) event) else w) ours

refusal_there : (n d : ℕ) (w : World) (event : DeskEvent) → is_desk n d ≡ true
    → refusal_at n w d event ≡ refusal_of (step n d (w.desks d) event)
refusal_there n d w event ours =
    ap (λ t. if t then refusal_of (step n d (w.desks d) event) else None) ours

-- the step of the code at a place is that of the desk with its number
same_step : (n d : ℕ) (places : List RunningDesk) (x : RunningDesk) (event : DeskEvent)
    → AreNumbered n 1 places → is_desk n d ≡ true → slice_get places (d - 1) ≡ Some x
    → step x.desks x.number x.desk event ≡ step n d (desk_from 1 (known_by places) d) event
same_step n d places x event numbered ours here =
    let s = stands n d places x numbered ours here in
    let known = known_at n d places x ours here in
    λ i. step (s.desks i) (s.number i) (known i) event

event_follows : {E : Type 0} (n d : ℕ) (places : List RunningDesk) (x y : RunningDesk)
    (sent more : List Message) (result : Result (Option Refusal) E) (event : DeskEvent)
    → AreNumbered n 1 places → is_desk n d ≡ true → slice_get places (d - 1) ≡ Some x
    → IfOk result (λ r. Does x y sent more r (step x.desks x.number x.desk event))
    → OnErr result ((y.desk ≡ x.desk) × (more ≡ sent))
    → Follows n (set places (d - 1) y) more result (hall_of n places sent)
    (at_desk n (world_of (hall_of n places sent)) d event)
    (refusal_at n (world_of (hall_of n places sent)) d event)
event_follows n d places x y sent more result event numbered ours here ok err =
    let w = world_of (hall_of n places sent) in
    let s = same_step n d places x event numbered ours here in
    record {
      world =
          on_ok (λ r. Does x y sent more r (step x.desks x.number x.desk event)) result (λ r h.
          does_world n d places x y sent more r ours here (step n d (w.desks d) event)
          (subst (λ q. Does x y sent more r q) s h) ∙ sym (at_there n d w event ours)) ok;
      refused =
          if_ok (λ r. Does x y sent more r (step x.desks x.number x.desk event))
          (λ r. r ≡ refusal_at n w d event) result (λ r h.
          does_refused x y sent more r (step n d (w.desks d) event)
          (subst (λ q. Does x y sent more r q) s h) ∙ sym (refusal_there n d w event ours)) ok;
      err =
          on_err result (λ h. λ i.
          record { desks = n; places = known_same (d - 1) places x y here h.0 i; sent = h.1 i })
          err;
    }

-- the same, from the hall as its contract shows it
pub seen_follows : {E : Type 0} (n d : ℕ) (places : List RunningDesk) (x y : RunningDesk)
    (sent more : List Message) (result : Result (Option Refusal) E) (event : DeskEvent)
    (old : HallValue) → hall_of n places sent ≡ old → AreNumbered n 1 places → is_desk n d ≡ true
    → x ≡ get_or places (d - 1) x
    → IfOk result (λ r. Does x y sent more r (step x.desks x.number x.desk event))
    → OnErr result ((y.desk ≡ x.desk) × (more ≡ sent))
    → Follows n (set places (d - 1) y) more result old (at_desk old.desks (world_of old) d event)
    (refusal_at old.desks (world_of old) d event)
seen_follows n d places x y sent more result event old view numbered ours is ok err =
    subst (λ (h : HallValue).
    Follows n (set places (d - 1) y) more result h (at_desk h.desks (world_of h) d event)
    (refusal_at h.desks (world_of h) d event)) view
    (event_follows n d places x y sent more result event numbered ours
    (here_at n d places x numbered ours is) ok err)

-- the message of a number
pub nth_there : (sent : List Message) (k : ℕ) (m : Message) → ¬ (k ≡ 0)
    → slice_get sent (k - 1) ≡ Some m → nth_sent sent k ≡ Some m
nth_there sent zero m other e = absurd (other refl)
nth_there sent (suc j) m other e =
    let place : j ≡ suc j - 1 = omega arith in ap (slice_get sent) place ∙ e

-- a delivery to a desk that there is
pub delivered_there : (n : ℕ) (w : World) (k : ℕ) (m : Message) → nth_sent w.sent k ≡ Some m
    → at_desk n w m.to (Deliver m) ≡ delivered n w (nth_sent w.sent k)
delivered_there n w k m e = sym (ap (delivered n w) e)

pub never_refused : (n : ℕ) (w : World) (d : ℕ) (m : Message) → refusal_at n w d (Deliver m) ≡ None
never_refused n w d m = go (is_desk n d)
  where
    heeded : (t : Bool) → refusal_of
        (if t then Ok (done (w.desks d) (on_body n d (w.desks d) m.from m.body))
        else Ok (idle (w.desks d))) ≡ None
    heeded true = refl
    heeded false = refl

    go : (t : Bool) → (if t then refusal_of (step n d (w.desks d) (Deliver m)) else None) ≡ None
    go true = heeded (is_heeded n d m)
    go false = refl

-- an entry that is handed in is copied first, and nothing is sent
pub submit_follows : {E : Type 0} (n d : ℕ) (places : List RunningDesk) (x y : RunningDesk)
    (sent : List Message) (result : Result (Option Refusal) E) (copy e : Entry) → copy ≡ e
    → (old : HallValue) → hall_of n places sent ≡ old → AreNumbered n 1 places → is_desk n d ≡ true
    → x ≡ get_or places (d - 1) x → IfOk result
    (λ r. (said : List Message) → Does x y said said r (step x.desks x.number x.desk (Submit copy)))
    → OnErr result (y.desk ≡ x.desk) → Follows n (set places (d - 1) y) sent result old
    (at_desk old.desks (world_of old) d (Submit e))
    (refusal_at old.desks (world_of old) d (Submit e))
submit_follows n d places x y sent result copy e same_entry old view numbered ours is ok err =
    subst (λ (f : Entry). Follows n (set places (d - 1) y) sent result old
    (at_desk old.desks (world_of old) d (Submit f))
    (refusal_at old.desks (world_of old) d (Submit f))) same_entry
    (seen_follows n d places x y sent sent result (Submit copy) old view numbered ours is (if_ok
    (λ r. (said : List Message) → Does x y said said r (step x.desks x.number x.desk (Submit copy)))
    (λ r. Does x y sent sent r (step x.desks x.number x.desk (Submit copy))) result (λ r h. h sent)
    ok) (on_err result (λ h. (h, refl)) err))

-- a message that is delivered is there, and a delivery is never refused
pub deliver_follows : {E : Type 0} (n : ℕ) (places : List RunningDesk) (x y : RunningDesk)
    (sent more : List Message) (result : Result (Option Refusal) E) (k : ℕ) (m : Message)
    → ¬ (k ≡ 0) → slice_get sent (k - 1) ≡ Some m → (old : HallValue) → hall_of n places sent ≡ old
    → AreNumbered n 1 places → is_desk n m.to ≡ true → x ≡ get_or places (m.to - 1) x → IfOk result
    (λ r. (f : Message) → slice_get sent (k - 1) ≡ Some f
    → Does x y sent more r (step x.desks x.number x.desk (Deliver f)))
    → OnErr result ((y.desk ≡ x.desk) × (more ≡ sent))
    → Follows n (set places (m.to - 1) y) more result old
    (delivered old.desks (world_of old) (nth_sent old.sent k)) None
deliver_follows n places x y sent more result k m some there old view numbered ours is ok err =
    let told : nth_sent old.sent k ≡ Some m = ap (λ (h : HallValue). nth_sent h.sent k) (sym view)
    ∙ nth_there sent k m some there in
    let all =
    seen_follows n m.to places x y sent more result (Deliver m) old view numbered ours is (if_ok
    (λ r. (f : Message) → slice_get sent (k - 1) ≡ Some f
    → Does x y sent more r (step x.desks x.number x.desk (Deliver f)))
    (λ r. Does x y sent more r (step x.desks x.number x.desk (Deliver m))) result (λ r h. h m there)
    ok) err in
    subst (λ (w : World). Follows n (set places (m.to - 1) y) more result old w None)
    (delivered_there old.desks (world_of old) k m told) (subst (λ (why : Option Refusal).
    Follows n (set places (m.to - 1) y) more result old
    (at_desk old.desks (world_of old) m.to (Deliver m)) why)
    (never_refused old.desks (world_of old) m.to m) all)

-- a desk that refuses
pub does_refuse : (x y : RunningDesk) (sent more : List Message) (why : Refusal)
    (s : Result Done Refusal)
    → s ≡ Err why → y.desk ≡ x.desk → more ≡ sent → Does x y sent more (Some why) s
does_refuse x y sent more why s e desk same =
    subst (λ q. Does x y sent more (Some why) q) (sym e) (desk, same, refl)

-- a desk that there is restarts
pub restart_world : (n d : ℕ) (places : List RunningDesk) (x y : RunningDesk) (sent : List Message)
    → is_desk n d ≡ true → slice_get places (d - 1) ≡ Some x → y.desk ≡ restarted x.desk
    → world_of (hall_of n (set places (d - 1) y) sent)
    ≡ restart_at n (world_of (hall_of n places sent)) d
restart_world n d places x y sent ours here new =
    let w : World = world_of (hall_of n places sent) in
    let known = known_at n d places x ours here in
    let moved = put_desk n d places x y ours here
    ∙ ap (λ z. put (desk_from 1 (known_by places)) d z) (new ∙ ap restarted known) in
    let next : world_of (hall_of n (set places (d - 1) y) sent)
    ≡ record { desks = put w.desks d (restarted (w.desks d)); sent = w.sent } = λ i.
    record { desks = moved i; sent = sent } in
    next ∙ sym (ap (λ t. if t then record {
      desks = put w.desks d (restarted (w.desks d));
      sent = w.sent;
    } else w) ours)

-- ---- one more event in a history

refused_last : (n : ℕ) (w : World) (before : Option Refusal) (xs : List WorldEvent) (e : WorldEvent)
    → refused_by n w before (xs ++ e ∷ []) ≡ refusal n (run n w xs) e
refused_last n w before [] e = refl
refused_last n w before (x ∷ xs) e = refused_last n (happens n w x) (refusal n w x) xs e

-- a hall that shows these events shows one more after it
pub after_more : (old new : HallValue) (events : List WorldEvent) (e : WorldEvent)
    (before refused : Option Refusal) → IsAfter old events before → new.desks ≡ old.desks
    → world_of new ≡ happens old.desks (world_of old) e
    → refused ≡ refusal old.desks (world_of old) e → IsAfter new (events ++ e ∷ []) refused
after_more old new events e before refused h same world why =
    let w = h.world in
    let grown : after old.desks (events ++ e ∷ []) ≡ happens old.desks (after old.desks events) e =
    run_append old.desks new_world events (e ∷ []) in
    let last : last_refusal old.desks (events ++ e ∷ [])
    ≡ refusal old.desks (after old.desks events) e =
    refused_last old.desks new_world None events e in
    record {
      world =
          world ∙ ap (λ v. happens old.desks v e) w ∙ sym grown
          ∙ ap (λ n. after n (events ++ e ∷ [])) (sym same);
      refused =
          why ∙ ap (λ v. refusal old.desks v e) w ∙ sym last
          ∙ ap (λ n. last_refusal n (events ++ e ∷ [])) (sym same);
    }

-- ---- desks before their first event

-- the desks of n from the first to before the last, each as it is at first
abbrev pub FirstPlaces : ℕ → ℕ → ℕ → List RunningDesk → Type 0
FirstPlaces n first last [] = first ≡ last
FirstPlaces n first last (x ∷ xs) =
    (x.number ≡ first) × (x.desks ≡ n) × (x.desk ≡ first_desk) × FirstPlaces n (suc first) last xs

pub first_more : (n first last : ℕ) (xs : List RunningDesk) (x : RunningDesk)
    → FirstPlaces n first last xs → x.number ≡ last → x.desks ≡ n → x.desk ≡ first_desk
    → FirstPlaces n first (last + 1) (xs ++ x ∷ [])
first_more n first last [] x h number desks desk =
    let here : first ≡ last = h in
    let next : suc first ≡ last + 1 = omega arith in (number ∙ sym here, desks, desk, next)
first_more n first last (y ∷ ys) x h number desks desk =
    (h.0, h.1, h.2, first_more n (suc first) last ys x h.3 number desks desk)

pub first_numbered : (n first : ℕ) (xs : List RunningDesk) → FirstPlaces n first (n + 1) xs
    → AreNumbered n first xs
first_numbered n first [] h = h
first_numbered n first (x ∷ xs) h = (h.0, h.1, first_numbered n (suc first) xs h.3)

first_known : (n first last : ℕ) (xs : List RunningDesk) → FirstPlaces n first last xs → (d : ℕ)
    → desk_from first (known_by xs) d ≡ first_desk
first_known n first last [] h d = refl
first_known n first last (x ∷ xs) h d =
    go (first == d) h.2 (first_known n (suc first) last xs h.3 d)
  where
    go : (t : Bool) → x.desk ≡ first_desk → desk_from (suc first) (known_by xs) d ≡ first_desk
        → (if t then x.desk else desk_from (suc first) (known_by xs) d) ≡ first_desk
    go true e k = e
    go false e k = k

pub first_world : (n last : ℕ) (xs : List RunningDesk) (sent : List Message)
    → FirstPlaces n 1 last xs → sent ≡ [] → world_of (hall_of n xs sent) ≡ new_world
first_world n last xs sent h none =
    let known = fun_ext (first_known n 1 last xs h) in
    λ i. record { desks = known i; sent = none i }
