-- What a desk says of how long its log is never falls.
use Rattle.std.proofs.Common.{◌≡◌, ◌≤◌, refl, sym, ap, subst, ◌∙◌, ℕ, zero, suc, Bool, true, false}
use Rattle.std.proofs.Common.{if◌then◌else◌, List, [], ◌∷◌, ◌++◌, length, take, Option, Some, None}
use Rattle.std.proofs.Common.{Result, Ok, Err, slice_get, arith}
use Rattle.acceptor.specs.declared.message.{Body.Body, Body.TheVariants.Behind, Message.Message}
use Rattle.learner.proofs.{Goes.put_all, Goes.put_here, Runs.desk_from_test}
use Rattle.learner.specs.{Desks.Desk, Desks.restarted, declared.event.DeskEvent.DeskEvent}
use Rattle.learner.specs.{Laws.DesksAreInRange, Laws.StepsStayInRange, Steps.step}
use Rattle.learner.specs.Ranges.{AreInRange, DeskIsInRange, DoneIsInRange}
use Rattle.learner.specs.{Steps.Done, declared.event.WorldEvent.TheVariants.Deliver as DeliverNth}
use Rattle.learner.specs.{Steps.is_desk, declared.event.WorldEvent.TheVariants.Restart as RestartAt}
use Rattle.learner.specs.Worlds.{World, at_desk, delivered, happens, new_world, nth_sent, put}
use Rattle.learner.specs.Worlds.{restart_at, world_after}
use Rattle.learner.specs.declared.event.DeskEvent.TheVariants.{Submit, Start, Tick, Deliver}
use Rattle.learner.specs.declared.event.WorldEvent.{WorldEvent, TheVariants.Submit as SubmitAt}
use Rattle.learner.specs.declared.event.WorldEvent.TheVariants.{Start as StartAt, Tick as TickAt}
use Rattle.proposer.specs.declared.fault.Refusal.{Refusal}
use Rattle.replica.specs.Lengths.{length_told}
use Rattle.hall_laws.specs.Stops.{Answered, Happening, Stopped, StopsMakeARun, events_of, goes_on}
use Rattle.hall_laws.specs.Stops.{place, real_run, stopped}
use Rattle.hall_laws.proofs.Plans.{AllSay, Says, StepSays, step_says, tells_no_more}

-- ---- lists of messages

-- what was reported is no more than the log of the desk that reported it
abbrev pub AreTold : (ℕ → Desk) → List Message → Type 0
AreTold desks [] = Unit {0}
AreTold desks (m ∷ ms) = (length_told m.body ≤ length (desks m.from).log) × AreTold desks ms

-- where this message says, after that one of the same desk, how long the log is, it says no less
abbrev pub IsNoLess : Message → Message → Type 0
IsNoLess m x = (len : ℕ) → m.from ≡ x.from → x.body ≡ Behind len → length_told m.body ≤ len

abbrev pub NoneIsLess : Message → List Message → Type 0
NoneIsLess m [] = Unit {0}
NoneIsLess m (x ∷ xs) = IsNoLess m x × NoneIsLess m xs

abbrev pub AreInOrder : List Message → Type 0
AreInOrder [] = Unit {0}
AreInOrder (m ∷ ms) = NoneIsLess m ms × AreInOrder ms

none_both : (m : Message) (xs ys : List Message) → NoneIsLess m xs → NoneIsLess m ys
    → NoneIsLess m (xs ++ ys)
none_both m [] ys h k = k
none_both m (x ∷ xs) ys h k = (h.0, none_both m xs ys h.1 k)

-- what desk d of n sends with a log of this length is no less than what it reported by then
new_none : (n d top : ℕ) (m : Message) (ms : List Message)
    → (m.from ≡ d → length_told m.body ≤ top) → AllSay top ms → AreInRange n d ms → NoneIsLess m ms
new_none n d top m [] h says range = tt
new_none n d top m (x ∷ xs) h says range = (
  λ len same behind.
      let said : len ≡ top = subst (λ (b : Body). Says top b) behind says.0 in
      let most : length_told m.body ≤ top = h (same ∙ range.0.0) in
      omega arith,
  new_none n d top m xs h says.1 range.1,
)

new_order : (n d top : ℕ) (ms : List Message) → AllSay top ms → AreInRange n d ms → AreInOrder ms
new_order n d top [] says range = tt
new_order n d top (m ∷ ms) says range = (
  new_none n d top m ms (λ same. tells_no_more top m.body says.0) says.1 range.1,
  new_order n d top ms says.1 range.1,
)

more_order : (n d top : ℕ) (desks : ℕ → Desk) (xs ms : List Message) → AreInOrder xs
    → AreTold desks xs → length (desks d).log ≤ top → AllSay top ms → AreInRange n d ms
    → AreInOrder (xs ++ ms)
more_order n d top desks [] ms order told grows says range = new_order n d top ms says range
more_order n d top desks (m ∷ xs) ms order told grows says range = (
  none_both m xs ms order.0
      (new_none n d top m ms (λ same.
      let most : length_told m.body ≤ length (desks d).log = rw same at told.0 in
      omega arith) says range),
  more_order n d top desks xs ms order.1 told.1 grows says range,
)

-- no log of a desk is shorter
abbrev pub AreLonger : (ℕ → Desk) → (ℕ → Desk) → Type 0
AreLonger old new = (j : ℕ) → length (old j).log ≤ length (new j).log

told_longer : (old new : ℕ → Desk) (ms : List Message) → AreLonger old new → AreTold old ms
    → AreTold new ms
told_longer old new [] longer told = tt
told_longer old new (m ∷ ms) longer told = (
  let more = longer m.from in let most = told.0 in omega arith,
  told_longer old new ms longer told.1,
)

told_both : (desks : ℕ → Desk) (xs ys : List Message) → AreTold desks xs → AreTold desks ys
    → AreTold desks (xs ++ ys)
told_both desks [] ys h k = k
told_both desks (x ∷ xs) ys h k = (h.0, told_both desks xs ys h.1 k)

new_told : (n d top : ℕ) (desks : ℕ → Desk) (ms : List Message)
    → ((j : ℕ) → j ≡ d → top ≤ length (desks j).log) → AllSay top ms → AreInRange n d ms
    → AreTold desks ms
new_told n d top desks [] h says range = tt
new_told n d top desks (m ∷ ms) h says range = (
  let most = tells_no_more top m.body says.0 in
      let long = h m.from range.0.0 in
      omega arith,
  new_told n d top desks ms h says.1 range.1,
)

-- ---- worlds

pub record IsGrown (w : World) : Type 0 where
  pub order : AreInOrder w.sent
  pub told : AreTold w.desks w.sent

record Grows (w v : World) : Type 0 where
  grown : IsGrown v
  longer : AreLonger w.desks v.desks

stays : (w : World) → IsGrown w → Grows w w
stays w h = record { grown = h; longer = λ j. omega arith }

put_longer : (desks : ℕ → Desk) (d : ℕ) (y : Desk) → length (desks d).log ≤ length y.log
    → AreLonger desks (put desks d y)
put_longer desks d y more j =
    put_all (λ i z. length (desks i).log ≤ length z.log) desks d y more (λ i. omega arith) j

after_grows : (n d : ℕ) (w : World) (r : Result Done Refusal) → IsGrown w
    → StepSays (w.desks d) r → DoneIsInRange n d r → Grows w (world_after w d r)
after_grows n d w (Ok r) h says range =
    let top : ℕ = length r.desk.log in
    let longer : AreLonger w.desks (put w.desks d r.desk) = put_longer w.desks d r.desk says.1 in
    let here : (j : ℕ) → j ≡ d → top ≤ length (put w.desks d r.desk j).log =
    λ j same. put_here (λ i z. top ≤ length z.log) w.desks d r.desk (omega arith) j same in
    search (
      more_order n d top w.desks w.sent r.messages h.order h.told says.1 says.0 range.1,
      told_both (put w.desks d r.desk) w.sent r.messages
          (told_longer w.desks (put w.desks d r.desk) w.sent longer h.told)
          (new_told n d top (put w.desks d r.desk) r.messages here says.0 range.1),
      longer,
    )
after_grows n d w (Err why) h says range = stays w h

-- the desks of a world are in their ranges
abbrev Ranged : ℕ → World → Type 0
Ranged n w = (d : ℕ) → DeskIsInRange n (w.desks d)

desk_grows : StepsStayInRange → (n d : ℕ) (w : World) (event : DeskEvent) → Ranged n w
    → IsGrown w → Grows w (at_desk n w d event)
desk_grows stay n d w event ranged h = go (is_desk n d) refl
  where
    go : (t : Bool) → is_desk n d ≡ t
        → Grows w (if t then world_after w d (step n d (w.desks d) event) else w)
    go false is = stays w h
    go true is =
        after_grows n d w (step n d (w.desks d) event) h
        (step_says n d (w.desks d) event (ranged d).role)
        (stay n d (w.desks d) event (desk_from_test n d is) (ranged d))

restart_grows : (n d : ℕ) (w : World) → IsGrown w → Grows w (restart_at n w d)
restart_grows n d w h = go (is_desk n d)
  where
    longer : AreLonger w.desks (put w.desks d (restarted (w.desks d)))
    longer = put_longer w.desks d (restarted (w.desks d)) (omega arith)

    go : (t : Bool) → Grows w
        (if t then record { desks = put w.desks d (restarted (w.desks d)); sent = w.sent } else w)
    go false = stays w h
    go true =
        search (
          h.order,
          told_longer w.desks (put w.desks d (restarted (w.desks d))) w.sent longer
              h.told,
          longer,
        )

given_grows : StepsStayInRange → (n : ℕ) (w : World) (m : Option Message) → Ranged n w
    → IsGrown w → Grows w (delivered n w m)
given_grows stay n w None ranged h = stays w h
given_grows stay n w (Some m) ranged h = desk_grows stay n m.to w (Deliver m) ranged h

event_grows : StepsStayInRange → (n : ℕ) (w : World) (e : WorldEvent) → Ranged n w → IsGrown w
    → Grows w (happens n w e)
event_grows stay n w (SubmitAt d e) ranged h = desk_grows stay n d w (Submit e) ranged h
event_grows stay n w (StartAt d) ranged h = desk_grows stay n d w Start ranged h
event_grows stay n w (TickAt d) ranged h = desk_grows stay n d w Tick ranged h
event_grows stay n w (DeliverNth k) ranged h = given_grows stay n w (nth_sent w.sent k) ranged h
event_grows stay n w (RestartAt d) ranged h = restart_grows n d w h

-- a desk that stops in an event has handed nothing out, and its log is that before or after it
stop_grows : StepsStayInRange → (n : ℕ) (w : World) (stored : Bool) (e : WorldEvent)
    → Ranged n w → IsGrown w → IsGrown (stopped n w stored e)
stop_grows stay n w false e ranged h = (restart_grows n (place w e) w h).grown
stop_grows stay n w true e ranged h =
    let one = event_grows stay n w e ranged h in
    let two = restart_grows n (place w e) (happens n w e) one.grown in
    record {
      order = h.order;
      told =
          told_longer w.desks (restart_at n (happens n w e) (place w e)).desks w.sent
          (λ j. let a = one.longer j in let b = two.longer j in omega arith) h.told;
    }

going_grows : StepsStayInRange → (n : ℕ) (w : World) (x : Happening) → Ranged n w → IsGrown w
    → IsGrown (goes_on n w x)
going_grows stay n w (Answered e) ranged h = (event_grows stay n w e ranged h).grown
going_grows stay n w (Stopped stored e) ranged h = stop_grows stay n w stored e ranged h

run_grows : StepsStayInRange → (n : ℕ) (w : World) (hs : List Happening)
    → ((i : ℕ) → Ranged n (real_run n w (take i hs))) → IsGrown w → IsGrown (real_run n w hs)
run_grows stay n w [] ranged h = h
run_grows stay n w (x ∷ hs) ranged h =
    run_grows stay n (goes_on n w x) hs (λ i. ranged (suc i)) (going_grows stay n w x (ranged 0) h)

-- so it is after any happenings
pub real_grown : StepsStayInRange → StopsMakeARun → DesksAreInRange → (n : ℕ)
    (hs : List Happening) → IsGrown (real_run n new_world hs)
real_grown stay stops range n hs =
    let made = stops n hs in
    run_grows stay n new_world hs (λ i d.
    let moment = made.1.moments i in
    let events : List WorldEvent = take moment.0 (events_of n new_world hs made.0) in
    subst (λ (desks : ℕ → Desk). DeskIsInRange n (desks d)) (sym moment.1.desks) (range n events d))
    (record { order = tt; told = tt })

-- ---- two messages

later_no_less : (m : Message) (xs : List Message) (k : ℕ) (x : Message) → NoneIsLess m xs
    → slice_get xs k ≡ Some x → IsNoLess m x
later_no_less m [] k x h is = absurd cc
later_no_less m (y ∷ xs) zero x h is =
    let same : y ≡ x = cc in subst (λ (z : Message). IsNoLess m z) same h.0
later_no_less m (y ∷ xs) (suc k) x h is = later_no_less m xs k x h.1 is

-- one message says as much as it says
self_no_less : (m : Message) → IsNoLess m m
self_no_less m len same behind =
    let told : length_told m.body ≡ len = ap (λ (b : Body). length_told b) behind in omega arith

slice_order : (xs : List Message) (a b : ℕ) (m x : Message) → AreInOrder xs → a ≤ b
    → slice_get xs a ≡ Some m → slice_get xs b ≡ Some x → IsNoLess m x
slice_order [] a b m x h le one two = absurd cc
slice_order (y ∷ xs) zero zero m x h le one two =
    let first : y ≡ m = cc in
    let second : y ≡ x = cc in
    subst (λ (z : Message). IsNoLess m z) (sym first ∙ second) (self_no_less m)
slice_order (y ∷ xs) zero (suc b) m x h le one two =
    let first : y ≡ m = cc in
    subst (λ (z : Message). IsNoLess z x) first (later_no_less y xs b x h.0 two)
slice_order (y ∷ xs) (suc a) zero m x h le one two = absurd (omega (arith, le))
slice_order (y ∷ xs) (suc a) (suc b) m x h le one two =
    slice_order xs a b m x h.1 (omega (arith, le)) one two

pub sent_order : (xs : List Message) (a b : ℕ) (m x : Message) → AreInOrder xs → a ≤ b
    → nth_sent xs a ≡ Some m → nth_sent xs b ≡ Some x → IsNoLess m x
sent_order xs zero b m x h le one two = absurd cc
sent_order xs (suc a) zero m x h le one two = absurd cc
sent_order xs (suc a) (suc b) m x h le one two =
    slice_order xs a b m x h (omega (arith, le)) one two
