-- What each plan of a step has: its messages are from the desk, and say no more than is in the log
-- that it leaves, and the numbers of ballots stay in 32 bits.
use Rattle.learner.proofs.Cases.{nack_cases, behind_cases, decided_cases, prepare_cases, tick_cases}
use Rattle.learner.proofs.Cases.{promise_cases, accept_cases, accepted_cases, by_test, start_cases}
use Rattle.progress.proofs.Aims.{log_grows}
use Rattle.std.proofs.Common.{◌≡◌, ◌≤◌, ◌<◌, refl, ℕ, zero, suc, ◌+◌, ◌==◌, max, false, nat_lt}
use Rattle.std.proofs.Common.{List, [], ◌∷◌, ◌++◌, length, take, drop, Option, Some, None, Result}
use Rattle.std.proofs.Common.{Ok, Err, slice_get, arith, length-append, length-drop, subst}
use Rattle.std.proofs.lemmas.{Bool.Decides.nat_tests, Option.slice_get_within}
use Rattle.acceptor.specs.declared.{ballot.Ballot.Ballot, entry.Entry.Entry, stored.Change.Change}
use Rattle.acceptor.specs.declared.message.{Body.Body, Message.Message, Report.Report}
use Rattle.acceptor.specs.declared.message.Body.TheVariants.{Prepare, Promise, Accept, Accepted}
use Rattle.acceptor.specs.declared.message.Body.TheVariants.{Nack, Behind, Decided}
use Rattle.acceptor.specs.{declared.stored.Stored.Stored, Storing.log_after, Storing.stored_after}
use Rattle.acceptor.specs.declared.stored.Change.TheVariants.{Promised, Voted, Tried, Appended}
use Rattle.acceptor.specs.Answers.{Reply, elsewhere, prepare_reply, accept_reply}
use Rattle.acceptor.specs.Messages.{desks_from, to_each, to_others, without}
use Rattle.learner.specs.Desks.{Desk, adopt, passing}
use Rattle.learner.specs.Learning.{longest_run, on_behind, on_decided, told}
use Rattle.learner.specs.{Ranges.RoleIsPlaced, Steps.planned, declared.event.DeskEvent.DeskEvent}
use Rattle.learner.specs.Steps.{step, Done, answered, done, idle, is_heeded, on_body, passed}
use Rattle.learner.specs.declared.event.DeskEvent.TheVariants.{Submit, Start, Tick, Deliver}
use Rattle.proposer.specs.Plans.{Passing, append, become, only_say}
use Rattle.proposer.specs.Proposing.{ask_next, choice, gather, highest, is_majority, last_number}
use Rattle.proposer.specs.Proposing.{new_ballot, on_nack, on_promise, on_accepted, propose, start}
use Rattle.proposer.specs.{Proposing.tick, Proposing.submit, declared.plan.Plan.Plan}
use Rattle.proposer.specs.declared.fault.Refusal.{Refusal, TheVariants.BallotsSpent}
use Rattle.proposer.specs.declared.role.{PromisingDesk.PromisingDesk, Role.Role}
use Rattle.proposer.specs.declared.role.Role.TheVariants.{Idle, Gathering, Proposing, Leading}
use Rattle.replica.specs.Lengths.{length_told}

-- ---- messages

-- each of these is from desk d
abbrev pub AllFrom : ℕ → List Message → Type 0
AllFrom d [] = Unit {0}
AllFrom d (m ∷ ms) = (m.from ≡ d) × AllFrom d ms

-- a message is about no more than this many entries, and a Behind about just this many
abbrev pub Says : ℕ → Body → Type 0
Says len (Behind k) = k ≡ len
Says len (Decided pos e) = pos < len
Says len _ = Unit {0}

abbrev pub AllSay : ℕ → List Message → Type 0
AllSay len [] = Unit {0}
AllSay len (m ∷ ms) = Says len m.body × AllSay len ms

pub tells_no_more : (len : ℕ) (body : Body) → Says len body → length_told body ≤ len
tells_no_more len (Prepare b pos) h = omega arith
tells_no_more len _ h = omega arith

each_from : (d : ℕ) (ds : List ℕ) (body : Body) → AllFrom d (to_each d ds body)
each_from d [] body = tt
each_from d (x ∷ ds) body = (refl, each_from d ds body)

each_says : (len from : ℕ) (ds : List ℕ) (body : Body) → Says len body
    → AllSay len (to_each from ds body)
each_says len from [] body h = tt
each_says len from (d ∷ ds) body h = (h, each_says len from ds body h)

told_from : (d to pos : ℕ) (es : List Entry) → AllFrom d (told d to pos es)
told_from d to pos [] = tt
told_from d to pos (e ∷ es) = (refl, told_from d to (suc pos) es)

told_says : (len d to pos : ℕ) (es : List Entry) → pos + length es ≤ len
    → AllSay len (told d to pos es)
told_says len d to pos [] h = tt
told_says len d to pos (e ∷ es) h = (omega arith, told_says len d to (suc pos) es (omega arith))

front_short : (k : ℕ) (es : List Entry) → length (take k es) ≤ length es
front_short zero [] = omega arith
front_short (suc k) [] = omega arith
front_short zero (e ∷ es) = omega arith
front_short (suc k) (e ∷ es) = let more = front_short k es in omega arith

-- the entries of a log from a position on
front_below : (len most : ℕ) (log : List Entry) → nat_lt (length log) len ≡ false
    → len + length (take most (drop len log)) ≤ length log
front_below len most log within =
    let below : len ≤ length log = grind (arith, nat_tests) in
    omega (arith, length-drop len log, front_short most (drop len log))

-- ---- numbers

-- it fits in 32 bits
abbrev pub IsLow : ℕ → Type 0
IsLow number = number ≤ 4294967295

abbrev pub ChangeIsLow : Option Change → Type 0
ChangeIsLow (Some (Tried number)) = IsLow number
ChangeIsLow _ = Unit {0}

pub record PlanIsLow (p : Plan) : Type 0 where
  pub seen : IsLow p.seen
  pub change : ChangeIsLow p.change

-- what the desk tries and has seen
pub record NumbersAreLow (x : Desk) : Type 0 where
  pub tried : IsLow x.stored.tried
  pub seen : IsLow x.seen

pub adopt_low : (x : Desk) (p : Plan) → NumbersAreLow x → PlanIsLow p → NumbersAreLow (adopt x p)
adopt_low x p l k = record { tried = tried p.change k.change; seen = k.seen }
  where
    tried : (c : Option Change) → ChangeIsLow c → IsLow (stored_after x.stored c).tried
    tried (Some (Promised b)) h = l.tried
    tried (Some (Voted v)) h = l.tried
    tried (Some (Tried number)) h = h
    tried (Some (Appended e)) h = l.tried
    tried None h = l.tried

-- the numbers that a message shows
abbrev pub ShowsLow : Body → Type 0
ShowsLow (Nack b pos promised) = IsLow promised.number
ShowsLow _ = Unit {0}

-- the numbers that the desk knows of, and those that this message shows
pub record AreLow (x : Desk) (shown : Body) : Type 0 where
  pub numbers : NumbersAreLow x
  pub promised : IsLow x.stored.promised.number
  pub shows : ShowsLow shown

most : (a b : ℕ) → IsLow a → IsLow b → IsLow (max a b)
most a b h k = omega (arith, h, k)

not_last : (x m : ℕ) → x ≤ m → (x == m) ≡ false → x + 1 ≤ m
not_last x m h is = grind (arith, nat_tests)

-- ---- plans

-- a plan of desk d, that is shown this message
pub record PlanIs (d : ℕ) (x : Desk) (shown : Body) (p : Plan) : Type 0 where
  pub from : AllFrom d p.messages
  pub says : RoleIsPlaced (length x.log) x.role
      → AllSay (length (log_after x.log p.change)) p.messages
  pub low : AreLow x shown → PlanIsLow p

abbrev pub ResultIs : ℕ → Desk → Body → Result Plan Refusal → Type 0
ResultIs d x shown (Ok p) = PlanIs d x shown p
ResultIs d x shown (Err why) = Unit {0}

-- what an acceptor answers
abbrev ReplyIs : List Entry → Reply → Type 0
ReplyIs log r = Says (length (log_after log r.change)) r.body × ChangeIsLow r.change

elsewhere_is : (log : List Entry) (pos : ℕ) (there : Option Entry) → slice_get log pos ≡ there
    → ReplyIs log (elsewhere there (length log) pos)
elsewhere_is log pos None is = (refl, tt)
elsewhere_is log pos (Some e) is = (slice_get_within log pos e is, tt)

prepare_is : (log : List Entry) (s : Stored) (b : Ballot) (pos : ℕ)
    → ReplyIs log (prepare_reply s (length log) (slice_get log pos) b pos)
prepare_is log s b pos =
    prepare_cases (ReplyIs log) s (length log) (slice_get log pos) b pos
    (elsewhere_is log pos (slice_get log pos) refl) (λ same e. (tt, tt)) (λ e. (tt, tt))

accept_is : (log : List Entry) (s : Stored) (b : Ballot) (pos : ℕ) (e : Entry)
    → ReplyIs log (accept_reply s (length log) (slice_get log pos) b pos e)
accept_is log s b pos e =
    accept_cases (ReplyIs log) s (length log) (slice_get log pos) b pos e
    (elsewhere_is log pos (slice_get log pos) refl) (λ f. (tt, tt)) (λ same f. (tt, tt))

module _ (n d : ℕ) (x : Desk) (shown : Body) where
  said : (ms : List Message) → AllFrom d ms → AllSay (length x.log) ms
      → PlanIs d x shown (only_say (passing x) ms)
  said ms from says = record {
    from = from;
    says = λ placed. says;
    low = λ l. record { seen = l.numbers.seen; change = tt };
  }

  quiet : PlanIs d x shown (only_say (passing x) [])
  quiet = said [] tt tt

  -- to each of these desks
  says_each : (ds : List ℕ) (body : Body) → Says (length x.log) body
      → PlanIs d x shown (only_say (passing x) (to_each d ds body))
  says_each ds body h =
      said (to_each d ds body) (each_from d ds body) (each_says (length x.log) d ds body h)

  turned : (role : Role) (ms : List Message) → AllFrom d ms → AllSay (length x.log) ms
      → PlanIs d x shown (become (passing x) role ms)
  turned role ms from says = record {
    from = from;
    says = λ placed. says;
    low = λ l. record { seen = l.numbers.seen; change = tt };
  }

  asked : (own : Ballot) (pos : ℕ) (e : Entry) → PlanIs d x shown
      (become (passing x) (Proposing own pos e []) (to_each d (desks_from 1 n) (Accept own pos e)))
  asked own pos e =
      turned (Proposing own pos e []) (to_each d (desks_from 1 n) (Accept own pos e))
      (each_from d (desks_from 1 n) (Accept own pos e))
      (each_says (length x.log) d (desks_from 1 n) (Accept own pos e) tt)

  appended : (e : Entry) (role : Role) (ms : List Message) → AllFrom d ms
      → (RoleIsPlaced (length x.log) x.role → AllSay (length (x.log ++ e ∷ [])) ms)
      → PlanIs d x shown (append (passing x) e role ms)
  appended e role ms from says =
      record { from = from; says = says; low = λ l. record { seen = l.numbers.seen; change = tt } }

  answers : (from : ℕ) (r : Reply) → ReplyIs x.log r → PlanIs d x shown (answered d x from r)
  answers from r is = record {
    from = (refl, tt);
    says = λ placed. (is.0, tt);
    low = λ l. record { seen = l.numbers.seen; change = is.1 };
  }

  -- at a Promise
  proposed : (own : Ballot) (pos : ℕ) (o : Option Entry)
      → PlanIs d x shown (propose n d (passing x) own pos o)
  proposed own pos None = turned Idle [] tt tt
  proposed own pos (Some e) = asked own pos e

  promised : (from : ℕ) (b : Ballot) (pos : ℕ) (vote : Option Report)
      → PlanIs d x shown (on_promise n d (passing x) from b pos vote)
  promised from b pos vote =
      promise_cases (PlanIs d x shown) n d (passing x) from b pos vote quiet
      (λ own at heard e i same new.
      let more : List PromisingDesk = record { desk = from; vote = vote } ∷ heard in
      by_test (PlanIs d x shown) (is_majority n (length more))
      (propose n d (passing x) own at (choice (highest more) x.queue))
      (become (passing x) (Gathering own at more) [])
      (λ t. proposed own at (choice (highest more) x.queue))
      (λ t. turned (Gathering own at more) [] tt tt))

  -- at an Accepted
  decided : (own : Ballot) (at : ℕ) (e : Entry) (heard : List ℕ) → x.role ≡ Proposing own at e heard
      → PlanIs d x shown (append (passing x) e (Leading own)
      (to_each d (without (desks_from 1 n) (d ∷ [])) (Decided at e)))
  decided own at e heard is =
      appended e (Leading own) (to_each d (without (desks_from 1 n) (d ∷ [])) (Decided at e))
      (each_from d (without (desks_from 1 n) (d ∷ [])) (Decided at e)) (λ placed.
      let here : RoleIsPlaced (length x.log) (Proposing own at e heard) =
      subst (λ r. RoleIsPlaced (length x.log) r) is placed in
      let longer : at < length (x.log ++ e ∷ []) =
      omega (arith, here.0, length-append x.log (e ∷ [])) in
      each_says (length (x.log ++ e ∷ [])) d (without (desks_from 1 n) (d ∷ [])) (Decided at e)
      longer)

  accepted : (from : ℕ) (b : Ballot) (pos : ℕ)
      → PlanIs d x shown (on_accepted n d (passing x) from b pos)
  accepted from b pos =
      accepted_cases (PlanIs d x shown) n d (passing x) from b pos quiet
      (λ own at e heard is i same new.
      by_test (PlanIs d x shown) (is_majority n (length (from ∷ heard)))
      (append (passing x) e (Leading own) (to_others n d (Decided at e)))
      (become (passing x) (Proposing own at e (from ∷ heard)) []) (λ t. decided own at e heard is)
      (λ t. turned (Proposing own at e (from ∷ heard)) [] tt tt))

  -- at a Nack
  outbid : (b promised : Ballot) → (AreLow x shown → IsLow promised.number)
      → PlanIs d x shown (on_nack (passing x) b promised)
  outbid b promised low =
      nack_cases (PlanIs d x shown) (passing x) b promised quiet
      (record {
        from = tt;
        says = λ placed. tt;
        low = λ l. record {
          seen = most x.seen promised.number l.numbers.seen (low l);
          change = tt;
        };
      })

  -- how long the log is
  length_said : (to : ℕ) → PlanIs d x shown
      (only_say (passing x) (record { from = d; to = to; body = Behind (length x.log) } ∷ []))
  length_said to =
      said (record { from = d; to = to; body = Behind (length x.log) } ∷ []) (refl, tt) (refl, tt)

  behind : (from len : ℕ) → PlanIs d x shown (on_behind d x.log (passing x) from len)
  behind from len =
      behind_cases (PlanIs d x shown) d x.log (passing x) from len (length_said from) (λ is.
      said (told d from len (take longest_run (drop len x.log)))
      (told_from d from len (take longest_run (drop len x.log)))
      (told_says (length x.log) d from len (take longest_run (drop len x.log))
      (front_below len longest_run x.log is)))

  learnt : (from pos : ℕ) (e : Entry) → PlanIs d x shown (on_decided d x.log (passing x) from pos e)
  learnt from pos e =
      let longer : length x.log + 1 ≡ length (x.log ++ e ∷ []) =
      omega (arith, length-append x.log (e ∷ [])) in
      decided_cases (PlanIs d x shown) d x.log (passing x) from pos e quiet (length_said from)
      (λ same.
      appended e Idle (record { from = d; to = from; body = Behind (length x.log + 1) } ∷ [])
      (refl, tt) (λ placed. (longer, tt)))

  -- ---- a Start and a Tick

  balloted : ResultIs d x shown (new_ballot n d x.stored (length x.log) (passing x))
  balloted =
      let last = last_number x.stored (passing x) in
      by_test (ResultIs d x shown) (last == 4294967295) (Err BallotsSpent)
      (Ok (gather n d x.stored (length x.log) (passing x) (last + 1))) (λ t. tt)
      (λ is. record {
        from =
            each_from d (desks_from 1 n)
            (Prepare (record { number = last + 1; desk = d }) (length x.log));
        says = λ placed.
            each_says (length x.log) d (desks_from 1 n)
            (Prepare (record { number = last + 1; desk = d }) (length x.log)) tt;
        low = λ l. record {
          seen = l.numbers.seen;
          change =
              not_last last 4294967295 (most (max x.stored.tried x.stored.promised.number) x.seen
              (most x.stored.tried x.stored.promised.number l.numbers.tried l.promised)
              l.numbers.seen) is;
        };
      })

  next : (own : Ballot) (queue : List Entry)
      → PlanIs d x shown (ask_next n d (length x.log) (passing x) own queue)
  next own [] = quiet
  next own (e ∷ es) = asked own (length x.log) e

  pub started : ResultIs d x shown (start n d x.stored (length x.log) (passing x))
  started =
      start_cases (ResultIs d x shown) n d x.stored (length x.log) (passing x) tt quiet
      (λ f. balloted) (λ own e f. next own x.queue)

  lengths_said : PlanIs d x shown
      (only_say (passing x) (to_each d (without (desks_from 1 n) (d ∷ [])) (Behind (length x.log))))
  lengths_said = says_each (without (desks_from 1 n) (d ∷ [])) (Behind (length x.log)) refl

  pub ticked : ResultIs d x shown (tick n d x.stored (length x.log) (passing x))
  ticked =
      tick_cases (ResultIs d x shown) n d x.stored (length x.log) (passing x) lengths_said
      (λ w. balloted) (λ b pos heard e. balloted)
      (λ b pos e heard i. says_each (without (desks_from 1 n) heard) (Accept b pos e) tt)
      (λ own e w. next own x.queue)

-- at a message
pub body_is : (n d : ℕ) (x : Desk) (from : ℕ) (body : Body)
    → PlanIs d x body (on_body n d x from body)
body_is n d x from (Prepare b pos) =
    answers n d x (Prepare b pos) from
    (prepare_reply x.stored (length x.log) (slice_get x.log pos) b pos)
    (prepare_is x.log x.stored b pos)
body_is n d x from (Promise b pos vote) = promised n d x (Promise b pos vote) from b pos vote
body_is n d x from (Accept b pos e) =
    answers n d x (Accept b pos e) from
    (accept_reply x.stored (length x.log) (slice_get x.log pos) b pos e)
    (accept_is x.log x.stored b pos e)
body_is n d x from (Accepted b pos) = accepted n d x (Accepted b pos) from b pos
body_is n d x from (Nack b pos higher) = outbid n d x (Nack b pos higher) b higher (λ l. l.shows)
body_is n d x from (Behind len) = behind n d x (Behind len) from len
body_is n d x from (Decided pos e) = learnt n d x (Decided pos e) from pos e

-- ---- steps

-- what a step says, of the log that it leaves, which is no shorter
abbrev pub StepSays : Desk → Result Done Refusal → Type 0
StepSays x (Ok r) = AllSay (length r.desk.log) r.messages × (length x.log ≤ length r.desk.log)
StepSays x (Err why) = Unit {0}

plan_says : (d : ℕ) (x : Desk) (shown : Body) (p : Plan) → RoleIsPlaced (length x.log) x.role
    → PlanIs d x shown p → StepSays x (Ok (done x p))
plan_says d x shown p placed h = (h.says placed, log_grows x.log p.change)

planned_says : (d : ℕ) (x : Desk) (shown : Body) (r : Result Plan Refusal)
    → RoleIsPlaced (length x.log) x.role → ResultIs d x shown r → StepSays x (planned x r)
planned_says d x shown (Ok p) placed h = plan_says d x shown p placed h
planned_says d x shown (Err why) placed h = tt

passed_says : (x : Desk) (r : Result Passing Refusal) → StepSays x (passed x r)
passed_says x (Ok p) = (tt, omega arith)
passed_says x (Err why) = tt

pub step_says : (n d : ℕ) (x : Desk) (event : DeskEvent) → RoleIsPlaced (length x.log) x.role
    → StepSays x (step n d x event)
step_says n d x (Submit e) placed = passed_says x (submit (length x.log) (passing x) e)
step_says n d x Start placed =
    planned_says d x (Behind 0) (start n d x.stored (length x.log) (passing x)) placed
    (started n d x (Behind 0))
step_says n d x Tick placed =
    planned_says d x (Behind 0) (tick n d x.stored (length x.log) (passing x)) placed
    (ticked n d x (Behind 0))
step_says n d x (Deliver m) placed =
    by_test (StepSays x) (is_heeded n d m) (Ok (done x (on_body n d x m.from m.body))) (Ok (idle x))
    (λ t. plan_says d x m.body (on_body n d x m.from m.body) placed (body_is n d x m.from m.body))
    (λ t. (tt, omega arith))
