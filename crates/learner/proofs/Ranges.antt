-- A step keeps positions, log lengths, ballots and desk numbers in their ranges.
use Rattle.std.proofs.Common.{take, drop, ◌≡◌, ℕ, zero, suc, ◌+◌, ◌-◌, ◌<◌, ◌≤◌, Bool, true, false}
use Rattle.std.proofs.Common.{not, if◌then◌else◌, List, [], ◌∷◌, ◌++◌, Option, Some, None, Result}
use Rattle.std.proofs.Common.{Ok, Err, length, slice_get, refl, subst, arith}
use Rattle.std.proofs.{Common.length-append, Common.length-drop, lemmas.Bool.Decides.nat_tests}
use Rattle.acceptor.specs.declared.{ballot.Ballot.Ballot, entry.Entry.Entry, stored.Vote.Vote}
use Rattle.acceptor.specs.Answers.{accept_reply, elsewhere, prepare_reply}
use Rattle.acceptor.specs.declared.message.{Report.Report, Body.Body, Message.Message}
use Rattle.acceptor.specs.Messages.{message, has, desks_from, without, to_each, to_others}
use Rattle.acceptor.specs.declared.message.Body.TheVariants.{Prepare, Promise, Accept, Accepted}
use Rattle.acceptor.specs.declared.message.Body.TheVariants.{Nack, Behind, Decided}
use Rattle.proposer.specs.declared.{fault.Refusal.Refusal, plan.Plan.Plan}
use Rattle.proposer.specs.declared.role.{PromisingDesk.PromisingDesk, Role.Role}
use Rattle.proposer.specs.declared.role.Role.TheVariants.{Idle, Gathering, Proposing, Leading}
use Rattle.proposer.specs.Plans.{only_say, become, append}
use Rattle.proposer.specs.Proposing.{is_full, ask_next, on_promise, is_majority, promises_heard}
use Rattle.proposer.specs.Proposing.{last_number, new_ballot, on_accepted, tick, highest, choice}
use Rattle.proposer.specs.Proposing.{propose, on_nack, start, wants_ballot}
use Rattle.learner.specs.{Order.IsBelow, Desks.Desk, Ranges.RoleIsPlaced, Ranges.VoteIsPlaced}
use Rattle.learner.specs.{Desks.adopt, Desks.passing, Steps.IsDesk, Steps.answered, Steps.on_body}
use Rattle.learner.specs.Learning.{on_decided, on_behind, told, longest_run}
use Rattle.learner.proofs.Order.{at_most_self, at_most_trans, at_most_from_below}
use Rattle.learner.proofs.Cases.{by_test, prepare_cases, accept_cases, promise_cases}
use Rattle.learner.proofs.Cases.{accepted_cases, nack_cases, decided_cases, behind_cases}
use Rattle.learner.proofs.Cases.{ballot_cases, start_cases, tick_cases}

-- the position or the length in the body is in its range
abbrev pub BodyIsPlaced : Body → Type 0
BodyIsPlaced (Prepare b pos) = pos < 65536
BodyIsPlaced (Promise b pos v) = pos < 65536
BodyIsPlaced (Accept b pos e) = pos < 65536
BodyIsPlaced (Accepted b pos) = pos < 65536
BodyIsPlaced (Nack b pos promised) = pos < 65536
BodyIsPlaced (Behind len) = len ≤ 65536
BodyIsPlaced (Decided pos e) = pos < 65536

-- each of the messages is from desk d to a desk of n, at a position in its range
abbrev pub ArePlaced : ℕ → ℕ → List Message → Type 0
ArePlaced n d [] = Unit {0}
ArePlaced n d (m ∷ ms) = ((m.from ≡ d) × IsDesk n m.to × BodyIsPlaced m.body) × ArePlaced n d ms

pub record DeskIsPlaced (x : Desk) : Type 0 where
  pub log : length x.log ≤ 65536
  pub role : RoleIsPlaced (length x.log) x.role
  pub vote : VoteIsPlaced x.stored.promised x.stored.vote

-- the desk after the plan, and what it sends
pub record PlanIsPlaced (n d : ℕ) (x : Desk) (p : Plan) : Type 0 where
  pub desk : DeskIsPlaced (adopt x p)
  pub messages : ArePlaced n d p.messages

abbrev AreDesks : ℕ → List ℕ → Type 0
AreDesks n [] = Unit {0}
AreDesks n (d ∷ ds) = IsDesk n d × AreDesks n ds

desks_placed : (n first count : ℕ) → 1 ≤ first → first + count ≤ n + 1
    → AreDesks n (desks_from first count)
desks_placed n first zero low high = tt
desks_placed n first (suc count) low high =
    let here : first ≤ n = omega arith in
    ((low, here), desks_placed n (suc first) count (omega arith) (omega arith))

hall_placed : (n : ℕ) → AreDesks n (desks_from 1 n)
hall_placed n = desks_placed n 1 n (omega arith) (omega arith)

without_placed : (n : ℕ) (ds gone : List ℕ) → AreDesks n ds → AreDesks n (without ds gone)
without_placed n [] gone h = tt
without_placed n (d ∷ ds) gone h = go (has gone d) (without_placed n ds gone h.1)
  where
    go : (t : Bool) → AreDesks n (without ds gone)
        → AreDesks n (if t then without ds gone else d ∷ without ds gone)
    go true rest = rest
    go false rest = (h.0, rest)

each_placed : (n d : ℕ) (ds : List ℕ) (body : Body) → AreDesks n ds → BodyIsPlaced body
    → ArePlaced n d (to_each d ds body)
each_placed n d [] body h k = tt
each_placed n d (x ∷ ds) body h k = ((refl, h.0, k), each_placed n d ds body h.1 k)

all_placed : (n d : ℕ) (body : Body) → BodyIsPlaced body
    → ArePlaced n d (to_each d (desks_from 1 n) body)
all_placed n d body k = each_placed n d (desks_from 1 n) body (hall_placed n) k

rest_placed : (n d : ℕ) (gone : List ℕ) (body : Body) → BodyIsPlaced body
    → ArePlaced n d (to_each d (without (desks_from 1 n) gone) body)
rest_placed n d gone body k =
    each_placed n d (without (desks_from 1 n) gone) body
    (without_placed n (desks_from 1 n) gone (hall_placed n)) k

says : (n d : ℕ) (x : Desk) (messages : List Message) → DeskIsPlaced x → ArePlaced n d messages
    → PlanIsPlaced n d x (only_say (passing x) messages)
says n d x messages h m =
    record { desk = record { log = h.log; role = h.role; vote = h.vote }; messages = m }

becomes : (n d : ℕ) (x : Desk) (r : Role) (messages : List Message) → DeskIsPlaced x
    → RoleIsPlaced (length x.log) r → ArePlaced n d messages
    → PlanIsPlaced n d x (become (passing x) r messages)
becomes n d x r messages h k m =
    record { desk = record { log = h.log; role = k; vote = h.vote }; messages = m }

appends : (n d : ℕ) (x : Desk) (e : Entry) (r : Role) (messages : List Message) → DeskIsPlaced x
    → length x.log < 65536 → ((len : ℕ) → RoleIsPlaced len r) → ArePlaced n d messages
    → PlanIsPlaced n d x (append (passing x) e r messages)
appends n d x e r messages h less k m =
    let longer : length (x.log ++ e ∷ []) ≡ length x.log + 1 = length-append x.log (e ∷ []) in
    record {
      desk =
          record { log = omega arith; role = k (length (x.log ++ e ∷ [])); vote = h.vote };
      messages = m;
    }

elsewhere_placed : (n d : ℕ) (x : Desk) (from pos : ℕ) → IsDesk n from → DeskIsPlaced x
    → pos < 65536
    → PlanIsPlaced n d x (answered d x from (elsewhere (slice_get x.log pos) (length x.log) pos))
elsewhere_placed n d x from pos theirs h k = go (slice_get x.log pos)
  where
    go : (o : Option Entry)
        → PlanIsPlaced n d x (answered d x from (elsewhere o (length x.log) pos))
    go None = says n d x (message d from (Behind (length x.log)) ∷ []) h ((refl, theirs, h.log), tt)
    go (Some f) = says n d x (message d from (Decided pos f) ∷ []) h ((refl, theirs, k), tt)

prepare_placed : (n d : ℕ) (x : Desk) (from : ℕ) (b : Ballot) (pos : ℕ) → IsDesk n from
    → DeskIsPlaced x → pos < 65536 → PlanIsPlaced n d x
    (answered d x from (prepare_reply x.stored (length x.log) (slice_get x.log pos) b pos))
prepare_placed n d x from b pos theirs h k =
    prepare_cases (λ r. PlanIsPlaced n d x (answered d x from r)) x.stored (length x.log)
    (slice_get x.log pos) b pos (elsewhere_placed n d x from pos theirs h k) (λ same e. record {
      desk = record { log = h.log; role = h.role; vote = raised e x.stored.vote h.vote };
      messages = ((refl, theirs, k), tt);
    }) (λ e.
    says n d x (message d from (Nack b pos x.stored.promised) ∷ []) h ((refl, theirs, k), tt))
  where
    raised : IsBelow x.stored.promised b → (o : Option Vote) → VoteIsPlaced x.stored.promised o
        → VoteIsPlaced b o
    raised less None v = tt
    raised less (Some vote) v = (
      v.0,
      at_most_trans vote.ballot x.stored.promised b v.1
          (at_most_from_below x.stored.promised b less),
    )

accept_placed : (n d : ℕ) (x : Desk) (from : ℕ) (b : Ballot) (pos : ℕ) (e : Entry) → IsDesk n from
    → DeskIsPlaced x → pos < 65536 → PlanIsPlaced n d x
    (answered d x from (accept_reply x.stored (length x.log) (slice_get x.log pos) b pos e))
accept_placed n d x from b pos e theirs h k =
    accept_cases (λ r. PlanIsPlaced n d x (answered d x from r)) x.stored (length x.log)
    (slice_get x.log pos) b pos e (elsewhere_placed n d x from pos theirs h k) (λ i.
    says n d x (message d from (Nack b pos x.stored.promised) ∷ []) h ((refl, theirs, k), tt))
    (λ same i. record {
      desk = record { log = h.log; role = h.role; vote = (k, at_most_self b) };
      messages = ((refl, theirs, k), tt);
    })

promise_placed : (n d : ℕ) (x : Desk) (from : ℕ) (b : Ballot) (pos : ℕ) (vote : Option Report)
    → DeskIsPlaced x → PlanIsPlaced n d x (on_promise n d (passing x) from b pos vote)
promise_placed n d x from b pos vote h =
    promise_cases (PlanIsPlaced n d x) n d (passing x) from b pos vote (says n d x [] h tt)
    (λ own at heard e i same new.
    all_heard own at (record { desk = from; vote = vote } ∷ heard)
    (subst (λ (r : Role). RoleIsPlaced (length x.log) r) e h.role))
  where
    all_heard : (own : Ballot) (at : ℕ) (hs : List PromisingDesk)
        → (at ≡ length x.log) × (length x.log < 65536)
        → PlanIsPlaced n d x (promises_heard n d (passing x) own at hs)
    all_heard own at hs k =
        by_test (PlanIsPlaced n d x) (is_majority n (length hs))
        (propose n d (passing x) own at (choice (highest hs) x.queue))
        (become (passing x) (Gathering own at hs) []) (λ t. chosen (choice (highest hs) x.queue))
        (λ t. becomes n d x (Gathering own at hs) [] h k tt)
      where
        at_less : at < 65536
        at_less = let e = k.0 in let l = k.1 in omega arith

        chosen : (o : Option Entry) → PlanIsPlaced n d x (propose n d (passing x) own at o)
        chosen (Some e) =
            becomes n d x (Proposing own at e []) _ h k (all_placed n d (Accept own at e) at_less)
        chosen None = becomes n d x Idle [] h tt tt

accepted_placed : (n d : ℕ) (x : Desk) (from : ℕ) (b : Ballot) (pos : ℕ) → DeskIsPlaced x
    → PlanIsPlaced n d x (on_accepted n d (passing x) from b pos)
accepted_placed n d x from b pos h =
    accepted_cases (PlanIsPlaced n d x) n d (passing x) from b pos (says n d x [] h tt)
    (λ own at e heard is i same new.
    let k : (at ≡ length x.log) × (length x.log < 65536) =
    subst (λ (r : Role). RoleIsPlaced (length x.log) r) is h.role in
    let here = k.0 in
    let l = k.1 in
    let less : at < 65536 = omega arith in
    by_test (PlanIsPlaced n d x) (is_majority n (length (from ∷ heard)))
    (append (passing x) e (Leading own) (to_others n d (Decided at e)))
    (become (passing x) (Proposing own at e (from ∷ heard)) []) (λ t.
    appends n d x e (Leading own) (to_others n d (Decided at e)) h l (λ len. tt)
    (rest_placed n d (d ∷ []) (Decided at e) less))
    (λ t. becomes n d x (Proposing own at e (from ∷ heard)) [] h k tt))

nack_placed : (n d : ℕ) (x : Desk) (b promised : Ballot) → DeskIsPlaced x
    → PlanIsPlaced n d x (on_nack (passing x) b promised)
nack_placed n d x b promised h =
    nack_cases (PlanIsPlaced n d x) (passing x) b promised (says n d x [] h tt)
    (record { desk = record { log = h.log; role = tt; vote = h.vote }; messages = tt })

decided_placed : (n d : ℕ) (x : Desk) (from pos : ℕ) (e : Entry) → IsDesk n from → DeskIsPlaced x
    → pos < 65536 → PlanIsPlaced n d x (on_decided d x.log (passing x) from pos e)
decided_placed n d x from pos e theirs h k =
    decided_cases (PlanIsPlaced n d x) d x.log (passing x) from pos e (says n d x [] h tt)
    (says n d x (message d from (Behind (length x.log)) ∷ []) h ((refl, theirs, h.log), tt))
    (λ same.
    let less : length x.log < 65536 = omega arith in
    let next : length x.log + 1 ≤ 65536 = omega arith in
    appends n d x e Idle (message d from (Behind (length x.log + 1)) ∷ []) h less (λ len. tt)
    ((refl, theirs, next), tt))

told_placed : (n d from pos : ℕ) (es : List Entry) → IsDesk n from → pos + length es ≤ 65536
    → ArePlaced n d (told d from pos es)
told_placed n d from pos [] theirs h = tt
told_placed n d from pos (e ∷ es) theirs h =
    let less : pos < 65536 = omega arith in
    ((refl, theirs, less), told_placed n d from (suc pos) es theirs (omega arith))

length-take_drop : (m k : ℕ) (xs : List Entry) → k ≤ length xs
    → k + length (take m (drop k xs)) ≤ length xs
length-take_drop m k xs h = go (drop k xs) (length-drop k xs)
  where
    short : (m : ℕ) (ys : List Entry) → length (take m ys) ≤ length ys
    short zero ys = omega arith
    short (suc m) [] = omega arith
    short (suc m) (y ∷ ys) = let s = short m ys in omega arith

    go : (ys : List Entry) → length ys ≡ length xs - k → k + length (take m ys) ≤ length xs
    go ys e = let s = short m ys in omega arith

behind_placed : (n d : ℕ) (x : Desk) (from len : ℕ) → IsDesk n from → DeskIsPlaced x
    → PlanIsPlaced n d x (on_behind d x.log (passing x) from len)
behind_placed n d x from len theirs h =
    behind_cases (PlanIsPlaced n d x) d x.log (passing x) from len
    (says n d x (message d from (Behind (length x.log)) ∷ []) h ((refl, theirs, h.log), tt)) (λ e.
    let low : len ≤ length x.log = grind (arith, nat_tests) in
    let most = h.log in
    let all : len + length (take longest_run (drop len x.log)) ≤ length x.log =
    length-take_drop longest_run len x.log low in
    says n d x (told d from len (take longest_run (drop len x.log))) h
    (told_placed n d from len (take longest_run (drop len x.log)) theirs (omega arith)))

-- a message in its range is answered by messages in theirs
pub body_placed : (n d : ℕ) (x : Desk) (from : ℕ) (body : Body) → IsDesk n from → DeskIsPlaced x
    → BodyIsPlaced body → PlanIsPlaced n d x (on_body n d x from body)
body_placed n d x from (Prepare b pos) theirs h k = prepare_placed n d x from b pos theirs h k
body_placed n d x from (Promise b pos v) theirs h k = promise_placed n d x from b pos v h
body_placed n d x from (Accept b pos e) theirs h k = accept_placed n d x from b pos e theirs h k
body_placed n d x from (Accepted b pos) theirs h k = accepted_placed n d x from b pos h
body_placed n d x from (Nack b pos promised) theirs h k = nack_placed n d x b promised h
body_placed n d x from (Behind len) theirs h k = behind_placed n d x from len theirs h
body_placed n d x from (Decided pos e) theirs h k = decided_placed n d x from pos e theirs h k

abbrev pub ResultIsPlaced : ℕ → ℕ → Desk → Result Plan Refusal → Type 0
ResultIsPlaced n d x (Ok p) = PlanIsPlaced n d x p
ResultIsPlaced n d x (Err why) = Unit {0}

ballot_placed : (n d : ℕ) (x : Desk) → DeskIsPlaced x → length x.log < 65536
    → ResultIsPlaced n d x (new_ballot n d x.stored (length x.log) (passing x))
ballot_placed n d x h less =
    ballot_cases (ResultIsPlaced n d x) n d x.stored (length x.log) (passing x) tt (record {
      desk = record { log = h.log; role = (refl, less); vote = h.vote };
      messages =
          all_placed n d
          (Prepare (record { number = last_number x.stored (passing x) + 1; desk = d })
          (length x.log)) less;
    })

-- a log that is not full has room
room : (len : ℕ) → is_full len ≡ false → len < 65536
room len e = grind (arith, nat_tests)

-- a desk that leads asks for votes for the first of its queue
ask_next_placed : (n d : ℕ) (x : Desk) (b : Ballot) → DeskIsPlaced x → length x.log < 65536
    → (queue : List Entry) → PlanIsPlaced n d x (ask_next n d (length x.log) (passing x) b queue)
ask_next_placed n d x b h less [] = says n d x [] h tt
ask_next_placed n d x b h less (e ∷ es) =
    becomes n d x (Proposing b (length x.log) e []) _ h (refl, less)
    (all_placed n d (Accept b (length x.log) e) less)

pub start_placed : (n d : ℕ) (x : Desk) → DeskIsPlaced x
    → ResultIsPlaced n d x (start n d x.stored (length x.log) (passing x))
start_placed n d x h =
    start_cases (ResultIsPlaced n d x) n d x.stored (length x.log) (passing x) tt
    (says n d x [] h tt) (λ t. ballot_placed n d x h (room (length x.log) t))
    (λ b e t. ask_next_placed n d x b h (room (length x.log) t) x.queue)

pub tick_placed : (n d : ℕ) (x : Desk) → DeskIsPlaced x
    → ResultIsPlaced n d x (tick n d x.stored (length x.log) (passing x))
tick_placed n d x h =
    tick_cases (ResultIsPlaced n d x) n d x.stored (length x.log) (passing x)
    (says n d x (to_others n d (Behind (length x.log))) h
    (rest_placed n d (d ∷ []) (Behind (length x.log)) h.log))
    (λ t. ballot_placed n d x h (has_room x.queue t)) (λ b pos heard e.
    let k : (pos ≡ length x.log) × (length x.log < 65536) =
    subst (λ (r : Role). RoleIsPlaced (length x.log) r) e h.role in
    ballot_placed n d x h k.1) (λ b pos f heard e.
    let k : (pos ≡ length x.log) × (length x.log < 65536) =
    subst (λ (r : Role). RoleIsPlaced (length x.log) r) e h.role in
    let at = k.0 in
    let less = k.1 in
    let here : pos < 65536 = omega arith in
    says n d x (to_each d (without (desks_from 1 n) heard) (Accept b pos f)) h
    (rest_placed n d heard (Accept b pos f) here))
    (λ b e t. ask_next_placed n d x b h (has_room x.queue t) x.queue)
  where
    of_not : (t : Bool) → not t ≡ true → t ≡ false
    of_not true i = absurd cc
    of_not false i = refl

    has_room : (queue : List Entry) → wants_ballot queue (length x.log) ≡ true
        → length x.log < 65536
    has_room [] e = absurd cc
    has_room (f ∷ fs) e = room (length x.log) (of_not (is_full (length x.log)) e)
