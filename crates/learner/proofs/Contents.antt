-- Where the entries and the ballots in desks and messages come from: a walk over the steps, for any
-- property of entries and any of ballots.
use Rattle.std.proofs.Common.{take, false, Option, Result, length, slice_get, drop, ℕ, Bool, true}
use Rattle.std.proofs.Common.{◌==◌, List, ◌++◌, Some, None, refl, subst, arith, ◌≡◌, ◌+◌, ◌≤◌, []}
use Rattle.std.proofs.Common.{◌∷◌, ◌⊎◌, inl, inr, Ok, Err, zero, suc}
use Rattle.std.proofs.lemmas.Bool.Decides.{nat_tests}
use Rattle.acceptor.specs.declared.{ballot.Ballot.Ballot, entry.Entry.Entry}
use Rattle.acceptor.specs.{Ballots.is_below, Ballots.no_ballot, Storing.log_after}
use Rattle.acceptor.specs.{Storing.stored_after, Answers.accept_reply}
use Rattle.acceptor.specs.declared.message.{Report.Report, Body.Body, Message.Message}
use Rattle.acceptor.specs.Messages.{message, has, desks_from, without, to_each, to_others}
use Rattle.acceptor.specs.declared.message.Body.TheVariants.{Prepare, Promise, Accept, Accepted}
use Rattle.acceptor.specs.declared.message.Body.TheVariants.{Nack, Behind, Decided}
use Rattle.acceptor.specs.declared.stored.{Vote.Vote, Change.Change}
use Rattle.proposer.specs.declared.role.{PromisingDesk.PromisingDesk, Role.Role}
use Rattle.learner.specs.{Desks.Desk, Desks.adopt, Desks.passing, Steps.answered, Steps.on_body}
use Rattle.proposer.specs.Plans.{role_after, queue_after, only_say, become, append}
use Rattle.proposer.specs.declared.{plan.Plan.Plan, fault.Refusal.Refusal}
use Rattle.proposer.specs.declared.role.Role.TheVariants.{Gathering, Proposing, Leading}
use Rattle.acceptor.specs.declared.stored.Change.TheVariants.{Promised, Voted, Tried, Appended}
use Rattle.acceptor.specs.Answers.{Reply, reported, elsewhere, prepare_reply}
use Rattle.proposer.specs.Proposing.{ask_next, on_promise, is_majority, promises_heard, last_number}
use Rattle.proposer.specs.Proposing.{new_ballot, on_accepted, tick, higher, highest, choice}
use Rattle.proposer.specs.Proposing.{propose, on_nack, start, ask}
use Rattle.learner.specs.Learning.{on_decided, on_behind, told, longest_run}
use Rattle.learner.specs.Contents.{ListHolds, ReportHolds, BodyHolds, MessagesHold, VoteHolds}
use Rattle.learner.specs.Contents.{HeardHolds, RoleHolds, DeskHolds}
use Rattle.learner.proofs.Cases.{by_test, prepare_cases, accept_cases, promise_cases}
use Rattle.learner.proofs.Cases.{accepted_cases, nack_cases, decided_cases, behind_cases}
use Rattle.learner.proofs.Cases.{ballot_cases, start_cases, tick_cases}

abbrev pub ChangeHolds : (Entry → Type 0) → (Ballot → Type 0) → Option Change → Type 0
ChangeHolds P Q None = Unit {0}
ChangeHolds P Q (Some (Promised b)) = Q b
ChangeHolds P Q (Some (Voted v)) = Q v.ballot × P v.entry
ChangeHolds P Q (Some (Tried r)) = Unit {0}
ChangeHolds P Q (Some (Appended e)) = P e

abbrev pub NewRoleHolds : (Entry → Type 0) → (Ballot → Type 0) → Option Role → Type 0
NewRoleHolds P Q None = Unit {0}
NewRoleHolds P Q (Some r) = RoleHolds P Q r

pub record PlanHolds (P : Entry → Type 0) (Q : Ballot → Type 0) (p : Plan) : Type 0 where
  pub role : NewRoleHolds P Q p.role
  pub change : ChangeHolds P Q p.change
  pub messages : MessagesHold P Q p.messages

-- a ballot that the change makes
abbrev pub Fits : (Ballot → Type 0) → ℕ → Option Change → Type 0
Fits Q d (Some (Tried r)) = 1 ≤ r → Q (record { number = r; desk = d })
Fits Q d _ = Unit {0}

pub push_holds : (P : Entry → Type 0) (xs : List Entry) (e : Entry) → ListHolds P xs → P e
    → ListHolds P (xs ++ e ∷ [])
push_holds P [] e h k = (k, tt)
push_holds P (x ∷ xs) e h k = (h.0, push_holds P xs e h.1 k)

pub get_holds : (P : Entry → Type 0) (xs : List Entry) (k : ℕ) (e : Entry) → ListHolds P xs
    → slice_get xs k ≡ Some e → P e
get_holds P [] k e h i = absurd cc
get_holds P (x ∷ xs) zero e h i = let same : x ≡ e = cc in subst (λ (f : Entry). P f) same h.0
get_holds P (x ∷ xs) (suc k) e h i = get_holds P xs k e h.1 i

pub messages_append : (P : Entry → Type 0) (Q : Ballot → Type 0) (xs ys : List Message)
    → MessagesHold P Q xs → MessagesHold P Q ys → MessagesHold P Q (xs ++ ys)
messages_append P Q [] ys h k = k
messages_append P Q (x ∷ xs) ys h k = (h.0, messages_append P Q xs ys h.1 k)

pub message_at : (P : Entry → Type 0) (Q : Ballot → Type 0) (xs : List Message) (k : ℕ)
    (m : Message) → MessagesHold P Q xs → slice_get xs k ≡ Some m → BodyHolds P Q m.body
message_at P Q [] k m h i = absurd cc
message_at P Q (x ∷ xs) zero m h i =
    let same : x ≡ m = cc in subst (λ (f : Message). BodyHolds P Q f.body) same h.0
message_at P Q (x ∷ xs) (suc k) m h i = message_at P Q xs k m h.1 i

each_holds : (P : Entry → Type 0) (Q : Ballot → Type 0) (d : ℕ) (ds : List ℕ) (body : Body)
    → BodyHolds P Q body → MessagesHold P Q (to_each d ds body)
each_holds P Q d [] body h = tt
each_holds P Q d (x ∷ ds) body h = (h, each_holds P Q d ds body h)

queue_holds : (P : Entry → Type 0) (queue : List Entry) (t : Bool) → ListHolds P queue
    → ListHolds P (queue_after queue t)
queue_holds P [] t h = tt
queue_holds P (e ∷ es) true h = h.1
queue_holds P (e ∷ es) false h = h

pub adopt_holds : (P : Entry → Type 0) (Q : Ballot → Type 0) (x : Desk) (p : Plan) → DeskHolds P Q x
    → PlanHolds P Q p → DeskHolds P Q (adopt x p)
adopt_holds P Q x p h k =
    record {
      promised = promised p.change k.change;
      vote = vote p.change k.change;
      log = log p.change k.change;
      role = role p.role k.role;
      queue = queue_holds P x.queue p.drop_first h.queue;
    }
  where
    promised : (c : Option Change) → ChangeHolds P Q c
        → ((stored_after x.stored c).promised ≡ no_ballot) ⊎ Q (stored_after x.stored c).promised
    promised None i = h.promised
    promised (Some (Promised b)) i = inr i
    promised (Some (Voted v)) i = inr i.0
    promised (Some (Tried r)) i = h.promised
    promised (Some (Appended e)) i = h.promised

    vote : (c : Option Change) → ChangeHolds P Q c → VoteHolds P Q (stored_after x.stored c).vote
    vote None i = h.vote
    vote (Some (Promised b)) i = h.vote
    vote (Some (Voted v)) i = i
    vote (Some (Tried r)) i = h.vote
    vote (Some (Appended e)) i = h.vote

    log : (c : Option Change) → ChangeHolds P Q c → ListHolds P (log_after x.log c)
    log None i = h.log
    log (Some (Promised b)) i = h.log
    log (Some (Voted v)) i = h.log
    log (Some (Tried r)) i = h.log
    log (Some (Appended e)) i = push_holds P x.log e h.log i

    role : (r : Option Role) → NewRoleHolds P Q r → RoleHolds P Q (role_after x.role r)
    role None i = h.role
    role (Some r) i = i

nothing : (P : Entry → Type 0) (Q : Ballot → Type 0) (x : Desk)
    → PlanHolds P Q (only_say (passing x) [])
nothing P Q x = record { role = tt; change = tt; messages = tt }

answer_holds : (P : Entry → Type 0) (Q : Ballot → Type 0) (d : ℕ) (x : Desk) (from : ℕ) (r : Reply)
    → ChangeHolds P Q r.change → BodyHolds P Q r.body → PlanHolds P Q (answered d x from r)
answer_holds P Q d x from r c b = record { role = tt; change = c; messages = (b, tt) }

elsewhere_holds : (P : Entry → Type 0) (Q : Ballot → Type 0) (d : ℕ) (x : Desk) (from pos : ℕ)
    → DeskHolds P Q x
    → PlanHolds P Q (answered d x from (elsewhere (slice_get x.log pos) (length x.log) pos))
elsewhere_holds P Q d x from pos h = go (slice_get x.log pos) refl
  where
    go : (o : Option Entry) → slice_get x.log pos ≡ o
        → PlanHolds P Q (answered d x from (elsewhere o (length x.log) pos))
    go None e = record { role = tt; change = tt; messages = (tt, tt) }
    go (Some f) e =
        record { role = tt; change = tt; messages = (get_holds P x.log pos f h.log e, tt) }

-- all ballots that are spoken of are real
abbrev AreReal : (Ballot → Type 0) → Type 0
AreReal Q = (b : Ballot) → Q b → 1 ≤ b.number

prepare_holds : (P : Entry → Type 0) (Q : Ballot → Type 0) → AreReal Q
    → (d : ℕ) (x : Desk) (from : ℕ) (b : Ballot) (pos : ℕ) → DeskHolds P Q x → Q b → PlanHolds P Q
    (answered d x from (prepare_reply x.stored (length x.log) (slice_get x.log pos) b pos))
prepare_holds P Q real d x from b pos h q =
    prepare_cases (λ r. PlanHolds P Q (answered d x from r)) x.stored (length x.log)
    (slice_get x.log pos) b pos (elsewhere_holds P Q d x from pos h) (λ same e. record {
      role = tt;
      change = q;
      messages = ((q, vote x.stored.vote h.vote), tt);
    }) (λ e. record { role = tt; change = tt; messages = ((q, higher_holds h.promised e), tt) })
  where
    vote : (v : Option Vote) → VoteHolds P Q v → ReportHolds P Q (reported v pos)
    vote None i = tt
    vote (Some v) i =
        by_test (ReportHolds P Q) (v.pos == pos)
        (Some (record { ballot = v.ballot; entry = v.entry })) None (λ t. i) (λ t. tt)

    higher_holds : (x.stored.promised ≡ no_ballot) ⊎ Q x.stored.promised
        → is_below x.stored.promised b ≡ false → Q x.stored.promised
    higher_holds (inl e) t =
        let r : 1 ≤ b.number = real b q in
        let u : is_below no_ballot b ≡ false = subst (λ (c : Ballot). is_below c b ≡ false) e t in
        absurd (grind (arith, nat_tests))
    higher_holds (inr i) t = i

accept_holds : (P : Entry → Type 0) (Q : Ballot → Type 0) → AreReal Q
    → (d : ℕ) (x : Desk) (from : ℕ) (b : Ballot) (pos : ℕ) (e : Entry) → DeskHolds P Q x → Q b → P e
    → PlanHolds P Q
    (answered d x from (accept_reply x.stored (length x.log) (slice_get x.log pos) b pos e))
accept_holds P Q real d x from b pos e h q k =
    accept_cases (λ r. PlanHolds P Q (answered d x from r)) x.stored (length x.log)
    (slice_get x.log pos) b pos e (elsewhere_holds P Q d x from pos h)
    (λ f. record { role = tt; change = tt; messages = ((q, higher_holds h.promised f), tt) })
    (λ same f. record { role = tt; change = (q, k); messages = (q, tt) })
  where
    higher_holds : (x.stored.promised ≡ no_ballot) ⊎ Q x.stored.promised
        → is_below b x.stored.promised ≡ true → Q x.stored.promised
    higher_holds (inl f) t =
        let u : is_below b no_ballot ≡ true = subst (λ (c : Ballot). is_below b c ≡ true) f t in
        absurd (grind (arith, nat_tests))
    higher_holds (inr i) t = i

highest_holds : (P : Entry → Type 0) (Q : Ballot → Type 0) (hs : List PromisingDesk)
    → HeardHolds P Q hs → ReportHolds P Q (highest hs)
highest_holds P Q [] h = tt
highest_holds P Q (x ∷ hs) h = two x.vote (highest hs) h.0 (highest_holds P Q hs h.1)
  where
    two : (v w : Option Report) → ReportHolds P Q v → ReportHolds P Q w
        → ReportHolds P Q (higher v w)
    two None w i j = j
    two (Some r) None i j = i
    two (Some r) (Some s) i j =
        by_test (ReportHolds P Q) (is_below r.ballot s.ballot) (Some s) (Some r) (λ t. j) (λ t. i)

ask_holds : (P : Entry → Type 0) (Q : Ballot → Type 0) (n d : ℕ) (x : Desk) (b : Ballot) (pos : ℕ)
    (e : Entry) → Q b × P e → PlanHolds P Q (ask n d (passing x) b pos e)
ask_holds P Q n d x b pos e k =
    record {
      role = k;
      change = tt;
      messages = each_holds P Q d (desks_from 1 n) (Accept b pos e) k;
    }

promise_holds : (P : Entry → Type 0) (Q : Ballot → Type 0) (n d : ℕ) (x : Desk) (from : ℕ)
    (b : Ballot) (pos : ℕ) (vote : Option Report) → DeskHolds P Q x → ReportHolds P Q vote
    → PlanHolds P Q (on_promise n d (passing x) from b pos vote)
promise_holds P Q n d x from b pos vote h v =
    promise_cases (PlanHolds P Q) n d (passing x) from b pos vote (nothing P Q x)
    (λ own at heard e i same new.
    let k : Q own × HeardHolds P Q heard = subst (λ (r : Role). RoleHolds P Q r) e h.role in
    all_heard own at (record { desk = from; vote = vote } ∷ heard) k.0 (v, k.1))
  where
    chosen : (own : Ballot) (at : ℕ) → Q own → (top : Option Report) → ReportHolds P Q top
        → (queue : List Entry) → ListHolds P queue
        → PlanHolds P Q (propose n d (passing x) own at (choice top queue))
    chosen own at q (Some r) i queue j = ask_holds P Q n d x own at r.entry (q, i.1)
    chosen own at q None i (e ∷ es) j = ask_holds P Q n d x own at e (q, j.0)
    chosen own at q None i [] j = record { role = tt; change = tt; messages = tt }

    all_heard : (own : Ballot) (at : ℕ) (hs : List PromisingDesk) → Q own → HeardHolds P Q hs
        → PlanHolds P Q (promises_heard n d (passing x) own at hs)
    all_heard own at hs q i =
        by_test (PlanHolds P Q) (is_majority n (length hs))
        (propose n d (passing x) own at (choice (highest hs) x.queue))
        (become (passing x) (Gathering own at hs) [])
        (λ t. chosen own at q (highest hs) (highest_holds P Q hs i) x.queue h.queue)
        (λ t. record { role = (q, i); change = tt; messages = tt })

accepted_holds : (P : Entry → Type 0) (Q : Ballot → Type 0) (n d : ℕ) (x : Desk) (from : ℕ)
    (b : Ballot) (pos : ℕ)
    → DeskHolds P Q x → PlanHolds P Q (on_accepted n d (passing x) from b pos)
accepted_holds P Q n d x from b pos h =
    accepted_cases (PlanHolds P Q) n d (passing x) from b pos (nothing P Q x)
    (λ own at e heard is i same new.
    let k : Q own × P e = subst (λ (r : Role). RoleHolds P Q r) is h.role in
    by_test (PlanHolds P Q) (is_majority n (length (from ∷ heard)))
    (append (passing x) e (Leading own) (to_others n d (Decided at e)))
    (become (passing x) (Proposing own at e (from ∷ heard)) []) (λ t. record {
      role = k.0;
      change = k.1;
      messages = each_holds P Q d (without (desks_from 1 n) (d ∷ [])) (Decided at e) k.1;
    }) (λ t. record { role = k; change = tt; messages = tt }))

nack_holds : (P : Entry → Type 0) (Q : Ballot → Type 0) (x : Desk) (b promised : Ballot)
    → PlanHolds P Q (on_nack (passing x) b promised)
nack_holds P Q x b promised =
    nack_cases (PlanHolds P Q) (passing x) b promised (nothing P Q x)
    (record { role = tt; change = tt; messages = tt })

decided_holds : (P : Entry → Type 0) (Q : Ballot → Type 0) (d : ℕ) (x : Desk) (from pos : ℕ)
    (e : Entry) → P e → PlanHolds P Q (on_decided d x.log (passing x) from pos e)
decided_holds P Q d x from pos e k =
    decided_cases (PlanHolds P Q) d x.log (passing x) from pos e (nothing P Q x)
    (record { role = tt; change = tt; messages = (tt, tt) })
    (λ same. record { role = tt; change = k; messages = (tt, tt) })

told_holds : (P : Entry → Type 0) (Q : Ballot → Type 0) (d from pos : ℕ) (es : List Entry)
    → ListHolds P es → MessagesHold P Q (told d from pos es)
told_holds P Q d from pos [] h = tt
told_holds P Q d from pos (e ∷ es) h = (h.0, told_holds P Q d from (suc pos) es h.1)

take_holds : (P : Entry → Type 0) (m : ℕ) (es : List Entry) → ListHolds P es
    → ListHolds P (take m es)
take_holds P zero es h = tt
take_holds P (suc m) [] h = tt
take_holds P (suc m) (e ∷ es) h = (h.0, take_holds P m es h.1)

drop_holds : (P : Entry → Type 0) (m : ℕ) (es : List Entry) → ListHolds P es
    → ListHolds P (drop m es)
drop_holds P zero es h = h
drop_holds P (suc m) [] h = tt
drop_holds P (suc m) (e ∷ es) h = drop_holds P m es h.1

behind_holds : (P : Entry → Type 0) (Q : Ballot → Type 0) (d : ℕ) (x : Desk) (from len : ℕ)
    → DeskHolds P Q x → PlanHolds P Q (on_behind d x.log (passing x) from len)
behind_holds P Q d x from len h =
    behind_cases (PlanHolds P Q) d x.log (passing x) from len
    (record { role = tt; change = tt; messages = (tt, tt) }) (λ t. record {
      role = tt;
      change = tt;
      messages =
          told_holds P Q d from len (take longest_run (drop len x.log))
          (take_holds P longest_run (drop len x.log) (drop_holds P len x.log h.log));
    })

-- what comes with a message of such contents
pub body_holds : (P : Entry → Type 0) (Q : Ballot → Type 0) → AreReal Q
    → (n d : ℕ) (x : Desk) (from : ℕ) (body : Body) → DeskHolds P Q x → BodyHolds P Q body
    → PlanHolds P Q (on_body n d x from body)
body_holds P Q real n d x from (Prepare b pos) h k = prepare_holds P Q real d x from b pos h k
body_holds P Q real n d x from (Promise b pos v) h k = promise_holds P Q n d x from b pos v h k.1
body_holds P Q real n d x from (Accept b pos e) h k =
    accept_holds P Q real d x from b pos e h k.0 k.1
body_holds P Q real n d x from (Accepted b pos) h k = accepted_holds P Q n d x from b pos h
body_holds P Q real n d x from (Nack b pos promised) h k = nack_holds P Q x b promised
body_holds P Q real n d x from (Behind len) h k = behind_holds P Q d x from len h
body_holds P Q real n d x from (Decided pos e) h k = decided_holds P Q d x from pos e k

-- a plan that is refused has no contents
abbrev pub ResultHolds : (Entry → Type 0) → (Ballot → Type 0) → Result Plan Refusal → Type 0
ResultHolds P Q (Ok p) = PlanHolds P Q p
ResultHolds P Q (Err why) = Unit {0}

abbrev pub ResultFits : (Ballot → Type 0) → ℕ → Result Plan Refusal → Type 0
ResultFits Q d (Ok p) = Fits Q d p.change
ResultFits Q d (Err why) = Unit {0}

-- where the ballot that it may make fits, all of it holds
abbrev pub Fitting : (Entry → Type 0) → (Ballot → Type 0) → ℕ → Result Plan Refusal → Type 0
Fitting P Q d r = ResultFits Q d r → ResultHolds P Q r

ballot_holds : (P : Entry → Type 0) (Q : Ballot → Type 0) (n d : ℕ) (x : Desk)
    → Fitting P Q d (new_ballot n d x.stored (length x.log) (passing x))
ballot_holds P Q n d x =
    ballot_cases (Fitting P Q d) n d x.stored (length x.log) (passing x) (λ f. tt) (λ f.
    let own : Ballot =
    record { number = last_number x.stored (passing x) + 1; desk = d } in
    let q : Q own = f (omega arith) in
    record {
      role = (q, tt);
      change = tt;
      messages = each_holds P Q d (desks_from 1 n) (Prepare own (length x.log)) q;
    })

-- a desk that leads asks for votes for the first of its queue
ask_next_holds : (P : Entry → Type 0) (Q : Ballot → Type 0) (n d : ℕ) (x : Desk) (b : Ballot)
    → Q b → (queue : List Entry) → ListHolds P queue
    → PlanHolds P Q (ask_next n d (length x.log) (passing x) b queue)
ask_next_holds P Q n d x b q [] h = nothing P Q x
ask_next_holds P Q n d x b q (e ∷ es) h = ask_holds P Q n d x b (length x.log) e (q, h.0)

pub start_holds : (P : Entry → Type 0) (Q : Ballot → Type 0) (n d : ℕ) (x : Desk) → DeskHolds P Q x
    → Fitting P Q d (start n d x.stored (length x.log) (passing x))
start_holds P Q n d x h =
    start_cases (Fitting P Q d) n d x.stored (length x.log) (passing x) (λ f. tt)
    (λ f. nothing P Q x) (λ t. ballot_holds P Q n d x) (λ b e t f.
    ask_next_holds P Q n d x b (subst (λ (r : Role). RoleHolds P Q r) e h.role) x.queue h.queue)

pub tick_holds : (P : Entry → Type 0) (Q : Ballot → Type 0) (n d : ℕ) (x : Desk) → DeskHolds P Q x
    → Fitting P Q d (tick n d x.stored (length x.log) (passing x))
tick_holds P Q n d x h =
    tick_cases (Fitting P Q d) n d x.stored (length x.log) (passing x) (λ f. record {
      role = tt;
      change = tt;
      messages = each_holds P Q d (without (desks_from 1 n) (d ∷ [])) (Behind (length x.log)) tt;
    }) (λ t. ballot_holds P Q n d x) (λ b pos heard e. ballot_holds P Q n d x)
    (λ b pos e heard i f. record {
      role = tt;
      change = tt;
      messages =
          each_holds P Q d (without (desks_from 1 n) heard) (Accept b pos e)
          (subst (λ (r : Role). RoleHolds P Q r) i h.role);
    })
    (λ b e t f.
    ask_next_holds P Q n d x b (subst (λ (r : Role). RoleHolds P Q r) e h.role) x.queue h.queue)
