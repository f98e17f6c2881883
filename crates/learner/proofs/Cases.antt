-- The cases of what a desk plans: what holds of the plan of each case holds of the plan.
use Rattle.std.proofs.Common.{take, drop, ◌≡◌, ℕ, ◌+◌, nat_lt, Bool, true, false, if◌then◌else◌}
use Rattle.std.proofs.Common.{◌==◌, List, [], ◌∷◌, ◌++◌, Option, Result, Ok, Err, length, refl}
use Rattle.std.proofs.Common.{None, Some}
use Rattle.std.proofs.{Common.arith, lemmas.Bool.Decides.nat_tests}
use Rattle.acceptor.specs.declared.{ballot.Ballot.Ballot, entry.Entry.Entry, stored.Stored.Stored}
use Rattle.acceptor.specs.{Ballots.is_below, Ballots.is_same, Messages.has, Messages.message}
use Rattle.acceptor.specs.declared.message.{Report.Report, Body.TheVariants.Promise}
use Rattle.acceptor.specs.declared.message.Body.TheVariants.{Accepted, Nack, Behind}
use Rattle.acceptor.specs.declared.stored.Change.TheVariants.{Promised, Voted}
use Rattle.acceptor.specs.Answers.{Reply, reported, elsewhere, prepare_reply, accept_reply}
use Rattle.proposer.specs.declared.{fault.Refusal.Refusal, plan.Plan.Plan}
use Rattle.proposer.specs.declared.fault.Refusal.TheVariants.{Busy, LogFull, BallotsSpent}
use Rattle.proposer.specs.declared.role.{PromisingDesk.PromisingDesk, Role.Role}
use Rattle.proposer.specs.declared.role.Role.TheVariants.{Idle, Gathering, Proposing, Leading}
use Rattle.proposer.specs.Plans.{Passing, only_say, append, give_way}
use Rattle.proposer.specs.Proposing.{is_full, is_outbid, ask_next, ask_again, tick_idle, was_heard}
use Rattle.proposer.specs.Proposing.{promises_heard, promise_by_role, accepted_by_role, on_promise}
use Rattle.proposer.specs.Proposing.{last_number, new_ballot, tell_length, votes_heard, on_accepted}
use Rattle.proposer.specs.Proposing.{gather, start, tick, on_nack, is_ballot_of, start_by_role}
use Rattle.proposer.specs.Proposing.{wants_ballot, tick_by_role}
use Rattle.learner.specs.{Desks.Desk, Steps.Done, Steps.passed, Steps.step}
use Rattle.learner.specs.Learning.{on_decided, on_behind, told, longest_run}
use Rattle.learner.specs.declared.event.DeskEvent.TheVariants.{Submit}

pub by_test : {A : Type 0} (G : A → Type 0) (t : Bool) (x y : A) → (t ≡ true → G x)
    → (t ≡ false → G y) → G (if t then x else y)
by_test G true x y p q = p refl
by_test G false x y p q = q refl

-- the acceptor's reply to a Prepare
pub prepare_cases : (G : Reply → Type 0) (s : Stored) (len : ℕ) (there : Option Entry) (b : Ballot)
    (pos : ℕ) → G (elsewhere there len pos) → (pos ≡ len → is_below s.promised b ≡ true
    → G (record { change = Some (Promised b); body = Promise b pos (reported s.vote pos) }))
    → (is_below s.promised b ≡ false → G (record { change = None; body = Nack b pos s.promised }))
    → G (prepare_reply s len there b pos)
prepare_cases G s len there b pos other promises nacks =
    by_test G (pos == len) _ _ (λ t.
    let same : pos ≡ len = grind (arith, nat_tests) in
    by_test G (is_below s.promised b) _ _ (λ e. promises same e) nacks) (λ t. other)

-- the acceptor's reply to an Accept
pub accept_cases : (G : Reply → Type 0) (s : Stored) (len : ℕ) (there : Option Entry) (b : Ballot)
    (pos : ℕ) (e : Entry) → G (elsewhere there len pos)
    → (is_below b s.promised ≡ true → G (record { change = None; body = Nack b pos s.promised }))
    → (pos ≡ len → is_below b s.promised ≡ false → G (record {
      change = Some (Voted (record { pos = pos; ballot = b; entry = e }));
      body = Accepted b pos;
    })) → G (accept_reply s len there b pos e)
accept_cases G s len there b pos e other nacks votes =
    by_test G (pos == len) _ _ (λ t.
    let same : pos ≡ len = grind (arith, nat_tests) in
    by_test G (is_below b s.promised) _ _ nacks (λ i. votes same i)) (λ t. other)

-- at a Promise nothing is done, or one more promise is heard
pub promise_cases : (G : Plan → Type 0) (n d : ℕ) (p : Passing) (from : ℕ) (b : Ballot) (pos : ℕ)
    (vote : Option Report) → G (only_say p [])
    → ((own : Ballot) (at : ℕ) (heard : List PromisingDesk) → p.role ≡ Gathering own at heard
    → is_same own b ≡ true → at ≡ pos → was_heard heard from ≡ false
    → G (promises_heard n d p own at (record { desk = from; vote = vote } ∷ heard)))
    → G (on_promise n d p from b pos vote)
promise_cases G n d p from b pos vote nothing hears = by_role p.role refl
  where
    by_role : (r : Role) → p.role ≡ r → G (promise_by_role n d p r from b pos vote)
    by_role (Gathering own at heard) e =
        by_test G (is_same own b) _ _ (λ i.
        by_test G (at == pos) _ _ (λ t.
        let same : at ≡ pos = grind (arith, nat_tests) in
        by_test G (was_heard heard from) _ _ (λ j. nothing)
        (λ new. hears own at heard e i same new)) (λ t. nothing)) (λ i. nothing)
    by_role _ e = nothing

-- at an Accepted nothing is done, or one more vote is heard
pub accepted_cases : (G : Plan → Type 0) (n d : ℕ) (p : Passing) (from : ℕ) (b : Ballot) (pos : ℕ)
    → G (only_say p [])
    → ((own : Ballot) (at : ℕ) (f : Entry) (heard : List ℕ) → p.role ≡ Proposing own at f heard
    → is_same own b ≡ true → at ≡ pos → has heard from ≡ false
    → G (votes_heard n d p own at f (from ∷ heard))) → G (on_accepted n d p from b pos)
accepted_cases G n d p from b pos nothing hears = by_role p.role refl
  where
    by_role : (r : Role) → p.role ≡ r → G (accepted_by_role n d p r from b pos)
    by_role (Proposing own at f heard) e =
        by_test G (is_same own b) _ _ (λ i.
        by_test G (at == pos) _ _ (λ t.
        let same : at ≡ pos = grind (arith, nat_tests) in
        by_test G (has heard from) _ _ (λ j. nothing) (λ new. hears own at f heard e i same new))
        (λ t. nothing)) (λ i. nothing)
    by_role _ e = nothing

-- at a Nack nothing is done, or the desk gives its ballot up
pub nack_cases : (G : Plan → Type 0) (p : Passing) (b promised : Ballot) → G (only_say p [])
    → G (give_way p promised.number) → G (on_nack p b promised)
nack_cases G p b promised nothing gives =
    by_test G (is_ballot_of p.role b) _ _
    (λ i. by_test G (is_below b promised) _ _ (λ j. gives) (λ j. nothing)) (λ i. nothing)

pub decided_cases : (G : Plan → Type 0) (d : ℕ) (log : List Entry) (p : Passing) (from pos : ℕ)
    (e : Entry) → G (only_say p []) → G (only_say p (message d from (Behind (length log)) ∷ []))
    → (pos ≡ length log → G (append p e Idle (message d from (Behind (length log + 1)) ∷ [])))
    → G (on_decided d log p from pos e)
decided_cases G d log p from pos e nothing asks appends =
    by_test G (pos == length log) _ _
    (λ t. let same : pos ≡ length log = grind (arith, nat_tests) in appends same)
    (λ t. by_test G (nat_lt (length log) pos) _ _ (λ i. asks) (λ i. nothing))

pub behind_cases : (G : Plan → Type 0) (d : ℕ) (log : List Entry) (p : Passing) (from len : ℕ)
    → G (only_say p (message d from (Behind (length log)) ∷ [])) → (nat_lt (length log) len ≡ false
    → G (only_say p (told d from len (take longest_run (drop len log)))))
    → G (on_behind d log p from len)
behind_cases G d log p from len asks tells =
    by_test G (nat_lt (length log) len) _ _ (λ t. asks) tells

pub ballot_cases : (G : Result Plan Refusal → Type 0) (n d : ℕ) (s : Stored) (len : ℕ) (p : Passing)
    → G (Err BallotsSpent) → G (Ok (gather n d s len p (last_number s p + 1)))
    → G (new_ballot n d s len p)
ballot_cases G n d s len p spent gathers =
    by_test G (last_number s p == 4294967295) _ _ (λ t. spent) (λ t. gathers)

pub start_cases : (G : Result Plan Refusal → Type 0) (n d : ℕ) (s : Stored) (len : ℕ) (p : Passing)
    → G (Err LogFull) → G (Ok (only_say p [])) → (is_full len ≡ false → G (new_ballot n d s len p))
    → ((b : Ballot) → p.role ≡ Leading b → is_full len ≡ false
    → G (Ok (ask_next n d len p b p.queue))) → G (start n d s len p)
start_cases G n d s len p full nothing makes asks = by_role p.role refl
  where
    by_role : (r : Role) → p.role ≡ r → G (start_by_role n d s len p r)
    by_role Idle e = by_test G (is_full len) _ _ (λ t. full) makes
    by_role (Gathering b pos heard) e = nothing
    by_role (Proposing b pos f heard) e = nothing
    by_role (Leading b) e =
        by_test G (is_full len) _ _ (λ t. full)
        (λ t. by_test G (is_outbid s b) _ _ (λ o. makes t) (λ o. asks b e t))

pub tick_cases : (G : Result Plan Refusal → Type 0) (n d : ℕ) (s : Stored) (len : ℕ) (p : Passing)
    → G (Ok (tell_length n d len p))
    → (wants_ballot p.queue len ≡ true → G (new_ballot n d s len p))
    → ((b : Ballot) (pos : ℕ) (heard : List PromisingDesk) → p.role ≡ Gathering b pos heard
    → G (new_ballot n d s len p))
    → ((b : Ballot) (pos : ℕ) (f : Entry) (heard : List ℕ) → p.role ≡ Proposing b pos f heard
    → G (Ok (ask_again n d p b pos f heard)))
    → ((b : Ballot) → p.role ≡ Leading b → wants_ballot p.queue len ≡ true
    → G (Ok (ask_next n d len p b p.queue))) → G (tick n d s len p)
tick_cases G n d s len p says makes gathers proposes asks = by_role p.role refl
  where
    idle : G (tick_idle n d s len p)
    idle = by_test G (wants_ballot p.queue len) _ _ makes (λ t. says)

    by_role : (r : Role) → p.role ≡ r → G (tick_by_role n d s len p r)
    by_role Idle e = idle
    by_role (Gathering b pos heard) e = gathers b pos heard e
    by_role (Proposing b pos f heard) e = proposes b pos f heard e
    by_role (Leading b) e =
        by_test G (is_outbid s b) _ _ (λ o. idle)
        (λ o. by_test G (wants_ballot p.queue len) _ _ (λ t. asks b e t) (λ t. says))

-- a submission is refused, or its entry is queued
pub submit_cases : (G : Result Done Refusal → Type 0) (n d : ℕ) (x : Desk) (e : Entry)
    → G (Err Busy) → G (Err LogFull)
    → G (Ok (record { desk = record x { queue = x.queue ++ e ∷ [] }; messages = [] }))
    → G (step n d x (Submit e))
submit_cases G n d x e busy full queued =
    by_test (λ (r : Result Passing Refusal). G (passed x r)) (length x.queue == 64) (Err Busy)
    (if is_full (length x.log) then Err LogFull else taken) (λ t. busy) (λ t.
    by_test (λ (r : Result Passing Refusal). G (passed x r)) (is_full (length x.log)) (Err LogFull)
    taken (λ f. full) (λ f. queued))
  where
    taken : Result Passing Refusal
    taken = Ok (record { role = x.role; queue = x.queue ++ e ∷ []; seen = x.seen })
