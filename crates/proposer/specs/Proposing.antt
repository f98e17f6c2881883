-- How a desk makes ballots and proposes: phases 1a and 2a of 'Paxos Made Simple', section 2.2, and
-- the count of votes of section 2.3. A ballot that a majority has promised serves later positions
-- too, as phase 1 does in section 3. In these, desk d of n has s in store, a log of length len, and
-- p as long as it runs.
use Rattle.std.specs.Prelude.{ℕ, Bool, false, if◌then◌else◌, Option, Result, nat_lt, nat_le, length}
use Rattle.std.specs.Prelude.{◌*◌, ◌+◌, max, not, List, [], ◌∷◌, ◌++◌, Some, None, Ok, Err, ◌==◌}
use Rattle.std.specs.List.{list_any}
use Rattle.acceptor.specs.declared.{ballot.Ballot.Ballot, entry.Entry.Entry, message.Report.Report}
use Rattle.acceptor.specs.declared.message.Body.TheVariants.{Prepare, Accept, Behind, Decided}
use Rattle.acceptor.specs.declared.stored.{Stored.Stored, Change.TheVariants.Tried}
use Rattle.acceptor.specs.Ballots.{is_below, is_same}
use Rattle.acceptor.specs.Messages.{has, desks_from, without, to_each, to_all, to_others}
use Rattle.proposer.specs.declared.{fault.Refusal.Refusal, plan.Plan.Plan}
use Rattle.proposer.specs.declared.fault.Refusal.TheVariants.{Busy, LogFull, BallotsSpent}
use Rattle.proposer.specs.declared.role.{PromisingDesk.PromisingDesk, Role.Role}
use Rattle.proposer.specs.declared.role.Role.TheVariants.{Idle, Gathering, Proposing, Leading}
use Rattle.proposer.specs.Plans.{Passing, only_say, become, append, give_way}

-- a log holds 65,536 entries
abbrev pub is_full : ℕ → Bool
is_full len = nat_le 65536 len

-- an entry that is submitted goes to the end of the queue, which holds 64
abbrev pub submit : ℕ → Passing → Entry → Result Passing Refusal
submit len p e =
    if length p.queue == 64
    then Err Busy
    else (if is_full len
    then Err LogFull
    else Ok (record { role = p.role; queue = p.queue ++ e ∷ []; seen = p.seen }))

-- more than half of n
abbrev pub is_majority : ℕ → ℕ → Bool
is_majority n count = nat_lt n (2 * count)

-- the greatest number that the desk knows of
abbrev pub last_number : Stored → Passing → ℕ
last_number s p = max (max s.tried s.promised.number) p.seen

-- the role, the change and the question of a new ballot
abbrev pub gather : ℕ → ℕ → Stored → ℕ → Passing → ℕ → Plan
gather n d s len p number =
    record {
      role = Some (Gathering (record { number = number; desk = d }) len []);
      seen = p.seen;
      drop_first = false;
      change = Some (Tried number);
      messages = to_all n d (Prepare (record { number = number; desk = d }) len);
    }

-- the next ballot, of a number above all that the desk knows of, where there is one
abbrev pub new_ballot : ℕ → ℕ → Stored → ℕ → Passing → Result Plan Refusal
new_ballot n d s len p =
    if last_number s p == 4294967295
    then Err BallotsSpent
    else Ok (gather n d s len p (last_number s p + 1))

-- the desk has promised a ballot above this one of its own
abbrev pub is_outbid : Stored → Ballot → Bool
is_outbid s own = is_below own s.promised

-- by this ballot, votes for this entry are asked of all desks
abbrev pub ask : ℕ → ℕ → Passing → Ballot → ℕ → Entry → Plan
ask n d p b pos e = become p (Proposing b pos e []) (to_all n d (Accept b pos e))

-- by a ballot that a majority has promised already, votes are asked for the first of the queue
abbrev pub ask_next : ℕ → ℕ → ℕ → Passing → Ballot → List Entry → Plan
ask_next n d len p b [] = only_say p []
ask_next n d len p b (e ∷ es) = ask n d p b len e

-- a desk that leads keeps its ballot, unless it is outbid
abbrev pub lead : ℕ → ℕ → Stored → ℕ → Passing → Ballot → Result Plan Refusal
lead n d s len p own =
    if is_outbid s own then new_ballot n d s len p else Ok (ask_next n d len p own p.queue)

-- at a Start of an idle desk
abbrev pub start_idle : ℕ → ℕ → Stored → ℕ → Passing → Result Plan Refusal
start_idle n d s len p = if is_full len then Err LogFull else new_ballot n d s len p

-- at a Start of a desk that leads
abbrev pub start_leading : ℕ → ℕ → Stored → ℕ → Passing → Ballot → Result Plan Refusal
start_leading n d s len p own = if is_full len then Err LogFull else lead n d s len p own

-- at a Start: an idle desk makes a ballot, and one that leads proposes by its own
abbrev pub start_by_role : ℕ → ℕ → Stored → ℕ → Passing → Role → Result Plan Refusal
start_by_role n d s len p Idle = start_idle n d s len p
start_by_role n d s len p (Gathering b pos heard) = Ok (only_say p [])
start_by_role n d s len p (Proposing b pos e heard) = Ok (only_say p [])
start_by_role n d s len p (Leading own) = start_leading n d s len p own

abbrev pub start : ℕ → ℕ → Stored → ℕ → Passing → Result Plan Refusal
start n d s len p = start_by_role n d s len p p.role

-- there is an entry to propose, and room for it in the log
abbrev pub wants_ballot : List Entry → ℕ → Bool
wants_ballot [] len = false
wants_ballot (e ∷ es) len = not (is_full len)

-- the other desks are told how long the log is
abbrev pub tell_length : ℕ → ℕ → ℕ → Passing → Plan
tell_length n d len p = only_say p (to_others n d (Behind len))

-- at a Tick of an idle desk: a ballot, or it says how long its log is
abbrev pub tick_idle : ℕ → ℕ → Stored → ℕ → Passing → Result Plan Refusal
tick_idle n d s len p =
    if wants_ballot p.queue len then new_ballot n d s len p else Ok (tell_length n d len p)

-- at a Tick of a desk that leads: as an idle one where it is outbid; else it proposes, or says how
-- long its log is
abbrev pub tick_leading : ℕ → ℕ → Stored → ℕ → Passing → Ballot → Result Plan Refusal
tick_leading n d s len p own =
    if is_outbid s own
    then tick_idle n d s len p
    else (if wants_ballot p.queue len
    then Ok (ask_next n d len p own p.queue)
    else Ok (tell_length n d len p))

-- at a Tick of a desk that proposes: the same Accept again to each desk not yet heard
abbrev pub ask_again : ℕ → ℕ → Passing → Ballot → ℕ → Entry → List ℕ → Plan
ask_again n d p b pos e heard =
    only_say p (to_each d (without (desks_from 1 n) heard) (Accept b pos e))

-- at a Tick: a desk that gathers promises makes another ballot
abbrev pub tick_by_role : ℕ → ℕ → Stored → ℕ → Passing → Role → Result Plan Refusal
tick_by_role n d s len p Idle = tick_idle n d s len p
tick_by_role n d s len p (Gathering b pos heard) = new_ballot n d s len p
tick_by_role n d s len p (Proposing b pos e heard) = Ok (ask_again n d p b pos e heard)
tick_by_role n d s len p (Leading own) = tick_leading n d s len p own

abbrev pub tick : ℕ → ℕ → Stored → ℕ → Passing → Result Plan Refusal
tick n d s len p = tick_by_role n d s len p p.role

-- the desk is among those heard
abbrev pub was_heard : List PromisingDesk → ℕ → Bool
was_heard hs d = list_any (λ h. h.desk == d) hs

-- of two reports the one of the higher ballot
abbrev pub higher : Option Report → Option Report → Option Report
higher None r = r
higher (Some r) None = Some r
higher (Some r) (Some s) = if is_below r.ballot s.ballot then Some s else Some r

-- the report of the highest ballot
abbrev pub highest : List PromisingDesk → Option Report
highest [] = None
highest (h ∷ hs) = higher h.vote (highest hs)

-- the entry to propose: the highest vote's, else the first of the queue
abbrev pub choice : Option Report → List Entry → Option Entry
choice (Some r) queue = Some r.entry
choice None (e ∷ es) = Some e
choice None [] = None

-- an entry is proposed to all desks; with none to propose the desk becomes idle
abbrev pub propose : ℕ → ℕ → Passing → Ballot → ℕ → Option Entry → Plan
propose n d p b pos None = become p Idle []
propose n d p b pos (Some e) = ask n d p b pos e

-- these desks have promised
abbrev pub promises_heard : ℕ → ℕ → Passing → Ballot → ℕ → List PromisingDesk → Plan
promises_heard n d p b pos heard =
    if is_majority n (length heard)
    then propose n d p b pos (choice (highest heard) p.queue)
    else become p (Gathering b pos heard) []

-- at a Promise: only one of the ballot and position that the desk gathers for, and of a desk not
-- yet heard, is recorded
abbrev pub promise_by_role : ℕ → ℕ → Passing → Role → ℕ → Ballot → ℕ → Option Report → Plan
promise_by_role n d p (Gathering own at heard) from b pos vote =
    if is_same own b
    then (if at == pos
    then (if was_heard heard from
    then only_say p []
    else promises_heard n d p own at (record { desk = from; vote = vote } ∷ heard))
    else only_say p [])
    else only_say p []
promise_by_role n d p _ from b pos vote = only_say p []

abbrev pub on_promise : ℕ → ℕ → Passing → ℕ → Ballot → ℕ → Option Report → Plan
on_promise n d p from b pos vote = promise_by_role n d p p.role from b pos vote

-- these desks have voted; once they are a majority, the desk leads by its ballot
abbrev pub votes_heard : ℕ → ℕ → Passing → Ballot → ℕ → Entry → List ℕ → Plan
votes_heard n d p b pos e heard =
    if is_majority n (length heard)
    then append p e (Leading b) (to_others n d (Decided pos e))
    else become p (Proposing b pos e heard) []

-- at an Accepted: only one of the ballot and position that the desk proposes for, and of a desk not
-- yet heard, is recorded
abbrev pub accepted_by_role : ℕ → ℕ → Passing → Role → ℕ → Ballot → ℕ → Plan
accepted_by_role n d p (Proposing own at e heard) from b pos =
    if is_same own b
    then (if at == pos
    then (if has heard from then only_say p [] else votes_heard n d p own at e (from ∷ heard))
    else only_say p [])
    else only_say p []
accepted_by_role n d p _ from b pos = only_say p []

abbrev pub on_accepted : ℕ → ℕ → Passing → ℕ → Ballot → ℕ → Plan
on_accepted n d p from b pos = accepted_by_role n d p p.role from b pos

-- the role's ballot is this one
abbrev pub is_ballot_of : Role → Ballot → Bool
is_ballot_of Idle b = false
is_ballot_of (Gathering own at heard) b = is_same own b
is_ballot_of (Proposing own at e heard) b = is_same own b
is_ballot_of (Leading own) b = is_same own b

-- at a Nack: where a ballot above the role's was promised elsewhere, the desk gives its own up
abbrev pub on_nack : Passing → Ballot → Ballot → Plan
on_nack p b promised =
    if is_ballot_of p.role b
    then (if is_below b promised then give_way p promised.number else only_say p [])
    else only_say p []
