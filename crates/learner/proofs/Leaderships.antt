-- Histories of desks that keep their leadership, computed from the definitions.
use Rattle.std.proofs.Common.{◌≡◌, List, [], ◌∷◌, ◌++◌, Some, None, Ok, Err, drop, false, refl}
use Rattle.std.specs.Prelude.{codes}
use Rattle.acceptor.specs.declared.{ballot.Ballot.Ballot, entry.Entry.Entry, stored.Stored.Stored}
use Rattle.acceptor.specs.declared.message.Body.TheVariants.{Prepare, Promise, Accept, Accepted}
use Rattle.acceptor.specs.declared.message.Body.TheVariants.{Behind, Decided}
use Rattle.acceptor.specs.Messages.{message}
use Rattle.proposer.specs.declared.fault.Refusal.TheVariants.{LogFull, BallotsSpent}
use Rattle.proposer.specs.declared.role.Role.TheVariants.{Idle, Proposing, Leading}
use Rattle.proposer.specs.Plans.{Passing, only_say}
use Rattle.proposer.specs.Proposing.{start, tick, gather}
use Rattle.learner.specs.declared.event.WorldEvent.{WorldEvent, TheVariants.Submit as SubmitAt}
use Rattle.learner.specs.declared.event.WorldEvent.TheVariants.{Start as StartAt, Tick as TickAt}
use Rattle.learner.specs.declared.event.WorldEvent.TheVariants.{Deliver as DeliverNth}
use Rattle.learner.specs.Worlds.{after, log_of}
use Rattle.learner.proofs.Histories.{a, b, ballot, deliver}

abbrev c : Entry
c = record { id = 9; text = codes "REG 3 Cy Yu" }

-- One Prepare for two entries: desk 1 decides its first with desk 2, and asks for votes for its
-- second by the same ballot. Desk 2 votes for it once it has learned the first.
abbrev two_entries : List WorldEvent
two_entries =
    SubmitAt 1 a ∷ SubmitAt 1 b ∷ StartAt 1
    ∷ deliver (1 ∷ 2 ∷ 4 ∷ 5 ∷ 6 ∷ 7 ∷ 9 ∷ 10 ∷ []) ++ StartAt 1
    ∷ deliver (13 ∷ 11 ∷ 14 ∷ 16 ∷ 18 ∷ [])

two_entries_sent : (after 3 two_entries).sent ≡ message 1 1 (Prepare (ballot 1 1) 0)
    ∷ message 1 2 (Prepare (ballot 1 1) 0) ∷ message 1 3 (Prepare (ballot 1 1) 0)
    ∷ message 1 1 (Promise (ballot 1 1) 0 None) ∷ message 2 1 (Promise (ballot 1 1) 0 None)
    ∷ message 1 1 (Accept (ballot 1 1) 0 a) ∷ message 1 2 (Accept (ballot 1 1) 0 a)
    ∷ message 1 3 (Accept (ballot 1 1) 0 a) ∷ message 1 1 (Accepted (ballot 1 1) 0)
    ∷ message 2 1 (Accepted (ballot 1 1) 0) ∷ message 1 2 (Decided 0 a) ∷ message 1 3 (Decided 0 a)
    ∷ message 1 1 (Accept (ballot 1 1) 1 b) ∷ message 1 2 (Accept (ballot 1 1) 1 b)
    ∷ message 1 3 (Accept (ballot 1 1) 1 b) ∷ message 1 1 (Accepted (ballot 1 1) 1)
    ∷ message 2 1 (Behind 1) ∷ message 2 1 (Accepted (ballot 1 1) 1) ∷ message 1 2 (Decided 1 b)
    ∷ message 1 3 (Decided 1 b) ∷ []
two_entries_sent = refl

two_entries_log_1 : log_of 3 two_entries 1 ≡ a ∷ b ∷ []
two_entries_log_1 = refl

two_entries_log_2 : log_of 3 two_entries 2 ≡ a ∷ []
two_entries_log_2 = refl

two_entries_log_3 : log_of 3 two_entries 3 ≡ []
two_entries_log_3 = refl

two_entries_role : ((after 3 two_entries).desks 1).role ≡ Leading (ballot 1 1)
two_entries_role = refl

-- Desk 1 leads with an entry queued, and then promises a higher ballot: its Start makes a new
-- ballot.
abbrev leading : List WorldEvent
leading =
    SubmitAt 1 a ∷ SubmitAt 1 b ∷ StartAt 1 ∷ deliver (1 ∷ 2 ∷ 4 ∷ 5 ∷ 6 ∷ 7 ∷ 9 ∷ 10 ∷ [])

leading_role : ((after 3 leading).desks 1).role ≡ Leading (ballot 1 1)
leading_role = refl

leading_queue : ((after 3 leading).desks 1).queue ≡ b ∷ []
leading_queue = refl

-- desk 2 learns the first entry, and makes a ballot of its own, which desk 1 promises
abbrev outbid : List WorldEvent
outbid = leading ++ DeliverNth 11 ∷ StartAt 2 ∷ DeliverNth 14 ∷ []

outbid_promise : drop 12 (after 3 outbid).sent ≡ message 2 1 (Behind 1)
    ∷ message 2 1 (Prepare (ballot 2 2) 1) ∷ message 2 2 (Prepare (ballot 2 2) 1)
    ∷ message 2 3 (Prepare (ballot 2 2) 1) ∷ message 1 2 (Promise (ballot 2 2) 1 None) ∷ []
outbid_promise = refl

outbid_role : ((after 3 outbid).desks 1).role ≡ Leading (ballot 1 1)
outbid_role = refl

outbid_start : drop 17 (after 3 (outbid ++ StartAt 1 ∷ [])).sent
    ≡ message 1 1 (Prepare (ballot 3 1) 1) ∷ message 1 2 (Prepare (ballot 3 1) 1)
    ∷ message 1 3 (Prepare (ballot 3 1) 1) ∷ []
outbid_start = refl

outbid_tick : drop 17 (after 3 (outbid ++ TickAt 1 ∷ [])).sent
    ≡ message 1 1 (Prepare (ballot 3 1) 1) ∷ message 1 2 (Prepare (ballot 3 1) 1)
    ∷ message 1 3 (Prepare (ballot 3 1) 1) ∷ []
outbid_tick = refl

-- What a desk that leads does at a Start and at a Tick: it has this in store, and this queue.
abbrev once_leading : List Entry → Passing
once_leading queue = record { role = Leading (ballot 1 1); queue = queue; seen = 0 }

abbrev with_promise : Ballot → Stored
with_promise top = record { promised = top; vote = None; tried = 1 }

-- not outbid: it asks for votes for the first of its queue, and with none it does nothing, or tells
-- its length
leader_start : start 3 1 (with_promise (ballot 1 1)) 1 (once_leading (b ∷ a ∷ [])) ≡ Ok (record {
  role = Some (Proposing (ballot 1 1) 1 b []);
  seen = 0;
  drop_first = false;
  change = None;
  messages =
      message 1 1 (Accept (ballot 1 1) 1 b) ∷ message 1 2 (Accept (ballot 1 1) 1 b)
      ∷ message 1 3 (Accept (ballot 1 1) 1 b) ∷ [];
})
leader_start = refl

leader_tick : tick 3 1 (with_promise (ballot 1 1)) 1 (once_leading (b ∷ a ∷ []))
    ≡ start 3 1 (with_promise (ballot 1 1)) 1 (once_leading (b ∷ a ∷ []))
leader_tick = refl

leader_start_nothing : start 3 1 (with_promise (ballot 1 1)) 1 (once_leading [])
    ≡ Ok (only_say (once_leading []) [])
leader_start_nothing = refl

leader_tick_nothing : tick 3 1 (with_promise (ballot 1 1)) 1 (once_leading [])
    ≡ Ok (only_say (once_leading []) (message 1 2 (Behind 1) ∷ message 1 3 (Behind 1) ∷ []))
leader_tick_nothing = refl

-- outbid with nothing queued: a Start makes a new ballot, a Tick tells its length
outbid_start_nothing : start 3 1 (with_promise (ballot 2 2)) 1 (once_leading [])
    ≡ Ok (gather 3 1 (with_promise (ballot 2 2)) 1 (once_leading []) 3)
outbid_start_nothing = refl

outbid_tick_nothing : tick 3 1 (with_promise (ballot 2 2)) 1 (once_leading [])
    ≡ Ok (only_say (once_leading []) (message 1 2 (Behind 1) ∷ message 1 3 (Behind 1) ∷ []))
outbid_tick_nothing = refl

-- at a full log: a Start is LogFull, outbid or not, and a Tick tells its length
full_start : start 3 1 (with_promise (ballot 1 1)) 65536 (once_leading (b ∷ [])) ≡ Err LogFull
full_start = refl

full_start_outbid : start 3 1 (with_promise (ballot 4294967295 2)) 65536 (once_leading (b ∷ []))
    ≡ Err LogFull
full_start_outbid = refl

full_tick : tick 3 1 (with_promise (ballot 1 1)) 65536 (once_leading (b ∷ []))
    ≡ Ok (only_say (once_leading (b ∷ []))
    (message 1 2 (Behind 65536) ∷ message 1 3 (Behind 65536) ∷ []))
full_tick = refl

-- a kept ballot needs no further number; an outbid leader does
kept_though_spent : start 3 1 (record { promised = ballot 1 1; vote = None; tried = 4294967295 }) 1
    (once_leading []) ≡ Ok (only_say (once_leading []) [])
kept_though_spent = refl

outbid_and_spent : start 3 1 (with_promise (ballot 4294967295 2)) 1 (once_leading (b ∷ []))
    ≡ Err BallotsSpent
outbid_and_spent = refl

-- Two desks lead in turn. The first is outbid while it has an entry queued; it learns what the
-- second has decided, is idle, and keeps its entry, which it decides at the position after that.
abbrev second_leader : List WorldEvent
second_leader =
    leading ++ SubmitAt 2 c ∷ DeliverNth 11 ∷ StartAt 2
    ∷ deliver (14 ∷ 15 ∷ 17 ∷ 18 ∷ 19 ∷ 20 ∷ 22 ∷ 23 ∷ 24 ∷ [])

second_leader_role : ((after 3 second_leader).desks 2).role ≡ Leading (ballot 2 2)
second_leader_role = refl

first_leader_role : ((after 3 second_leader).desks 1).role ≡ Idle
first_leader_role = refl

first_leader_queue : ((after 3 second_leader).desks 1).queue ≡ b ∷ []
first_leader_queue = refl

abbrev first_again : List WorldEvent
first_again =
    second_leader ++ StartAt 1 ∷ deliver (27 ∷ 28 ∷ 30 ∷ 31 ∷ 32 ∷ 33 ∷ 35 ∷ 36 ∷ 37 ∷ [])

first_again_sent : drop 25 (after 3 first_again).sent ≡ message 1 2 (Behind 2)
    ∷ message 1 1 (Prepare (ballot 3 1) 2) ∷ message 1 2 (Prepare (ballot 3 1) 2)
    ∷ message 1 3 (Prepare (ballot 3 1) 2) ∷ message 1 1 (Promise (ballot 3 1) 2 None)
    ∷ message 2 1 (Promise (ballot 3 1) 2 None) ∷ message 1 1 (Accept (ballot 3 1) 2 b)
    ∷ message 1 2 (Accept (ballot 3 1) 2 b) ∷ message 1 3 (Accept (ballot 3 1) 2 b)
    ∷ message 1 1 (Accepted (ballot 3 1) 2) ∷ message 2 1 (Accepted (ballot 3 1) 2)
    ∷ message 1 2 (Decided 2 b) ∷ message 1 3 (Decided 2 b) ∷ message 2 1 (Behind 3) ∷ []
first_again_sent = refl

first_again_log_1 : log_of 3 first_again 1 ≡ a ∷ c ∷ b ∷ []
first_again_log_1 = refl

first_again_log_2 : log_of 3 first_again 2 ≡ a ∷ c ∷ b ∷ []
first_again_log_2 = refl
