-- Histories of desks, computed from the definitions.
use Rattle.std.proofs.Common.{◌≡◌, ℕ, zero, suc, List, [], ◌∷◌, ◌++◌, Some, None, Result, Ok, Err}
use Rattle.std.proofs.Common.{drop, refl}
use Rattle.std.specs.Prelude.{codes, replicate}
use Rattle.acceptor.specs.declared.{ballot.Ballot.Ballot, entry.Entry.Entry, message.Body.Body}
use Rattle.acceptor.specs.declared.message.Body.TheVariants.{Prepare, Promise, Accept, Accepted}
use Rattle.acceptor.specs.declared.message.Body.TheVariants.{Nack, Behind, Decided}
use Rattle.acceptor.specs.{declared.message.Message.Message, Storing.first_stored, Messages.message}
use Rattle.proposer.specs.declared.fault.Refusal.{Refusal}
use Rattle.proposer.specs.declared.fault.Refusal.TheVariants.{Busy, BallotsSpent}
use Rattle.proposer.specs.declared.role.Role.TheVariants.{Idle, Gathering, Proposing, Leading}
use Rattle.learner.specs.declared.event.DeskEvent.TheVariants.{Submit, Start, Deliver}
use Rattle.learner.specs.declared.event.WorldEvent.{WorldEvent, TheVariants.Submit as SubmitAt}
use Rattle.learner.specs.declared.event.WorldEvent.TheVariants.{Start as StartAt, Tick as TickAt}
use Rattle.learner.specs.{declared.event.WorldEvent.TheVariants.Deliver as DeliverNth, Steps.Done}
use Rattle.learner.specs.{declared.event.WorldEvent.TheVariants.Restart as RestartAt, Steps.on_body}
use Rattle.learner.specs.{Desks.Desk, Desks.first_desk, Steps.step, Worlds.after, Worlds.log_of}

abbrev pub a : Entry
a = record { id = 7; text = codes "REG 1 Ann Li" }

abbrev pub b : Entry
b = record { id = 8; text = codes "REG 2 Bo Ek" }

abbrev pub ballot : ℕ → ℕ → Ballot
ballot number desk = record { number = number; desk = desk }

abbrev pub deliver : List ℕ → List WorldEvent
deliver [] = []
deliver (k ∷ ks) = DeliverNth k ∷ deliver ks

-- One entry at desk 1, decided with desk 2; desk 3, which nothing has reached, asks and is told.
abbrev one_entry : List WorldEvent
one_entry =
    SubmitAt 1 a ∷ StartAt 1 ∷ deliver (1 ∷ 2 ∷ 4 ∷ 5 ∷ 6 ∷ 7 ∷ 9 ∷ 10 ∷ 11 ∷ []) ++ TickAt 3 ∷
    deliver (14 ∷ 16 ∷ [])

one_entry_sent : (after 3 one_entry).sent ≡ message 1 1 (Prepare (ballot 1 1) 0)
    ∷ message 1 2 (Prepare (ballot 1 1) 0) ∷ message 1 3 (Prepare (ballot 1 1) 0)
    ∷ message 1 1 (Promise (ballot 1 1) 0 None) ∷ message 2 1 (Promise (ballot 1 1) 0 None)
    ∷ message 1 1 (Accept (ballot 1 1) 0 a) ∷ message 1 2 (Accept (ballot 1 1) 0 a)
    ∷ message 1 3 (Accept (ballot 1 1) 0 a) ∷ message 1 1 (Accepted (ballot 1 1) 0)
    ∷ message 2 1 (Accepted (ballot 1 1) 0) ∷ message 1 2 (Decided 0 a) ∷ message 1 3 (Decided 0 a)
    ∷ message 2 1 (Behind 1) ∷ message 3 1 (Behind 0) ∷ message 3 2 (Behind 0)
    ∷ message 1 3 (Decided 0 a) ∷ message 3 1 (Behind 1) ∷ []
one_entry_sent = refl

one_entry_log_1 : log_of 3 one_entry 1 ≡ a ∷ []
one_entry_log_1 = refl

one_entry_log_2 : log_of 3 one_entry 2 ≡ a ∷ []
one_entry_log_2 = refl

one_entry_log_3 : log_of 3 one_entry 3 ≡ a ∷ []
one_entry_log_3 = refl

-- Desk 1 votes for its entry, and that is lost. Desk 2, with a higher ballot, hears of the vote and
-- proposes that entry; its own follows at the next position, by the same ballot.
abbrev taking_over : List WorldEvent
taking_over =
    SubmitAt 1 a ∷ StartAt 1 ∷ deliver (1 ∷ 2 ∷ 4 ∷ 5 ∷ 6 ∷ [])
    ++ SubmitAt 2 b ∷ StartAt 2 ∷ deliver (10 ∷ 11 ∷ 13 ∷ 14 ∷ [])

abbrev taken_over : List WorldEvent
taken_over =
    taking_over ++ deliver (15 ∷ 16 ∷ 18 ∷ 19 ∷ [])
    ++ StartAt 2 ∷ deliver (20 ∷ 22 ∷ 23 ∷ 26 ∷ 27 ∷ 28 ∷ [])

taken_over_sent : drop 8 (after 3 taken_over).sent ≡ message 1 1 (Accepted (ballot 1 1) 0)
    ∷ message 2 1 (Prepare (ballot 2 2) 0) ∷ message 2 2 (Prepare (ballot 2 2) 0)
    ∷ message 2 3 (Prepare (ballot 2 2) 0)
    ∷ message 1 2 (Promise (ballot 2 2) 0 (Some (record { ballot = ballot 1 1; entry = a })))
    ∷ message 2 2 (Promise (ballot 2 2) 0 None) ∷ message 2 1 (Accept (ballot 2 2) 0 a)
    ∷ message 2 2 (Accept (ballot 2 2) 0 a) ∷ message 2 3 (Accept (ballot 2 2) 0 a)
    ∷ message 1 2 (Accepted (ballot 2 2) 0) ∷ message 2 2 (Accepted (ballot 2 2) 0)
    ∷ message 2 1 (Decided 0 a) ∷ message 2 3 (Decided 0 a) ∷ message 2 1 (Accept (ballot 2 2) 1 b)
    ∷ message 2 2 (Accept (ballot 2 2) 1 b) ∷ message 2 3 (Accept (ballot 2 2) 1 b)
    ∷ message 1 2 (Behind 1) ∷ message 1 2 (Accepted (ballot 2 2) 1)
    ∷ message 2 2 (Accepted (ballot 2 2) 1) ∷ message 2 1 (Decided 1 b) ∷ message 2 3 (Decided 1 b)
    ∷ message 1 2 (Behind 2) ∷ []
taken_over_sent = refl

taken_over_log_1 : log_of 3 taken_over 1 ≡ a ∷ b ∷ []
taken_over_log_1 = refl

taken_over_log_2 : log_of 3 taken_over 2 ≡ a ∷ b ∷ []
taken_over_log_2 = refl

taken_over_log_3 : log_of 3 taken_over 3 ≡ []
taken_over_log_3 = refl

-- A desk that proposes asks again for the same entry, whatever waits first in its queue.
taking_over_queue : ((after 3 taking_over).desks 2).queue ≡ b ∷ []
taking_over_queue = refl

taking_over_tick : drop 17 (after 3 (taking_over ++ TickAt 2 ∷ [])).sent
    ≡ message 2 1 (Accept (ballot 2 2) 0 a) ∷ message 2 2 (Accept (ballot 2 2) 0 a)
    ∷ message 2 3 (Accept (ballot 2 2) 0 a) ∷ []
taking_over_tick = refl

-- Desk 1 has sent Accept and restarts. A late Accepted changes nothing and is not answered, the
-- queue is empty, and the next ballot is of a new number.
abbrev restarted_desk : List WorldEvent
restarted_desk =
    SubmitAt 1 a ∷ SubmitAt 1 b ∷ StartAt 1 ∷ deliver (1 ∷ 2 ∷ 4 ∷ 5 ∷ 6 ∷ 7 ∷ []) ++ RestartAt 1 ∷
    []

restarted_desk_late : (after 3 (restarted_desk ++ deliver (9 ∷ 10 ∷ []))).desks 1
    ≡ (after 3 restarted_desk).desks 1
restarted_desk_late = refl

restarted_desk_unanswered : (after 3 (restarted_desk ++ deliver (9 ∷ 10 ∷ []))).sent
    ≡ (after 3 restarted_desk).sent
restarted_desk_unanswered = refl

restarted_desk_queue : ((after 3 restarted_desk).desks 1).queue ≡ []
restarted_desk_queue = refl

restarted_desk_vote : ((after 3 restarted_desk).desks 1).stored ≡ record {
  promised = ballot 1 1;
  vote = Some (record { pos = 0; ballot = ballot 1 1; entry = a });
  tried = 1;
}
restarted_desk_vote = refl

restarted_desk_role : ((after 3 (restarted_desk ++ StartAt 1 ∷ [])).desks 1).role
    ≡ Gathering (ballot 2 1) 0 []
restarted_desk_role = refl

-- The vote of a position that is decided is still stored, and is not reported for the next one.
abbrev next_position : List WorldEvent
next_position = one_entry ++ SubmitAt 2 b ∷ StartAt 2 ∷ DeliverNth 18 ∷ []

next_position_sent : drop 17 (after 3 next_position).sent ≡ message 2 1 (Prepare (ballot 2 2) 1)
    ∷ message 2 2 (Prepare (ballot 2 2) 1) ∷ message 2 3 (Prepare (ballot 2 2) 1)
    ∷ message 1 2 (Promise (ballot 2 2) 1 None) ∷ []
next_position_sent = refl

next_position_vote : ((after 3 next_position).desks 1).stored.vote
    ≡ Some (record { pos = 0; ballot = ballot 1 1; entry = a })
next_position_vote = refl

abbrev desk_of : Result Done Refusal → Desk
desk_of (Ok r) = r.desk
desk_of (Err why) = first_desk

-- desk 1 after one entry
abbrev desk_1 : Desk
desk_1 =
    record {
      stored =
          record {
            promised = ballot 1 1;
            vote = Some (record { pos = 0; ballot = ballot 1 1; entry = a });
            tried = 1;
          };
      log = a ∷ [];
      role = Leading (ballot 1 1);
      queue = [];
      seen = 0;
    }

one_entry_stored : ((after 3 one_entry).desks 1).stored ≡ desk_1.stored
one_entry_stored = refl

one_entry_role : ((after 3 one_entry).desks 1).role ≡ Leading (ballot 1 1)
one_entry_role = refl

one_entry_queue : ((after 3 one_entry).desks 1).queue ≡ []
one_entry_queue = refl

-- that desk at one more message
abbrev answer : ℕ → Body → Result Done Refusal
answer from body = step 3 1 desk_1 (Deliver (message from 1 body))

-- it stays as it is, and sends this
abbrev says : List Message → Result Done Refusal
says messages = Ok (record { desk = desk_1; messages = messages })

-- a question for an earlier position is answered by the entry there, and one for a later position
-- by the log's length
earlier_position : answer 2 (Prepare (ballot 2 2) 0) ≡ says (message 1 2 (Decided 0 a) ∷ [])
earlier_position = refl

earlier_position_of_3 : answer 3 (Prepare (ballot 1 3) 0) ≡ says (message 1 3 (Decided 0 a) ∷ [])
earlier_position_of_3 = refl

later_position : answer 2 (Prepare (ballot 2 2) 3) ≡ says (message 1 2 (Behind 1) ∷ [])
later_position = refl

earlier_accept : answer 2 (Accept (ballot 2 2) 0 b) ≡ says (message 1 2 (Decided 0 a) ∷ [])
earlier_accept = refl

later_accept : answer 2 (Accept (ballot 2 2) 3 b) ≡ says (message 1 2 (Behind 1) ∷ [])
later_accept = refl

-- a ballot that is not above the promised one gets a Nack, and a vote needs one that is not below
-- it
low_prepare : answer 2 (Prepare (ballot 1 1) 1)
    ≡ says (message 1 2 (Nack (ballot 1 1) 1 (ballot 1 1)) ∷ [])
low_prepare = refl

abbrev promised_desk : Desk
promised_desk = record desk_1 { stored = record { promised = ballot 2 2; vote = None; tried = 1 } }

low_accept : step 3 1 promised_desk (Deliver (message 3 1 (Accept (ballot 1 3) 1 b))) ≡ Ok (record {
  desk = promised_desk;
  messages = message 1 3 (Nack (ballot 1 3) 1 (ballot 2 2)) ∷ [];
})
low_accept = refl

-- an earlier entry changes nothing, a later one is answered by the log's length
earlier_decided : answer 2 (Decided 0 a) ≡ says []
earlier_decided = refl

later_decided : answer 2 (Decided 2 b) ≡ says (message 1 2 (Behind 1) ∷ [])
later_decided = refl

equal_behind : answer 2 (Behind 1) ≡ says []
equal_behind = refl

longer_behind : answer 2 (Behind 5) ≡ says (message 1 2 (Behind 1) ∷ [])
longer_behind = refl

-- a ballot of number 0, and a position past the last, are not heeded
number_zero : answer 2 (Prepare (ballot 0 1) 0) ≡ says []
number_zero = refl

past_the_last : answer 2 (Decided 65536 b) ≡ says []
past_the_last = refl

no_such_sender : answer 4 (Prepare (ballot 2 2) 0) ≡ says []
no_such_sender = refl

-- Of five desks, one that promises three times counts once, and the third distinct one completes
-- the majority.
abbrev five_desks : List WorldEvent
five_desks = SubmitAt 1 a ∷ StartAt 1 ∷ deliver (1 ∷ 2 ∷ 3 ∷ 7 ∷ 7 ∷ 7 ∷ 6 ∷ [])

five_desks_heard : ((after 5 five_desks).desks 1).role ≡ Gathering (ballot 1 1) 0
    (record { desk = 1; vote = None } ∷ record { desk = 2; vote = None } ∷ [])
five_desks_heard = refl

five_desks_majority : ((after 5 (five_desks ++ DeliverNth 8 ∷ [])).desks 1).role
    ≡ Proposing (ballot 1 1) 0 a []
five_desks_majority = refl

-- A Nack with a higher ballot ends the ballot, and the next one is above it. One that is no higher
-- does not.
abbrev gathers : List WorldEvent
gathers = SubmitAt 1 a ∷ StartAt 1 ∷ []

abbrev gathering_desk : Desk
gathering_desk =
    record {
      stored = record { promised = ballot 0 0; vote = None; tried = 1 };
      log = [];
      role = Gathering (ballot 1 1) 0 [];
      queue = a ∷ [];
      seen = 0;
    }

gathers_stored : ((after 3 gathers).desks 1).stored ≡ gathering_desk.stored
gathers_stored = refl

gathers_role : ((after 3 gathers).desks 1).role ≡ gathering_desk.role
gathers_role = refl

abbrev idle_desk : Desk
idle_desk =
    record {
      stored = record { promised = ballot 0 0; vote = None; tried = 1 };
      log = [];
      role = Idle;
      queue = a ∷ [];
      seen = 4;
    }

higher_nack : step 3 1 gathering_desk (Deliver (message 2 1 (Nack (ballot 1 1) 0 (ballot 4 2))))
    ≡ Ok (record { desk = idle_desk; messages = [] })
higher_nack = refl

next_ballot : (desk_of (step 3 1 idle_desk Start)).role ≡ Gathering (ballot 5 1) 0 []
next_ballot = refl

equal_nack : step 3 1 gathering_desk (Deliver (message 2 1 (Nack (ballot 1 1) 0 (ballot 1 1))))
    ≡ Ok (record { desk = gathering_desk; messages = [] })
equal_nack = refl

-- At a Tick a desk that gathers makes a new ballot, one that proposes asks those again that it has
-- not heard, and an idle one with nothing to propose tells its log's length.
tick_gathering : drop 3 (after 3 (gathers ++ TickAt 1 ∷ [])).sent
    ≡ message 1 1 (Prepare (ballot 2 1) 0) ∷ message 1 2 (Prepare (ballot 2 1) 0)
    ∷ message 1 3 (Prepare (ballot 2 1) 0) ∷ []
tick_gathering = refl

tick_proposing : drop 9
    (after 3 (gathers ++ deliver (1 ∷ 2 ∷ 4 ∷ 5 ∷ 7 ∷ 9 ∷ []) ++ TickAt 1 ∷ [])).sent
    ≡ message 1 1 (Accept (ballot 1 1) 0 a) ∷ message 1 3 (Accept (ballot 1 1) 0 a) ∷ []
tick_proposing = refl

tick_idle_queue : (after 3 (SubmitAt 2 b ∷ TickAt 2 ∷ [])).sent
    ≡ message 2 1 (Prepare (ballot 1 2) 0) ∷ message 2 2 (Prepare (ballot 1 2) 0)
    ∷ message 2 3 (Prepare (ballot 1 2) 0) ∷ []
tick_idle_queue = refl

-- a majority that promises to a desk with nothing to propose leaves it idle
nothing_to_propose : ((after 3 (StartAt 1 ∷ deliver (1 ∷ 2 ∷ 4 ∷ 5 ∷ []))).desks 1).role ≡ Idle
nothing_to_propose = refl

-- a queue of 64 is Busy, and after the last number there is no ballot
abbrev busy_desk : Desk
busy_desk = record first_desk { queue = replicate 64 a }

busy : step 3 1 busy_desk (Submit b) ≡ Err Busy
busy = refl

abbrev spent_desk : Desk
spent_desk = record first_desk { stored = record first_stored { tried = 4294967295 } }

spent : step 3 1 spent_desk Start ≡ Err BallotsSpent
spent = refl

-- A desk with 40 entries tells one that has 10 the next 16, one that has 30 the last 10, and one
-- that has all of them nothing.
abbrev entry_at : ℕ → Entry
entry_at pos = record { id = suc pos; text = codes "CLOSE 333 1" }

abbrev entries_at : ℕ → ℕ → List Entry
entries_at pos zero = []
entries_at pos (suc count) = entry_at pos ∷ entries_at (suc pos) count

abbrev desk_of_40 : Desk
desk_of_40 = record first_desk { log = entries_at 0 40 }

abbrev tells : List ℕ → List Message
tells [] = []
tells (pos ∷ rest) = message 1 2 (Decided pos (entry_at pos)) ∷ tells rest

told_sixteen : (on_body 3 1 desk_of_40 2 (Behind 10)).messages
    ≡ tells (10 ∷ 11 ∷ 12 ∷ 13 ∷ 14 ∷ 15 ∷ 16 ∷ 17 ∷ 18 ∷ 19 ∷ 20 ∷ 21 ∷ 22 ∷ 23 ∷ 24 ∷ 25 ∷ [])
told_sixteen = refl

told_the_last : (on_body 3 1 desk_of_40 2 (Behind 30)).messages
    ≡ tells (30 ∷ 31 ∷ 32 ∷ 33 ∷ 34 ∷ 35 ∷ 36 ∷ 37 ∷ 38 ∷ 39 ∷ [])
told_the_last = refl

told_nothing_more : (on_body 3 1 desk_of_40 2 (Behind 40)).messages ≡ []
told_nothing_more = refl
