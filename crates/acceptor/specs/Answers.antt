-- What a desk stores and answers at a Prepare and at an Accept: phases 1b and 2b of 'Paxos Made
-- Simple', section 2.2. Own rule: a desk promises and votes at its log's length alone, so that the
-- log has no gap.
use Rattle.std.specs.Prelude.{ℕ, if◌then◌else◌, Option, Some, None, ◌==◌, option_map}
use Rattle.acceptor.specs.declared.{ballot.Ballot.Ballot, entry.Entry.Entry, steps.LogView.LogView}
use Rattle.acceptor.specs.declared.message.{Report.Report, Body.Body, Body.TheVariants.Behind}
use Rattle.acceptor.specs.declared.message.Body.TheVariants.{Promise, Accepted, Nack, Decided}
use Rattle.acceptor.specs.declared.stored.{Vote.Vote, Stored.Stored, Change.Change}
use Rattle.acceptor.specs.declared.stored.Change.TheVariants.{Promised, Voted}
use Rattle.acceptor.specs.Ballots.{is_below}

-- the change to store, and the answer to the sender
pub record Reply : Type 0 where
  pub change : Option Change
  pub body : Body

-- the vote, where it was given at this position
abbrev pub reported : Option Vote → ℕ → Option Report
reported None pos = None
reported (Some v) pos =
    if v.pos == pos then Some (record { ballot = v.ballot; entry = v.entry }) else None

-- an entry that is there is told, and a position past the log's end is answered by its length
abbrev pub elsewhere : Option Entry → ℕ → ℕ → Reply
elsewhere (Some e) len pos = record { change = None; body = Decided pos e }
elsewhere None len pos = record { change = None; body = Behind len }

-- a ballot above the promised one is promised, and the vote at this position reported
abbrev pub prepare_here : Stored → Ballot → ℕ → Reply
prepare_here s b pos =
    if is_below s.promised b
    then record { change = Some (Promised b); body = Promise b pos (reported s.vote pos) }
    else record { change = None; body = Nack b pos s.promised }

-- len is the log's length, and there the entry at the position, where there is one
abbrev pub prepare_reply : Stored → ℕ → Option Entry → Ballot → ℕ → Reply
prepare_reply s len there b pos =
    if pos == len then prepare_here s b pos else elsewhere there len pos

-- a ballot that is not below the promised one gets the vote
abbrev pub accept_here : Stored → Ballot → ℕ → Entry → Reply
accept_here s b pos e =
    if is_below b s.promised
    then record { change = None; body = Nack b pos s.promised }
    else record {
      change = Some (Voted (record { pos = pos; ballot = b; entry = e }));
      body = Accepted b pos;
    }

abbrev pub accept_reply : Stored → ℕ → Option Entry → Ballot → ℕ → Entry → Reply
accept_reply s len there b pos e =
    if pos == len then accept_here s b pos e else elsewhere there len pos

-- the entry at the asked position of a desk's log, where there is one
abbrev pub entry_there : LogView → Option Entry
entry_there here = option_map (λ e. e.now) here.entry

-- what a desk with this log stores and answers when it is asked for a promise
abbrev pub promise_reply : Stored → LogView → Ballot → ℕ → Reply
promise_reply s here b pos = prepare_reply s here.len (entry_there here) b pos

-- what it stores and answers when it is asked for its vote
abbrev pub vote_reply : Stored → LogView → Ballot → ℕ → Entry → Reply
vote_reply s here b pos e = accept_reply s here.len (entry_there here) b pos e
