-- A world that meets all that the laws ask: three desks, of which one has restarted, one has a
-- higher ballot than the others, and one has an old vote, and most of what they sent was lost (the
-- project's own). So the laws say something of it; and here are the turns.
use Rattle.std.specs.Prelude.{ℕ, ◌≡◌, List, [], ◌∷◌, Some, None}
use Rattle.acceptor.specs.declared.{ballot.Ballot.Ballot, entry.Entry.Entry}
use Rattle.proposer.specs.declared.role.Role.TheVariants.{Gathering, Idle, Proposing}
use Rattle.learner.specs.{Chosen.Has, Chosen.IsMajority, Worlds.World, Worlds.after}
use Rattle.learner.specs.{Desks.Desk, declared.event.WorldEvent.TheVariants.Deliver as DeliverNth}
use Rattle.learner.specs.declared.event.WorldEvent.{WorldEvent, TheVariants.Submit as SubmitAt}
use Rattle.learner.specs.declared.event.WorldEvent.TheVariants.{Start as StartAt, Tick as TickAt}
use Rattle.learner.specs.declared.event.WorldEvent.TheVariants.{Restart as RestartAt}
use Rattle.progress.specs.Progress.{HasRoom, CanDecide}
use Rattle.progress.specs.Turns.{HasTurnRoom, TurnsDecide, AreTurns, take_turns}

-- the entry of this id
abbrev pub entry : ℕ → Entry
entry id = record { id = id; text = 116 ∷ [] }

abbrev pub ballot : ℕ → ℕ → Ballot
ballot number desk = record { number = number; desk = desk }

-- Three desks make ballots, and most of what they say is lost.
abbrev pub tangle : List WorldEvent
tangle =
    -- desk 3 makes a ballot, which desk 2 and it promise, and votes for its entry; what it said to
    -- desk 1 and its Accept to desk 2 are lost
    SubmitAt 3 (entry 7) ∷ StartAt 3 ∷ DeliverNth 3 ∷ DeliverNth 2 ∷ DeliverNth 4 ∷ DeliverNth 5
    ∷ DeliverNth 8
    -- desk 2 makes a higher ballot, which it and desk 3 promise; both promises are lost
    ∷ SubmitAt 2 (entry 8) ∷ TickAt 2 ∷ DeliverNth 11 ∷ DeliverNth 12
    -- desk 1 makes a ballot, promises it, and restarts, which loses its queue
    ∷ SubmitAt 1 (entry 9) ∷ StartAt 1 ∷ DeliverNth 15 ∷ RestartAt 1 ∷ SubmitAt 1 (entry 9) ∷ []

abbrev pub tangled : World
tangled = after 3 tangle

-- what the desks know then
abbrev pub restarted_desk : Desk
restarted_desk = record {
  stored = record { promised = ballot 1 1; vote = None; tried = 1 };
  log = [];
  role = Idle;
  queue = entry 9 ∷ [];
  seen = 0;
}

abbrev pub rival_desk : Desk
rival_desk = record {
  stored = record { promised = ballot 2 2; vote = None; tried = 2 };
  log = [];
  role = Gathering (ballot 2 2) 0 [];
  queue = entry 8 ∷ [];
  seen = 0;
}

-- It still asks for votes for its ballot, and has promised the rival's.
abbrev pub outbid_desk : Desk
outbid_desk = record {
  stored = record {
    promised = ballot 2 2;
    vote = Some (record { pos = 0; ballot = ballot 1 3; entry = entry 7 });
    tried = 1;
  };
  log = [];
  role = Proposing (ballot 1 3) 0 (entry 7) [];
  queue = entry 7 ∷ [];
  seen = 0;
}

-- desk 1 and the desk with the old vote
abbrev pub these : List ℕ
these = 1 ∷ 3 ∷ []

-- Desk 1 is outbid by the rival's ballot, makes a higher one, has the old vote's entry decided, and
-- then its own, by these turns.
abbrev pub untangle : List WorldEvent
untangle =
    TickAt 1 ∷ DeliverNth 21 ∷ DeliverNth 22 ∷ TickAt 1 ∷ DeliverNth 25 ∷ DeliverNth 26
    ∷ DeliverNth 23 ∷ DeliverNth 27 ∷ DeliverNth 28 ∷ DeliverNth 31 ∷ DeliverNth 30
    ∷ DeliverNth 32 ∷ DeliverNth 34 ∷ DeliverNth 35 ∷ DeliverNth 39 ∷ DeliverNth 37
    ∷ DeliverNth 40 ∷ []

-- the world meets all premises of the laws, so a majority of it decides what desk 1 has queued; and
-- these turns do
pub record TangleIsDecided : Type 0 where
  pub restarted : tangled.desks 1 ≡ restarted_desk
  pub rival : tangled.desks 2 ≡ rival_desk
  pub outbid : tangled.desks 3 ≡ outbid_desk
  pub majority : IsMajority 3 these
  pub has : Has these 1
  pub room : HasRoom 1 these tangled 1
  pub turn_room : HasTurnRoom 1 these tangled 1
  pub decides : CanDecide 3 1 these tangled (entry 9 ∷ []) []
  pub turns : TurnsDecide 3 1 these tangled (entry 9 ∷ []) []
  pub helps : AreTurns 3 1 these 18 tangled untangle
  pub log : ((take_turns 3 tangled untangle).desks 1).log ≡ entry 7 ∷ entry 9 ∷ []
  pub queue : ((take_turns 3 tangled untangle).desks 1).queue ≡ []
