-- That no desk is stuck: from every world that any events have led to, every majority of the desks
-- whose logs have room, and that has enough numbers left, can decide what a desk of it has queued,
-- by Ticks of that desk and messages that are sent from then on among that majority (the project's
-- own).
use Rattle.std.specs.Prelude.{ℕ, suc, ◌≡◌, ◌≤◌, ◌<◌, ◌+◌, ◌-◌, ◌*◌, max, List, [], ◌∷◌, ◌++◌}
use Rattle.std.specs.Prelude.{Option, Some, None, length, slice_get}
use Rattle.acceptor.specs.declared.{entry.Entry.Entry, message.Message.Message}
use Rattle.learner.specs.declared.event.WorldEvent.{WorldEvent, TheVariants.Tick as TickAt}
use Rattle.learner.specs.declared.event.WorldEvent.TheVariants.{Deliver as DeliverNth}
use Rattle.learner.specs.Chosen.{Has, IsMajority}
use Rattle.learner.specs.Worlds.{World, nth_sent, happens, run, after}

-- there is such a message, from one of these desks to one of these
abbrev pub IsAmong : List ℕ → Option Message → Type 0
IsAmong desks None = ⊥
IsAmong desks (Some m) = Has desks m.from × Has desks m.to

-- desk d ticks, or a message comes that was sent after the first `start`, from one of these desks
-- to one of these
abbrev pub IsHelp : ℕ → List ℕ → ℕ → World → WorldEvent → Type 0
IsHelp d desks start w (TickAt k) = k ≡ d
IsHelp d desks start w (DeliverNth k) = (start < k) × IsAmong desks (nth_sent w.sent k)
IsHelp d desks start w _ = ⊥

-- each of the events is, in the world in which it happens
abbrev pub AreHelp : ℕ → ℕ → List ℕ → ℕ → World → List WorldEvent → Type 0
AreHelp n d desks start w [] = Unit {0}
AreHelp n d desks start w (e ∷ es) =
    IsHelp d desks start w e × AreHelp n d desks start (happens n w e) es

-- the entries are in the log at this position or later ones, in their order
abbrev pub StandFrom : ℕ → List Entry → List Entry → Type 0
StandFrom from [] log = Unit {0}
StandFrom from (e ∷ es) log =
    (at : ℕ) × (from ≤ at) × (slice_get log at ≡ Some e) × StandFrom (suc at) es log

-- the length of the longest log of these desks
abbrev pub longest : World → List ℕ → ℕ
longest w [] = 0
longest w (k ∷ ks) = max (length (w.desks k).log) (longest w ks)

-- how many entries these desks lack of logs of that length
abbrev pub lacking : World → ℕ → List ℕ → ℕ
lacking w len [] = 0
lacking w len (k ∷ ks) = (len - length (w.desks k).log) + lacking w len ks

-- this many events are enough for this many entries
abbrev pub enough : World → List ℕ → ℕ → ℕ
enough w desks count = 2 * lacking w (longest w desks) desks + count * (19 * length desks + 10)

-- with such events alone, and no more of them than that, these entries come to be in desk d's log,
-- past what is there, and these are left in its queue
pub record CanDecide (n d : ℕ) (desks : List ℕ) (w : World) (es rest : List Entry) : Type 0 where
  pub events : List WorldEvent
  pub help : AreHelp n d desks (length w.sent) w events
  pub few : length events ≤ enough w desks (length es)
  pub decided : StandFrom (length (w.desks d).log) es ((run n w events).desks d).log
  pub queue : ((run n w events).desks d).queue ≡ rest

-- each log of these desks has room for twice as many entries, and above the numbers that they have
-- promised, and that desk d has tried or seen, twice as many are left
pub record HasRoom (d : ℕ) (desks : List ℕ) (w : World) (count : ℕ) : Type 0 where
  pub logs : (k : ℕ) → Has desks k → length (w.desks k).log + 2 * count ≤ 65536
  pub promised : (k : ℕ) → Has desks k → (w.desks k).stored.promised.number + 2 * count ≤ 4294967295
  pub tried : (w.desks d).stored.tried + 2 * count ≤ 4294967295
  pub seen : (w.desks d).seen + 2 * count ≤ 4294967295

-- whatever happened, every majority can decide what a desk of it has first in its queue
abbrev pub NoDeskIsStuck : Type 0
NoDeskIsStuck =
    (n : ℕ) (past : List WorldEvent) (d : ℕ) (desks : List ℕ) (e : Entry) (rest : List Entry)
    → IsMajority n desks → Has desks d → ((after n past).desks d).queue ≡ e ∷ rest
    → HasRoom d desks (after n past) 1 → CanDecide n d desks (after n past) (e ∷ []) rest

-- and the first entries of its queue, as many as there is room for
abbrev pub NoQueueIsStuck : Type 0
NoQueueIsStuck =
    (n : ℕ) (past : List WorldEvent) (d : ℕ) (desks : List ℕ) (es rest : List Entry)
    → IsMajority n desks → Has desks d → ((after n past).desks d).queue ≡ es ++ rest
    → HasRoom d desks (after n past) (length es) → CanDecide n d desks (after n past) es rest
