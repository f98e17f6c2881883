-- What the desks of a hall agree on: their logs, their answers, and their sheets (the safety of
-- 'Paxos Made Simple', section 2.1, of every position, and what follows of it here).
use Rattle.std.specs.Prelude.{ℕ, ◌≡◌, ◌≤◌, ◌<◌, ◌⊎◌, List, Some, slice_get, take, length}
use Rattle.acceptor.specs.declared.entry.Entry.{Entry}
use Rattle.texts.specs.declared.answer.Answer.{Answer}
use Rattle.formats.specs.declared.{events.Event.Event, styles.SheetStyle.SheetStyle as Style}
use Rattle.learner.specs.{declared.event.WorldEvent.WorldEvent, Laws.IsPrefix, Worlds.log_of}
use Rattle.learner.specs.Submitted.{IsSubmitted}
use Rattle.answers.specs.{Answers.told, Answers.sheet_at, declared.answers.IdState.TheVariants.Done}

-- the log of desk d after the first i of these events
abbrev pub log_at : ℕ → List WorldEvent → ℕ → ℕ → List Entry
log_at n events i d = log_of n (take i events) d

-- Two desks d and k, or one desk twice, at two moments, after the first i and after the first j
-- events:
pub record Agreement (n : ℕ) (events : List WorldEvent) : Type 0 where
  -- of the two logs one is a prefix of the other
  pub logs : (i j d k : ℕ) → IsPrefix (log_at n events i d) (log_at n events j k)
      ⊎ IsPrefix (log_at n events j k) (log_at n events i d)
  -- every entry of a log was submitted before, by an event whose desk took it
  pub submitted : (i d pos : ℕ) (e : Entry) → slice_get (log_at n events i d) pos ≡ Some e
      → IsSubmitted n (take i events) e
  -- at a position that both logs have, the Regulations' sheet for the accepted commands of the one
  -- log up to there is, byte for byte, that for the other
  pub sheets : (i j d k position : ℕ) (style : Style) (event : Event) (round : ℕ)
      → position ≤ length (log_at n events i d) → position ≤ length (log_at n events j k)
      → sheet_at style (log_at n events i d) position event round
      ≡ sheet_at style (log_at n events j k) position event round
  -- an entry that is answered Done at a position is there in every longer log, and every desk that
  -- has such a log gives the same answer
  pub answers : (i j d k id pos : ℕ) (answer : Answer) (queue other : List Entry)
      → told (log_at n events i d) queue id ≡ Done pos answer → pos < length (log_at n events j k)
      → (slice_get (log_at n events j k) pos ≡ slice_get (log_at n events i d) pos)
      × (told (log_at n events j k) other id ≡ Done pos answer)

-- the desks of a hall agree, whatever list of events they do
abbrev pub DesksAgree : Type 0
DesksAgree = (n : ℕ) (events : List WorldEvent) → Agreement n events
