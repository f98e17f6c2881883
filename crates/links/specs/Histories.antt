-- What becomes of the frames that are pushed to a link, whatever calls are made (the project's
-- own).
use Rattle.std.specs.Prelude.{◌≡◌, ◌⊎◌, ℕ, ◌+◌, ◌<◌, ◌≤◌, List, [], ◌∷◌, ◌++◌, ◌==◌, if◌then◌else◌}
use Rattle.std.specs.{Prelude.length, List.flat_map}
use Rattle.links.specs.{declared.stages.PushOutcome.PushOutcome, Links.after_closed}
use Rattle.links.specs.Links.{LinkState, IsUnconnected, new_link, pending, first_of, Pushes}
use Rattle.links.specs.Links.{after_began, after_opened, after_sent, after_failed, after_ended}
use Rattle.links.specs.declared.stages.PushOutcome.TheVariants as push

-- a call: this frame was pushed, with this answer; opening a connection was begun, at this time; it
-- is open; these bytes were written; it failed; the other side ended it; or this side closed it
pub data Step : Type 0 where
  Push : List ℕ → PushOutcome → Step
  Began : ℕ → Step
  Opened : ℕ → Step
  Sent : ℕ → List ℕ → Step
  Failed : ℕ → Step
  Ended : ℕ → Step
  Closed : Step

-- what the contracts of the calls say; what was written is what stood first in the output
abbrev pub Steps : Step → LinkState → LinkState → Type 0
Steps (Push frame answer) a b = Pushes answer frame a b
Steps (Began now) a b = IsUnconnected a.stage × (b ≡ after_began a now)
Steps (Opened now) a b = b ≡ after_opened a now
Steps (Sent now bytes) a b =
    ((rest : List ℕ) × (pending a ≡ bytes ++ rest)) × (b ≡ after_sent a now (length bytes))
Steps (Failed now) a b = b ≡ after_failed a now
Steps (Ended now) a b = b ≡ after_ended a now
Steps Closed a b = (a.begun ≡ 0) × (b ≡ after_closed a)

-- all calls of a link since it was made, in order
pub data History : Type 0 where
  Start : History
  Then : History → Step → History

-- a history leads from a new link to this one
abbrev pub Leads : History → LinkState → Type 0
Leads Start s = s ≡ new_link
Leads (Then h t) s = (m : LinkState) × Leads h m × Steps t m s

-- ---- what a history tells

-- the frames that were pushed, in order
abbrev pub pushed : History → List (List ℕ)
pushed Start = []
pushed (Then h (Push frame answer)) = pushed h ++ frame ∷ []
pushed (Then h _) = pushed h

-- how many connections were begun: they are numbered from 1
abbrev pub connections : History → ℕ
connections Start = 0
connections (Then h (Began now)) = connections h + 1
connections (Then h _) = connections h

-- the bytes that were written on the connection with this number
abbrev pub written : ℕ → History → List ℕ
written n Start = []
written n (Then h (Sent now bytes)) =
    written n h ++ (if n == connections h then bytes else [])
written n (Then h _) = written n h

-- ---- the fates of frames

-- why a frame is dropped: as many wait as may wait, and a later one takes its place; the connection
-- failed; or memory was refused
pub data Cause : Type 0 where
  Full : Cause
  Unreachable : Cause
  NoMemory : Cause

-- it was sent whole, once, on the connection with this number; or it was dropped; or it still waits
pub data Fate : Type 0 where
  SentOn : ℕ → Fate
  Dropped : Cause → Fate
  Waits : Fate

-- a frame that was pushed, and its fate
pub record Told : Type 0 where
  pub frame : List ℕ
  pub fate : Fate

abbrev pub told : List ℕ → Fate → Told
told frame fate = record { frame = frame; fate = fate }

abbrev pub frames_of : List Told → List (List ℕ)
frames_of [] = []
frames_of (t ∷ ts) = t.frame ∷ frames_of ts

-- the frame, where it waits
abbrev pub if_waits : Fate → List ℕ → List (List ℕ)
if_waits (SentOn n) frame = []
if_waits (Dropped cause) frame = []
if_waits Waits frame = frame ∷ []

-- the frames that wait, in the order of their pushes
abbrev pub waiting_of : List Told → List (List ℕ)
waiting_of [] = []
waiting_of (t ∷ ts) = if_waits t.fate t.frame ++ waiting_of ts

-- the frame, where it was sent on the connection with this number
abbrev pub if_sent_on : ℕ → Fate → List ℕ → List (List ℕ)
if_sent_on n (SentOn m) frame = if n == m then frame ∷ [] else []
if_sent_on n (Dropped cause) frame = []
if_sent_on n Waits frame = []

-- the frames that were sent whole on the connection with this number, in the order of their pushes
abbrev pub sent_on : ℕ → List Told → List (List ℕ)
sent_on n [] = []
sent_on n (t ∷ ts) = if_sent_on n t.fate t.frame ++ sent_on n ts

-- where a frame was sent, none that was pushed after it was sent on an earlier connection; and
-- where it waits, none was sent
abbrev pub OrderAt : ℕ → Fate → List Told → Type 0
OrderAt count (SentOn m) ts = (m ≤ count) × ((n : ℕ) → n < m → sent_on n ts ≡ [])
OrderAt count (Dropped cause) ts = Unit {0}
OrderAt count Waits ts = (n : ℕ) → sent_on n ts ≡ []

-- frames are sent in the order of their pushes, on this many connections, one after the other
abbrev pub AreInOrder : ℕ → List Told → Type 0
AreInOrder count [] = Unit {0}
AreInOrder count (t ∷ ts) = OrderAt count t.fate ts × AreInOrder count ts

-- these bytes are the frame's front part, and not all of it
abbrev pub IsFrontOf : List ℕ → List ℕ → Type 0
IsFrontOf part frame = (rest : List ℕ) × (0 < length rest) × (frame ≡ part ++ rest)

-- these bytes are the front part of a frame that was dropped because the connection failed
abbrev pub IsCutAt : List ℕ → Fate → List ℕ → Type 0
IsCutAt part (Dropped Unreachable) frame = IsFrontOf part frame
IsCutAt part _ frame = ⊥

-- there is such a frame, and none that was pushed after it was sent on this connection
abbrev pub IsCut : ℕ → List ℕ → List Told → Type 0
IsCut n part [] = ⊥
IsCut n part (t ∷ ts) =
    (IsCutAt part t.fate t.frame × (sent_on n ts ≡ [])) ⊎ IsCut n part ts

-- these bytes are none; or the front part of a frame that was dropped because the connection
-- failed; or the front part of the first frame that waits, which is being sent on the last
-- connection
abbrev pub IsRest : ℕ → List ℕ → List Told → History → LinkState → Type 0
IsRest n part ts h s =
    (part ≡ []) ⊎ (IsCut n part ts ⊎ ((n ≡ connections h) × IsFrontOf part (first_of s.waiting)))

-- the bytes that were written on this connection are the frames sent on it, and then a front part
-- of one more at most
pub record Carries (n : ℕ) (h : History) (s : LinkState) (ts : List Told) : Type 0 where
  pub part : List ℕ
  pub bytes : written n h ≡ flat_map (λ f. f) (sent_on n ts) ++ part
  pub rest : IsRest n part ts h s
  pub most : length (sent_on n ts) ≤ 63

-- ---- the causes that are said

abbrev pub if_same : Cause → Cause → ℕ
if_same Full Full = 1
if_same Full Unreachable = 0
if_same Full NoMemory = 0
if_same Unreachable Full = 0
if_same Unreachable Unreachable = 1
if_same Unreachable NoMemory = 0
if_same NoMemory Full = 0
if_same NoMemory Unreachable = 0
if_same NoMemory NoMemory = 1

abbrev pub if_dropped : Cause → Fate → ℕ
if_dropped cause (SentOn n) = 0
if_dropped cause (Dropped other) = if_same cause other
if_dropped cause Waits = 0

-- how many frames were dropped for this cause
abbrev pub dropped_for : Cause → List Told → ℕ
dropped_for cause [] = 0
dropped_for cause (t ∷ ts) = if_dropped cause t.fate + dropped_for cause ts

-- how many frames the answer of a push says to be dropped for this cause
abbrev pub says : Cause → PushOutcome → ℕ
says Full push.DroppedOldest = 1
says Full push.Waits = 0
says Full push.NoMemory = 0
says Unreachable answer = 0
says NoMemory push.NoMemory = 1
says NoMemory push.Waits = 0
says NoMemory push.DroppedOldest = 0

-- how many frames the answers of pushes say to be dropped for this cause
abbrev pub said : Cause → History → ℕ
said cause Start = 0
said cause (Then h (Push frame answer)) = said cause h + says cause answer
said cause (Then h _) = said cause h

-- how often it was said that the connection failed, or that the other side ended it
abbrev pub failures : History → ℕ
failures Start = 0
failures (Then h (Failed now)) = failures h + 1
failures (Then h (Ended now)) = failures h + 1
failures (Then h _) = failures h

-- a frame is dropped for a full queue, or for want of memory, only where a push says so, one each
-- time; and because the connection failed only where that was said
pub record AreSaid (h : History) (ts : List Told) : Type 0 where
  pub full : dropped_for Full ts ≡ said Full h
  pub memory : dropped_for NoMemory ts ≡ said NoMemory h
  pub failed : failures h ≡ 0 → dropped_for Unreachable ts ≡ 0

-- ---- the law

-- Each frame that was pushed has one fate. Those whose fate is to wait are those that wait, in
-- order, and at most 256. Frames are sent in order too.
pub record AreKept (h : History) (s : LinkState) (ts : List Told) : Type 0 where
  pub all : frames_of ts ≡ pushed h
  pub waits : waiting_of ts ≡ s.waiting
  pub few : length s.waiting ≤ 256
  pub order : AreInOrder (connections h) ts
  pub carried : (n : ℕ) → Carries n h s ts
  pub causes : AreSaid h ts

-- of every history of a link
abbrev pub FramesAreKept : Type 0
FramesAreKept = (h : History) (s : LinkState) → Leads h s → (ts : List Told) × AreKept h s ts
