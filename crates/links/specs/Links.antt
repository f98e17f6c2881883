-- A link: the frames that wait, what of the first was sent, and what the connection has come to
-- (the project's own).
use Rattle.std.specs.Prelude.{◌≡◌, ℕ, ◌+◌, ◌-◌, ◌*◌, ◌<◌, ◌≤◌, List, [], ◌∷◌, ◌++◌, length, drop}
use Rattle.std.specs.Prelude.{min, remove, map, nat_lt, nat_le, Option, None, Some, Bool, true}
use Rattle.std.specs.Prelude.{false, ◌&&◌, ◌||◌, not, if◌then◌else◌}
use Rattle.std.specs.Global.{Vec}
use Rattle.links.specs.declared.stages.{LinkStage.LinkStage, LinkAction.LinkAction}
use Rattle.links.specs.declared.stages.LinkStage.TheVariants.{Closed, Paused, Opening, Open}
use Rattle.links.specs.declared.stages.PushOutcome.{PushOutcome}
use Rattle.links.specs.declared.stages.LinkAction.TheVariants as wish
use Rattle.links.specs.declared.stages.PushOutcome.TheVariants as push

-- a link between two calls
pub record LinkState : Type 0 where
  -- the frames that wait, in the order of their pushes
  pub waiting : List (List ℕ)
  -- how many bytes of the first were sent
  pub begun : ℕ
  pub stage : LinkStage
  -- how many milliseconds the next pause lasts
  pub pause : ℕ
  -- when the first of the failures in a row came
  pub down : Option ℕ

-- the frames in their buffers
abbrev pub frames_in : List (Vec ℕ) → List (List ℕ)
frames_in vs = map (λ v. v.items) vs

abbrev pub link_state : List (Vec ℕ) → ℕ → LinkStage → ℕ → Option ℕ → LinkState
link_state vs begun stage pause down = record {
  waiting = frames_in vs;
  begun = begun;
  stage = stage;
  pause = pause;
  down = down;
}

-- before the first call
abbrev pub new_link : LinkState
new_link = record { waiting = []; begun = 0; stage = Closed; pause = 100; down = None }

-- there is no connection, and none is being opened
abbrev pub IsUnconnected : LinkStage → Type 0
IsUnconnected Closed = Unit {0}
IsUnconnected (Paused since millis) = Unit {0}
IsUnconnected (Opening since) = ⊥
IsUnconnected (Open frames quiet) = ⊥

-- whether another frame may be sent on the connection: it is open, and carried less than 63
abbrev pub has_room : LinkStage → Bool
has_room (Open frames quiet) = nat_lt frames 63
has_room _ = false

-- how many frames were sent whole on the connection
abbrev pub frames_on : LinkStage → ℕ
frames_on (Open frames quiet) = frames
frames_on _ = 0

-- how long the pause is that holds
abbrev pub pause_in : LinkStage → ℕ
pause_in (Paused since millis) = millis
pause_in _ = 0

-- the first frame that waits, or no bytes where none does
abbrev pub first_of : List (List ℕ) → List ℕ
first_of [] = []
first_of (f ∷ fs) = f

-- what holds of every link: at most 256 frames wait; where the first is begun, a connection is open
-- that has room for it, and it isn't sent whole; no connection carried more than 63 frames, and no
-- pause is longer than a second
pub record IsSound (s : LinkState) : Type 0 where
  pub few : length s.waiting ≤ 256
  pub sends : 0 < s.begun → has_room s.stage ≡ true
  pub part : 0 < s.begun → s.begun < length (first_of s.waiting)
  pub frames : frames_on s.stage ≤ 63
  pub holds : pause_in s.stage ≤ 1000
  pub pause : s.pause ≤ 1000

-- ---- a frame is pushed

abbrev pub with_waiting : LinkState → List (List ℕ) → LinkState
with_waiting s fs = record {
  waiting = fs;
  begun = s.begun;
  stage = s.stage;
  pause = s.pause;
  down = s.down;
}

-- where the oldest frame of which nothing was sent is: first, or after the one begun
abbrev pub oldest_at : ℕ → ℕ
oldest_at begun = if nat_lt 0 begun then 1 else 0

-- what becomes of a frame that is pushed: it waits last; at a full queue it does so too, and the
-- oldest of which nothing was sent goes; or memory is refused for it, and nothing changes
abbrev pub Pushes : PushOutcome → List ℕ → LinkState → LinkState → Type 0
Pushes push.Waits frame old new =
    (length old.waiting < 256) × (new ≡ with_waiting old (old.waiting ++ frame ∷ []))
Pushes push.DroppedOldest frame old new =
    (length old.waiting ≡ 256)
    × (new ≡ with_waiting old (remove old.waiting (oldest_at old.begun) ++ frame ∷ []))
Pushes push.NoMemory frame old new = (length old.waiting < 256) × (new ≡ old)

-- ---- what is to be done

-- whether frames wait
abbrev pub has_some : List (List ℕ) → Bool
has_some [] = false
has_some (f ∷ fs) = true

-- this many milliseconds have gone since then
abbrev pub is_over : ℕ → ℕ → ℕ → Bool
is_over now since millis = nat_le millis (now - since)

-- a connection is opened only once a frame waits and no pause holds; it is given up after a second
-- of opening; it is closed after 63 frames, or 500 milliseconds with nothing to be sent
abbrev pub wish_at : LinkStage → Bool → ℕ → LinkAction
wish_at Closed waits now = if waits then wish.Open else wish.Rest
wish_at (Paused since millis) waits now =
    if waits && is_over now since millis then wish.Open else wish.Rest
wish_at (Opening since) waits now = if is_over now since 1000 then wish.GiveUp else wish.Rest
wish_at (Open frames quiet) waits now =
    if nat_le 63 frames then wish.Close else (
    if waits then wish.Write else (if is_over now quiet 500 then wish.Close else wish.Rest)
    )

abbrev pub wish_of : LinkState → ℕ → LinkAction
wish_of s now = wish_at s.stage (has_some s.waiting) now

-- what is left of this many milliseconds from then on
abbrev pub left_of : ℕ → ℕ → ℕ → ℕ
left_of now since millis = millis - (now - since)

-- how long the wish stays as it is with no call made: to the end of the pause, of opening, or of
-- the time with nothing to be sent
abbrev pub wait_at : LinkStage → Bool → ℕ → Option ℕ
wait_at Closed waits now = None
wait_at (Paused since millis) waits now =
    if waits then Some (left_of now since millis) else None
wait_at (Opening since) waits now = Some (left_of now since 1000)
wait_at (Open frames quiet) waits now = if waits then None else Some (left_of now quiet 500)

abbrev pub wait_of : LinkState → ℕ → Option ℕ
wait_of s now = wait_at s.stage (has_some s.waiting) now

-- ---- a connection is opened

abbrev pub with_stage : LinkState → LinkStage → LinkState
with_stage s stage = record {
  waiting = s.waiting;
  begun = s.begun;
  stage = stage;
  pause = s.pause;
  down = s.down;
}

abbrev pub after_began : LinkState → ℕ → LinkState
after_began s now = with_stage s (Opening now)

-- the row of failures ends: the next pause is the shortest again
abbrev pub reached : LinkState → ℕ → LinkState
reached s now = record {
  waiting = s.waiting;
  begun = s.begun;
  stage = Open 0 now;
  pause = 100;
  down = None;
}

abbrev pub opened_at : LinkStage → LinkState → ℕ → LinkState
opened_at (Opening since) s now = reached s now
opened_at _ s now = s

abbrev pub after_opened : LinkState → ℕ → LinkState
after_opened s now = opened_at s.stage s now

-- ---- bytes are sent

-- what is to be sent now: the rest of the first frame, on a connection that has room for it
abbrev pub pending : LinkState → List ℕ
pending s = if has_room s.stage then drop s.begun (first_of s.waiting) else []

-- this many bytes more of the first frame were sent, and it isn't whole yet
abbrev pub part_sent : LinkState → ℕ → ℕ → LinkState
part_sent s now count = record {
  waiting = s.waiting;
  begun = s.begun + count;
  stage = Open (frames_on s.stage) now;
  pause = s.pause;
  down = s.down;
}

-- the first frame was sent whole, and leaves
abbrev pub whole_sent : LinkState → ℕ → LinkState
whole_sent s now = record {
  waiting = drop 1 s.waiting;
  begun = 0;
  stage = Open (frames_on s.stage + 1) now;
  pause = s.pause;
  down = s.down;
}

-- whether bytes may be sent: a frame waits, and the connection has room for it
abbrev pub is_sending : LinkState → Bool
is_sending s = has_room s.stage && has_some s.waiting

abbrev pub after_sent : LinkState → ℕ → ℕ → LinkState
after_sent s now count =
    if is_sending s then (
    if nat_lt count (length (pending s)) then part_sent s now count else whole_sent s now
    ) else s

-- ---- a connection ends

-- the time of the first failure in a row, where one comes now
abbrev pub down_from : Option ℕ → ℕ → Option ℕ
down_from None now = Some now
down_from (Some first) now = Some first

-- all that waits is dropped, a pause begins, and the next one is twice as long, a second at most
abbrev pub broken : LinkState → ℕ → LinkState
broken s now = record {
  waiting = [];
  begun = 0;
  stage = Paused now s.pause;
  pause = min (s.pause * 2) 1000;
  down = down_from s.down now;
}

abbrev pub failed_at : LinkStage → LinkState → ℕ → LinkState
failed_at Closed s now = s
failed_at (Paused since millis) s now = s
failed_at (Opening since) s now = broken s now
failed_at (Open frames quiet) s now = broken s now

abbrev pub after_failed : LinkState → ℕ → LinkState
after_failed s now = failed_at s.stage s now

-- whether nothing more is to be sent on an open connection: it carried 63 frames, or none waits
abbrev pub spent_at : LinkStage → Bool → Bool
spent_at (Open frames quiet) waits = nat_le 63 frames || not waits
spent_at _ waits = false

-- the other side ends it: no failure, where nothing more was to be sent on it
abbrev pub after_ended : LinkState → ℕ → LinkState
after_ended s now =
    if spent_at s.stage (has_some s.waiting) then with_stage s Closed else after_failed s now

-- this side closes it
abbrev pub closed_at : LinkStage → LinkState → LinkState
closed_at Closed s = s
closed_at (Paused since millis) s = s
closed_at (Opening since) s = with_stage s Closed
closed_at (Open frames quiet) s = with_stage s Closed

abbrev pub after_closed : LinkState → LinkState
after_closed s = closed_at s.stage s
