-- When a desk takes a Tick of itself (the project's own). Times are milliseconds.
use Rattle.std.specs.Prelude.{ℕ, ◌+◌, ◌-◌, ◌*◌, ◌/◌, ◌≤◌, min, max, Bool, false, not, ◌&&◌, ◌||◌}
use Rattle.std.specs.Prelude.{nat_le, nat_lt, if◌then◌else◌, List, [], ◌∷◌}

-- a period: 100 milliseconds to a minute
abbrev pub IsPeriod : ℕ → Type 0
IsPeriod n = (100 ≤ n) × (n ≤ 60000)

-- the number of a desk, of this many desks
pub record IsDesk (desk desks : ℕ) : Type 0 where
  pub first : 1 ≤ desk
  pub last : desk ≤ desks
  pub most : desks ≤ 5

-- how many times as long as the first a pause may be
abbrev pub IsFactor : ℕ → Type 0
IsFactor n = (1 ≤ n) × (n ≤ 16)

-- a ticker
pub record Ticking : Type 0 where
  pub period : ℕ
  -- the number of the desk, and how many desks there are
  pub desk : ℕ
  pub desks : ℕ
  -- how long the log was at most
  pub log : ℕ
  -- whether commands waited in the queue at the last look
  pub waiting : Bool
  -- how many times as long as the first a pause is where commands wait
  pub times : ℕ
  -- the moment from which the time counts
  pub since : ℕ

-- what a ticker is shown: how long the log is, how many commands wait in the queue, and the moment
pub record Look : Type 0 where
  pub log : ℕ
  pub queued : ℕ
  pub now : ℕ

abbrev pub look : ℕ → ℕ → ℕ → Look
look log queued now = record { log = log; queued = queued; now = now }

-- before the first look
abbrev pub new_ticker : ℕ → ℕ → ℕ → ℕ → ℕ → Ticking
new_ticker period desk desks log now = record {
  period = period;
  desk = desk;
  desks = desks;
  log = log;
  waiting = false;
  times = 1;
  since = now;
}

-- ---- pauses

-- the part of the period by which the first pauses of two desks differ
abbrev pub slot : Ticking → ℕ
slot t = t.period / t.desks

-- the period, and a slot for each desk with a lower number
abbrev pub first_pause : Ticking → ℕ
first_pause t = t.period + (t.desk - 1) * slot t

-- how many times as long as the first a pause is, where commands wait or where none does
abbrev pub factor : Ticking → Bool → ℕ
factor t waiting = if waiting then t.times else 10

abbrev pub pause : Ticking → Bool → ℕ
pause t waiting = factor t waiting * first_pause t

-- the moment at which a Tick is due
abbrev pub due_at : Ticking → Bool → ℕ
due_at t waiting = t.since + pause t waiting

-- ---- looks

abbrev pub waits : Look → Bool
waits l = nat_lt 0 l.queued

-- something new is seen: the log has grown, or commands wait in a queue that was empty
abbrev pub is_new : Ticking → Look → Bool
is_new t l = nat_lt t.log l.log || (waits l && not t.waiting)

-- a Tick is taken at this look: nothing new is seen, and the pause has passed
abbrev pub is_due : Ticking → Look → Bool
is_due t l = not (is_new t l) && nat_le (due_at t (waits l)) l.now

-- the time counts from this look
abbrev pub counts_from : Ticking → Look → Bool
counts_from t l = is_new t l || is_due t l

-- something new makes the next pause the first again, and a Tick doubles it, up to 16 times
abbrev pub times_after : Ticking → Look → ℕ
times_after t l = if is_new t l then 1 else if is_due t l then min (2 * t.times) 16 else t.times

-- the ticker after a look
abbrev pub after : Ticking → Look → Ticking
after t l = record {
  period = t.period;
  desk = t.desk;
  desks = t.desks;
  log = max t.log l.log;
  waiting = waits l;
  times = times_after t l;
  since = if counts_from t l then l.now else t.since;
}

-- one look after the other
abbrev pub after_all : Ticking → List Look → Ticking
after_all t [] = t
after_all t (l ∷ ls) = after_all (after t l) ls

-- how long it is until a Tick is due: 0 where it is due already
abbrev pub left : Ticking → ℕ → ℕ
left t now = pause t t.waiting - (now - t.since)
