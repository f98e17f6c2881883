-- What a round is: its entrants in order of entry, each with the values so far, and what they make
-- (WCA Regulations, article 9: cutoffs in 9g, the order in 9f). The most entrants, and when a call
-- is refused, are the project's own.
use Rattle.std.specs.Prelude.{◌≡◌, ◌<◌, ◌≤◌, ℕ, ◌+◌, ◌-◌, not, [], ◌∷◌, map, All, None, Some}
use Rattle.std.specs.Prelude.{Bool, true, false, ◌==◌, ◌&&◌, List, ◌++◌, take, filter, find, Option}
use Rattle.std.specs.Prelude.{nat_lt, nat_le, if◌then◌else◌, length, slice_set, flat_map, count_by}
use Rattle.std.specs.List.{list_any, list_all, range_with_len}
use Rattle.attempts.specs.declared.{Value.Value, Unit.Unit as Measure}
use Rattle.formats.specs.{declared.events.Format.Format, Events.attempts_of, Events.most_entrants}
use Rattle.formats.specs.{declared.results.RankKey.RankKey, Results.key_of, Results.is_better}
use Rattle.rounds.specs.declared.fault.{EnterFault.EnterFault, PutFault.PutFault, SetFault.SetFault}
use Rattle.rounds.specs.declared.fault.{CorrectFault.CorrectFault, FixFault.FixFault}
use Rattle.rounds.specs.declared.fault.{StrikeFault.StrikeFault, CloseFault.CloseFault}
use Rattle.rounds.specs.declared.fault.{WithdrawFault.WithdrawFault, RulesFault.RulesFault}
use Rattle.rounds.specs.declared.fault.ReopenFault.{ReopenFault}
use Rattle.attempts.specs.declared.Value.TheVariants as value
use Rattle.rounds.specs.declared.fault.EnterFault.TheVariants as enter
use Rattle.rounds.specs.declared.fault.PutFault.TheVariants as put
use Rattle.rounds.specs.declared.fault.CorrectFault.TheVariants as correct
use Rattle.rounds.specs.declared.fault.SetFault.TheVariants as set
use Rattle.rounds.specs.declared.fault.FixFault.TheVariants as fix
use Rattle.rounds.specs.declared.fault.StrikeFault.TheVariants as strike
use Rattle.rounds.specs.declared.fault.CloseFault.TheVariants as close
use Rattle.rounds.specs.declared.fault.WithdrawFault.TheVariants as withdraw
use Rattle.rounds.specs.declared.fault.RulesFault.TheVariants as rules
use Rattle.rounds.specs.declared.fault.ReopenFault.TheVariants as reopen

-- a competitor's number, and the values of the attempts in order
pub record Entrant : Type 0 where
  pub number : ℕ
  pub values : List Value

-- the cutoff is a number of attempts and a border; the entrants are in order of entry
pub record Table : Type 0 where
  pub format : Format
  pub unit : Measure
  pub cutoff : Option (ℕ × ℕ)
  pub is_closed : Bool
  pub entrants : List Entrant

-- a round that was just opened
abbrev pub empty_table : Format → Measure → Option (ℕ × ℕ) → Table
empty_table format unit cutoff =
    record { format = format; unit = unit; cutoff = cutoff; is_closed = false; entrants = [] }

-- a cutoff is after 1 attempt at least, and before the last one of the format (the project's own)
abbrev pub IsCutoff : Format → Option (ℕ × ℕ) → Type 0
IsCutoff format None = Unit {0}
IsCutoff format (Some cutoff) = (1 ≤ cutoff.0) × (cutoff.0 < attempts_of format)

abbrev pub has_number : ℕ → Entrant → Bool
has_number n e = n == e.number

abbrev pub entrant : Table → ℕ → Option Entrant
entrant t n = find (has_number n) t.entrants

abbrev pub is_entered : Table → ℕ → Bool
is_entered t n = list_any (has_number n) t.entrants

-- the value is a number below the border
abbrev pub is_below : ℕ → Value → Bool
is_below border (value.Number n) = nat_lt n border
is_below border value.Dnf = false
is_below border value.Dns = false

-- one of the first k values is a number below the border
abbrev pub meets : ℕ × ℕ → List Value → Bool
meets cutoff vs = list_any (is_below cutoff.1) (take cutoff.0 vs)

-- under a cutoff of k attempts, k where it is not met; otherwise all of the format (WCA
-- Regulations, article 9g)
abbrev pub allotted : Format → Option (ℕ × ℕ) → List Value → ℕ
allotted format None vs = attempts_of format
allotted format (Some cutoff) vs = if meets cutoff vs then attempts_of format else cutoff.0

-- nobody has done more attempts than allotted
abbrev pub KeepsAllotted : Table → Type 0
KeepsAllotted t = All (λ e. length e.values ≤ allotted t.format t.cutoff e.values) t.entrants

-- Changing

-- the values of one entrant are changed
abbrev pub changed_of : ℕ → (List Value → List Value) → Entrant → Entrant
changed_of n change e = if has_number n e then record e { values = change e.values } else e

-- a round in which the values of one entrant are changed
abbrev pub changed : Table → ℕ → (List Value → List Value) → Table
changed t n change = record t { entrants = map (changed_of n change) t.entrants }

-- no more values than they themselves allot
abbrev pub fits : Format → Option (ℕ × ℕ) → List Value → Bool
fits format cutoff vs = nat_le (length vs) (allotted format cutoff vs)

-- the first cause why these are not the values of an entrant
abbrev pub list_fault : Format → Option (ℕ × ℕ) → List Value → Option Entrant → Option SetFault
list_fault format cutoff vs None = Some set.NotEntered
list_fault format cutoff vs (Some e) =
    if fits format cutoff vs then None else Some set.NoMoreAttempts

abbrev pub set_fault : Table → ℕ → List Value → Option SetFault
set_fault t n vs =
    if t.is_closed then Some set.Closed else list_fault t.format t.cutoff vs (entrant t n)

-- the first cause why these are not the values of an entrant of a closed round, in which all that
-- is allotted is done
abbrev pub whole_fault : Format → Option (ℕ × ℕ) → List Value → Option Entrant → Option FixFault
whole_fault format cutoff vs None = Some fix.NotEntered
whole_fault format cutoff vs (Some e) =
    if not (fits format cutoff vs) then Some fix.NoMoreAttempts
    else if nat_lt (length vs) (allotted format cutoff vs) then Some fix.Unfinished
    else None

abbrev pub fix_fault : Table → ℕ → List Value → Option FixFault
fix_fault t n vs =
    if t.is_closed then whole_fault t.format t.cutoff vs (entrant t n) else Some fix.NotClosed

-- a round in which these are the values of an entrant
abbrev pub with_values : Table → ℕ → List Value → Table
with_values t n vs = changed t n (λ old. vs)

-- Entering

-- the first cause why an entry is refused
abbrev pub enter_fault : Table → ℕ → Option EnterFault
enter_fault t n =
    if t.is_closed then Some enter.Closed
    else if is_entered t n then Some enter.Already
    else if nat_le most_entrants (length t.entrants) then Some enter.Full
    else None

-- an entry is refused for this cause, or for want of memory where there is no other
abbrev pub Refuses : EnterFault → Option EnterFault → Type 0
Refuses enter.Closed cause = cause ≡ Some enter.Closed
Refuses enter.Already cause = cause ≡ Some enter.Already
Refuses enter.Full cause = cause ≡ Some enter.Full
Refuses enter.NoMemory cause = cause ≡ None

abbrev pub with_entrant : Table → ℕ → Table
with_entrant t n = record t { entrants = t.entrants ++ record { number = n; values = [] } ∷ [] }

-- The next attempt

-- the first cause why attempt k of an entrant is refused
abbrev pub next_fault : Format → Option (ℕ × ℕ) → ℕ → Option Entrant → Option PutFault
next_fault format cutoff k None = Some put.NotEntered
next_fault format cutoff k (Some e) =
    if not (k == length e.values + 1) then Some put.OutOfOrder
    else if nat_le (allotted format cutoff e.values) (length e.values) then Some put.NoMoreAttempts
    else None

abbrev pub put_fault : Table → ℕ → ℕ → Option PutFault
put_fault t n k =
    if t.is_closed then Some put.Closed else next_fault t.format t.cutoff k (entrant t n)

abbrev pub with_value : Table → ℕ → Value → Table
with_value t n v = changed t n (λ vs. vs ++ v ∷ [])

-- Corrections

-- attempts are counted from 1, and attempt k is done
abbrev pub is_done : ℕ → List Value → Bool
is_done k vs = nat_le 1 k && nat_le k (length vs)

-- the values with another one for attempt k
abbrev pub replaced : ℕ → Value → List Value → List Value
replaced k v vs = slice_set vs (k - 1) v

-- more attempts count than the cutoff's, and these values don't meet it
abbrev pub loses_cutoff : Option (ℕ × ℕ) → List Value → Bool
loses_cutoff None vs = false
loses_cutoff (Some cutoff) vs = nat_lt cutoff.0 (length vs) && not (meets cutoff vs)

-- the first cause why another value for attempt k of an entrant is refused
abbrev pub change_fault : Option (ℕ × ℕ) → ℕ → Value → Option Entrant → Option CorrectFault
change_fault cutoff k v None = Some correct.NotEntered
change_fault cutoff k v (Some e) =
    if not (is_done k e.values) then Some correct.NoSuchAttempt
    else if loses_cutoff cutoff (replaced k v e.values) then Some correct.CutoffLost
    else None

abbrev pub correct_fault : Table → ℕ → ℕ → Value → Option CorrectFault
correct_fault t n k v =
    if t.is_closed then Some correct.Closed else change_fault t.cutoff k v (entrant t n)

-- a round in which attempt k of an entrant has another value
abbrev pub corrected : Table → ℕ → ℕ → Value → Table
corrected t n k v = changed t n (replaced k v)

-- Striking

abbrev pub without_last : List Value → List Value
without_last vs = take (length vs - 1) vs

-- the first cause why the last attempt of an entrant is not removed
abbrev pub last_fault : Option Entrant → Option StrikeFault
last_fault None = Some strike.NotEntered
last_fault (Some e) = if length e.values == 0 then Some strike.NoSuchAttempt else None

abbrev pub strike_fault : Table → ℕ → Option StrikeFault
strike_fault t n = if t.is_closed then Some strike.Closed else last_fault (entrant t n)

-- a round in which the last attempt of an entrant is removed
abbrev pub struck : Table → ℕ → Table
struck t n = changed t n without_last

-- What changes while nobody has done an attempt

-- an entrant has done attempt k; attempts are counted from 1
abbrev pub has_done : ℕ → Entrant → Bool
has_done k e = nat_le k (length e.values)

-- somebody has done attempt k
abbrev pub is_attempted : Table → ℕ → Bool
is_attempted t k = list_any (has_done k) t.entrants

-- the first cause why an entrant does not leave
abbrev pub leave_fault : Option Entrant → Option WithdrawFault
leave_fault None = Some withdraw.NotEntered
leave_fault (Some e) = if has_done 1 e then Some withdraw.HasAttempts else None

abbrev pub withdraw_fault : Table → ℕ → Option WithdrawFault
withdraw_fault t n = if t.is_closed then Some withdraw.Closed else leave_fault (entrant t n)

-- a withdrawal is refused for this cause, or for want of memory where there is no other
abbrev pub RefusesToLeave : WithdrawFault → Option WithdrawFault → Type 0
RefusesToLeave withdraw.Closed cause = cause ≡ Some withdraw.Closed
RefusesToLeave withdraw.NotEntered cause = cause ≡ Some withdraw.NotEntered
RefusesToLeave withdraw.HasAttempts cause = cause ≡ Some withdraw.HasAttempts
RefusesToLeave withdraw.NoMemory cause = cause ≡ None

-- a round that an entrant has left
abbrev pub without_entrant : Table → ℕ → Table
without_entrant t n = record t { entrants = filter (λ e. not (has_number n e)) t.entrants }

-- a round that an entrant has left; who takes the place, if anybody, is the last entrant
abbrev pub withdrawn : Table → ℕ → Option ℕ → Table
withdrawn t n None = without_entrant t n
withdrawn t n (Some next) = with_entrant (without_entrant t n) next

-- the first cause why a round is not run by other rules
abbrev pub rules_fault : Table → Option RulesFault
rules_fault t =
    if t.is_closed then Some rules.Closed
    else if is_attempted t 1 then Some rules.HasAttempts
    else None

-- a round that is run in another format, with another cutoff
abbrev pub with_rules : Table → Format → Option (ℕ × ℕ) → Table
with_rules t format cutoff = record t { format = format; cutoff = cutoff }

-- Places

abbrev pub key : Table → Entrant → RankKey
key t e = key_of t.format t.unit e.values

-- 1 plus the number of entrants who are better (the project's own words for the places of the WCA
-- Regulations, article 9f)
abbrev pub place : Table → Entrant → ℕ
place t e = 1 + count_by (λ other. is_better (key t other) (key t e)) t.entrants

-- the entrants of one place, in order of entry
abbrev pub at_place : Table → ℕ → List Entrant
at_place t p = filter (λ e. place t e == p) t.entrants

abbrev pub number_of_entrant : Entrant → ℕ
number_of_entrant e = e.number

-- the numbers of the entrants of place 1, then of place 2, ..
abbrev pub standings : Table → List ℕ
standings t =
    flat_map (λ p. map number_of_entrant (at_place t p)) (range_with_len 1 (length t.entrants))

-- Started and finished

abbrev pub is_started_attempt : Value → Bool
is_started_attempt (value.Number n) = true
is_started_attempt value.Dnf = true
is_started_attempt value.Dns = false

-- an attempt is not DNS
abbrev pub has_started : Entrant → Bool
has_started e = list_any is_started_attempt e.values

-- how many entrants have an attempt that is not DNS: the competitors of the round (the project's
-- own)
abbrev pub started : Table → ℕ
started t = count_by has_started t.entrants

-- how many of those who have started are not worse than an entrant, that one included where it has
-- started
abbrev pub not_worse : Table → Entrant → ℕ
not_worse t e =
    count_by (λ other. has_started other && not (is_better (key t e) (key t other))) t.entrants

abbrev pub has_finished : Table → Entrant → Bool
has_finished t e = nat_le (allotted t.format t.cutoff e.values) (length e.values)

-- every entrant has done all allotted attempts
abbrev pub is_finished : Table → Bool
is_finished t = list_all (has_finished t) t.entrants

-- Closing

-- the first cause why a round is not closed
abbrev pub close_fault : Table → Option CloseFault
close_fault t =
    if t.is_closed then Some close.Closed
    else if not (is_finished t) then Some close.Unfinished
    else None

abbrev pub closed : Table → Table
closed t = record t { is_closed = true }

-- the cause why a round is not open again
abbrev pub reopen_fault : Table → Option ReopenFault
reopen_fault t = if t.is_closed then None else Some reopen.NotClosed

abbrev pub reopened : Table → Table
reopened t = record t { is_closed = false }
