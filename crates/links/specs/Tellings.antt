-- The lines that are written about a desk, whatever calls are made (the project's own).
use Rattle.std.specs.Prelude.{◌≡◌, ℕ, ◌+◌, ◌≤◌, List, [], ◌∷◌, Bool, true, false, Option, None}
use Rattle.std.specs.Prelude.{Some}
use Rattle.links.specs.{declared.notices.Notice.Notice, Outages.foreign_line, Outages.after_foreign}
use Rattle.links.specs.Outages.{Telling, new_telling, failing, reaching, due_line, after_due}
use Rattle.links.specs.declared.notices.Notice.TheVariants as notice

-- a call, at this time, and the line that it said to be due: a connection failed, or was opened; it
-- was asked what is due; or what answered was no desk of the hall
pub data Call : Type 0 where
  Failed : ℕ → Option Notice → Call
  Reached : ℕ → Option Notice → Call
  Asked : ℕ → Option Notice → Call
  Foreign : ℕ → Option Notice → Call

-- what the contracts of the calls say
abbrev pub Calls : Call → Telling → Telling → Type 0
Calls (Failed now line) a b =
    (line ≡ due_line (failing a now) now) × (b ≡ after_due (failing a now) now)
Calls (Reached now line) a b =
    (line ≡ due_line (reaching a now) now) × (b ≡ after_due (reaching a now) now)
Calls (Asked now line) a b = (line ≡ due_line a now) × (b ≡ after_due a now)
Calls (Foreign now line) a b = (line ≡ foreign_line a now) × (b ≡ after_foreign a now)

-- all calls, in order
pub data Tale : Type 0 where
  Silent : Tale
  Goes : Tale → Call → Tale

abbrev pub LeadsTo : Tale → Telling → Type 0
LeadsTo Silent n = n ≡ new_telling
LeadsTo (Goes t c) n = (m : Telling) × LeadsTo t m × Calls c m n

-- a line that was told, and when
pub record Line : Type 0 where
  pub time : ℕ
  pub notice : Notice

abbrev pub with_line : Option Notice → ℕ → List Line → List Line
with_line None now ls = ls
with_line (Some what) now ls = record { time = now; notice = what } ∷ ls

-- the lines that were told, the last one first
abbrev pub lines_of : Tale → List Line
lines_of Silent = []
lines_of (Goes t (Failed now line)) = with_line line now (lines_of t)
lines_of (Goes t (Reached now line)) = with_line line now (lines_of t)
lines_of (Goes t (Asked now line)) = with_line line now (lines_of t)
lines_of (Goes t (Foreign now line)) = with_line line now (lines_of t)

-- each line is told a second after the one before, or later
abbrev pub IsAfter : List Line → ℕ → Type 0
IsAfter [] now = Unit {0}
IsAfter (l ∷ ls) now = l.time + 1000 ≤ now

abbrev pub AreApart : List Line → Type 0
AreApart [] = Unit {0}
AreApart (l ∷ ls) = IsAfter ls l.time × AreApart ls

-- whether the lines leave the desk as one that can't be reached
abbrev pub leaves_down : Notice → Bool → Bool
leaves_down notice.Unreachable before = true
leaves_down (notice.Reached seconds) before = false
leaves_down notice.Foreign before = before

abbrev pub are_down : List Line → Bool
are_down [] = false
are_down (l ∷ ls) = leaves_down l.notice (are_down ls)

-- that it can't be reached is told once, and that it was reached again only after that
abbrev pub FitsAfter : Notice → Bool → Type 0
FitsAfter notice.Unreachable down = down ≡ false
FitsAfter (notice.Reached seconds) down = down ≡ true
FitsAfter notice.Foreign down = Unit {0}

abbrev pub DoAlternate : List Line → Type 0
DoAlternate [] = Unit {0}
DoAlternate (l ∷ ls) = FitsAfter l.notice (are_down ls) × DoAlternate ls

pub record AreFew (ls : List Line) : Type 0 where
  pub apart : AreApart ls
  pub alternate : DoAlternate ls

-- of every row of calls
abbrev pub LinesAreFew : Type 0
LinesAreFew = (t : Tale) (n : Telling) → LeadsTo t n → AreFew (lines_of t)
