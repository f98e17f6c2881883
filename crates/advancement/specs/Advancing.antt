-- How many rounds may follow, and who goes on to the next one (WCA Regulations, article 9).
use Rattle.std.specs.Prelude.{◌≡◌, ℕ, ◌*◌, ◌/◌, ◌&&◌, ◌==◌, Bool, false, nat_le, nat_lt}
use Rattle.std.specs.Prelude.{if◌then◌else◌, min, is_some, List, filter, Option, None, Some}
use Rattle.std.specs.List.{list_any}
use Rattle.formats.specs.{Results.best_of, Results.number_of, declared.advance.Advance.Advance}
use Rattle.rounds.specs.Tables.{Entrant, Table, entrant, place, started, not_worse, standings}
use Rattle.formats.specs.declared.advance.Advance.TheVariants.{Final, Top, Percent}

-- the most rounds that may follow one of this many competitors (WCA Regulations, article 9m)
abbrev pub later_rounds : ℕ → ℕ
later_rounds n = if nat_le n 7 then 0 else if nat_le n 15 then 1 else if nat_le n 99 then 2 else 3

-- how many of this many competitors are wanted in the next round
abbrev pub wanted : Advance → ℕ → ℕ
wanted Final n = 0
wanted (Top number) n = number
wanted (Percent percent) n = n * percent / 100

-- how many may advance: as many as are wanted, and at most three quarters (WCA Regulations, article
-- 9p)
abbrev pub quota : Advance → ℕ → ℕ
quota advance n = min (wanted advance n) (3 * n / 4)

-- the best attempt is a number
abbrev pub has_result : Entrant → Bool
has_result e = is_some (number_of (best_of e.values))

-- of those who have started, at most this many are not worse than an entrant, that one included
abbrev pub is_reached_by_few : Table → ℕ → Entrant → Bool
is_reached_by_few t most e = nat_le (not_worse t e) most

abbrev pub is_among : Table → ℕ → Entrant → Bool
is_among t most e = has_result e && is_reached_by_few t most e

-- an entrant advances whose best attempt is a number, and for whom no more than the quota of the
-- round's competitors, who are those that have started, are not worse, this one included; so those
-- who are tied over the border stay out together (the project's own)
abbrev pub advances : Table → Advance → Entrant → Bool
advances t advance e = is_among t (quota advance (started t)) e

abbrev pub holds_of : (Entrant → Bool) → Option Entrant → Bool
holds_of test None = false
holds_of test (Some e) = test e

-- the entrant with a number advances
abbrev pub goes_on : Table → Advance → ℕ → Bool
goes_on t advance n = holds_of (advances t advance) (entrant t n)

-- the numbers of those who advance, in order of standings
abbrev pub advancing : Table → Advance → List ℕ
advancing t advance = filter (goes_on t advance) (standings t)

-- these and no others advance
abbrev pub AreThoseWhoAdvance : Table → Advance → List ℕ → Type 0
AreThoseWhoAdvance t advance ns =
    (n : ℕ) → list_any (λ other. other == n) ns ≡ goes_on t advance n

-- the best attempt is a number, and the place is before another one
abbrev pub is_before : Table → ℕ → Entrant → Bool
is_before t border e = has_result e && nat_lt (place t e) border

-- those of these numbers whose entrants are placed before a border, with a result
abbrev pub those_before : Table → ℕ → List ℕ → List ℕ
those_before t border ns = filter (λ n. holds_of (is_before t border) (entrant t n)) ns

-- those who advance are those with a result who are placed before this place
abbrev pub IsBorder : Table → Advance → ℕ → Type 0
IsBorder t advance border =
    (n : ℕ) → goes_on t advance n ≡ holds_of (is_before t border) (entrant t n)
