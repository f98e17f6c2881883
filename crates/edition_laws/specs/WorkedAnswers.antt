-- Worked days of texts, by hand: each code in each edition that has it, and the order of checks
-- where several fail.
use Rattle.std.specs.Prelude.{◌≡◌, ℕ, false, List, [], ◌∷◌, ◌++◌, map, replicate, codes, Some}
use Rattle.std.specs.{Prelude.None, Prelude.Option, List.range_with_len}
use Rattle.formats.specs.declared.{advance.Advance.TheVariants.Final, events.Format.TheVariants.Ao5}
use Rattle.texts.specs.declared.answer.Answer.TheVariants.{Done, Refused}
use Rattle.texts.specs.declared.command.Settings.{Settings}
use Rattle.attempts.specs.declared.Unit.TheVariants.{Time}
use Rattle.rounds.specs.Tables.{Entrant, Table}
use Rattle.commands.specs.{Accepted.enter_refusal, History.nothing}
use Rattle.edition_laws.specs.Answered.{Row, IsAnswered, answers, done, refused}
use Rattle.texts.specs.declared.answer.Code.TheVariants as code

-- two competitors and a round of 3x3x3: nobody below 15.00 in the first attempt, no more attempts
abbrev pub timed_day : List Row
timed_day =
    done "REG 1 Ann Li" ∷ refused code.Already "REG 1 Bo Ek" ∷ refused code.NameTaken "REG 2 Ann Li"
    ∷ done "REG 2 Bo Ek" ∷ refused code.UnknownCompetitor "ENT 333 3"
    ∷ refused code.RoundUnknown "ENT 333 1"
    ∷ refused code.FormatNotAllowed "OPEN 333 1 mo3 3:1500 - final"
    ∷ refused code.CutoffNotAllowed "OPEN 333 1 bo3 3:1500 - final"
    ∷ refused code.LimitNotAllowed "OPEN 333 1 bo3 1:1500 - final"
    ∷ done "OPEN 333 1 bo3 1:1500 60000 top:1"
    ∷ refused code.RoundOpen "OPEN 333 1 mo3 3:1500 - final"
    ∷ refused code.RoundUnknown "OPEN 333 2 mo3 3:1500 - final"
    ∷ refused code.WrongOutcome "SCR 333 1 4 R" ∷ refused code.UnknownCompetitor "ATT 333 1 2 3 S:R"
    ∷ refused code.WrongOutcome "ATT 333 1 2 2 S:R" ∷ refused code.NotEntered "ATT 333 1 2 1 DNF"
    ∷ done "ENT 333 1" ∷ refused code.Already "ENT 333 1"
    ∷ refused code.OutOfOrder "ATT 333 1 2 1 DNF" ∷ refused code.NoSuchAttempt "STR 333 1 1"
    ∷ refused code.NoSuchAttempt "COR 333 1 1 1 DNF" ∷ done "ATT 333 1 1 1 T:1500:0"
    ∷ refused code.NoMoreAttempts "ATT 333 1 2 1 DNF" ∷ done "COR 333 1 1 1 T:1299:1"
    ∷ refused code.Unfinished "CLOSE 333 1" ∷ done "ATT 333 1 2 1 DNS"
    ∷ refused code.CutoffLost "COR 333 1 1 1 T:1300:1" ∷ done "ATT 333 1 3 1 DNF"
    ∷ refused code.RoundsRule "CLOSE 333 1" ∷ done "ADV 333 1 final" ∷ done "CLOSE 333 1"
    ∷ refused code.Closed "CLOSE 333 1" ∷ refused code.Closed "ENT 333 1"
    ∷ refused code.Closed "ADV 333 1 top:1" ∷ refused code.Closed "SCR 333 1 4 R"
    ∷ refused code.Closed "STR 333 1 2" ∷ refused code.WrongOutcome "ATT 333 1 5 2 S:R"
    ∷ refused code.Closed "ATT 333 1 5 2 DNF" ∷ refused code.Closed "COR 333 1 4 2 DNF"
    ∷ refused code.RoundUnknown "OPEN 333 2 bo1 - 60000 final" ∷ []

-- a round of fewest moves
abbrev pub moves_day : List Row
moves_day =
    done "REG 1 Ann Li" ∷ refused code.RoundUnknown "SCR 333fm 1 3 R"
    ∷ refused code.FormatNotAllowed "OPEN 333fm 1 bo3 3:30 60000 final"
    ∷ refused code.CutoffNotAllowed "OPEN 333fm 1 bo2 2:30 60000 final"
    ∷ refused code.LimitNotAllowed "OPEN 333fm 1 bo2 1:30 60000 final"
    ∷ done "OPEN 333fm 1 bo2 - - final" ∷ refused code.NoSuchAttempt "SCR 333fm 1 3 R"
    ∷ refused code.WrongOutcome "ATT 333fm 1 2 1 T:1000:0"
    ∷ refused code.NoScramble "ATT 333fm 1 2 1 S:R'"
    ∷ refused code.NoScramble "COR 333fm 1 2 1 S:R'" ∷ done "SCR 333fm 1 1 R"
    ∷ refused code.ScrambleThere "SCR 333fm 1 1 U" ∷ refused code.NotEntered "ATT 333fm 1 1 1 S:R'"
    ∷ done "ENT 333fm 1" ∷ done "ATT 333fm 1 1 1 S:R'" ∷ done "ATT 333fm 1 2 1 DNS"
    ∷ done "CLOSE 333fm 1" ∷ refused code.NoScramble "ATT 333fm 1 3 1 S:R"
    ∷ refused code.Closed "SCR 333fm 1 3 R" ∷ []

-- what no edition reads
abbrev pub misspelt : List Row
misspelt =
    map (refused code.Unread) ("" ∷ "ent 333 1" ∷ "ENT 333 01" ∷ "ENT 333 1 " ∷ "ENT  333 1"
    ∷ "REG 10000 Ann" ∷ "REG 1 Ann " ∷ "REG 1 Ann  Li" ∷ "OPEN 333 5 ao5 - 60000 final"
    ∷ "OPEN 333 1 ao5 5:1000 60000 final" ∷ "OPEN 333 1 ao5 - 360001 final"
    ∷ "OPEN 333 1 ao5 - 60000 top:1000" ∷ "OPEN 333 1 ao5 - 60000 pct:76" ∷ "SCR 333fm 1 6 R"
    ∷ "SCR 333fm 1 1 r" ∷ "ATT 333 1 1 1 T:0:0" ∷ "ATT 333 1 1 1 T:1000000:0"
    ∷ "ATT 333 1 1 1 T:1000:10" ∷ "EDITION 1" ∷ "EDITION 5" ∷ [])

-- what edition 1 does not read, and edition 2 does
abbrev pub cubes : List Row
cubes =
    map (refused code.Unread) ("OPEN 333mbf 1 bo1 - - final" ∷ "ENT 333mbf 1" ∷ "SCR 333mbf 1 1 R"
    ∷ "ATT 333mbf 1 1 1 DNF" ∷ "COR 333mbf 1 1 1 DNF" ∷ "STR 333mbf 1 1" ∷ "ADV 333mbf 1 final"
    ∷ "CLOSE 333mbf 1" ∷ "ATT 333 1 1 1 M:2:2:60" ∷ "COR 333 1 1 1 M:2:2:60" ∷ [])

-- what editions 1 and 2 do not read, and edition 3 does
abbrev pub mending : List Row
mending =
    map (refused code.Unread) ("REN 1 Ann" ∷ "SET 333 1 ao5 - 60000" ∷ "RSC 333fm 1 1 R"
    ∷ "WDR 333 1 1" ∷ "REOPEN 333 1" ∷ [])

-- multi-blind, from edition 2 on
abbrev pub cubes_day : List Row
cubes_day =
    done "REG 1 Ann Li" ∷ refused code.RoundUnknown "ENT 333mbf 1"
    ∷ refused code.FormatNotAllowed "OPEN 333mbf 1 mo3 1:9000 60000 final"
    ∷ refused code.CutoffNotAllowed "OPEN 333mbf 1 bo2 1:9000 60000 final"
    ∷ refused code.LimitNotAllowed "OPEN 333mbf 1 bo2 - 60000 final"
    ∷ done "OPEN 333mbf 1 bo2 - - final" ∷ refused code.WrongOutcome "SCR 333mbf 1 1 R"
    ∷ done "ENT 333mbf 1" ∷ refused code.WrongOutcome "ATT 333mbf 1 2 1 T:1000:0"
    ∷ refused code.WrongOutcome "ATT 333mbf 1 2 1 S:R"
    ∷ refused code.Unread "ATT 333mbf 1 1 1 M:3:2:60"
    ∷ refused code.Unread "ATT 333mbf 1 1 1 M:1:1:60"
    ∷ refused code.Unread "ATT 333mbf 1 1 1 M:2:100:60"
    ∷ refused code.Unread "ATT 333mbf 1 1 1 M:2:2:6000" ∷ done "ATT 333mbf 1 1 1 M:2:2:5999"
    ∷ done "OPEN 333 1 bo1 - 60000 final" ∷ done "ENT 333 1"
    ∷ refused code.WrongOutcome "ATT 333 1 2 1 M:2:2:60"
    ∷ refused code.WrongOutcome "COR 333 1 1 1 M:2:2:60" ∷ []

-- the commands that mend mistakes, of edition 3
abbrev pub mending_day : List Row
mending_day =
    refused code.UnknownCompetitor "REN 2 Ann Li" ∷ done "REG 1 Ann Li" ∷ done "REG 2 Bo Ek"
    ∷ refused code.NameTaken "REN 2 Ann Li" ∷ done "REN 1 Ann Lee" ∷ done "REN 1 Ann Lee"
    ∷ done "REN 2 Ann Li" ∷ refused code.NameTaken "REG 3 Ann Lee"
    ∷ refused code.RoundUnknown "SET 333 1 mo3 3:1500 -" ∷ refused code.RoundUnknown "REOPEN 333 1"
    ∷ done "OPEN 333 1 ao5 4:1 60000 final" ∷ refused code.NotClosed "REOPEN 333 1"
    ∷ refused code.FormatNotAllowed "SET 333 1 mo3 3:1500 -"
    ∷ refused code.CutoffNotAllowed "SET 333 1 bo1 1:1500 -"
    ∷ refused code.LimitNotAllowed "SET 333 1 bo1 - -" ∷ done "SET 333 1 bo1 - 1000"
    ∷ refused code.WrongOutcome "RSC 333 1 1 R" ∷ refused code.UnknownCompetitor "WDR 333 1 3"
    ∷ refused code.RoundUnknown "WDR 222 1 1" ∷ refused code.NotEntered "WDR 333 1 1"
    ∷ done "ENT 333 1" ∷ done "ENT 333 2" ∷ done "WDR 333 1 1" ∷ done "ATT 333 1 1 2 DNS"
    ∷ refused code.HasAttempts "WDR 333 1 2" ∷ refused code.HasAttempts "SET 333 1 mo3 3:1500 -"
    ∷ done "CLOSE 333 1" ∷ refused code.Closed "SET 333 1 mo3 3:1500 -"
    ∷ refused code.Closed "WDR 333 1 2" ∷ done "REOPEN 333 1" ∷ done "CLOSE 333 1" ∷ []

-- another scramble, of edition 3: only where no solution counts
abbrev pub scramble_day : List Row
scramble_day =
    refused code.RoundUnknown "RSC 333fm 1 1 R" ∷ done "REG 1 Ann Li"
    ∷ done "OPEN 333fm 1 bo1 - - final" ∷ refused code.NoScramble "RSC 333fm 1 5 R"
    ∷ done "SCR 333fm 1 1 R" ∷ done "RSC 333fm 1 1 U" ∷ done "ENT 333fm 1"
    ∷ done "ATT 333fm 1 1 1 S:U'" ∷ refused code.HasAttempts "RSC 333fm 1 1 R"
    ∷ done "COR 333fm 1 1 1 DNF" ∷ done "RSC 333fm 1 1 R" ∷ done "CLOSE 333fm 1"
    ∷ refused code.NoScramble "RSC 333fm 1 2 U" ∷ refused code.Closed "RSC 333fm 1 1 U" ∷ []

-- names by the rule of editions 1 and 2: of 80 bytes at most, and with double quotes
abbrev pub early_names : List Row
early_names =
    done "REG 1 Pat \"Slow\" Roy" ∷ (codes "REG 2 " ++ replicate 80 97, None)
    ∷ (codes "REG 3 " ++ replicate 81 97, Some code.Unread)
    ∷ (codes "REG 3 Ann" ++ 127 ∷ [], Some code.Unread)
    -- a character that is not seen, U+200B
    ∷ (codes "REG 3 Ann" ++ 226 ∷ 128 ∷ 139 ∷ [], None)
    ∷ (codes "REG 4 Ann" ++ 226 ∷ 128 ∷ [], Some code.Unread) ∷ []

-- names by the rule of edition 3: of 160 bytes at most, and without double quotes
abbrev pub clear_names : List Row
clear_names =
    refused code.Unread "REG 1 Pat \"Slow\" Roy" ∷ (codes "REG 1 " ++ replicate 81 97, None)
    ∷ (codes "REG 2 " ++ replicate 160 97, None)
    ∷ (codes "REG 3 " ++ replicate 161 97, Some code.Unread)
    ∷ (codes "REN 1 " ++ replicate 161 97, Some code.Unread)
    ∷ (codes "REG 3 Ann" ++ 127 ∷ [], Some code.Unread)
    ∷ (codes "REG 3 Ann" ++ 226 ∷ 128 ∷ 139 ∷ [], Some code.Unread) ∷ []

abbrev pub in_second : List Row → List Row
in_second day = done "EDITION 2" ∷ day

abbrev pub in_third : List Row → List Row
in_third day = done "EDITION 3" ∷ day

-- in editions 1 and 2, and in edition 3 too
abbrev pub InEarly : List Row → Type 0
InEarly day = IsAnswered day × IsAnswered (in_second day)

abbrev pub InEach : List Row → Type 0
InEach day = InEarly day × IsAnswered (in_third day)

-- a round with this many entrants, none of whom has an attempt
abbrev pub one_of : ℕ → Entrant
one_of n = record { number = n; values = [] }

abbrev pub with_entrants : ℕ → Option (Settings × Table)
with_entrants count =
    Some (
      record { format = Ao5; cutoff = None; limit = Some 60000; advance = Final },
      record {
        format = Ao5;
        unit = Time;
        cutoff = None;
        is_closed = false;
        entrants = map one_of (range_with_len 1 count);
      },
    )

pub record AnswersWorkedDays : Type 0 where
  pub timed_in_each : InEach timed_day
  pub moves_in_each : InEach moves_day
  pub misspelt_in_each : InEach misspelt
  pub no_cubes_in_first : IsAnswered cubes
  pub cubes_in_later : IsAnswered (in_second cubes_day) × IsAnswered (in_third cubes_day)
  pub no_mending_in_early : InEarly mending
  pub mending_in_third : IsAnswered (in_third mending_day)
  pub scrambles_in_third : IsAnswered (in_third scramble_day)
  pub names_in_early : InEarly early_names
  pub names_in_third : IsAnswered (in_third clear_names)
  -- the editions one after the other, and none of them twice
  pub editions : IsAnswered (done "EDITION 2" ∷ refused code.Already "EDITION 2" ∷ done "EDITION 3"
      ∷ refused code.Already "EDITION 3" ∷ refused code.Already "EDITION 2" ∷ [])
  -- an id counts once, whatever its text was answered
  pub repeats : answers nothing ((7, codes "ent 333 1") ∷ (7, codes "REG 1 Ann Li")
      ∷ (8, codes "REG 1 Ann Li") ∷ (8, codes "ent 333 1") ∷ (9, codes "REG 1 Bo Ek")
      ∷ (9, codes "REG 2 Bo Ek") ∷ [])
      ≡ Refused code.Unread ∷ Refused code.Repeat ∷ Done ∷ Refused code.Repeat
      ∷ Refused code.Already ∷ Refused code.Repeat ∷ []
  -- 999 entrants are the most
  pub not_full : enter_refusal 1000 (with_entrants 998) ≡ None
  pub full : enter_refusal 1000 (with_entrants 999) ≡ Some code.Full
  pub entered_before : enter_refusal 5 (with_entrants 999) ≡ Some code.Already
