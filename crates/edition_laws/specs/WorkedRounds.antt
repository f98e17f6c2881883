-- Worked rounds of editions 1 and 2, from texts to sheets, by hand: how attempts count and print,
-- who is in which place, and who advances.
use Rattle.std.specs.Prelude.{◌≡◌, ℕ, List, [], ◌∷◌, ◌++◌, codes, Some, None, map}
use Rattle.formats.specs.declared.events.Event.TheVariants.{Cube3, Cube7, FewestMoves, MultiBlind}
use Rattle.advancement.specs.Advancing.{later_rounds}
use Rattle.commands.specs.History.{history}
use Prim.Native.String.{String}
use Rattle.edition_laws.specs.Answered.{Row, IsAnswered, lines, done, entries, printed, refused}
use Rattle.edition_laws.specs.WorkedDays.{those_in}
use Rattle.texts.specs.declared.answer.Code.TheVariants as code
use Rattle.formats.specs.declared.styles.SheetStyle.TheVariants as style

-- Above ten minutes times count in whole seconds, a half up, and so do means; below it two thirds
-- of a hundredth are one. A measured time at the limit is a DNF, and one below it takes its
-- penalties beyond it. Bo Ek has the mean of Ann Li, and a worse best.
abbrev pub long_times : List Row
long_times =
    map done ("REG 1 Ann Li" ∷ "REG 2 Bo Ek" ∷ "REG 3 Cy Oz" ∷ "REG 4 Di Fu"
    ∷ "OPEN 777 1 mo3 - 360000 final" ∷ "ENT 777 1" ∷ "ENT 777 2" ∷ "ENT 777 3" ∷ "ENT 777 4"
    ∷ "ATT 777 1 1 1 T:59950:0" ∷ "ATT 777 1 2 1 T:60049:0" ∷ "ATT 777 1 3 1 T:60050:0"
    ∷ "ATT 777 1 1 2 T:59800:1" ∷ "ATT 777 1 2 2 T:59801:1" ∷ "ATT 777 1 3 2 T:59851:1"
    ∷ "ATT 777 1 1 3 T:360000:0" ∷ "ATT 777 1 2 3 T:359999:9" ∷ "ATT 777 1 3 3 DNS"
    ∷ "ATT 777 1 1 4 T:1:0" ∷ "ATT 777 1 2 4 T:7:0" ∷ "ATT 777 1 3 4 T:1001:2" ∷ [])

abbrev pub long_sheet : List ℕ
long_sheet =
    lines ("777 round 1 mo3 open position 21" ∷ "cutoff - limit 360000 advance final"
    ∷ "  1      4.70      0.01      0.01      0.07     14.01    4 - Di Fu"
    ∷ "  2  10:00.00   9:59.50   9:59.50  10:00.00  10:01.00    1 - Ann Li"
    ∷ "  3  10:00.00  10:00.00  10:00.00  10:00.00  10:01.00    2 - Bo Ek"
    ∷ "  4       DNF  60:18.00       DNF  60:18.00       DNS    3 - Cy Oz" ∷ [])

-- Two share a place, with the same average and the same best. A DNF is the worst of five attempts,
-- and two of them leave no average. A time at the cutoff does not meet it, with its penalty in.
abbrev pub five_attempts : List Row
five_attempts =
    map done ("REG 1 Ann Li" ∷ "REG 2 Bo Ek" ∷ "REG 3 Cy Oz" ∷ "REG 4 Di Fu" ∷ "REG 5 Ed Go"
    ∷ "OPEN 333 1 ao5 2:1000 60000 final" ∷ "ENT 333 1" ∷ "ENT 333 2" ∷ "ENT 333 3" ∷ "ENT 333 4"
    ∷ "ENT 333 5" ∷ "ATT 333 1 1 1 T:999:0" ∷ "ATT 333 1 2 1 T:2000:0" ∷ "ATT 333 1 3 1 T:1200:0"
    ∷ "ATT 333 1 4 1 T:1300:0" ∷ "ATT 333 1 5 1 DNF" ∷ "ATT 333 1 1 2 T:800:1"
    ∷ "ATT 333 1 2 2 T:1000:0" ∷ []) ++ refused code.NoMoreAttempts "ATT 333 1 3 2 T:900:0"
    ∷ map done ("ATT 333 1 1 3 DNF" ∷ "ATT 333 1 2 3 T:999:0" ∷ "ATT 333 1 3 3 T:1500:0"
    ∷ "ATT 333 1 4 3 T:1500:0" ∷ "ATT 333 1 5 3 T:1500:0" ∷ "ATT 333 1 1 4 T:900:0"
    ∷ "ATT 333 1 2 4 DNS" ∷ "ATT 333 1 3 4 DNF" ∷ "ATT 333 1 4 4 T:1000:0"
    ∷ "ATT 333 1 5 4 T:1000:0" ∷ "ATT 333 1 1 5 DNS" ∷ "ATT 333 1 2 5 DNS" ∷ [])

abbrev pub five_sheet : List ℕ
five_sheet =
    lines ("333 round 1 ao5 open position 31" ∷ "cutoff 2:1000 limit 60000 advance final"
    ∷ "  1     15.00      9.99      9.99     20.00     12.00     13.00       DNF    1 - Ann Li"
    ∷ "  1     15.00      9.99       DNF      9.99     15.00     15.00     15.00    3 - Cy Oz"
    ∷ "  3       DNF      9.00      9.00       DNS       DNF     10.00     10.00    4 - Di Fu"
    ∷ "  4         -     10.00     10.00     10.00         -         -         -    2 - Bo Ek"
    ∷ "  5         -       DNS       DNS       DNS         -         -         -    5 - Ed Go" ∷ [])

abbrev pub five_table : List ℕ
five_table =
    lines ("place,number,name,average,best,1,2,3,4,5,advances"
    ∷ "1,1,Ann Li,15.00,9.99,9.99,20.00,12.00,13.00,DNF,no"
    ∷ "1,3,Cy Oz,15.00,9.99,DNF,9.99,15.00,15.00,15.00,no"
    ∷ "3,4,Di Fu,DNF,9.00,9.00,DNS,DNF,10.00,10.00,no" ∷ "4,2,Bo Ek,-,10.00,10.00,10.00,-,-,-,no"
    ∷ "5,5,Ed Go,-,DNS,DNS,DNS,-,-,-,no" ∷ [])

-- Fewest moves: a rotation counts nothing, and what leaves the cube unsolved is a DNF. Two moves do
-- not meet a cutoff of two.
abbrev pub solutions : List Row
solutions =
    map done ("REG 1 Ann Li" ∷ "REG 2 Bo Ek" ∷ "OPEN 333fm 1 mo3 2:2 - final" ∷ "ENT 333fm 1"
    ∷ "ENT 333fm 2" ∷ "SCR 333fm 1 1 R" ∷ "SCR 333fm 1 2 R U" ∷ "SCR 333fm 1 3 F2"
    ∷ "ATT 333fm 1 1 1 S:R'" ∷ "ATT 333fm 1 2 1 S:U' R'" ∷ "ATT 333fm 1 3 1 S:F2 y"
    ∷ "ATT 333fm 1 1 2 S:R" ∷ "ATT 333fm 1 2 2 S:U' R'" ∷ [])
    ++ refused code.NoMoreAttempts "ATT 333fm 1 3 2 S:F2" ∷ []

abbrev pub solutions_sheet : List ℕ
solutions_sheet =
    lines ("333fm round 1 mo3 open position 14" ∷ "cutoff 2:2 limit - advance final"
    ∷ "  1      1.33         1         1         2         1    1 - Ann Li"
    ∷ "  2         -         2       DNF         2         -    2 - Bo Ek" ∷ [])

abbrev pub solutions_table : List ℕ
solutions_table =
    lines ("place,number,name,average,best,1,2,3,advances" ∷ "1,1,Ann Li,1.33,1,1,2,1,no"
    ∷ "2,2,Bo Ek,-,2,DNF,2,-,no" ∷ [])

-- Multi-blind, of edition 2: at equal points and times fewer unsolved cubes are better. One solved
-- cube, or less than no point, is a DNF.
abbrev pub blindfolded : List Row
blindfolded =
    map done ("EDITION 2" ∷ "REG 1 Ann Li" ∷ "REG 2 Bo Ek" ∷ "REG 3 Cy Oz"
    ∷ "OPEN 333mbf 1 bo2 - - final" ∷ "ENT 333mbf 3" ∷ "ENT 333mbf 2" ∷ "ENT 333mbf 1"
    ∷ "ATT 333mbf 1 1 1 M:9:9:3500" ∷ "ATT 333mbf 1 2 1 DNF" ∷ "ATT 333mbf 1 1 2 M:2:4:60"
    ∷ "ATT 333mbf 1 2 2 M:11:13:3500" ∷ "ATT 333mbf 1 1 3 M:1:2:60" ∷ "ATT 333mbf 1 2 3 M:2:5:60"
    ∷ [])

abbrev pub blindfolded_sheet : List ℕ
blindfolded_sheet =
    lines ("333mbf round 1 bo2 open position 14" ∷ "cutoff - limit - advance final"
    ∷ "  1           -   9/9 58:20   9/9 58:20         DNF    1 - Ann Li"
    ∷ "  2           - 11/13 58:20    2/4 1:00 11/13 58:20    2 - Bo Ek"
    ∷ "  3           -         DNF         DNF         DNF    3 - Cy Oz" ∷ [])

-- Nine are in a round, of whom eight are competitors: Gil did not start. Cas and Dan are tied.
abbrev pub nine : List Row
nine =
    map done ("REG 1 Ann" ∷ "REG 2 Ben" ∷ "REG 3 Cas" ∷ "REG 4 Dan" ∷ "REG 5 Eli" ∷ "REG 6 Fay"
    ∷ "REG 7 Gil" ∷ "REG 8 Hal" ∷ "REG 9 Ida" ∷ "OPEN 333 1 bo1 - 60000 top:3" ∷ "ENT 333 1"
    ∷ "ENT 333 2" ∷ "ENT 333 3" ∷ "ENT 333 4" ∷ "ENT 333 5" ∷ "ENT 333 6" ∷ "ENT 333 7"
    ∷ "ENT 333 8" ∷ "ENT 333 9" ∷ "ATT 333 1 1 1 T:1100:0" ∷ "ATT 333 1 1 2 T:1000:0"
    ∷ "ATT 333 1 1 3 T:1200:0" ∷ "ATT 333 1 1 4 T:1200:0" ∷ "ATT 333 1 1 5 T:1300:0"
    ∷ "ATT 333 1 1 6 DNF" ∷ "ATT 333 1 1 7 DNS" ∷ "ATT 333 1 1 8 T:1400:0"
    ∷ "ATT 333 1 1 9 T:1500:0" ∷ [])

abbrev pub second_round : List Row
second_round = done "CLOSE 333 1" ∷ done "OPEN 333 2 bo1 - 60000 final" ∷ []

-- three may advance, and the third place is shared by two: both stay out
abbrev pub tied : List Row
tied = nine ++ second_round

abbrev pub first_sheet : List ℕ
first_sheet =
    lines ("333 round 1 bo1 closed position 30" ∷ "cutoff - limit 60000 advance top:3"
    ∷ "  1         -     10.00     10.00    2 Q Ben"
    ∷ "  2         -     11.00     11.00    1 Q Ann"
    ∷ "  3         -     12.00     12.00    3 - Cas"
    ∷ "  3         -     12.00     12.00    4 - Dan"
    ∷ "  5         -     13.00     13.00    5 - Eli"
    ∷ "  6         -     14.00     14.00    8 - Hal"
    ∷ "  7         -     15.00     15.00    9 - Ida"
    ∷ "  8         -       DNF       DNF    6 - Fay"
    ∷ "  8         -       DNS       DNS    7 - Gil" ∷ [])

abbrev pub next_sheet : List ℕ
next_sheet =
    lines ("333 round 2 bo1 open position 30" ∷ "cutoff - limit 60000 advance final"
    ∷ "  1         -         -         -    2 - Ben"
    ∷ "  1         -         -         -    1 - Ann" ∷ [])

-- those who are in the second round after these texts
abbrev pub advanced : List Row → List ℕ
advanced rows = those_in 2 (history (entries 1 rows)).accepted

-- the same with another advance
abbrev pub with_advance : String → List Row
with_advance text = nine ++ (codes "ADV 333 1 " ++ codes text, None) ∷ second_round

-- seven competitors allow no later round
abbrev pub one_too_few : List Row
one_too_few =
    nine ++ done "COR 333 1 1 9 DNS" ∷ refused code.RoundsRule "CLOSE 333 1"
    ∷ done "COR 333 1 1 7 DNF" ∷ done "CLOSE 333 1" ∷ done "OPEN 333 2 bo1 - 60000 top:1"
    ∷ done "ATT 333 2 1 1 DNF" ∷ done "ATT 333 2 1 2 DNF" ∷ refused code.RoundsRule "CLOSE 333 2"
    ∷ refused code.Closed "ENT 333 1" ∷ []

pub record WorksRounds : Type 0 where
  pub long_answers : IsAnswered long_times
  pub long_printed : printed style.Text long_times Cube7 1 ≡ Some long_sheet
  pub five_answers : IsAnswered five_attempts
  pub five_printed : printed style.Text five_attempts Cube3 1 ≡ Some five_sheet
  pub five_as_table : printed style.Table five_attempts Cube3 1 ≡ Some five_table
  pub solutions_answers : IsAnswered solutions
  pub solutions_printed : printed style.Text solutions FewestMoves 1 ≡ Some solutions_sheet
  pub solutions_as_table : printed style.Table solutions FewestMoves 1 ≡ Some solutions_table
  pub blindfolded_answers : IsAnswered blindfolded
  pub blindfolded_printed : printed style.Text blindfolded MultiBlind 1 ≡ Some blindfolded_sheet
  pub tied_answers : IsAnswered tied
  pub tied_printed : printed style.Text tied Cube3 1 ≡ Some first_sheet
  pub next_printed : printed style.Text tied Cube3 2 ≡ Some next_sheet
  -- 62 percent of eight are 4.96, and four may advance
  pub percent : advanced (with_advance "pct:62") ≡ 2 ∷ 1 ∷ 3 ∷ 4 ∷ []
  -- three quarters of eight are six
  pub three_quarters : advanced (with_advance "top:8") ≡ 2 ∷ 1 ∷ 3 ∷ 4 ∷ 5 ∷ 8 ∷ []
  pub too_few : IsAnswered one_too_few
  pub after_7 : later_rounds 7 ≡ 0
  pub after_8 : later_rounds 8 ≡ 1
  pub after_15 : later_rounds 15 ≡ 1
  pub after_16 : later_rounds 16 ≡ 2
  pub after_99 : later_rounds 99 ≡ 2
  pub after_100 : later_rounds 100 ≡ 3
