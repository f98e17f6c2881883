-- A model of the code: what is kept beside the accepted commands, and how a command changes it.
use Rattle.std.specs.Prelude.{is_some, IfSome, true, false, not, nat_le, ◌-◌, ◌<◌, ◌≤◌, length}
use Rattle.std.specs.Prelude.{slice_get, zero, suc, drop, count_by, All, slice_index_or, slice_set}
use Rattle.std.specs.Prelude.{[], ◌++◌, map, if◌then◌else◌, ◌≡◌, ℕ, Bool, ◌==◌, ◌&&◌, List, find}
use Rattle.std.specs.Prelude.{bytes_eq, nat_eq, Option, None, Some}
use Rattle.std.specs.{List.list_any, List.IsDistinct, HashMap.get, HashMap.get_by}
use Rattle.std.specs.Option.{option_or, option_map, option_map_or, option_and_then}
use Rattle.cube.specs.declared.moves.Move.{Move}
use Rattle.formats.specs.declared.events.{Event.Event, Format.Format}
use Rattle.formats.specs.{Events.same_event, Events.unit_of, declared.advance.Advance.Advance}
use Rattle.texts.specs.declared.command.{Command.Command, AttemptEntry.AttemptEntry}
use Rattle.texts.specs.declared.answer.Code.{Code}
use Rattle.texts.specs.declared.command.Command.TheVariants.{Enter, Attempt, Correct, Strike}
use Rattle.texts.specs.declared.command.Command.TheVariants.{Rename, Withdraw, Card, Fix}
use Rattle.texts.specs.declared.command.{Entered.Entered, Settings.Settings, RoundId.RoundId}
use Rattle.commands.specs.declared.kept_rounds.{KeptRound.KeptRound, KeptRounds.KeptRounds}
use Rattle.commands.specs.declared.{competitors.Competitors.Competitors, index.Index.Index}
use Rattle.rounds.specs.Tables.{Entrant, Table, empty_table, with_value, corrected, struck, closed}
use Rattle.rounds.specs.Tables.{with_entrant, is_entered, with_rules, withdrawn, reopened}
use Rattle.commands.specs.Accepted.{name_given, renaming, name_of, is_called, is_taken, is_of}
use Rattle.commands.specs.Accepted.{scrambling, rescrambling, scramble_of, settled, is_withdrawal}
use Rattle.commands.specs.Accepted.{Opened, opened, round_in, round_of, edition_in, is_registered}
use Rattle.commands.specs.Accepted.{who_advance, who_wait, is_solution, is_solved, competitors_of}
use Rattle.commands.specs.model.Solved.{is_noted}
use Rattle.texts.specs.declared.answer.Code.TheVariants as code

-- the name that a command gives a number, by its registration or as another name
abbrev pub naming : ℕ → Command → Option (List ℕ)
naming n c = option_or (name_given n c) (renaming n c)

-- the name that the command at a place gives a number
abbrev pub name_at : List Command → ℕ → ℕ → Option (List ℕ)
name_at cs n i = option_and_then (naming n) (slice_get cs i)

-- the number to which a name was given last
abbrev pub holder : Competitors → List ℕ → Option ℕ
holder kept name = get_by (λ key. bytes_eq name key.items) kept.holders

-- each number's name is found, and who has a name now is the one to whom it was given last
pub record AreCompetitors (cs : List Command) (kept : Competitors) : Type 0 where
  pub places : (n : ℕ) → option_and_then (name_at cs n) (get nat_eq kept.places n) ≡ name_of cs n
  pub names : (n : ℕ) (name : List ℕ) → is_called cs n name ≡ true → holder kept name ≡ Some n

-- a name that the command after these gives a number is noted
pub record Notes (cs : List Command) (n : ℕ) (name : List ℕ) (old new : Competitors) : Type
    0 where
  pub places : (q : ℕ)
      → get nat_eq new.places q ≡ (if n == q then Some (length cs) else get nat_eq old.places q)
  pub names : (other : List ℕ)
      → holder new other ≡ (if bytes_eq name other then Some n else holder old other)

-- what is looked up in the one is found in the other, where no other number has the name
abbrev pub IsAsGood : List Command → ℕ → List ℕ → Competitors → Competitors → Type 0
IsAsGood cs n name old new =
    is_taken cs n name ≡ false → AreCompetitors cs old → AreCompetitors cs new

abbrev pub is_round : Event → ℕ → KeptRound → Bool
is_round e r x = same_event e x.id.event && r == x.id.round

abbrev pub kept_value : KeptRound → Settings × Table
kept_value x = (x.settings, x.table)

abbrev pub kept_round : Event → ℕ → List KeptRound → Option (Settings × Table)
kept_round e r xs = option_map kept_value (find (is_round e r) xs)

-- the round of an id, where it is kept
abbrev pub kept_by : RoundId → KeptRounds → Option (Settings × Table)
kept_by id kept = kept_round id.event id.round kept.opened.items

-- the round that is kept of the next number
abbrev pub kept_next : Event → ℕ → List KeptRound → Option KeptRound
kept_next e r xs = find (is_round e (suc r)) xs

-- who advanced from a round, and how many competitors it has
abbrev pub seen_from : Option (Settings × Table) → List ℕ × ℕ
seen_from round = (who_advance round, competitors_of round)

-- the same of the round before one that is kept, as it was when that one was opened
abbrev pub seen_in : KeptRound → List ℕ × ℕ
seen_in x = (x.advanced.items, x.competitors_before)

abbrev pub kept_seen : Event → ℕ → List KeptRound → Option (List ℕ × ℕ)
kept_seen e r xs = option_map seen_in (find (is_round e r) xs)

-- the same, as the accepted commands make it
abbrev pub before_of : List Command → Event → ℕ → Option (List ℕ × ℕ)
before_of cs e zero = None
before_of cs e (suc r) =
    option_map (λ o. seen_from (round_in e r o.before)) (opened e (suc r) [] cs)

-- how many competitors a round has, as the next one sees it
abbrev pub kept_competitors : Event → List KeptRound → ℕ → ℕ
kept_competitors e xs r =
    option_map_or (λ seen. seen.1) (kept_seen e (suc r) xs) (competitors_of (kept_round e r xs))

-- those who advanced from a round when the next one was opened, where it is
abbrev pub kept_advanced : Event → ℕ → List KeptRound → Option (List ℕ)
kept_advanced e r xs = option_map (λ seen. seen.0) (kept_seen e (suc r) xs)

-- those who wait for a place in a round that is kept
abbrev pub waiting_in : KeptRound → List ℕ
waiting_in x = x.waiting.items

abbrev pub kept_waiting : Event → ℕ → List KeptRound → Option (List ℕ)
kept_waiting e r xs = option_map waiting_in (find (is_round e r) xs)

-- the first of a list, if it has any
abbrev pub first_of_all : List ℕ → Option ℕ
first_of_all ns = slice_get ns 0

abbrev pub waiting_by : RoundId → KeptRounds → Option (List ℕ)
waiting_by id kept = kept_waiting id.event id.round kept.opened.items

-- those who wait still, once this many have withdrawn
abbrev pub waiting_now : Event → ℕ → Option (Settings × Table) → Opened → List ℕ
waiting_now e r before o = drop (count_by (is_withdrawal e r) o.since) (who_wait before)

-- those who wait still for a place in a round, as the accepted commands make it
abbrev pub waiting_of : List Command → Event → ℕ → Option (List ℕ)
waiting_of cs e zero = None
waiting_of cs e (suc r) =
    option_map (λ o. waiting_now e (suc r) (round_in e r o.before) o) (opened e (suc r) [] cs)

-- those who wait are other than these
abbrev pub AreOthers : List ℕ → List ℕ → Type 0
AreOthers ns waiting = All (λ n. list_any (λ other. n == other) ns ≡ false) waiting

-- each of those who wait is there once, and is not entered
pub record AreApart (t : Table) (waiting : List ℕ) : Type 0 where
  pub once : IsDistinct nat_eq waiting
  pub others : All (λ n. is_entered t n ≡ false) waiting

abbrev pub IsApart : Option (Settings × Table) → Option (List ℕ) → Type 0
IsApart (Some round) (Some waiting) = AreApart round.1 waiting
IsApart _ _ = Unit {0}

-- the scramble that a command gives an attempt, the first or another one
abbrev pub scramble_given : Event → ℕ → ℕ → Command → Option (List Move)
scramble_given e r k c = option_or (scrambling e r k c) (rescrambling e r k c)

-- the scramble that the command at a place gives an attempt
abbrev pub scramble_at : List Command → Event → ℕ → ℕ → ℕ → Option (List Move)
scramble_at cs e r k i = option_and_then (scramble_given e r k) (slice_get cs i)

-- the place of an attempt's scramble, in a round
abbrev pub place_in : ℕ → KeptRound → Option ℕ
place_in k x = slice_index_or x.scrambles (k - 1) None

abbrev pub kept_scramble : Event → ℕ → ℕ → List KeptRound → Option ℕ
kept_scramble e r k xs = option_and_then (place_in k) (find (is_round e r) xs)

-- a solution is noted for an attempt of a number, in a round
abbrev pub solved_in : ℕ → ℕ → KeptRound → Bool
solved_in k n x = is_noted x.solutions n k

abbrev pub kept_solved : Event → ℕ → ℕ → ℕ → List KeptRound → Bool
kept_solved e r k n xs = option_map_or (solved_in k n) (find (is_round e r) xs) false

-- each round is kept as the accepted commands make it, with those who wait, who are not in it, and
-- with what it saw of the one before; and the scrambles of its attempts are found
pub record AreRounds (cs : List Command) (xs : List KeptRound) : Type 0 where
  pub rounds : (e : Event) (r : ℕ) → kept_round e r xs ≡ round_of cs e r
  pub scrambles : (e : Event) (r k : ℕ) → 1 ≤ k
      → option_and_then (scramble_at cs e r k) (kept_scramble e r k xs) ≡ scramble_of cs e r k
  pub waiting : (e : Event) (r : ℕ) → kept_waiting e r xs ≡ waiting_of cs e r
  pub apart : (e : Event) (r : ℕ) → IsApart (kept_round e r xs) (kept_waiting e r xs)
  pub solved : (e : Event) (r k n : ℕ) → 1 ≤ k → kept_solved e r k n xs ≡ is_solved cs e r k n
  pub seen : (e : Event) (r : ℕ) → kept_seen e r xs ≡ before_of cs e r

-- the competitor whom a command enters, or whose attempts it is of
abbrev pub competitor_of : Command → Option ℕ
competitor_of (Enter e n) = Some n
competitor_of (Attempt entry) = Some entry.number
competitor_of (Correct entry) = Some entry.number
competitor_of (Strike id n) = Some n
competitor_of (Rename n name) = Some n
competitor_of (Withdraw id n) = Some n
competitor_of (Card card) = Some card.number
competitor_of (Fix card) = Some card.number
competitor_of _ = None

-- nobody is registered under the number, where there is one
abbrev pub is_nobody : List Command → Option ℕ → Bool
is_nobody cs None = false
is_nobody cs (Some n) = not (is_registered cs n)

-- a command is of a competitor under whose number nobody is registered
abbrev pub is_of_nobody : List Command → Command → Bool
is_of_nobody cs c = is_nobody cs (competitor_of c)

-- why an edition is not set, where another one holds
abbrev pub edition_refusal : ℕ → ℕ → Option Code
edition_refusal holds edition = if nat_le edition holds then Some code.Already else None

-- what is looked up of the accepted commands is found
pub record IsIndexOf (cs : List Command) (index : Index) : Type 0 where
  pub competitors : AreCompetitors cs index.competitors
  pub rounds : AreRounds cs index.rounds.opened.items

-- the accepted commands are indexed, and the edition is the one that holds
pub record IsAccepted (cs : List Command) (kept : Index) (now : ℕ) : Type 0 where
  pub index : IsIndexOf cs kept
  pub edition : now ≡ edition_in cs

-- the round at a place is the kept one of an event and a number
pub record IsKeptAt (xs : List KeptRound) (e : Event) (r : ℕ) (i : ℕ) : Type 0 where
  pub within : i < length xs
  pub there : is_some (kept_round e r xs) ≡ true
  pub found : (d : KeptRound) → find (is_round e r) xs ≡ Some (slice_index_or xs i d)
  pub kept : (d : KeptRound)
      → kept_round e r xs ≡ Some ((slice_index_or xs i d).settings, (slice_index_or xs i d).table)
  pub places : (d : KeptRound) (k : ℕ) → kept_scramble e r k xs ≡ place_in k (slice_index_or xs i d)
  pub changed : (d x : KeptRound) → x.id.event ≡ (slice_index_or xs i d).id.event
      → x.id.round ≡ (slice_index_or xs i d).id.round → (f : Event) (s : ℕ)
      → find (is_round f s) (slice_set xs i x)
      ≡ (if same_event f e && s == r then Some x else find (is_round f s) xs)

-- a round with one more attempt of a number
abbrev pub with_attempt : ℕ → Option (List Move) → Entered → Settings × Table → Settings × Table
with_attempt n scramble x round = (round.0, with_value round.1 n (settled round.0 scramble x))

-- a round with one more entrant
abbrev pub with_entry : ℕ → Settings × Table → Settings × Table
with_entry n round = (round.0, with_entrant round.1 n)

-- a round with another value for an attempt of a number
abbrev pub with_correction : ℕ → ℕ → Option (List Move) → Entered → Settings × Table
    → Settings × Table
with_correction n k scramble x round = (round.0, corrected round.1 n k (settled round.0 scramble x))

-- a round without the last attempt of a number
abbrev pub with_strike : ℕ → Settings × Table → Settings × Table
with_strike n round = (round.0, struck round.1 n)

-- a round from which others advance
abbrev pub with_advance : Advance → Settings × Table → Settings × Table
with_advance advance round = (record round.0 { advance = advance }, round.1)

-- a round in which nobody has an attempt, with another format, cutoff and limit
abbrev pub with_settings : Format → Option (ℕ × ℕ) → Option ℕ → Settings × Table → Settings × Table
with_settings format cutoff limit round = (
  record round.0 { format = format; cutoff = cutoff; limit = limit },
  with_rules round.1 format cutoff,
)

-- a round that a number has left, and in which the next, if anybody waits, took the place
abbrev pub with_exit : ℕ → Option ℕ → Settings × Table → Settings × Table
with_exit n next round = (round.0, withdrawn round.1 n next)

-- a round that is open again
abbrev pub with_reopening : Settings × Table → Settings × Table
with_reopening round = (round.0, reopened round.1)

-- a round that is closed
abbrev pub with_end : Settings × Table → Settings × Table
with_end round = (round.0, closed round.1)

abbrev pub newcomer : ℕ → Entrant
newcomer n = record { number = n; values = [] }

-- a table with more entrants, in order
abbrev pub with_newcomers : Table → List ℕ → Table
with_newcomers t ns = record t { entrants = t.entrants ++ map newcomer ns }

-- the table of a round that was just opened, with these entrants
abbrev pub table_opened : Event → Settings → List ℕ → Table
table_opened e settings ns =
    with_newcomers (empty_table settings.format (unit_of e) settings.cutoff) ns

-- the unit of a round, where it is there, is the event's
abbrev pub HasUnit : Event → Option (Settings × Table) → Type 0
HasUnit e round = IfSome round (λ x. x.1.unit ≡ unit_of e)

-- one round is changed, and no other; no scramble is, and nobody who waits, and nothing that was
-- seen of a round before
pub record ChangesRound (e : Event) (r : ℕ) (change : Settings × Table → Settings × Table)
    (old new : List KeptRound) : Type 0 where
  pub rounds : (f : Event) (s : ℕ) → kept_round f s new
      ≡ (if same_event f e && s == r then option_map change (kept_round f s old)
      else kept_round f s old)
  pub scrambles : (f : Event) (s k : ℕ) → kept_scramble f s k new ≡ kept_scramble f s k old
  pub waiting : (f : Event) (s : ℕ) → kept_waiting f s new ≡ kept_waiting f s old
  pub seen : (f : Event) (s : ℕ) → kept_seen f s new ≡ kept_seen f s old
  pub solved : (f : Event) (s k n : ℕ) → kept_solved f s k n new ≡ kept_solved f s k n old

-- nothing that is looked up of the rounds is otherwise than before
abbrev pub IsAsBefore : KeptRounds → KeptRounds → Type 0
IsAsBefore old new =
    (e : Event) (r : ℕ) → ChangesRound e r (λ round. round) old.opened.items new.opened.items

-- one round is changed by what is entered for attempt k of a number, and no other; no scramble is,
-- and nobody who waits; it is noted whether it was a solution
pub record EntersRound (e : Event) (r k n : ℕ) (x : Entered)
    (change : Settings × Table → Settings × Table) (old new : List KeptRound) : Type 0 where
  pub there : is_some (kept_round e r old) ≡ true
  pub rounds : (f : Event) (s : ℕ) → kept_round f s new
      ≡ (if same_event f e && s == r then option_map change (kept_round f s old)
      else kept_round f s old)
  pub scrambles : (f : Event) (s j : ℕ) → kept_scramble f s j new ≡ kept_scramble f s j old
  pub waiting : (f : Event) (s : ℕ) → kept_waiting f s new ≡ kept_waiting f s old
  pub seen : (f : Event) (s : ℕ) → kept_seen f s new ≡ kept_seen f s old
  pub solved : (f : Event) (s j m : ℕ) → 1 ≤ j → kept_solved f s j m new
      ≡ (if same_event f e && s == r && (m == n && j == k) then is_solution x
      else kept_solved f s j m old)

abbrev pub Enters : AttemptEntry → (Settings × Table → Settings × Table) → KeptRounds → KeptRounds
    → Type 0
Enters entry change old new =
    EntersRound entry.id.event entry.id.round entry.attempt entry.number entry.outcome change
    old.opened.items new.opened.items

-- the round of an id is changed, and no other; no scramble is
abbrev pub Changes : RoundId → (Settings × Table → Settings × Table) → KeptRounds → KeptRounds
    → Type 0
Changes id change old new =
    ChangesRound id.event id.round change old.opened.items new.opened.items

-- who withdraws leaves one round, and no other; the first of those who wait for a place in it, if
-- anybody does, takes that one and waits no more
pub record ExchangesRound (e : Event) (r : ℕ) (n : ℕ) (old new : List KeptRound) : Type 0 where
  pub rounds : (f : Event) (s : ℕ) → kept_round f s new ≡ (if same_event f e && s == r
      then option_map (with_exit n (option_and_then first_of_all (kept_waiting e r old)))
      (kept_round f s old)
      else kept_round f s old)
  pub scrambles : (f : Event) (s k : ℕ) → kept_scramble f s k new ≡ kept_scramble f s k old
  pub waiting : (f : Event) (s : ℕ) → kept_waiting f s new
      ≡ (if same_event f e && s == r then option_map (drop 1) (kept_waiting f s old)
      else kept_waiting f s old)
  pub seen : (f : Event) (s : ℕ) → kept_seen f s new ≡ kept_seen f s old
  pub solved : (f : Event) (s k m : ℕ) → kept_solved f s k m new ≡ kept_solved f s k m old

abbrev pub Exchanges : RoundId → ℕ → KeptRounds → KeptRounds → Type 0
Exchanges id n old new = ExchangesRound id.event id.round n old.opened.items new.opened.items

-- the round before one that is opened
abbrev pub before_in : RoundId → KeptRounds → Option (Settings × Table)
before_in id kept = kept_round id.event (id.round - 1) kept.opened.items

-- a round is added after those that are kept, without scrambles, with those who wait for a place,
-- and with what is seen of the one before
pub record AddsRound (e : Event) (r : ℕ) (round : Settings × Table) (waits : List ℕ)
    (sees : List ℕ × ℕ) (old new : List KeptRound) : Type 0 where
  pub rounds : (f : Event) (s : ℕ) → kept_round f s new
      ≡ option_or (kept_round f s old) (if same_event f e && s == r then Some round else None)
  pub scrambles : (f : Event) (s k : ℕ) → kept_scramble f s k new ≡ kept_scramble f s k old
  pub waiting : (f : Event) (s : ℕ) → kept_waiting f s new
      ≡ option_or (kept_waiting f s old) (if same_event f e && s == r then Some waits else None)
  pub seen : (f : Event) (s : ℕ) → kept_seen f s new
      ≡ option_or (kept_seen f s old) (if same_event f e && s == r then Some sees else None)
  pub solved : (f : Event) (s k m : ℕ) → kept_solved f s k m new ≡ kept_solved f s k m old

-- a round is opened with those who advance from the one before it; the others wait for a place
pub record Opens (id : RoundId) (settings : Settings) (old new : KeptRounds) : Type 0 where
  pub adds : AddsRound id.event id.round
      (settings, table_opened id.event settings (who_advance (before_in id old)))
      (who_wait (before_in id old)) (seen_from (before_in id old)) old.opened.items new.opened.items
  pub once : IsDistinct nat_eq (who_wait (before_in id old))
  pub others : AreOthers (who_advance (before_in id old)) (who_wait (before_in id old))

-- the round of an id is not kept any more, and each other one is kept as it was
abbrev pub Cancels : RoundId → KeptRounds → KeptRounds → Type 0
Cancels id old new =
    (f : Event) (s : ℕ) → find (is_round f s) new.opened.items
    ≡ (if is_of f s id then None else find (is_round f s) old.opened.items)

-- the scramble of one attempt of a round is at this place, and all else is as it was
pub record AddsScramble (e : Event) (r k : ℕ) (place : ℕ) (old new : List KeptRound) : Type 0 where
  pub there : is_some (kept_round e r old) ≡ true
  pub rounds : (f : Event) (s : ℕ) → kept_round f s new ≡ kept_round f s old
  pub scrambles : (f : Event) (s j : ℕ) → 1 ≤ j → kept_scramble f s j new
      ≡ (if same_event f e && s == r && j == k then Some place else kept_scramble f s j old)
  pub waiting : (f : Event) (s : ℕ) → kept_waiting f s new ≡ kept_waiting f s old
  pub seen : (f : Event) (s : ℕ) → kept_seen f s new ≡ kept_seen f s old
  pub solved : (f : Event) (s j m : ℕ) → kept_solved f s j m new ≡ kept_solved f s j m old
