-- What every list of accepted commands keeps to: names and numbers in their ranges, and at most 999
-- entrants in a round.
use Rattle.std.proofs.Common.{◌≡◌, ℕ, zero, suc, ◌+◌, ◌-◌, ◌<◌, ◌≤◌, Bool, true, false, ◌&&◌, ◌==◌}
use Rattle.std.proofs.Common.{not, cond, nat_le, List, [], ◌∷◌, ◌++◌, length, take, set, map}
use Rattle.std.proofs.Common.{filter, find, flat_map, fold, count_by, slice_get, Option, Some, None}
use Rattle.std.proofs.Common.{IfSome, option_map, option_to_list, Result, Ok, Err, IfOk, refl, sym}
use Rattle.std.proofs.Common.{ap, ◌∙◌, subst, arith, append-nil, length-append, eqb-true}
use Rattle.std.specs.List.{range_with_len, AllByRecursion, list_any}
use Rattle.std.{specs.Option.option_and_then, proofs.lemmas.Bool.Decides.nat_tests}
use Rattle.std.proofs.lemmas.List.{length-map, Elements.recursion_from_All}
use Rattle.std.proofs.lemmas.List.Sums.{length-filter, count_by-le-length}
use Rattle.cube.specs.declared.moves.Move.{Move}
use Rattle.attempts.specs.declared.{Value.Value, Unit.Unit as Measure}
use Rattle.attempts.specs.Attempts.{IsInRangeOf}
use Rattle.formats.specs.{declared.events.Event.Event, Events.same_event}
use Rattle.formats.proofs.SameEvent.{same_event-equal}
use Rattle.rounds.specs.Tables.{Entrant, Table, has_number, enter_fault, replaced, without_last}
use Rattle.rounds.specs.Tables.{number_of_entrant, place, standings, entrant, leave_fault}
use Rattle.rounds.specs.Tables.{withdraw_fault}
use Rattle.advancement.specs.{Advancing.goes_on, Waiting.stays_out}
use Rattle.texts.specs.declared.{answer.Code.Code, reading.CommandFault.CommandFault}
use Rattle.texts.specs.declared.command.{Command.Command, CardEntry.CardEntry, Entered.Entered}
use Rattle.texts.specs.declared.command.Command.TheVariants.{Register, Open, Enter, Attempt}
use Rattle.texts.specs.declared.command.Command.TheVariants.{Correct, Strike, SetAdvance, Rename}
use Rattle.texts.specs.declared.command.Command.TheVariants.{SetRound, Withdraw, Card, Fix}
use Rattle.texts.specs.declared.command.{RemarkedCommand.RemarkedCommand, Settings.Settings}
use Rattle.texts.specs.Spelling.{IsFit, IsFitSettings, IsEntered}
use Rattle.texts.specs.{Reading.command_of, Editions.is_spelled_in, Table.rows}
use Rattle.commands.specs.{Scrambles.scramble_in, model.Cards.IsReadCard, model.Kept.newcomer}
use Rattle.commands.specs.Accepted.{Opened, name_of, opened, opening, refusal, settled, is_wrong}
use Rattle.commands.specs.Accepted.{edition_in, just_opened, settings_by, settings_now, who_advance}
use Rattle.commands.specs.Accepted.{enter_code, name_given, one_value, opened_by, stays, values_now}
use Rattle.commands.specs.Accepted.{enter_refusal, entrant_after, settings_after, withdraw_refusal}
use Rattle.commands.specs.Accepted.{entering, renaming, round_at, round_in, round_of, who_wait}
use Rattle.commands.specs.Accepted.{entrants_left, is_registered, is_withdrawal, value_counted}
use Rattle.commands.specs.Accepted.{is_cancelled, is_of, plus_command, value_entered, withdraw_code}
use Rattle.commands.specs.History.{History, nothing, is_seen, added_read, spelled_refusal}
use Rattle.commands.specs.History.{read_refusal, after, history}
use Rattle.commands.proofs.CardSteps.{values_hold, settled_in_range}
use Rattle.commands.proofs.{Entries.accepted_new, Entries.after_seen, ReadCards.fix_read}
use Rattle.commands.proofs.{Known.read_fit, OneMore.round_more, ReadCards.card_read}
use Rattle.commands.proofs.Lookups.{some≢none, stands, standing_push}
use Rattle.commands.proofs.OneMore.{entered_last, is_left_by, left_more, one_more, opened_push}
use Rattle.texts.proofs.{NameRoom.name_room, NameRoom.new_name_room, Words.spelled_only}
use Rattle.attempts.specs.declared.Value.TheVariants as value
use Rattle.attempts.specs.declared.Unit.TheVariants as measure
use Rattle.rounds.specs.declared.fault.WithdrawFault.TheVariants as withdraw
use Rattle.rounds.specs.declared.fault.EnterFault.TheVariants as enter
use Rattle.texts.specs.declared.answer.Code.TheVariants as code
use Rattle.texts.specs.declared.command.Entered.TheVariants as entered

-- an entrant's number and values are in their ranges
pub record IsSmallEntrant (e : Entrant) : Type 0 where
  pub number : e.number ≤ 9999
  pub values : AllByRecursion (IsInRangeOf measure.Multi) e.values

-- a round's number and settings are in their ranges, and it has at most 999 entrants
pub record IsSmallRound (r : ℕ) (x : Settings × Table) : Type 0 where
  pub last : r ≤ 4
  pub settings : IsFitSettings x.0
  pub few : length x.1.entrants ≤ 999
  pub entrants : AllByRecursion IsSmallEntrant x.1.entrants

-- a name has at most 160 bytes, each double quote in it counted twice
abbrev pub IsSmallName : List ℕ → Type 0
IsSmallName name = length name + count_by (λ b. b == 34) name ≤ 160

abbrev pub AreSmallNumbers : List ℕ → Type 0
AreSmallNumbers ns = AllByRecursion (λ n. n ≤ 9999) ns

-- so are those of whoever waited for a place in the next round when that was opened
abbrev pub HasSmallWaiting : Event → ℕ → Opened → Type 0
HasSmallWaiting e r next = AreSmallNumbers (who_wait (round_in e r next.before))

-- the names that commands give are short, the rounds that they make are small, and so are the
-- numbers of those who wait for a place
pub record IsSmall (cs : List Command) : Type 0 where
  pub names : (n : ℕ) → IfSome (name_of cs n) IsSmallName
  pub rounds : (e : Event) (r : ℕ) → IfSome (round_of cs e r) (IsSmallRound r)
  pub waiting : (e : Event) (r : ℕ) → IfSome (opened e (suc r) [] cs) (HasSmallWaiting e r)

-- Lists

pub all_append : {X : Type 0} (P : X → Type 0) (xs ys : List X) → AllByRecursion P xs
    → AllByRecursion P ys → AllByRecursion P (xs ++ ys)
all_append P [] ys h k = k
all_append P (x ∷ xs) ys h k = (h.0, all_append P xs ys h.1 k)

all_map : {X Y : Type 0} (P : X → Type 0) (Q : Y → Type 0) (f : X → Y) → ((x : X) → P x → Q (f x))
    → (xs : List X) → AllByRecursion P xs → AllByRecursion Q (map f xs)
all_map P Q f each [] h = tt
all_map P Q f each (x ∷ xs) h = (each x h.0, all_map P Q f each xs h.1)

all_take : {X : Type 0} (P : X → Type 0) (k : ℕ) (xs : List X) → AllByRecursion P xs
    → AllByRecursion P (take k xs)
all_take P zero xs h = tt
all_take P (suc k) [] h = tt
all_take P (suc k) (x ∷ xs) h = (h.0, all_take P k xs h.1)

all_set : {X : Type 0} (P : X → Type 0) (xs : List X) (i : ℕ) (y : X) → AllByRecursion P xs → P y
    → AllByRecursion P (set xs i y)
all_set P [] i y h is = h
all_set P (x ∷ xs) zero y h is = (is, h.1)
all_set P (x ∷ xs) (suc i) y h is = (h.0, all_set P xs i y h.1 is)

pub all_filter : {X : Type 0} (P : X → Type 0) (p : X → Bool) (xs : List X) → AllByRecursion P xs
    → AllByRecursion P (filter p xs)
all_filter P p [] h = tt
all_filter {X} P p (x ∷ xs) h = step (p x) (all_filter P p xs h.1)
  where
    step : (b : Bool) → AllByRecursion P (filter p xs)
        → AllByRecursion P (cond b (x ∷ filter p xs) (filter p xs))
    step true rest = (h.0, rest)
    step false rest = rest

pub all_flat_map : {X Y : Type 0} (P : Y → Type 0) (f : X → List Y)
    → ((x : X) → AllByRecursion P (f x)) → (xs : List X) → AllByRecursion P (flat_map f xs)
all_flat_map P f each [] = tt
all_flat_map P f each (x ∷ xs) =
    all_append P (f x) (flat_map f xs) (each x) (all_flat_map P f each xs)

-- Standings

-- those at a place and those behind it are no more than those from the place on
from_place : (f : Entrant → ℕ) (a : ℕ) (es : List Entrant)
    → length (filter (λ e. f e == a) es) + length (filter (λ e. nat_le (a + 1) (f e)) es) ≤ length
    (filter (λ e. nat_le a (f e)) es)
from_place f a [] = omega arith
from_place f a (e ∷ es) =
    step (f e == a) (nat_le (a + 1) (f e)) (nat_le a (f e)) refl refl refl (from_place f a es)
  where
    here : List Entrant
    here = filter (λ x. f x == a) es

    behind : List Entrant
    behind = filter (λ x. nat_le (a + 1) (f x)) es

    from : List Entrant
    from = filter (λ x. nat_le a (f x)) es

    step : (p q r : Bool) → (f e == a) ≡ p → nat_le (a + 1) (f e) ≡ q → nat_le a (f e) ≡ r
        → length here + length behind ≤ length from
        → length (cond p (e ∷ here) here) + length (cond q (e ∷ behind) behind) ≤ length
        (cond r (e ∷ from) from)
    step true true r is_p is_q is_r h = absurd (grind (arith, nat_tests))
    step true false true is_p is_q is_r h = omega arith
    step true false false is_p is_q is_r h = absurd (grind (arith, nat_tests))
    step false true true is_p is_q is_r h = omega arith
    step false true false is_p is_q is_r h = absurd (grind (arith, nat_tests))
    step false false true is_p is_q is_r h = omega arith
    step false false false is_p is_q is_r h = h

by_places : (f : Entrant → ℕ) (es : List Entrant) (a n : ℕ) → length
    (flat_map (λ p. map number_of_entrant (filter (λ e. f e == p) es)) (range_with_len a n)) ≤
    length (filter (λ e. nat_le a (f e)) es)
by_places f es a zero = omega arith
by_places f es a (suc n) =
    let here : List Entrant = filter (λ e. f e == a) es in
    let rest =
    flat_map (λ p. map number_of_entrant (filter (λ e. f e == p) es)) (range_with_len (a + 1) n) in
    omega (
      arith,
      length-append (map number_of_entrant here) rest,
      length-map here number_of_entrant,
      by_places f es (a + 1) n,
      from_place f a es,
    )

-- standings have no more numbers than the table has entrants
pub standings_few : (t : Table) → length (standings t) ≤ length t.entrants
standings_few t =
    omega (
      arith,
      by_places (place t) t.entrants 1 (length t.entrants),
      length-filter (λ e. nat_le 1 (place t e)) t.entrants,
      count_by-le-length (λ e. nat_le 1 (place t e)) t.entrants,
    )

standings_small : (t : Table) → AllByRecursion IsSmallEntrant t.entrants
    → AllByRecursion (λ n. n ≤ 9999) (standings t)
standings_small t h =
    all_flat_map (λ n. n ≤ 9999)
    (λ p. map number_of_entrant (filter (λ e. place t e == p) t.entrants)) (λ p.
    all_map IsSmallEntrant (λ n. n ≤ 9999) number_of_entrant (λ e is. is.number)
    (filter (λ e. place t e == p) t.entrants)
    (all_filter IsSmallEntrant (λ e. place t e == p) t.entrants h))
    (range_with_len 1 (length t.entrants))

-- Values

-- a value in the range of any unit is in that of multi-blind
widened : (unit : Measure) (v : Value) → IsInRangeOf unit v → IsInRangeOf measure.Multi v
widened measure.Time (value.Number n) low = omega (arith, low)
widened measure.Moves (value.Number n) low = omega (arith, low)
widened measure.Multi (value.Number n) low = low
widened unit value.Dnf low = tt
widened unit value.Dns low = tt

settled_as : (unit : Measure) (settings : Settings) (scramble : Option (List Move)) (x : Entered)
    → IsEntered x → is_wrong unit x ≡ false
    → IsInRangeOf measure.Multi (settled settings scramble x)
settled_as unit settings scramble x is right =
    widened unit (settled settings scramble x) (settled_in_range unit settings scramble x is right)

-- what was entered settles to a value in its range
settled_small : (settings : Settings) (scramble : Option (List Move)) (x : Entered) → IsEntered x
    → IsInRangeOf measure.Multi (settled settings scramble x)
settled_small settings scramble (entered.Time time penalties) is =
    settled_as measure.Time settings scramble (entered.Time time penalties) is refl
settled_small settings scramble (entered.Solution solution) is =
    settled_as measure.Moves settings scramble (entered.Solution solution) is refl
settled_small settings scramble (entered.Multi solved attempted seconds) is =
    settled_as measure.Multi settings scramble (entered.Multi solved attempted seconds) is refl
settled_small settings scramble entered.Dnf is = tt
settled_small settings scramble entered.Dns is = tt

-- Entrants and rounds

changed_or_not : (b : Bool) (new old : List Value) → AllByRecursion (IsInRangeOf measure.Multi) new
    → AllByRecursion (IsInRangeOf measure.Multi) old
    → AllByRecursion (IsInRangeOf measure.Multi) (cond b new old)
changed_or_not true new old changed h = changed
changed_or_not false new old changed h = h

-- what a card makes of values
card_small : (b : Bool) (e : Event) (r : ℕ) (settings : Settings) (earlier : List Command)
    (card : CardEntry) (vs : List Value)
    → IsReadCard card → AllByRecursion (IsInRangeOf measure.Multi) vs
    → AllByRecursion (IsInRangeOf measure.Multi)
    (cond b (values_now (value_counted e r settings earlier) 1 card.now vs) vs)
card_small b e r settings earlier card vs read h =
    changed_or_not b (values_now (value_counted e r settings earlier) 1 card.now vs) vs
    (values_hold (IsInRangeOf measure.Multi) IsEntered (value_counted e r settings earlier)
    (λ k x fits.
    settled_small (settings_after e r settings earlier) (scramble_in e r k earlier) x fits)
    1 card.now vs (recursion_from_All (λ o. IfSome o IsEntered) card.now read.entered) h) h

-- what a command makes of the values of an entrant
values_small : (c : Command) → IsFit c → (e : Event) (r n : ℕ) (settings : Settings)
    (earlier : List Command) (vs : List Value) → AllByRecursion (IsInRangeOf measure.Multi) vs
    → AllByRecursion (IsInRangeOf measure.Multi) (one_value e r settings n earlier vs c)
unfolding rows
values_small (Attempt entry) fits e r n settings earlier vs h =
    changed_or_not (is_of e r entry.id && entry.number == n)
    (vs ++ value_entered e r settings earlier entry ∷ []) vs
    (all_append (IsInRangeOf measure.Multi) vs (value_entered e r settings earlier entry ∷ []) h (
      settled_small (settings_after e r settings earlier) (scramble_in e r entry.attempt earlier)
          entry.outcome fits.0.1.1.1.1.0,
      tt,
    ))
    h
values_small (Correct entry) fits e r n settings earlier vs h =
    changed_or_not (is_of e r entry.id && entry.number == n)
    (replaced entry.attempt (value_entered e r settings earlier entry) vs) vs
    (all_set (IsInRangeOf measure.Multi) vs (entry.attempt - 1)
    (value_entered e r settings earlier entry) h
    (settled_small (settings_after e r settings earlier) (scramble_in e r entry.attempt earlier)
    entry.outcome fits.0.1.1.1.1.0)) h
values_small (Strike id m) fits e r n settings earlier vs h =
    changed_or_not (is_of e r id && m == n) (without_last vs) vs
    (all_take (IsInRangeOf measure.Multi) (length vs - 1) vs h) h
values_small (Card card) fits e r n settings earlier vs h =
    card_small (is_of e r card.id && card.number == n) e r settings earlier card vs
    (card_read card fits) h
values_small (Fix card) fits e r n settings earlier vs h =
    card_small (is_of e r card.id && card.number == n) e r settings earlier card vs
    (fix_read card fits) h
values_small _ fits e r n settings earlier vs h = h

-- and of the settings of a round
settings_small : (c : Command) → IsFit c → (e : Event) (r : ℕ) (settings : Settings)
    → IsFitSettings settings → IsFitSettings (settings_by e r c settings)
unfolding rows
settings_small (SetAdvance id advance) fits e r settings h = step (is_of e r id)
  where
    step : (b : Bool) → IsFitSettings (cond b (record settings { advance = advance }) settings)
    step true = (h.0, h.1, fits.0.1.1.0)
    step false = h
settings_small (SetRound id format cutoff limit) fits e r settings h = step (is_of e r id)
  where
    step : (b : Bool) → IsFitSettings
        (cond b (record settings { format = format; cutoff = cutoff; limit = limit }) settings)
    step true = (fits.0.1.1.1.0, fits.0.1.1.1.1.0, h.2)
    step false = h
settings_small _ fits e r settings h = h

-- the settings with which a command opens a round
opening_fits : (c : Command) → IsFit c → (e : Event) (r : ℕ)
    → IfSome (opening e r c) (λ settings. (r ≤ 4) × IsFitSettings settings)
unfolding rows
opening_fits (Open id settings) fits e r = step (is_of e r id) refl
  where
    step : (b : Bool) → is_of e r id ≡ b
        → IfSome (cond b (Some settings) None) (λ s. (r ≤ 4) × IsFitSettings s)
    step true here =
        let round : r ≡ id.round = eqb-true r id.round (grind arith) in
        let low : id.round ≤ 4 = fits.0.1.0.1 in (
          omega (arith, low, round),
          (fits.0.1.1.1.0, fits.0.1.1.1.1.0, fits.0.1.1.1.1.1.0),
        )
    step false other = tt
opening_fits _ fits e r = tt

-- those whom a command leaves
left_small : (c : Command) → IsFit c → (e : Event) (r : ℕ) (settings : Settings)
    (earlier : List Command) (es : List Entrant) → AllByRecursion IsSmallEntrant es
    → AllByRecursion IsSmallEntrant (left_more e r settings earlier c es)
left_small c fits e r settings earlier es h =
    all_map IsSmallEntrant IsSmallEntrant (one_more e r settings earlier c) (λ x is.
    record {
      number = is.number;
      values = values_small c fits e r x.number settings earlier x.values is.values;
    }) (filter (is_left_by e r c) es) (all_filter IsSmallEntrant (is_left_by e r c) es h)

-- they are no more than before
left_few : (c : Command) (e : Event) (r : ℕ) (settings : Settings) (earlier : List Command)
    (es : List Entrant) → length (left_more e r settings earlier c es) ≤ length es
left_few c e r settings earlier es =
    omega (
      arith,
      length-map (filter (is_left_by e r c) es) (one_more e r settings earlier c),
      length-filter (is_left_by e r c) es,
      count_by-le-length (is_left_by e r c) es,
    )

-- who is found leaves one entrant less
found_left : (n : ℕ) (e : Entrant) (es : List Entrant) → find (has_number n) es ≡ Some e
    → length (filter (λ x. not (has_number n x)) es) < length es
found_left n e [] h = absurd (some≢none e (sym h))
found_left n e (x ∷ es) h = step (has_number n x) refl h (found_left n e es)
  where
    rest : List Entrant
    rest = filter (λ y. not (has_number n y)) es

    step : (b : Bool) → has_number n x ≡ b → cond b (Some x) (find (has_number n) es) ≡ Some e
        → (find (has_number n) es ≡ Some e → length rest < length es)
        → length (cond (not (has_number n x)) (x ∷ rest) rest) < length (x ∷ es)
    step true is h later =
        let fewer : length rest ≤ length es =
        omega (
          arith,
          length-filter (λ y. not (has_number n y)) es,
          count_by-le-length (λ y. not (has_number n y)) es,
        ) in
        let here : length (cond (not (has_number n x)) (x ∷ rest) rest) ≡ length rest =
        ap (λ (b : Bool). length (cond (not b) (x ∷ rest) rest)) is in
        omega (arith, fewer, here)
    step false is h later =
        let less = later h in
        let here : length (cond (not (has_number n x)) (x ∷ rest) rest) ≡ length (x ∷ rest) =
        ap (λ (b : Bool). length (cond (not b) (x ∷ rest) rest)) is in
        omega (arith, less, here)

-- a withdrawal that is not refused finds its entrant
leaves : (n : ℕ) (t : Table) → option_and_then withdraw_code (withdraw_fault t n) ≡ None
    → (e : Entrant) × (entrant t n ≡ Some e)
leaves n t h = step t.is_closed (entrant t n) refl h
  where
    step : (b : Bool) (o : Option Entrant) → entrant t n ≡ o
        → option_and_then withdraw_code (cond b (Some withdraw.Closed) (leave_fault o)) ≡ None
        → (e : Entrant) × (entrant t n ≡ Some e)
    step true o is h = absurd (some≢none code.Closed h)
    step false None is h = absurd (some≢none code.NotEntered h)
    step false (Some e) is h = (e, is)

number_small : (ns : List ℕ) (k : ℕ) → AreSmallNumbers ns → IfSome (slice_get ns k) (λ n. n ≤ 9999)
number_small [] k h = tt
number_small (n ∷ ns) zero h = h.0
number_small (n ∷ ns) (suc k) h = number_small ns k h.1

-- the number that a command enters
entering_small : (c : Command) → IsFit c → (e : Event) (r : ℕ) (waiting : List ℕ)
    (earlier : List Command) → AreSmallNumbers waiting
    → IfSome (entering e r waiting earlier c) (λ n. n ≤ 9999)
unfolding rows
entering_small (Enter f n) fits e r waiting earlier h = step (same_event e f && r == 1)
  where
    step : (b : Bool) → IfSome (cond b (Some n) None) (λ m. m ≤ 9999)
    step true = fits.0.1.0.1
    step false = tt
entering_small (Withdraw id n) fits e r waiting earlier h = step (is_of e r id)
  where
    next : Option ℕ
    next = slice_get waiting (count_by (is_withdrawal e r) earlier)

    step : (b : Bool) → IfSome (cond b next None) (λ m. m ≤ 9999)
    step true = number_small waiting (count_by (is_withdrawal e r) earlier) h
    step false = tt
entering_small _ fits e r waiting earlier h = tt

-- a table that takes an entry has room for it
has_room : (n : ℕ) (t : Table) → option_and_then enter_code (enter_fault t n) ≡ None
    → length t.entrants < 999
has_room n t h =
    let room =
    step t.is_closed (list_any (has_number n) t.entrants) (nat_le 999 (length t.entrants)) h in
    grind (arith, nat_tests)
  where
    step : (a b c : Bool) → option_and_then enter_code
        (cond a (Some enter.Closed) (cond b (Some enter.Already) (cond c (Some enter.Full) None)))
        ≡ None → c ≡ false
    step true b c h = absurd (some≢none code.Closed h)
    step false true c h = absurd (some≢none code.Already h)
    step false false true h = absurd (some≢none code.Full h)
    step false false false h = refl

known_then : (b : Bool) (refused : Option Code)
    → cond (not b) (Some code.UnknownCompetitor) refused ≡ None → refused ≡ None
known_then true refused h = h
known_then false refused h = absurd (some≢none code.UnknownCompetitor h)

-- a command that enters somebody, and is accepted, finds a place
has_place : (cs : List Command) (c : Command) → refusal cs c ≡ None → (e : Event) (r : ℕ)
    (x : Settings × Table) → round_of cs e r ≡ Some x → length x.1.entrants ≤ 999
    → (settings : Settings) (waiting : List ℕ) (earlier : List Command) (m : ℕ)
    → entering e r waiting earlier c ≡ Some m
    → length (left_more e r settings earlier c x.1.entrants) < 999
has_place cs (Enter f n) allowed e r x is few settings waiting earlier m enters =
    step (same_event e f && r == 1) refl enters
  where
    step : (b : Bool) → (same_event e f && r == 1) ≡ b → cond b (Some n) None ≡ Some m
        → length (left_more e r settings earlier (Enter f n) x.1.entrants) < 999
    step true here h =
        let event : e ≡ f = same_event-equal e f (grind arith) in
        let round : r ≡ 1 = eqb-true r 1 (grind arith) in
        let there : round_of cs f 1 ≡ Some x =
        ap (λ (g : Event). round_of cs g 1) (sym event)
        ∙ ap (λ (s : ℕ). round_of cs e s) (sym round) ∙ is in
        let room =
        has_room n x.1 (ap (enter_refusal n) (sym there)
        ∙ known_then (is_registered cs n) (enter_refusal n (round_of cs f 1)) allowed) in
        omega (arith, room, left_few (Enter f n) e r settings earlier x.1.entrants)
    step false other h = absurd (some≢none m (sym h))
has_place cs (Withdraw id n) allowed e r x is few settings waiting earlier m enters =
    step (is_of e r id) refl enters
  where
    c : Command
    c = Withdraw id n

    next : Option ℕ
    next = slice_get waiting (count_by (is_withdrawal e r) earlier)

    step : (b : Bool) → is_of e r id ≡ b → cond b next None ≡ Some m
        → length (left_more e r settings earlier c x.1.entrants) < 999
    step true here h =
        let event : e ≡ id.event = same_event-equal e id.event (grind arith) in
        let round : r ≡ id.round = eqb-true r id.round (grind arith) in
        let there : round_of cs id.event id.round ≡ Some x =
        ap (λ (f : Event). round_of cs f id.round) (sym event)
        ∙ ap (λ (s : ℕ). round_of cs e s) (sym round) ∙ is in
        let found =
        leaves n x.1 (ap (withdraw_refusal n) (sym there)
        ∙ known_then (is_registered cs n) (withdraw_refusal n (round_of cs id.event id.round))
        allowed) in
        let fewer : length (filter (is_left_by e r c) x.1.entrants) < length x.1.entrants =
        subst (λ (b : Bool).
        length (filter (λ (y : Entrant). not (b && n == y.number)) x.1.entrants)
        < length x.1.entrants) (sym here) (found_left n found.0 x.1.entrants found.1) in
        omega (
          arith,
          length-map (filter (is_left_by e r c) x.1.entrants) (one_more e r settings earlier c),
          fewer,
          few,
        )
    step false other h = absurd (some≢none m (sym h))
has_place cs _ allowed e r x is few settings waiting earlier m enters =
    absurd (some≢none m (sym enters))

-- those who advance from a small round
advance_few : (r : ℕ) (x : Option (Settings × Table)) → IfSome x (IsSmallRound r)
    → length (who_advance x) ≤ 999
advance_few r None h = omega arith
advance_few r (Some x) h =
    omega (
      arith,
      length-filter (goes_on x.1 x.0.advance) (standings x.1),
      count_by-le-length (goes_on x.1 x.0.advance) (standings x.1),
      standings_few x.1,
      h.few,
    )

advance_numbers : (r : ℕ) (x : Option (Settings × Table)) → IfSome x (IsSmallRound r)
    → AllByRecursion (λ n. n ≤ 9999) (who_advance x)
advance_numbers r None h = tt
advance_numbers r (Some x) h =
    all_filter (λ n. n ≤ 9999) (goes_on x.1 x.0.advance) (standings x.1)
    (standings_small x.1 h.entrants)

wait_numbers : (r : ℕ) (x : Option (Settings × Table)) → IfSome x (IsSmallRound r)
    → AreSmallNumbers (who_wait x)
wait_numbers r None h = tt
wait_numbers r (Some x) h =
    all_filter (λ n. n ≤ 9999) (stays_out x.1 x.0.advance) (standings x.1)
    (standings_small x.1 h.entrants)

-- those who come in as a round is opened
newcomers_small : (e : Event) (r : ℕ) (settings : Settings) (ns : List ℕ) → AreSmallNumbers ns
    → AllByRecursion IsSmallEntrant (entrants_left e r settings [] [] ns)
newcomers_small e r settings [] h = tt
newcomers_small e r settings (n ∷ ns) h =
    (record { number = h.0; values = tt }, newcomers_small e r settings ns h.1)

newcomers_few : (e : Event) (r : ℕ) (settings : Settings) (ns : List ℕ)
    → length (entrants_left e r settings [] [] ns) ≤ length ns
newcomers_few e r settings ns =
    omega (
      arith,
      length-map (filter (stays e r []) ns) (entrant_after e r settings [] []),
      length-filter (stays e r []) ns,
      count_by-le-length (stays e r []) ns,
    )

entered_small : (o : Option ℕ) → IfSome o (λ n. n ≤ 9999)
    → AllByRecursion IsSmallEntrant (option_to_list (option_map newcomer o))
entered_small None h = tt
entered_small (Some n) h = (record { number = h; values = tt }, tt)

-- One more command

-- what it makes of a round
rounds_more : (cs : List Command) (c : Command) → IsFit c → refusal cs c ≡ None → IsSmall cs
    → (e : Event) (r : ℕ) → IfSome (round_of (cs ++ c ∷ []) e r) (IsSmallRound r)
unfolding round_in
rounds_more cs c fits allowed h e zero = tt
rounds_more cs c fits allowed h e (suc r) =
    subst (λ (o : Option Opened). IfSome (option_map at o) (IsSmallRound (suc r)))
    (sym (opened_push e (suc r) cs c))
    (step (opened e (suc r) [] cs) refl (h.rounds e (suc r)) (h.waiting e r))
  where
    at : Opened → Settings × Table
    at o = round_at e (suc r) (round_in e r o.before) o

    -- one that it opens
    first : (o : Option Settings) → IfSome o (λ settings. (suc r ≤ 4) × IsFitSettings settings)
        → IfSome (option_map at (option_map (just_opened cs) o)) (IsSmallRound (suc r))
    first None is = tt
    first (Some settings) is =
        let ns : List ℕ = who_advance (round_in e r cs) in
        let es : List Entrant = entrants_left e (suc r) settings [] [] ns in
        record {
          last = is.0;
          settings = is.1;
          few =
              let few = advance_few r (round_in e r cs) (h.rounds e r) in
              omega (arith, few, newcomers_few e (suc r) settings ns, length-append es []);
          entrants =
              all_append IsSmallEntrant es [] (newcomers_small e (suc r) settings ns
              (advance_numbers r (round_in e r cs) (h.rounds e r))) tt;
        }

    -- one that is open
    later : (o : Opened) → opened e (suc r) [] cs ≡ Some o → IsSmallRound (suc r) (at o)
        → HasSmallWaiting e r o → IsSmallRound (suc r) (at (plus_command c o))
    later o is small waits =
        subst (IsSmallRound (suc r)) (sym (round_more e (suc r) (round_in e r o.before) o c))
        (record {
          last = small.last;
          settings = settings_small c fits e (suc r) (settings_now e (suc r) o) small.settings;
          few = few (entering e (suc r) waiting o.since c) refl;
          entrants =
              all_append IsSmallEntrant left (entered_last e (suc r) waiting o.since c)
              (left_small c fits e (suc r) o.settings o.since (at o).1.entrants small.entrants)
              (entered_small (entering e (suc r) waiting o.since c)
              (entering_small c fits e (suc r) waiting o.since waits));
        })
      where
        waiting : List ℕ
        waiting = who_wait (round_in e r o.before)

        left : List Entrant
        left = left_more e (suc r) o.settings o.since c (at o).1.entrants

        few : (m : Option ℕ) → entering e (suc r) waiting o.since c ≡ m
            → length (left ++ option_to_list (option_map newcomer m)) ≤ 999
        few None none =
            omega (
              arith,
              length-append left [],
              left_few c e (suc r) o.settings o.since (at o).1.entrants,
              small.few,
            )
        few (Some m) enters =
            let place =
            has_place cs c allowed e (suc r) (at o) (ap (option_map at) is) small.few o.settings
            waiting o.since m enters in
            omega (arith, length-append left (newcomer m ∷ []), place)

    -- one that is open, unless the command takes it back
    kept : (b : Bool) (o : Opened) → opened e (suc r) [] cs ≡ Some o → IsSmallRound (suc r) (at o)
        → HasSmallWaiting e r o
        → IfSome (option_map at (cond b None (Some (plus_command c o)))) (IsSmallRound (suc r))
    kept true o is small waits = tt
    kept false o is small waits = later o is small waits

    step : (x : Option Opened) → opened e (suc r) [] cs ≡ x
        → IfSome (option_map at x) (IsSmallRound (suc r)) → IfSome x (HasSmallWaiting e r)
        → IfSome (option_map at (opened_by e (suc r) cs x c)) (IsSmallRound (suc r))
    step None is small waits = first (opening e (suc r) c) (opening_fits c fits e (suc r))
    step (Some o) is small waits = kept (is_cancelled e (suc r) c) o is small waits

-- who waits for a place in a round that it opens, or leaves open
waits_more : (cs : List Command) (c : Command) → IsSmall cs → (e : Event) (r : ℕ)
    → IfSome (opened e (suc r) [] (cs ++ c ∷ [])) (HasSmallWaiting e r)
waits_more cs c h e r =
    subst (λ (o : Option Opened). IfSome o (HasSmallWaiting e r))
    (sym (opened_push e (suc r) cs c)) (step (opened e (suc r) [] cs) (h.waiting e r))
  where
    first : (o : Option Settings) → IfSome (option_map (just_opened cs) o) (HasSmallWaiting e r)
    first None = tt
    first (Some settings) = wait_numbers r (round_in e r cs) (h.rounds e r)

    kept : (b : Bool) (o : Opened) → HasSmallWaiting e r o
        → IfSome (cond b None (Some (plus_command c o))) (HasSmallWaiting e r)
    kept true o waits = tt
    kept false o waits = waits

    step : (x : Option Opened) → IfSome x (HasSmallWaiting e r)
        → IfSome (opened_by e (suc r) cs x c) (HasSmallWaiting e r)
    step None waits = first (opening e (suc r) c)
    step (Some o) waits = kept (is_cancelled e (suc r) c) o waits

stands_small : (given other old : Option (List ℕ)) → IfSome given IsSmallName
    → IfSome other IsSmallName → IfSome old IsSmallName
    → IfSome (stands given other old) IsSmallName
stands_small given other None g o h = g
stands_small given None (Some x) g o h = h
stands_small given (Some y) (Some x) g o h = o

given_small : (name : List ℕ) → IsSmallName name → (b : Bool)
    → IfSome (cond b (Some name) None) IsSmallName
given_small name short true = short
given_small name short false = tt

-- a name that it gives
naming_small : (c : Command) → IsFit c → (n : ℕ)
    → IfSome (name_given n c) IsSmallName × IfSome (renaming n c) IsSmallName
unfolding rows
naming_small (Register n name) fits m =
    (given_small name (name_room name fits.0.1.0) (n == m), tt)
naming_small (Rename n name) fits m =
    (tt, given_small name (new_name_room name fits.0.1.0) (n == m))
naming_small _ fits m = (tt, tt)

-- all of it, where it is accepted
small_more : (cs : List Command) (c : Command) → IsFit c → refusal cs c ≡ None → IsSmall cs
    → IsSmall (cs ++ c ∷ [])
small_more cs c fits allowed h = record {
  names =
      λ n.
      subst (λ o. IfSome o IsSmallName) (sym (standing_push (name_given n) (renaming n) cs c))
      (stands_small (name_given n c) (renaming n c) (name_of cs n) (naming_small c fits n).0
      (naming_small c fits n).1 (h.names n));
  rounds = rounds_more cs c fits allowed h;
  waiting = waits_more cs c h;
}

-- Entries

not_refused : (spelled : Bool) (refused : Option Code)
    → cond spelled refused (Some code.Unread) ≡ None → refused ≡ None
not_refused true refused h = h
not_refused false refused h = absurd (some≢none code.Unread h)

small_answered : (cs : List Command) (told : RemarkedCommand) → IsFit told.command → IsSmall cs
    → (refused : Option Code)
    → spelled_refusal cs told ≡ refused → IsSmall (cs ++ added_read refused (Ok told))
small_answered cs told fits h None is =
    small_more cs told.command fits
    (not_refused (is_spelled_in (edition_in cs) told) (refusal cs told.command) is) h
small_answered cs told fits h (Some why) is = subst IsSmall (sym (append-nil cs)) h

small_read : (cs : List Command) (read : Result RemarkedCommand CommandFault)
    → IfOk read (λ told. IsFit told.command) → IsSmall cs
    → IsSmall (cs ++ added_read (read_refusal cs read) read)
small_read cs (Ok told) fits h =
    small_answered cs told fits h (read_refusal cs (Ok told)) (sym (read_fit cs told fits))
small_read cs (Err fault) fits h = subst IsSmall (sym (append-nil cs)) h

read_fits : (bytes : List ℕ) (read : Result RemarkedCommand CommandFault) → command_of bytes ≡ read
    → IfOk read (λ told. IsFit told.command)
read_fits bytes (Ok told) is = (spelled_only bytes told is).0.0
read_fits bytes (Err fault) is = tt

small_after : (h : History) (id : ℕ) (text : List ℕ) → IsSmall h.accepted
    → IsSmall (after h id text).accepted
small_after h id text small = step (is_seen h id) refl
  where
    step : (b : Bool) → is_seen h id ≡ b → IsSmall (after h id text).accepted
    step true seen = subst (λ (x : History). IsSmall x.accepted) (after_seen h id text seen) small
    step false new =
        subst IsSmall (sym (accepted_new h id text new))
        (small_read h.accepted (command_of text) (read_fits text (command_of text) refl) small)

small_fold : (h : History) (entries : List (ℕ × List ℕ)) → IsSmall h.accepted → IsSmall
    (fold (λ (x : History) (entry : ℕ × List ℕ). after x entry.0 entry.1) h entries).accepted
small_fold h [] small = small
small_fold h (entry ∷ entries) small =
    small_fold (after h entry.0 entry.1) entries (small_after h entry.0 entry.1 small)

none_opened : (e : Event) (r : ℕ) → IfSome (round_of [] e r) (IsSmallRound r)
unfolding round_in
none_opened e zero = tt
none_opened e (suc r) = tt

-- what a list of entries comes to is small
pub small_history : (entries : List (ℕ × List ℕ)) → IsSmall (history entries).accepted
small_history entries =
    small_fold nothing entries
    (record { names = λ n. tt; rounds = none_opened; waiting = λ e r. tt })
