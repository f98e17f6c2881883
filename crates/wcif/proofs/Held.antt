-- A file of which a desk can hold all has both lists; what its events and their first rounds are:
-- settings that the event may have, in their ranges.
use Rattle.std.proofs.Common.{◌≡◌, ◌≤◌, ◌-◌, ℕ, Bool, true, false, cond, List, [], Option, Some}
use Rattle.std.proofs.Common.{None, refl, sym, ◌∙◌, arith, subst, nat_lt, ◌++◌, ◌==◌, ◌∷◌, length}
use Rattle.std.{proofs.Common.slice_get, specs.List.list_any}
use Rattle.std.specs.Prelude.{codes, ok_or, Result, Ok, Err, count_by, unwrap_or}
use Rattle.std.specs.Option.{option_and_then, option_map}
use Rattle.std.proofs.lemmas.{Bool.Decides.nat_tests, Slice.Eq.bytes_eq-Decides, Option.cond_some}
use Rattle.serde_json.specs.Data.{Data}
use Rattle.attempts.specs.declared.Unit.{Unit as Measure}
use Rattle.formats.specs.declared.{advance.Advance.Advance as Advances, events.Event.Event}
use Rattle.attempts.specs.declared.Unit.TheVariants.{Time, Moves, Multi}
use Rattle.formats.specs.declared.events.Format.{Format, TheVariants.Ao5}
use Rattle.formats.specs.declared.advance.Advance.TheVariants.{Final, Top, Percent}
use Rattle.formats.specs.Events.{unit_of, is_allowed, attempts_of, most_entrants, event_name}
use Rattle.formats.{specs.Events.last_round, proofs.Naming.only_name-event}
use Rattle.texts.specs.{declared.command.Settings.Settings, Numerals.within}
use Rattle.texts.specs.Spelling.{IsFitCutoff, IsFitLimit, IsFitAdvance, IsFitSettings}
use Rattle.commands.specs.Accepted.{is_cutoff, is_limit}
use Rattle.wcif.specs.declared.options.CumulativeLimits.{CumulativeLimits, TheVariants.Refuse}
use Rattle.wcif.specs.declared.fault.{RoundFault.RoundFault, CompetitionFault.CompetitionFault}
use Rattle.wcif.{specs.Laws.ListsAreHeld, proofs.Numbered.ranged, specs.Told.told}
use Rattle.wcif.specs.Members.{member_at, text_at, number_at, list_at}
use Rattle.wcif.specs.Rounds.{number_within, named_format, if_allowed, format_in, cutoff_of}
use Rattle.wcif.specs.Rounds.{cutoff_for, cutoff_by, cutoff_in, is_refused, limit_of, limit_by}
use Rattle.wcif.specs.Rounds.{limit_in, level_of, advance_by, advance_in, settings, settings_in}
use Rattle.wcif.specs.Rounds.{id_faults, format_faults, faults_of, round_faults}
use Rattle.wcif.proofs.Found.{front_none, back_none, map_none, unsaid}
use Rattle.wcif.specs.{Commands.commands, Commands.commands_of, Told.told_from, Told.place}
use Rattle.texts.proofs.Numerals.{bytes_eq-same}
use Rattle.wcif.specs.Events.{event_named, rounds_of, enters, repeated_faults, entrants_faults}
use Rattle.wcif.specs.Events.{each_round, rounds_faults, named_faults, event_faults}
use Rattle.wcif.specs.{Persons.text_under, Persons.has_id, Faults.faults, Faults.faults_in}
use Rattle.wcif.specs.declared.fault.RoundFault.TheVariants as fault
use Rattle.wcif.specs.declared.fault.CompetitionFault.TheVariants as of
use Rattle.wcif.specs.declared.fault.EventFault.TheVariants as event_fault

-- an event may have a round with these settings, and they are in their ranges
pub record MayHave (e : Event) (s : Settings) : Type 0 where
  pub format : is_allowed e s.format ≡ true
  pub cutoff : is_cutoff (unit_of e) s.format s.cutoff ≡ true
  pub limit : is_limit (unit_of e) s.limit ≡ true
  pub fit : IsFitSettings s

number_ranged : (low high : ℕ) (name : List ℕ) (d : Data) (m : ℕ)
    → number_within low high name d ≡ Some m → (low ≤ m) × (m ≤ high)
number_ranged low high name d m is = step (number_at name d) is
  where
    step : (o : Option ℕ) → option_and_then (within low high) o ≡ Some m → (low ≤ m) × (m ≤ high)
    step None h = absurd (cc)
    step (Some k) h = let range = ranged low high k m h in (range.1, range.2)

-- no fault is said of a result
no_fault : {A : Type 0} (r : Result A RoundFault) → faults_of r ≡ [] → (x : A) × (r ≡ Ok x)
no_fault (Ok x) none = (x, refl)
no_fault (Err why) none = absurd (cc)

has_format : (o : Option Format) → format_faults o ≡ [] → (f : Format) × (o ≡ Some f)
has_format None none = absurd (cc)
has_format (Some f) none = (f, refl)

-- what was made of what was found, else a fault would be said of it
made : {A B : Type 0} (f : A → B) (o : Option A) (why : RoundFault) (y : B)
    → ok_or (option_map f o) why ≡ Ok y → (x : A) × (o ≡ Some x) × (f x ≡ y)
made f None why y h = absurd (cc)
made f (Some x) why y h = let same : f x ≡ y = cc in (x, refl, same)

format_allowed : (e : Event) (d : Data) (f : Format) → format_in e d ≡ Some f
    → is_allowed e f ≡ true
unfolding format_in
format_allowed e d f is =
    step (option_and_then named_format (text_at (codes "format") d)) is
  where
    step : (o : Option Format) → option_and_then (if_allowed e) o ≡ Some f → is_allowed e f ≡ true
    step None h = absurd (cc)
    step (Some g) h =
        let found = cond_some (is_allowed e g) g f h in
        subst (λ x. is_allowed e x ≡ true) found.1 found.0

few_attempts : (f : Format) → attempts_of f ≤ 5
few_attempts Ao5 = omega arith
few_attempts _ = omega arith

-- a cutoff as the event and the format may have it
abbrev MayCut : Measure → Format → Option (ℕ × ℕ) → Type 0
MayCut unit f c = (is_cutoff unit f c ≡ true) × IsFitCutoff c

cut_numbers : (unit : Measure) (f : Format) (x : Data) (k below : ℕ)
    → is_cutoff unit f (Some (k, below)) ≡ nat_lt k (attempts_of f)
    → number_within 1 (attempts_of f - 1) (codes "numberOfAttempts") x ≡ Some k
    → number_within 1 360000 (codes "attemptResult") x ≡ Some below
    → MayCut unit f (Some (k, below))
cut_numbers unit f x k below tested first second =
    let counts = number_ranged 1 (attempts_of f - 1) (codes "numberOfAttempts") x k first in
    let border = number_ranged 1 360000 (codes "attemptResult") x below second in
    let most = few_attempts f in
    let low : 1 ≤ k = counts.0 in
    let high : k ≤ attempts_of f - 1 = counts.1 in
    let less : nat_lt k (attempts_of f) ≡ true = grind (arith, nat_tests) in
    let four : k ≤ 4 = omega arith in
    (tested ∙ less, ((low, four), border))

cut_both : (unit : Measure) (f : Format) (x : Data) (c : ℕ × ℕ)
    → ((k below : ℕ) → is_cutoff unit f (Some (k, below)) ≡ nat_lt k (attempts_of f))
    → cutoff_of (Some f) x ≡ Some c → MayCut unit f (Some c)
unfolding cutoff_of
cut_both unit f x c tested is =
    step (number_within 1 (attempts_of f - 1) (codes "numberOfAttempts") x)
    (number_within 1 360000 (codes "attemptResult") x) refl refl is
  where
    step : (o b : Option ℕ) → number_within 1 (attempts_of f - 1) (codes "numberOfAttempts") x ≡ o
        → number_within 1 360000 (codes "attemptResult") x ≡ b
        → option_and_then (λ k. option_map (λ below. (k, below)) b) o ≡ Some c
        → MayCut unit f (Some c)
    step None b first second h = absurd (cc)
    step (Some k) None first second h = absurd (cc)
    step (Some k) (Some below) first second h =
        let same : (k, below) ≡ c = cc in
        subst (λ v. MayCut unit f (Some v)) same
        (cut_numbers unit f x k below (tested k below) first second)

cut_by : (unit : Measure) (f : Format) (x : Data) (c : ℕ × ℕ)
    → cutoff_for unit (Some f) x ≡ Some c → MayCut unit f (Some c)
cut_by Time f x c is = cut_both Time f x c (λ k below. refl) is
cut_by Moves f x c is = cut_both Moves f x c (λ k below. refl) is
cut_by Multi f x c is = absurd (cc)

may_cut : (e : Event) (f : Format) (d : Data) (c : Option (ℕ × ℕ))
    → cutoff_in e (Some f) d ≡ Ok c → MayCut (unit_of e) f c
unfolding cutoff_in
may_cut e f d c is = step (member_at (codes "cutoff") d) is
  where
    step : (o : Option Data) → cutoff_by (unit_of e) (Some f) o ≡ Ok c → MayCut (unit_of e) f c
    step None h =
        let same : None ≡ c = cc in subst (MayCut (unit_of e) f) same (refl, tt)
    step (Some x) h =
        let found = made Some (cutoff_for (unit_of e) (Some f) x) fault.Cutoff c h in
        subst (MayCut (unit_of e) f) found.2 (cut_by (unit_of e) f x found.0 found.1)

-- a limit as the event may have it
abbrev MayLimit : Measure → Option ℕ → Type 0
MayLimit unit l = (is_limit unit l ≡ true) × IsFitLimit l

limited : (how : CumulativeLimits) (x : Data) (l : Option ℕ) → limit_of how x ≡ Ok l
    → MayLimit Time l
unfolding limit_of
limited how x l is = step (is_refused how x) is
  where
    step : (b : Bool) → cond b (Err fault.CumulativeLimit)
        (ok_or (option_map Some (number_within 1 360000 (codes "centiseconds") x)) fault.Limit) ≡ Ok
        l → MayLimit Time l
    step true h = absurd (cc)
    step false h =
        let found = made Some (number_within 1 360000 (codes "centiseconds") x) fault.Limit l h in
        subst (MayLimit Time) found.2
        (refl, number_ranged 1 360000 (codes "centiseconds") x found.0 found.1)

unlimited : (unit : Measure) (l : Option ℕ) → is_limit unit None ≡ true
    → limit_by Refuse Moves None ≡ Ok l → MayLimit unit l
unlimited unit l tested is =
    let same : None ≡ l = cc in subst (MayLimit unit) same (tested, tt)

limit_by_unit : (how : CumulativeLimits) (unit : Measure) (o : Option Data) (l : Option ℕ)
    → limit_by how unit o ≡ Ok l → MayLimit unit l
limit_by_unit how Time (Some x) l is = limited how x l is
limit_by_unit how Moves None l is = unlimited Moves l refl is
limit_by_unit how Multi None l is = unlimited Multi l refl is
limit_by_unit how _ _ l is = absurd (cc)

may_limit : (how : CumulativeLimits) (e : Event) (d : Data) (l : Option ℕ) → limit_in how e d ≡ Ok l
    → MayLimit (unit_of e) l
unfolding limit_in
may_limit how e d l is = limit_by_unit how (unit_of e) (member_at (codes "timeLimit") d) l is

levelled : (high : ℕ) (made_of : ℕ → Advances) (x : Data) (a : Advances)
    → ((m : ℕ) → 1 ≤ m → m ≤ high → IsFitAdvance (made_of m)) → level_of high made_of x ≡ Ok a
    → IsFitAdvance a
levelled high made_of x a each is =
    let found = made made_of (number_within 1 high (codes "level") x) fault.Advance a is in
    let range = number_ranged 1 high (codes "level") x found.0 found.1 in
    subst IsFitAdvance found.2 (each found.0 range.0 range.1)

may_advance : (d : Data) (a : Advances) → advance_in d ≡ Ok a → IsFitAdvance a
unfolding advance_in
may_advance d a is = member (member_at (codes "advancementCondition") d) is
  where
    named : (x : Data) (p q r : Bool) → cond p (level_of most_entrants Top x)
        (cond q (level_of 75 Percent x) (cond r (Err fault.AdvanceByResult) (Err fault.Advance)))
        ≡ Ok a → IsFitAdvance a
    named x true q r h = levelled most_entrants Top x a (λ m low high. (low, high)) h
    named x false true r h = levelled 75 Percent x a (λ m low high. (low, high)) h
    named x false false true h = absurd (cc)
    named x false false false h = absurd (cc)

    member : (o : Option Data) → advance_by o ≡ Ok a → IsFitAdvance a
    member None h =
        let same : Final ≡ a = cc in subst IsFitAdvance same tt
    member (Some x) h = named x _ _ _ h

settings_made : (how : CumulativeLimits) (e : Event) (d : Data) (f : Format)
    (cutoff : Option (ℕ × ℕ)) (limit : Option ℕ) (advance : Advances) → format_in e d ≡ Some f
    → cutoff_in e (Some f) d ≡ Ok cutoff → limit_in how e d ≡ Ok limit → advance_in d ≡ Ok advance
    → settings_in how e d ≡ Some (settings f cutoff limit advance)
unfolding settings_in
settings_made how e d f cutoff limit advance first second third fourth =
    rw (first, second, third, fourth) refl

-- a round of which nothing is said
pub settings_held : (how : CumulativeLimits) (e : Event) (n : ℕ) (d : Data)
    → round_faults how e n d ≡ [] → (s : Settings) × (settings_in how e d ≡ Some s) × MayHave e s
unfolding round_faults
settings_held how e n d none =
    let advance = no_fault (advance_in d) (back_none _ (faults_of (advance_in d)) none) in
    let front = front_none _ (faults_of (advance_in d)) none in
    let limit = no_fault (limit_in how e d) (back_none _ (faults_of (limit_in how e d)) front) in
    let fore = front_none _ (faults_of (limit_in how e d)) front in
    let format = has_format (format_in e d)
    (back_none (id_faults e n d) (format_faults (format_in e d))
    (front_none _ (faults_of (cutoff_in e (format_in e d) d)) fore)) in
    let cutoff = no_fault (cutoff_in e (Some format.0) d) (rw (← format.1)
    (back_none (id_faults e n d ++ format_faults (format_in e d))
    (faults_of (cutoff_in e (format_in e d) d)) fore)) in
    let cuts = may_cut e format.0 d cutoff.0 cutoff.1 in
    let limits = may_limit how e d limit.0 limit.1 in (
      settings format.0 cutoff.0 limit.0 advance.0,
      settings_made how e d format.0 cutoff.0 limit.0 advance.0 format.1 cutoff.1 limit.1 advance.1,
      record {
        format = format_allowed e d format.0 format.1;
        cutoff = cuts.0;
        limit = limits.0;
        fit = (cuts.1, limits.1, may_advance d advance.0 advance.1);
      },
    )

-- the settings of the first round
abbrev pub first_of_rounds : CumulativeLimits → Data → Event → Option Settings
first_of_rounds how d e = option_and_then (settings_in how e) (slice_get (rounds_of d) 0)

-- what holds of an event, given the persons and the events in front
pub record HoldsEvent (how : CumulativeLimits) (persons earlier : List Data) (d : Data) :
    Type 0 where
  pub event : Event
  pub settings : Settings
  pub named : event_named d ≡ Some event
  pub new : list_any (has_id (event_name event)) earlier ≡ false
  pub few : count_by (enters event) persons ≤ most_entrants
  pub set : first_of_rounds how d event ≡ Some settings
  pub may : MayHave event settings

few_enough : (n : ℕ) → nat_lt most_entrants n ≡ false → n ≤ most_entrants
few_enough n h = grind (arith, nat_tests)

first_held : (how : CumulativeLimits) (e : Event) (at : ℕ) (ds : List Data)
    → rounds_faults how e at ds ≡ []
    → (s : Settings) × (option_and_then (settings_in how e) (slice_get ds 0) ≡ Some s) × MayHave e s
unfolding told
first_held how e at [] none = absurd (cc)
first_held how e at (d ∷ ds) none =
    let some = (unsaid (length (d ∷ ds) == 0) (of.Event at event_fault.NoRounds) [] _ none).1 in
    let few = unsaid (nat_lt last_round (length (d ∷ ds))) (of.Event at event_fault.TooManyRounds)
    [] (told_from (each_round how e) [] (d ∷ ds)) some in
    settings_held how e (place {A = Data} []) d
    (map_none (of.Round e (place {A = Data} [])) _ (front_none (each_round how e [] d) _ few.1))

pub holds_event : (how : CumulativeLimits) (persons earlier : List Data) (d : Data)
    → event_faults how persons earlier d ≡ [] → HoldsEvent how persons earlier d
unfolding event_faults
holds_event how persons earlier d none = step (event_named d) refl none
  where
    step : (o : Option Event) → event_named d ≡ o → named_faults how persons earlier d o ≡ []
        → HoldsEvent how persons earlier d
    step None named h = absurd (cc)
    step (Some e) named h =
        let fore : List CompetitionFault =
        repeated_faults e earlier ++ entrants_faults e (place earlier) persons in
        let rounds = rounds_faults how e (place earlier) (rounds_of d) in
        let front = front_none fore rounds h in
        let first = first_held how e (place earlier) (rounds_of d) (back_none fore rounds h) in
        record {
          event = e;
          settings = first.0;
          named = named;
          new =
              (unsaid (list_any (has_id (event_name e)) earlier)
              (of.Event (place earlier) event_fault.Repeated) [] []
              (front_none (repeated_faults e earlier) _ front)).0;
          few =
              few_enough (count_by (enters e) persons)
              (unsaid (nat_lt most_entrants (count_by (enters e) persons))
              (of.Event (place earlier) event_fault.TooManyEntrants) [] []
              (back_none (repeated_faults e earlier) _ front)).0;
          set = first.1;
          may = first.2;
        }

-- the event of an id has that id, and no other event has it
pub has_own_id : (d : Data) (e : Event) → event_named d ≡ Some e → has_id (event_name e) d ≡ true
unfolding event_named
has_own_id d e named =
    let text : text_under (codes "id") d ≡ event_name e =
    (only_name-event e (text_under (codes "id") d)).0 named in
    rw text (bytes_eq-same (event_name e))

pub named_by_id : (d : Data) (e : Event) → has_id (event_name e) d ≡ true → event_named d ≡ Some e
unfolding event_named
named_by_id d e has =
    (only_name-event e (text_under (codes "id") d)).1
    (sym ((bytes_eq-Decides (event_name e) (text_under (codes "id") d)).0 has))

pub lists_held : ListsAreHeld
unfolding faults commands
lists_held options d none =
    step (list_at (codes "persons") d) (list_at (codes "events") d) none
  where
    step : (p e : Option (List Data)) → faults_in options p e ≡ []
        → (persons : List Data) × (events : List Data) × (p ≡ Some persons) × (e ≡ Some events)
        × (faults_in options (Some persons) (Some events) ≡ []) × (commands_of options
        (unwrap_or p []) (unwrap_or e []) ≡ commands_of options persons events)
    step (Some persons) (Some events) h = (persons, events, refl, refl, h, refl)
    step None None h = absurd (cc)
    step None (Some events) h = absurd (cc)
    step (Some persons) None h = absurd (cc)
