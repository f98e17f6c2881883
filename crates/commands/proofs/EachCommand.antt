-- What each command makes of a round, as the accepted commands have it.
use Rattle.std.proofs.Common.{◌≡◌, ℕ, zero, suc, ◌-◌, ◌≤◌, Bool, true, false, ◌&&◌, ◌==◌, cond}
use Rattle.std.proofs.Common.{unwrap_or, List, [], ◌∷◌, ◌++◌, map, Option, Some, None, option_map}
use Rattle.std.proofs.Common.{option_to_list, refl, ap, ◌∙◌, sym, append-nil, arith, eqb-true}
use Rattle.std.specs.Option.{option_or, option_and_then}
use Rattle.std.proofs.lemmas.Bool.Decides.{nat_tests}
use Rattle.cube.specs.declared.moves.Move.{Move}
use Rattle.attempts.specs.declared.Value.{Value}
use Rattle.formats.specs.declared.events.{Event.Event, Format.Format}
use Rattle.formats.specs.{Events.same_event, declared.advance.Advance.Advance}
use Rattle.formats.proofs.SameEvent.{same_event-equal}
use Rattle.texts.specs.declared.command.{Command.Command, Entered.Entered, Settings.Settings}
use Rattle.texts.specs.declared.command.Command.TheVariants.{Register, Open, Enter, Scramble}
use Rattle.texts.specs.declared.command.Command.TheVariants.{Attempt, Correct, Strike, SetAdvance}
use Rattle.texts.specs.declared.command.Command.TheVariants.{Close, SetEdition, Rename, SetRound}
use Rattle.texts.specs.declared.command.Command.TheVariants.{Rescramble, Reopen, Cancel}
use Rattle.texts.specs.Fields.{round_id, attempt_entry}
use Rattle.rounds.specs.Tables.{Entrant, Table, changed_of, replaced, without_last}
use Rattle.commands.specs.model.Kept.{with_attempt, with_correction, with_strike, with_advance}
use Rattle.commands.specs.model.Kept.{with_end, with_entry, with_settings, newcomer, with_reopening}
use Rattle.commands.specs.{model.Kept.with_newcomers, Accepted.round_in, Accepted.round_of}
use Rattle.commands.specs.Accepted.{Opened, opened, plus_command, scramble_since, scramble_of}
use Rattle.commands.specs.Accepted.{settled, settings_by, entering, closing, entrants_left}
use Rattle.commands.specs.Accepted.{is_ended, settings_now, round_at, who_advance, who_wait}
use Rattle.commands.proofs.{Lookups.none_either, Lookups.of_either, OneMore.round_changed}
use Rattle.commands.proofs.OneMore.{keeps_open, asked_open, asked_cancel, before_opening, one_more}
use Rattle.commands.proofs.OneMore.{new_table, with_entrants, with_table, with_parts, entrants_at}
use Rattle.commands.proofs.OneMore.{left_all, entered_last, round_more, round_with, map_same}
use Rattle.commands.proofs.OneMore.{map_alike, KeepsValues, TakesNobodyOut, same_entrants, still}

abbrev pub with_change : Event → ℕ → Option (Settings × Table) → Opened → ℕ
    → (List Value → List Value) → Settings × Table
with_change e r before o m change =
    with_parts e (settings_now e r o) (is_ended e r o.since)
    (map (changed_of m change) (entrants_at e r before o))

-- a command that changes the values of one number makes that change of the entrants, or none
pub values_changed : (e : Event) (r : ℕ) (before : Option (Settings × Table)) (c : Command)
    (o : Opened) (m : ℕ) (change : List Value → List Value) (b : Bool)
    → ((s : Settings) → settings_by e r c s ≡ s) → closing e r c ≡ None
    → ((waiting : List ℕ) (earlier : List Command) → entering e r waiting earlier c ≡ None)
    → TakesNobodyOut e r c → ((x : Entrant) → one_more e r o.settings o.since c x
    ≡ (let y : Entrant =
    record { number = x.number; values = cond (b && m == x.number) (change x.values) x.values } in
    y)) → round_at e r before (plus_command c o)
    ≡ cond b (with_change e r before o m change) (round_at e r before o)
values_changed e r before c o m change b sets stays nobody stay is =
    round_with e r before c o _ sets stays (rw (nobody (who_wait before) o.since)
    (ap (λ (xs : List Entrant). xs ++ [])
    (left_all e r o.settings o.since c (entrants_at e r before o) stay
    ∙ map_alike _ _ each (entrants_at e r before o))
    ∙ all b (entrants_at e r before o)))
    ∙ both b
  where
    at : (a t : Bool) (x : Entrant) → (let y : Entrant =
        record { number = x.number; values = cond (a && t) (change x.values) x.values } in
        y) ≡ cond a (cond t (record x { values = change x.values }) x) x
    at true true x = refl
    at true false x = refl
    at false t x = refl

    each : (x : Entrant) → one_more e r o.settings o.since c x ≡ cond b (changed_of m change x) x
    each x = is x ∙ at b (m == x.number) x

    all : (a : Bool) (xs : List Entrant)
        → map (λ (x : Entrant). cond a (changed_of m change x) x) xs ++ []
        ≡ cond a (map (changed_of m change) xs) xs
    all true xs = append-nil _
    all false xs = append-nil _ ∙ map_same _ (λ x. refl) xs

    both : (a : Bool) → with_parts e (settings_now e r o) (is_ended e r o.since)
        (cond a (map (changed_of m change) (entrants_at e r before o)) (entrants_at e r before o))
        ≡ cond a (with_change e r before o m change) (round_at e r before o)
    both true = refl
    both false = refl

-- the scramble of an attempt, by the commands since the opening of its round
pub scramble_here : (e f : Event) (r s k : ℕ) (cs : List Command) (o : Opened)
    → opened e r [] cs ≡ Some o → (same_event e f && r == s) ≡ true
    → scramble_since e r k o ≡ scramble_of cs f s k
scramble_here e f r s k cs o is here =
    let event : e ≡ f = same_event-equal e f (grind arith) in
    let round : r ≡ s = eqb-true r s (grind arith) in
    sym (ap (option_and_then (scramble_since e r k)) is)
    ∙ ap (λ (x : Event). scramble_of cs x r k) event
    ∙ ap (λ (n : ℕ). scramble_of cs f n k) round

-- a change that asks for the scramble of an attempt
under_scramble : (e f : Event) (r s k : ℕ) (before : Option (Settings × Table))
    (cs : List Command) (o : Opened)
    (change : Option (List Move) → Settings × Table → Settings × Table) → opened e r [] cs ≡ Some o
    → (b : Bool) → (same_event e f && r == s) ≡ b
    → cond b (change (scramble_since e r k o) (round_at e r before o)) (round_at e r before o)
    ≡ cond b (change (scramble_of cs f s k) (round_at e r before o)) (round_at e r before o)
under_scramble e f r s k before cs o change is true here =
    ap (λ (scramble : Option (List Move)). change scramble (round_at e r before o))
    (scramble_here e f r s k cs o is here)
under_scramble e f r s k before cs o change is false here = refl

-- an attempt adds a value in its round, and changes no other
pub round_attempt : (e f : Event) (r s k m : ℕ) (x : Entered) (cs : List Command)
    → round_of (cs ++ Attempt (attempt_entry (round_id f s) k m x) ∷ []) e r
    ≡ cond (same_event e f && r == s)
    (option_map (with_attempt m (scramble_of cs f s k) x) (round_of cs e r)) (round_of cs e r)
round_attempt e f r s k m x cs =
    round_changed e r cs (Attempt (attempt_entry (round_id f s) k m x)) (same_event e f && r == s)
    (with_attempt m (scramble_of cs f s k) x) refl changes
  where
    changes : (o : Opened) (before : Option (Settings × Table)) → opened e r [] cs ≡ Some o
        → round_at e r before (plus_command (Attempt (attempt_entry (round_id f s) k m x)) o)
        ≡ cond (same_event e f && r == s)
        (with_attempt m (scramble_of cs f s k) x (round_at e r before o)) (round_at e r before o)
    changes o before is =
        values_changed e r before (Attempt (attempt_entry (round_id f s) k m x)) o m
        (λ vs. vs ++ settled (settings_now e r o) (scramble_since e r k o) x ∷ [])
        (same_event e f && r == s)
        (λ s. refl) refl (λ waiting earlier. refl) (λ n. refl) (λ y. refl)
        ∙ under_scramble e f r s k before cs o (λ scramble. with_attempt m scramble x) is
        (same_event e f && r == s) refl

-- a correction replaces a value in its round, and changes no other
pub round_correct : (e f : Event) (r s k m : ℕ) (x : Entered) (cs : List Command)
    → round_of (cs ++ Correct (attempt_entry (round_id f s) k m x) ∷ []) e r
    ≡ cond (same_event e f && r == s)
    (option_map (with_correction m k (scramble_of cs f s k) x) (round_of cs e r)) (round_of cs e r)
round_correct e f r s k m x cs =
    round_changed e r cs (Correct (attempt_entry (round_id f s) k m x)) (same_event e f && r == s)
    (with_correction m k (scramble_of cs f s k) x) refl changes
  where
    changes : (o : Opened) (before : Option (Settings × Table)) → opened e r [] cs ≡ Some o
        → round_at e r before (plus_command (Correct (attempt_entry (round_id f s) k m x)) o)
        ≡ cond (same_event e f && r == s)
        (with_correction m k (scramble_of cs f s k) x (round_at e r before o))
        (round_at e r before o)
    changes o before is =
        values_changed e r before (Correct (attempt_entry (round_id f s) k m x)) o m
        (λ vs. replaced k (settled (settings_now e r o) (scramble_since e r k o) x) vs)
        (same_event e f && r == s)
        (λ s. refl) refl (λ waiting earlier. refl) (λ n. refl) (λ y. refl)
        ∙ under_scramble e f r s k before cs o (λ scramble. with_correction m k scramble x) is
        (same_event e f && r == s) refl

-- a strike removes a value in its round, and changes no other
pub round_strike : (e f : Event) (r s m : ℕ) (cs : List Command)
    → round_of (cs ++ Strike (round_id f s) m ∷ []) e r
    ≡ cond (same_event e f && r == s) (option_map (with_strike m) (round_of cs e r))
    (round_of cs e r)
round_strike e f r s m cs =
    round_changed e r cs (Strike (round_id f s) m) (same_event e f && r == s) (with_strike m) refl
    (λ o before is.
    values_changed e r before (Strike (round_id f s) m) o m without_last (same_event e f && r == s)
    (λ s. refl) refl (λ waiting earlier. refl) (λ n. refl) (λ y. refl))

-- a command that enters nobody, takes nobody out and changes no values changes a round by what it
-- sets, and by whether it closes the round
remade : (e : Event) (r : ℕ) (cs : List Command) (c : Command) (b : Bool)
    (change : Settings × Table → Settings × Table) → keeps_open e r c ≡ true
    → ((waiting : List ℕ) (earlier : List Command) → entering e r waiting earlier c ≡ None)
    → TakesNobodyOut e r c → KeepsValues e r c
    → ((settings : Settings) (now : Bool) (es : List Entrant)
    → with_parts e (settings_by e r c settings) (unwrap_or (closing e r c) now) es
    ≡ cond b (change (with_parts e settings now es)) (with_parts e settings now es))
    → round_of (cs ++ c ∷ []) e r ≡ cond b (option_map change (round_of cs e r)) (round_of cs e r)
remade e r cs c b change opens nobody stay keeps makes =
    round_changed e r cs c b change opens (λ o before is.
    round_more e r before o c
    ∙ ap (λ (xs : List Entrant).
    with_parts e (settings_by e r c (settings_now e r o))
    (unwrap_or (closing e r c) (is_ended e r o.since)) xs)
    (same_entrants e r before o c nobody stay keeps)
    ∙ makes (settings_now e r o) (is_ended e r o.since) (entrants_at e r before o))

-- an advance that is given is in its round, and in no other
pub round_advance : (e f : Event) (r s : ℕ) (advance : Advance) (cs : List Command)
    → round_of (cs ++ SetAdvance (round_id f s) advance ∷ []) e r
    ≡ cond (same_event e f && r == s) (option_map (with_advance advance) (round_of cs e r))
    (round_of cs e r)
round_advance e f r s advance cs =
    remade e r cs (SetAdvance (round_id f s) advance) (same_event e f && r == s)
    (with_advance advance) refl (λ waiting earlier. refl) (λ n. refl) (λ settings earlier x. refl)
    (λ settings now es.
    of_either (λ (x : Settings). with_parts e x now es) (same_event e f && r == s)
    (record settings { advance = advance }) settings)

-- other settings are in their round, and in no other
pub round_settings : (e f : Event) (r s : ℕ) (format : Format) (cutoff : Option (ℕ × ℕ))
    (limit : Option ℕ) (cs : List Command)
    → round_of (cs ++ SetRound (round_id f s) format cutoff limit ∷ []) e r
    ≡ cond (same_event e f && r == s)
    (option_map (with_settings format cutoff limit) (round_of cs e r)) (round_of cs e r)
round_settings e f r s format cutoff limit cs =
    remade e r cs (SetRound (round_id f s) format cutoff limit) (same_event e f && r == s)
    (with_settings format cutoff limit) refl (λ waiting earlier. refl) (λ n. refl)
    (λ settings earlier x. refl) (λ settings now es.
    of_either (λ (x : Settings). with_parts e x now es) (same_event e f && r == s)
    (record settings { format = format; cutoff = cutoff; limit = limit }) settings)

-- a closing closes its round, and no other
pub round_close : (e f : Event) (r s : ℕ) (cs : List Command)
    → round_of (cs ++ Close (round_id f s) ∷ []) e r
    ≡ cond (same_event e f && r == s) (option_map with_end (round_of cs e r)) (round_of cs e r)
round_close e f r s cs =
    remade e r cs (Close (round_id f s)) (same_event e f && r == s) with_end refl
    (λ waiting earlier. refl) (λ n. refl) (λ settings earlier x. refl) (λ settings now es.
    of_either (λ (x : Option Bool). with_parts e settings (unwrap_or x now) es)
    (same_event e f && r == s) (Some true) None)

-- a round that is opened again is open, and no other is changed
pub round_reopen : (e f : Event) (r s : ℕ) (cs : List Command)
    → round_of (cs ++ Reopen (round_id f s) ∷ []) e r
    ≡ cond (same_event e f && r == s) (option_map with_reopening (round_of cs e r))
    (round_of cs e r)
round_reopen e f r s cs =
    remade e r cs (Reopen (round_id f s)) (same_event e f && r == s) with_reopening refl
    (λ waiting earlier. refl) (λ n. refl) (λ settings earlier x. refl) (λ settings now es.
    of_either (λ (x : Option Bool). with_parts e settings (unwrap_or x now) es)
    (same_event e f && r == s) (Some false) None)

-- an entry adds an entrant to the first round, and changes no other
pub round_enter : (e f : Event) (r n : ℕ) (cs : List Command) → round_of (cs ++ Enter f n ∷ []) e r
    ≡ cond (same_event e f && r == 1) (option_map (with_entry n) (round_of cs e r))
    (round_of cs e r)
round_enter e f r n cs =
    round_changed e r cs c (same_event e f && r == 1) (with_entry n) refl
    (λ o before is. changes o before)
  where
    c : Command
    c = Enter f n

    both : (b : Bool) (o : Opened) (before : Option (Settings × Table))
        → with_parts e (settings_now e r o) (is_ended e r o.since)
        (entrants_at e r before o ++ option_to_list (option_map newcomer (cond b (Some n) None)))
        ≡ cond b (with_entry n (round_at e r before o)) (round_at e r before o)
    both true o before = refl
    both false o before =
        ap (λ (xs : List Entrant). with_parts e (settings_now e r o) (is_ended e r o.since) xs)
        (append-nil _)

    changes : (o : Opened) (before : Option (Settings × Table))
        → round_at e r before (plus_command c o)
        ≡ cond (same_event e f && r == 1) (with_entry n (round_at e r before o))
        (round_at e r before o)
    changes o before =
        round_with e r before c o _ (λ settings. refl) refl
        (ap (λ (xs : List Entrant). xs ++ entered_last e r (who_wait before) o.since c)
        (left_all e r o.settings o.since c (entrants_at e r before o) (λ m. refl)
        ∙ map_same _ (λ x. refl) (entrants_at e r before o)))
        ∙ both (same_event e f && r == 1) o before

-- a command that changes nothing of a round that is open, opens none and takes none back changes no
-- round
pub round_same : (e : Event) (r : ℕ) (cs : List Command) (c : Command) → keeps_open e r c ≡ true
    → ((s : Settings) → settings_by e r c s ≡ s) → closing e r c ≡ None
    → ((waiting : List ℕ) (earlier : List Command) → entering e r waiting earlier c ≡ None)
    → TakesNobodyOut e r c → KeepsValues e r c → round_of (cs ++ c ∷ []) e r ≡ round_of cs e r
round_same e r cs c closed sets stays nobody stay keeps =
    round_changed e r cs c false (λ round. round) closed
    (λ o before is. still e r before c o sets stays nobody stay keeps)

pub round_register : (e : Event) (r n : ℕ) (name : List ℕ) (cs : List Command)
    → round_of (cs ++ Register n name ∷ []) e r ≡ round_of cs e r
round_register e r n name cs =
    round_same e r cs (Register n name) refl (λ s. refl) refl (λ waiting earlier. refl) (λ m. refl)
    (λ settings earlier x. refl)

pub round_rename : (e : Event) (r n : ℕ) (name : List ℕ) (cs : List Command)
    → round_of (cs ++ Rename n name ∷ []) e r ≡ round_of cs e r
round_rename e r n name cs =
    round_same e r cs (Rename n name) refl (λ s. refl) refl (λ waiting earlier. refl) (λ m. refl)
    (λ settings earlier x. refl)

pub round_scramble : (e f : Event) (r s k : ℕ) (moves : List Move) (cs : List Command)
    → round_of (cs ++ Scramble (round_id f s) k moves ∷ []) e r ≡ round_of cs e r
round_scramble e f r s k moves cs =
    round_same e r cs (Scramble (round_id f s) k moves) refl (λ s. refl) refl
    (λ waiting earlier. refl) (λ m. refl) (λ settings earlier x. refl)

pub round_rescramble : (e f : Event) (r s k : ℕ) (moves : List Move) (cs : List Command)
    → round_of (cs ++ Rescramble (round_id f s) k moves ∷ []) e r ≡ round_of cs e r
round_rescramble e f r s k moves cs =
    round_same e r cs (Rescramble (round_id f s) k moves) refl (λ s. refl) refl
    (λ waiting earlier. refl) (λ m. refl) (λ settings earlier x. refl)

pub round_edition : (e : Event) (r edition : ℕ) (cs : List Command)
    → round_of (cs ++ SetEdition edition ∷ []) e r ≡ round_of cs e r
round_edition e r edition cs =
    round_same e r cs (SetEdition edition) refl (λ s. refl) refl (λ waiting earlier. refl)
    (λ m. refl) (λ settings earlier x. refl)

-- the table of a round that is opened behind these commands
abbrev pub opening_table : Event → ℕ → Settings → List Command → Table
opening_table e r settings cs =
    with_newcomers (new_table e settings) (who_advance (round_of cs e (r - 1)))

-- those who came in at an opening behind which no command came
abbrev entrants_now : Event → ℕ → Settings → List ℕ → List Entrant
entrants_now e r settings ns = entrants_left e r settings [] [] ns

none_left_out : (e : Event) (r : ℕ) (settings : Settings) (ns : List ℕ)
    → entrants_now e r settings ns ≡ map newcomer ns
none_left_out e r settings [] = refl
none_left_out e r settings (n ∷ ns) =
    ap (λ (xs : List Entrant). newcomer n ∷ xs) (none_left_out e r settings ns)

-- an opening adds a round with those in it who advance from the one before, and changes no round
-- that is open
pub round_open : (e f : Event) (r s : ℕ) (settings : Settings) (cs : List Command) → 1 ≤ s
    → round_of (cs ++ Open (round_id f s) settings ∷ []) e r ≡ option_or (round_of cs e r)
    (cond (same_event e f && r == s) (Some (with_table settings (opening_table f s settings cs)))
    None)
unfolding round_in
round_open e f zero s settings cs low =
    let other : (same_event e f && 0 == s) ≡ false = grind (arith, nat_tests) in
    rw other refl
round_open e f (suc r) s settings cs low =
    asked_open at e f (suc r) s settings cs (with_table settings (opening_table f s settings cs))
    (λ o.
    still e (suc r) (round_in e r o.before) (Open (round_id f s) settings) o (λ s. refl) refl
    (λ waiting earlier. refl) (λ n. refl) (λ settings earlier x. refl)) (λ h.
    ap (λ (xs : List Entrant). with_table settings (with_entrants (new_table e settings) xs))
    (append-nil (entrants_now e (suc r) settings (who_advance (round_in e r cs)))
    ∙ none_left_out e (suc r) settings (who_advance (round_in e r cs)))
    ∙ before_opening (λ (x : Event) (before : Option (Settings × Table)).
    with_table settings (with_newcomers (new_table x settings) (who_advance before))) e f r s cs h)
  where
    at : Opened → Settings × Table
    at o = round_at e (suc r) (round_in e r o.before) o

-- a round that is taken back is not open any more, and no other is changed
pub round_cancel : (e f : Event) (r s : ℕ) (cs : List Command)
    → round_of (cs ++ Cancel (round_id f s) ∷ []) e r
    ≡ cond (same_event e f && r == s) None (round_of cs e r)
unfolding round_in
round_cancel e f zero s cs = none_either (same_event e f && 0 == s) None refl
round_cancel e f (suc r) s cs =
    asked_cancel (option_map (λ (o : Opened). round_at e (suc r) (round_in e r o.before) o)) e f
    (suc r) s cs (λ o.
    ap Some (still e (suc r) (round_in e r o.before) (Cancel (round_id f s)) o (λ s. refl) refl
    (λ waiting earlier. refl) (λ n. refl) (λ settings earlier x. refl)))
