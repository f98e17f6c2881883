-- What one more command makes of a list of accepted commands.
use Rattle.std.proofs.Common.{◌≡◌, ℕ, zero, suc, Bool, true, false, not, ◌||◌, ◌&&◌, ◌==◌, cond}
use Rattle.std.proofs.Common.{unwrap_or, List, [], ◌∷◌, ◌++◌, map, filter, Option, Some, None}
use Rattle.std.proofs.Common.{is_some, option_map, option_to_list, refl, ap, ◌∙◌, sym, append_assoc}
use Rattle.std.proofs.Common.{append-nil, arith, eqb-true, ◌-◌}
use Rattle.std.specs.{Option.option_or, Option.option_and_then, List.list_any}
use Rattle.std.proofs.lemmas.Bool.{false≢true}
use Rattle.std.proofs.lemmas.List.{map-append, Folds.list_any-append}
use Rattle.cube.specs.declared.moves.Move.{Move}
use Rattle.attempts.specs.declared.Value.{Value}
use Rattle.formats.{specs.declared.events.Event.Event, proofs.SameEvent.same_event-equal}
use Rattle.formats.specs.Events.{unit_of, same_event}
use Rattle.texts.specs.declared.command.Command.{Command, TheVariants.Open, TheVariants.Cancel}
use Rattle.texts.specs.{Fields.round_id, declared.command.Settings.Settings}
use Rattle.rounds.specs.Tables.{Entrant, Table, empty_table}
use Rattle.commands.specs.model.Kept.{newcomer}
use Rattle.commands.specs.Accepted.{last_of, plus_command, rescrambling, values_after, settings_now}
use Rattle.commands.specs.Accepted.{Opened, opened, opening, solving, closing}
use Rattle.commands.specs.Accepted.{opened_after, is_cancelled, entrant_after, stays, entrants_left}
use Rattle.commands.specs.Accepted.{opened_by, name_given, renaming, takes_out, entering, one_value}
use Rattle.commands.specs.Accepted.{just_opened, scrambling, scramble_of, settings_by, who_advance}
use Rattle.commands.specs.Accepted.{is_withdrawal, scramble_since, settings_after, entrants_after}
use Rattle.commands.specs.Accepted.{is_ended, table_of, who_wait, round_at, round_in, round_of}
use Rattle.commands.proofs.Lookups.{last_push, stands, standing_push, standing_kept}

-- a round after commands, and one more
after_push : (e : Event) (r : ℕ) (earlier : List Command) (state : Option Opened)
    (cs : List Command) (c : Command) → opened_after e r earlier state (cs ++ c ∷ [])
    ≡ opened_by e r (earlier ++ cs) (opened_after e r earlier state cs) c
after_push e r earlier state [] c =
    ap (λ (before : List Command). opened_by e r before state c) (sym (append-nil earlier))
after_push e r earlier state (d ∷ ds) c =
    after_push e r (earlier ++ d ∷ []) (opened_by e r earlier state d) ds c
    ∙ ap (λ (before : List Command).
    opened_by e r before
    (opened_after e r (earlier ++ d ∷ []) (opened_by e r earlier state d) ds) c)
    (append_assoc earlier (d ∷ []) ds)

-- one more command is one step more
pub opened_push : (e : Event) (r : ℕ) (cs : List Command) (c : Command)
    → opened e r [] (cs ++ c ∷ []) ≡ opened_by e r cs (opened e r [] cs) c
opened_push e r cs c = after_push e r [] None cs c

-- a command neither opens a round nor takes back that it was opened
abbrev pub keeps_open : Event → ℕ → Command → Bool
keeps_open e r c = not (is_some (opening e r c) || is_cancelled e r c)

-- what a command does but change rounds: whom it names, which scrambles it gives, whether it opens
-- no round and takes none back, takes somebody out, enters a solution
abbrev pub Besides : Type 0
Besides =
    Option (List ℕ) × Option (List ℕ) × Option (List Move) × Option (List Move) × Bool × Bool
    × Option Bool

abbrev pub besides : Event → ℕ → ℕ → ℕ → Command → Besides
besides f s k n c = (
  name_given n c,
  renaming n c,
  scrambling f s k c,
  rescrambling f s k c,
  keeps_open f s c,
  is_withdrawal f s c,
  solving f s k n c,
)

-- a command that names nobody, gives no scramble, opens no round, takes none back, takes nobody out
-- and enters no solution
abbrev pub ChangesOnly : Command → Type 0
ChangesOnly c =
    (f : Event) (s k n : ℕ) → besides f s k n c ≡ (None, None, None, None, true, false, None)

-- the same of one that may enter solutions, of one that may name somebody, and of one that may give
-- scrambles
abbrev pub EntersOnly : Command → Type 0
EntersOnly c =
    (f : Event) (s k n : ℕ)
    → besides f s k n c ≡ (None, None, None, None, true, false, solving f s k n c)

abbrev pub NamesOnly : Command → Type 0
NamesOnly c =
    (f : Event) (s k n : ℕ)
    → besides f s k n c ≡ (name_given n c, renaming n c, None, None, true, false, None)

abbrev pub ScramblesOnly : Command → Type 0
ScramblesOnly c =
    (f : Event) (s k n : ℕ) → besides f s k n c
    ≡ (None, None, scrambling f s k c, rescrambling f s k c, true, false, None)

-- such a command opens nothing
pub opens_none : (e : Event) (r : ℕ) (c : Command) → keeps_open e r c ≡ true → opening e r c ≡ None
opens_none e r c h = step (opening e r c) h
  where
    step : (o : Option Settings) → not (is_some o || is_cancelled e r c) ≡ true → o ≡ None
    step None h = refl
    step (Some s) h = absurd (false≢true h)

-- and takes nothing back
pub cancels_none : (e : Event) (r : ℕ) (c : Command) → keeps_open e r c ≡ true
    → is_cancelled e r c ≡ false
cancels_none e r c h = step (is_some (opening e r c)) (is_cancelled e r c) h
  where
    step : (a b : Bool) → not (a || b) ≡ true → b ≡ false
    step false false h = refl
    step false true h = absurd (false≢true h)
    step true b h = absurd (false≢true h)

-- so it is one more since the opening
pub opened_kept : (e : Event) (r : ℕ) (cs : List Command) (c : Command) → keeps_open e r c ≡ true
    → opened e r [] (cs ++ c ∷ []) ≡ option_map (plus_command c) (opened e r [] cs)
opened_kept e r cs c h = opened_push e r cs c ∙ step (opened e r [] cs)
  where
    step : (x : Option Opened) → opened_by e r cs x c ≡ option_map (plus_command c) x
    step None = ap (option_map (just_opened cs)) (opens_none e r c h)
    step (Some o) =
        ap (λ (b : Bool). cond b None (Some (plus_command c o))) (cancels_none e r c h)

-- What is asked of the opening of a round, after one more command

-- a command that takes no round back
pub asked_push : {X : Type 0} (asked next : Option Opened → X) (e : Event) (r : ℕ)
    (cs : List Command) (c : Command) → is_cancelled e r c ≡ false → asked None ≡ next None
    → ((s : Settings) → asked (Some (just_opened cs s)) ≡ next None)
    → ((o : Opened) → asked (Some (plus_command c o)) ≡ next (Some o))
    → asked (opened e r [] (cs ++ c ∷ [])) ≡ next (opened e r [] cs)
asked_push asked next e r cs c stays none new more =
    ap asked (opened_push e r cs c) ∙ step (opened e r [] cs)
  where
    first : (y : Option Settings) → asked (option_map (just_opened cs) y) ≡ next None
    first None = none
    first (Some s) = new s

    step : (x : Option Opened) → asked (opened_by e r cs x c) ≡ next x
    step None = first (opening e r c)
    step (Some o) =
        ap (λ (b : Bool). asked (cond b None (Some (plus_command c o)))) stays ∙ more o

-- a round that is taken back is not open any more, and each other one has one more command
pub asked_cancel : {X : Type 0} (asked : Option Opened → X) (e f : Event) (r s : ℕ)
    (cs : List Command) → ((o : Opened)
    → asked (Some (plus_command (Cancel (round_id f s)) o)) ≡ asked (Some o))
    → asked (opened e r [] (cs ++ Cancel (round_id f s) ∷ []))
    ≡ cond (same_event e f && r == s) (asked None) (asked (opened e r [] cs))
asked_cancel asked e f r s cs more =
    ap asked (opened_push e r cs (Cancel (round_id f s)))
    ∙ step (opened e r [] cs)
  where
    nothing : (b : Bool) → asked None ≡ cond b (asked None) (asked None)
    nothing true = refl
    nothing false = refl

    here : (o : Opened) (b : Bool)
        → asked (cond b None (Some (plus_command (Cancel (round_id f s)) o)))
        ≡ cond b (asked None) (asked (Some o))
    here o true = refl
    here o false = more o

    step : (x : Option Opened) → asked (opened_by e r cs x (Cancel (round_id f s)))
        ≡ cond (same_event e f && r == s) (asked None) (asked x)
    step None = nothing (same_event e f && r == s)
    step (Some o) = here o (same_event e f && r == s)

-- an opening opens its round, and is one more command of one that is open
pub asked_open : {X : Type 0} (asked : Opened → X) (e f : Event) (r s : ℕ) (settings : Settings)
    (cs : List Command) (made : X)
    → ((o : Opened) → asked (plus_command (Open (round_id f s) settings) o) ≡ asked o)
    → ((same_event e f && r == s) ≡ true → asked (just_opened cs settings) ≡ made)
    → option_map asked (opened e r [] (cs ++ Open (round_id f s) settings ∷ []))
    ≡ option_or (option_map asked (opened e r [] cs))
    (cond (same_event e f && r == s) (Some made) None)
asked_open asked e f r s settings cs made stays new =
    ap (option_map asked) (opened_push e r cs (Open (round_id f s) settings))
    ∙ step (opened e r [] cs)
  where
    first : (b : Bool) → (same_event e f && r == s) ≡ b
        → option_map asked (option_map (just_opened cs) (cond b (Some settings) None))
        ≡ cond b (Some made) None
    first true h = ap Some (new h)
    first false h = refl

    step : (x : Option Opened)
        → option_map asked (opened_by e r cs x (Open (round_id f s) settings))
        ≡ option_or (option_map asked x) (cond (same_event e f && r == s) (Some made) None)
    step None = first (same_event e f && r == s) refl
    step (Some o) = ap Some (stays o)

-- the round before one that is opened
pub before_opening : {X : Type 0} (asked : Event → Option (Settings × Table) → X) (e f : Event)
    (r s : ℕ) (cs : List Command) → (same_event e f && suc r == s) ≡ true
    → asked e (round_of cs e r) ≡ asked f (round_of cs f (s - 1))
before_opening asked e f r s cs h =
    let event : e ≡ f = same_event-equal e f (grind arith) in
    let round : suc r ≡ s = eqb-true (suc r) s (grind arith) in
    let before : r ≡ s - 1 = omega arith in
    ap (λ (x : Event). asked x (round_of cs x r)) event
    ∙ ap (λ (n : ℕ). asked f (round_of cs f n)) before

-- one more command changes the values by that command alone
pub values_push : (e : Event) (r : ℕ) (settings : Settings) (n : ℕ) (earlier : List Command)
    (vs : List Value) (cs : List Command) (c : Command)
    → values_after e r settings n earlier vs (cs ++ c ∷ [])
    ≡ one_value e r settings n (earlier ++ cs) (values_after e r settings n earlier vs cs) c
values_push e r settings n earlier vs [] c =
    ap (λ (before : List Command). one_value e r settings n before vs c) (sym (append-nil earlier))
values_push e r settings n earlier vs (d ∷ ds) c =
    values_push e r settings n (earlier ++ d ∷ []) (one_value e r settings n earlier vs d) ds c
    ∙ ap (λ (before : List Command).
    one_value e r settings n before
    (values_after e r settings n (earlier ++ d ∷ []) (one_value e r settings n earlier vs d) ds) c)
    (append_assoc earlier (d ∷ []) ds)

-- an entrant after one more command
abbrev pub one_more : Event → ℕ → Settings → List Command → Command → Entrant → Entrant
one_more e r settings earlier c x =
    record { number = x.number; values = one_value e r settings x.number earlier x.values c }

-- a command does not take an entrant out
abbrev pub is_left_by : Event → ℕ → Command → Entrant → Bool
is_left_by e r c x = not (takes_out e r x.number c)

-- entrants after one more command that takes some out
abbrev pub left_more : Event → ℕ → Settings → List Command → Command → List Entrant → List Entrant
left_more e r settings earlier c xs =
    map (one_more e r settings earlier c) (filter (is_left_by e r c) xs)

pub or_last : (a b : Bool) → (a || (b || false)) ≡ (a || b)
or_last true b = refl
or_last false true = refl
or_last false false = refl

-- one more command changes each of these by itself, and may take them out
pub left_push : (e : Event) (r : ℕ) (settings : Settings) (earlier cs : List Command) (c : Command)
    (ns : List ℕ) → entrants_left e r settings earlier (cs ++ c ∷ []) ns
    ≡ left_more e r settings (earlier ++ cs) c (entrants_left e r settings earlier cs ns)
left_push e r settings earlier cs c [] = refl
left_push e r settings earlier cs c (n ∷ ns) =
    ap (λ (b : Bool).
    map (entrant_after e r settings earlier (cs ++ c ∷ []))
    (cond (not b) (n ∷ filter (stays e r (cs ++ c ∷ [])) ns)
    (filter (stays e r (cs ++ c ∷ [])) ns))) (list_any-append (takes_out e r n) cs (c ∷ [])
    ∙ or_last (list_any (takes_out e r n) cs) (takes_out e r n c))
    ∙ step (list_any (takes_out e r n) cs) (takes_out e r n c) refl
    (left_push e r settings earlier cs c ns)
  where
    rest : List Entrant
    rest = entrants_left e r settings earlier (cs ++ c ∷ []) ns

    entrant : entrant_after e r settings earlier (cs ++ c ∷ []) n
        ≡ one_more e r settings (earlier ++ cs) c (entrant_after e r settings earlier cs n)
    entrant =
        ap (λ (vs : List Value). let x : Entrant = record { number = n; values = vs } in x)
        (values_push e r settings n earlier [] cs c)

    one : Entrant → Entrant
    one = one_more e r settings (earlier ++ cs) c

    step : (b t : Bool) → takes_out e r n c ≡ t
        → rest ≡ left_more e r settings (earlier ++ cs) c (entrants_left e r settings earlier cs ns)
        → map (entrant_after e r settings earlier (cs ++ c ∷ []))
        (cond (not (b || t)) (n ∷ filter (stays e r (cs ++ c ∷ [])) ns)
        (filter (stays e r (cs ++ c ∷ [])) ns)) ≡ left_more e r settings (earlier ++ cs) c
        (map (entrant_after e r settings earlier cs)
        (cond (not b) (n ∷ filter (stays e r cs) ns) (filter (stays e r cs) ns)))
    step true t is h = h
    step false true is h =
        h
        ∙ ap (λ (x : Bool).
        map one (cond (not x) (entrant_after e r settings earlier cs n ∷ filter (is_left_by e r c)
        (entrants_left e r settings earlier cs ns))
        (filter (is_left_by e r c) (entrants_left e r settings earlier cs ns)))) (sym is)
    step false false is h =
        ap (λ (x : Entrant). x ∷ rest) entrant
        ∙ ap (λ (xs : List Entrant). one (entrant_after e r settings earlier cs n) ∷ xs) h
        ∙ ap (λ (x : Bool).
        map one (cond (not x) (entrant_after e r settings earlier cs n ∷ filter (is_left_by e r c)
        (entrants_left e r settings earlier cs ns))
        (filter (is_left_by e r c) (entrants_left e r settings earlier cs ns)))) (sym is)

pub filter_append : {X : Type 0} (p : X → Bool) (xs ys : List X)
    → filter p (xs ++ ys) ≡ filter p xs ++ filter p ys
filter_append p [] ys = refl
filter_append {X} p (x ∷ xs) ys = step (p x) (filter_append p xs ys)
  where
    step : (b : Bool) → filter p (xs ++ ys) ≡ filter p xs ++ filter p ys
        → cond b (x ∷ filter p (xs ++ ys)) (filter p (xs ++ ys))
        ≡ cond b (x ∷ filter p xs) (filter p xs) ++ filter p ys
    step true h = ap (λ (zs : List X). x ∷ zs) h
    step false h = h

pub more_append : (e : Event) (r : ℕ) (settings : Settings) (earlier : List Command) (c : Command)
    (xs ys : List Entrant) → left_more e r settings earlier c (xs ++ ys)
    ≡ left_more e r settings earlier c xs ++ left_more e r settings earlier c ys
more_append e r settings earlier c xs ys =
    ap (map (one_more e r settings earlier c)) (filter_append (is_left_by e r c) xs ys)
    ∙ map-append (one_more e r settings earlier c) (filter (is_left_by e r c) xs)
    (filter (is_left_by e r c) ys)

-- who is entered as the last by a command
abbrev pub entered_last : Event → ℕ → List ℕ → List Command → Command → List Entrant
entered_last e r waiting earlier c =
    option_to_list (option_map newcomer (entering e r waiting earlier c))

-- one more command changes each entrant by itself, may take some out, and may enter one
pub entrants_push : (e : Event) (r : ℕ) (settings : Settings) (waiting : List ℕ)
    (earlier cs : List Command) (c : Command)
    → entrants_after e r settings waiting earlier (cs ++ c ∷ [])
    ≡ left_more e r settings (earlier ++ cs) c (entrants_after e r settings waiting earlier cs) ++
    entered_last e r waiting (earlier ++ cs) c
entrants_push e r settings waiting earlier [] c =
    append-nil _ ∙ step (entering e r waiting earlier c)
    ∙ ap (λ (before : List Command). entered_last e r waiting before c) (sym (append-nil earlier))
  where
    step : (o : Option ℕ) → entrants_left e r settings (earlier ++ c ∷ []) [] (option_to_list o)
        ≡ option_to_list (option_map newcomer o)
    step None = refl
    step (Some n) = refl
entrants_push e r settings waiting earlier (d ∷ ds) c =
    ap (λ (xs : List Entrant). xs ++ entrants_after e r settings waiting here (ds ++ c ∷ []))
    (left_push e r settings here ds c new)
    ∙ ap (λ (xs : List Entrant).
    left_more e r settings (here ++ ds) c (entrants_left e r settings here ds new) ++ xs)
    (entrants_push e r settings waiting here ds c)
    ∙ ap (λ (before : List Command).
    left_more e r settings before c (entrants_left e r settings here ds new) ++
    (left_more e r settings before c there ++ entered_last e r waiting before c))
    (append_assoc earlier (d ∷ []) ds)
    ∙ sym (append_assoc
    (left_more e r settings (earlier ++ d ∷ ds) c (entrants_left e r settings here ds new))
    (left_more e r settings (earlier ++ d ∷ ds) c there)
    (entered_last e r waiting (earlier ++ d ∷ ds) c))
    ∙ ap (λ (xs : List Entrant). xs ++ entered_last e r waiting (earlier ++ d ∷ ds) c) (sym
    (more_append e r settings (earlier ++ d ∷ ds) c (entrants_left e r settings here ds new) there))
  where
    here : List Command
    here = earlier ++ d ∷ []

    new : List ℕ
    new = option_to_list (entering e r waiting earlier d)

    there : List Entrant
    there = entrants_after e r settings waiting here ds

-- one more command changes the settings by that command alone
pub settings_push : (e : Event) (r : ℕ) (settings : Settings) (cs : List Command) (c : Command)
    → settings_after e r settings (cs ++ c ∷ []) ≡ settings_by e r c
    (settings_after e r settings cs)
settings_push e r settings [] c = refl
settings_push e r settings (d ∷ ds) c = settings_push e r (settings_by e r d settings) ds c

-- whether a round is closed goes by the last command to say it
pub ended_push : (e : Event) (r : ℕ) (cs : List Command) (c : Command)
    → is_ended e r (cs ++ c ∷ []) ≡ unwrap_or (closing e r c) (is_ended e r cs)
ended_push e r cs c =
    ap (λ (o : Option Bool). unwrap_or o false) (last_push (closing e r) cs c)
    ∙ step (closing e r c) (last_of (closing e r) cs)
  where
    step : (a b : Option Bool) → unwrap_or (option_or a b) false ≡ unwrap_or a (unwrap_or b false)
    step None b = refl
    step (Some x) b = refl

-- the table of a round in which nobody is entered yet
abbrev pub new_table : Event → Settings → Table
new_table e settings = empty_table settings.format (unit_of e) settings.cutoff

-- the table of a round with other entrants
abbrev pub with_entrants : Table → List Entrant → Table
with_entrants t es = record t { entrants = es }

abbrev pub with_table : Settings → Table → Settings × Table
with_table settings t = (settings, t)

-- a round with these settings, closed or not, and these entrants
abbrev pub with_parts : Event → Settings → Bool → List Entrant → Settings × Table
with_parts e settings closed es = (
  settings,
  record {
    format = settings.format;
    unit = unit_of e;
    cutoff = settings.cutoff;
    is_closed = closed;
    entrants = es;
  },
)

-- the entrants of a round that was opened behind another
abbrev pub entrants_at : Event → ℕ → Option (Settings × Table) → Opened → List Entrant
entrants_at e r before o = (table_of e r (who_advance before) (who_wait before) o).entrants

-- what one more command makes of the entrants of a round that is open
abbrev pub entrants_with : Event → ℕ → Option (Settings × Table) → Opened → Command → List Entrant
entrants_with e r before o c =
    left_more e r o.settings o.since c (entrants_at e r before o) ++
    entered_last e r (who_wait before) o.since c

pub entrants_more : (e : Event) (r : ℕ) (before : Option (Settings × Table)) (o : Opened)
    (c : Command) → entrants_at e r before (plus_command c o) ≡ entrants_with e r before o c
entrants_more e r before o c =
    ap (λ (xs : List Entrant).
    xs ++ entrants_after e r o.settings (who_wait before) [] (o.since ++ c ∷ []))
    (left_push e r o.settings [] o.since c (who_advance before))
    ∙ ap (λ (xs : List Entrant). left_more e r o.settings o.since c first ++ xs)
    (entrants_push e r o.settings (who_wait before) [] o.since c)
    ∙ sym (append_assoc (left_more e r o.settings o.since c first)
    (left_more e r o.settings o.since c later) last)
    ∙ ap (λ (xs : List Entrant). xs ++ last)
    (sym (more_append e r o.settings o.since c first later))
  where
    first : List Entrant
    first = entrants_left e r o.settings [] o.since (who_advance before)

    later : List Entrant
    later = entrants_after e r o.settings (who_wait before) [] o.since

    last : List Entrant
    last = entered_last e r (who_wait before) o.since c

-- what one more command makes of a round that is open
pub round_more : (e : Event) (r : ℕ) (before : Option (Settings × Table)) (o : Opened) (c : Command)
    → round_at e r before (plus_command c o) ≡ with_parts e (settings_by e r c (settings_now e r o))
    (unwrap_or (closing e r c) (is_ended e r o.since)) (entrants_with e r before o c)
round_more e r before o c =
    ap (λ (s : Settings).
    with_parts e s (is_ended e r (o.since ++ c ∷ [])) (entrants_at e r before (plus_command c o)))
    (settings_push e r o.settings o.since c)
    ∙ ap (λ (b : Bool).
    with_parts e (settings_by e r c (settings_now e r o)) b
    (entrants_at e r before (plus_command c o))) (ended_push e r o.since c)
    ∙ ap (λ (xs : List Entrant).
    with_parts e (settings_by e r c (settings_now e r o))
    (unwrap_or (closing e r c) (is_ended e r o.since)) xs) (entrants_more e r before o c)

pub map_same : {X : Type 0} (f : X → X) → ((x : X) → f x ≡ x) → (xs : List X) → map f xs ≡ xs
map_same f h [] = refl
map_same f h (x ∷ xs) = rw (h x, map_same f h xs) refl

pub map_alike : {X : Type 0} (f g : X → X) → ((x : X) → f x ≡ g x) → (xs : List X)
    → map f xs ≡ map g xs
map_alike f g h [] = refl
map_alike f g h (x ∷ xs) = rw (h x, map_alike f g h xs) refl

pub filter_all : {X : Type 0} (p : X → Bool) → ((x : X) → p x ≡ true) → (xs : List X)
    → filter p xs ≡ xs
filter_all p h [] = refl
filter_all p h (x ∷ xs) = rw (h x, filter_all p h xs) refl

-- a command takes nobody out
abbrev pub TakesNobodyOut : Event → ℕ → Command → Type 0
TakesNobodyOut e r c = (n : ℕ) → takes_out e r n c ≡ false

-- a command changes no values
abbrev pub KeepsValues : Event → ℕ → Command → Type 0
KeepsValues e r c =
    (settings : Settings) (earlier : List Command) (x : Entrant)
    → one_more e r settings earlier c x ≡ x

-- who is left by a command that takes nobody out
pub left_all : (e : Event) (r : ℕ) (settings : Settings) (earlier : List Command) (c : Command)
    (xs : List Entrant) → TakesNobodyOut e r c
    → left_more e r settings earlier c xs ≡ map (one_more e r settings earlier c) xs
left_all e r settings earlier c xs nobody =
    ap (map (one_more e r settings earlier c))
    (filter_all (is_left_by e r c) (λ x. ap not (nobody x.number)) xs)

-- a command that changes no values, takes nobody out and enters nobody leaves the entrants
pub same_entrants : (e : Event) (r : ℕ) (before : Option (Settings × Table)) (o : Opened)
    (c : Command)
    → ((waiting : List ℕ) (earlier : List Command) → entering e r waiting earlier c ≡ None)
    → TakesNobodyOut e r c → KeepsValues e r c
    → entrants_with e r before o c ≡ entrants_at e r before o
same_entrants e r before o c nobody stay keeps =
    rw (nobody (who_wait before) o.since) (append-nil _
    ∙ left_all e r o.settings o.since c (entrants_at e r before o) stay
    ∙ map_same (one_more e r o.settings o.since c) (keeps o.settings o.since)
    (entrants_at e r before o))

-- a command that sets nothing, and neither closes the round nor opens it again
pub round_with : (e : Event) (r : ℕ) (before : Option (Settings × Table)) (c : Command) (o : Opened)
    (es : List Entrant) → ((s : Settings) → settings_by e r c s ≡ s) → closing e r c ≡ None
    → entrants_with e r before o c ≡ es → round_at e r before (plus_command c o)
    ≡ with_parts e (settings_now e r o) (is_ended e r o.since) es
round_with e r before c o es sets stays h =
    round_more e r before o c
    ∙ ap (λ (s : Settings).
    with_parts e s (unwrap_or (closing e r c) (is_ended e r o.since))
    (entrants_with e r before o c)) (sets (settings_now e r o))
    ∙ ap (λ (x : Option Bool).
    with_parts e (settings_now e r o) (unwrap_or x (is_ended e r o.since))
    (entrants_with e r before o c)) stays
    ∙ ap (λ (xs : List Entrant). with_parts e (settings_now e r o) (is_ended e r o.since) xs) h

pub still : (e : Event) (r : ℕ) (before : Option (Settings × Table)) (c : Command) (o : Opened)
    → ((s : Settings) → settings_by e r c s ≡ s) → closing e r c ≡ None
    → ((waiting : List ℕ) (earlier : List Command) → entering e r waiting earlier c ≡ None)
    → TakesNobodyOut e r c → KeepsValues e r c
    → round_at e r before (plus_command c o) ≡ round_at e r before o
still e r before c o sets stays nobody stay keeps =
    round_with e r before c o (entrants_at e r before o) sets stays
    (same_entrants e r before o c nobody stay keeps)

-- a command that opens no round and takes none back makes this change of a round that is open, or
-- none
pub round_changed : (e : Event) (r : ℕ) (cs : List Command) (c : Command) (b : Bool)
    (change : Settings × Table → Settings × Table) → keeps_open e r c ≡ true
    → ((o : Opened) (before : Option (Settings × Table)) → opened e r [] cs ≡ Some o
    → round_at e r before (plus_command c o)
    ≡ cond b (change (round_at e r before o)) (round_at e r before o))
    → round_of (cs ++ c ∷ []) e r ≡ cond b (option_map change (round_of cs e r)) (round_of cs e r)
unfolding round_in
round_changed e zero cs c b change keeps changes = none b
  where
    none : (t : Bool) → None ≡ cond t (option_map change None) None
    none true = refl
    none false = refl
round_changed e (suc r) cs c b change keeps changes =
    ap (option_map at) (opened_kept e (suc r) cs c keeps) ∙ step (opened e (suc r) [] cs) refl
  where
    at : Opened → Settings × Table
    at o = round_at e (suc r) (round_in e r o.before) o

    none : (t : Bool) → None ≡ cond t (option_map change None) None
    none true = refl
    none false = refl

    some : (t : Bool) (y : Settings × Table)
        → Some (cond t (change y) y) ≡ cond t (option_map change (Some y)) (Some y)
    some true y = refl
    some false y = refl

    step : (x : Option Opened) → opened e (suc r) [] cs ≡ x
        → option_map at (option_map (plus_command c) x)
        ≡ cond b (option_map change (option_map at x)) (option_map at x)
    step None h = none b
    step (Some o) h = ap Some (changes o (round_in e r o.before) h) ∙ some b (at o)

-- a command that enters nobody, takes nobody out and changes no values leaves what is asked of the
-- entrants of a round alone, whatever else it does to the round
pub others_kept : {X : Type 0} (asked : Option (Settings × Table) → X) (cs : List Command)
    (c : Command) (e : Event) (r : ℕ)
    → ((x y : Settings × Table) → x.1.entrants ≡ y.1.entrants → asked (Some x) ≡ asked (Some y))
    → keeps_open e r c ≡ true
    → ((waiting : List ℕ) (earlier : List Command) → entering e r waiting earlier c ≡ None)
    → TakesNobodyOut e r c → KeepsValues e r c
    → asked (round_of (cs ++ c ∷ []) e r) ≡ asked (round_of cs e r)
unfolding round_in
others_kept asked cs c e zero alike keeps nobody stay same = refl
others_kept asked cs c e (suc r) alike keeps nobody stay same =
    ap (λ (o : Option Opened). asked (option_map at o)) (opened_kept e (suc r) cs c keeps)
    ∙ step (opened e (suc r) [] cs)
  where
    at : Opened → Settings × Table
    at o = round_at e (suc r) (round_in e r o.before) o

    step : (o : Option Opened)
        → asked (option_map at (option_map (plus_command c) o)) ≡ asked (option_map at o)
    step None = refl
    step (Some o) =
        alike (at (plus_command c o)) (at o) (entrants_more e (suc r) (round_in e r o.before) o c
        ∙ same_entrants e (suc r) (round_in e r o.before) o c nobody stay same)

-- what one more command makes of the scramble of an attempt of a round that is open
abbrev pub scramble_with : Event → ℕ → ℕ → Command → Opened → Option (List Move)
scramble_with e r k c o =
    stands (scrambling e r k c) (rescrambling e r k c) (scramble_since e r k o)

-- one more command changes the scramble of an attempt by itself, where the round is open and stays
-- so
pub scramble_push : (e : Event) (r k : ℕ) (cs : List Command) (c : Command)
    → is_cancelled e r c ≡ false → scramble_of (cs ++ c ∷ []) e r k
    ≡ option_and_then (scramble_with e r k c) (opened e r [] cs)
scramble_push e r k cs c stays =
    asked_push (option_and_then (scramble_since e r k)) (option_and_then (scramble_with e r k c))
    e r cs c stays refl (λ s. refl)
    (λ o. standing_push (scrambling e r k) (rescrambling e r k) o.since c)

-- a command that gives no scramble for an attempt leaves it as it is
pub scramble_kept : (e : Event) (r k : ℕ) (cs : List Command) (c : Command)
    → is_cancelled e r c ≡ false → scrambling e r k c ≡ None → rescrambling e r k c ≡ None
    → scramble_of (cs ++ c ∷ []) e r k ≡ scramble_of cs e r k
scramble_kept e r k cs c stays none same =
    asked_push (option_and_then (scramble_since e r k)) (option_and_then (scramble_since e r k)) e r
    cs c stays refl (λ s. refl)
    (λ o. standing_kept (scrambling e r k) (rescrambling e r k) o.since c none same)

-- a command that sets the first scramble of an attempt
pub scramble_new : (e : Event) (r k : ℕ) (cs : List Command) (c : Command) (moves : List Move)
    → is_cancelled e r c ≡ false → scrambling e r k c ≡ Some moves
    → is_some (round_of cs e r) ≡ true
    → scramble_of cs e r k ≡ None → scramble_of (cs ++ c ∷ []) e r k ≡ Some moves
unfolding round_in
scramble_new e zero k cs c moves stays sets there absent = absurd (false≢true there)
scramble_new e (suc r) k cs c moves stays sets there absent =
    scramble_push e (suc r) k cs c stays ∙ step (opened e (suc r) [] cs) there absent
  where
    step : (x : Option Opened) → is_some
        (option_map (λ (o : Opened). round_at e (suc r) (round_in e r o.before) o) x) ≡ true
        → option_and_then (scramble_since e (suc r) k) x ≡ None
        → option_and_then (scramble_with e (suc r) k c) x ≡ Some moves
    step None h absent = absurd (false≢true h)
    step (Some o) h absent = rw absent sets

-- a command that puts another scramble in the place of an attempt's
pub scramble_again : (e : Event) (r k : ℕ) (cs : List Command) (c : Command) (moves : List Move)
    → is_cancelled e r c ≡ false → rescrambling e r k c ≡ Some moves
    → is_some (scramble_of cs e r k) ≡ true → scramble_of (cs ++ c ∷ []) e r k ≡ Some moves
scramble_again e r k cs c moves stays sets there =
    scramble_push e r k cs c stays
    ∙ ap (λ (b : Option (List Move)).
    option_and_then
    (λ (o : Opened). stands (scrambling e r k c) b (scramble_since e r k o)) (opened e r [] cs))
    sets
    ∙ step (opened e r [] cs) there
  where
    put : (o : Option (List Move)) → is_some o ≡ true
        → stands (scrambling e r k c) (Some moves) o ≡ Some moves
    put None h = absurd (false≢true h)
    put (Some x) h = refl

    step : (x : Option Opened) → is_some (option_and_then (scramble_since e r k) x) ≡ true
        → option_and_then
        (λ (o : Opened). stands (scrambling e r k c) (Some moves) (scramble_since e r k o)) x
        ≡ Some moves
    step None h = absurd (false≢true h)
    step (Some o) h = put (scramble_since e r k o) h

-- no attempt has a scramble in a round that is taken back
pub scramble_cancel : (e f : Event) (r s k : ℕ) (cs : List Command)
    → scramble_of (cs ++ Cancel (round_id f s) ∷ []) e r k
    ≡ cond (same_event e f && r == s) None (scramble_of cs e r k)
scramble_cancel e f r s k cs =
    asked_cancel (option_and_then (scramble_since e r k)) e f r s cs (λ o.
    standing_kept (scrambling e r k) (rescrambling e r k) o.since (Cancel (round_id f s)) refl refl)
