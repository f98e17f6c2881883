-- Over nothing a card does what its attempts do.
use Rattle.std.proofs.Common.{◌≡◌, ℕ, suc, Bool, true, false, ◌==◌, ◌&&◌, cond, List, [], ◌∷◌, ◌++◌}
use Rattle.std.proofs.Common.{map, Option, Some, None, option_map, refl, sym, ap, ◌∙◌, append_assoc}
use Rattle.std.proofs.Common.{append-nil, subst, arith, eqb-true}
use Rattle.std.{specs.List.AllByRecursion, proofs.lemmas.List.Elements.recursion_from_All}
use Rattle.std.proofs.{Math.Path.fun_ext, lemmas.List.map-id, lemmas.Simd.map-map}
use Rattle.cube.specs.declared.moves.Move.{Move}
use Rattle.attempts.specs.declared.Value.{Value}
use Rattle.formats.specs.{declared.events.Event.Event, Events.same_event}
use Rattle.formats.proofs.SameEvent.{same_event-equal}
use Rattle.texts.specs.declared.command.{Command.Command, CardEntry.CardEntry, RoundId.RoundId}
use Rattle.texts.specs.declared.command.{Entered.Entered, Settings.Settings}
use Rattle.texts.specs.declared.command.Command.TheVariants.{Attempt, Card}
use Rattle.texts.specs.Fields.{attempt_entry}
use Rattle.rounds.specs.Tables.{Entrant, Table, changed, changed_of, has_number}
use Rattle.commands.specs.Accepted.{round_of, scramble_of, settled, values_now, counts_in}
use Rattle.commands.specs.model.{Cards.scrambles_of, Cards.with_outcomes, Kept.with_attempt}
use Rattle.commands.proofs.CardRounds.{card_is, round_dealt}
use Rattle.commands.proofs.{EachCommand.round_attempt, OneMore.scramble_kept}
use Rattle.card_laws.specs.OverNothing.{CardIsAttempts, attempts_from, first_card, StandsBare}

-- what these outcomes count from attempt k on
abbrev pub outcomes : (ℕ → Entered → Value) → ℕ → List Entered → List Value
outcomes counts k [] = []
outcomes counts k (x ∷ xs) = counts k x ∷ outcomes counts (suc k) xs

-- a round with these outcomes after what counts
abbrev with_appended : (ℕ → Option (List Move)) → ℕ → ℕ → List Entered → Settings × Table
    → Settings × Table
with_appended scrambles n k xs round =
    (round.0, changed round.1 n (λ vs. vs ++ outcomes (counts_in round.0 scrambles) k xs))

-- nothing is changed by no outcome
unchanged : (n : ℕ) (xs : List Entrant) → map (changed_of n (λ vs. vs ++ [])) xs ≡ xs
unchanged n xs =
    ap (λ (f : Entrant → Entrant). map f xs) (fun_ext (λ x. step x (has_number n x))) ∙ map-id xs
  where
    step : (x : Entrant) (b : Bool) → cond b (record x { values = x.values ++ [] }) x ≡ x
    step x true = rw (append-nil x.values) refl
    step x false = refl

one_then_rest : (n : ℕ) (v : Value) (ws : List Value) (x : Entrant)
    → changed_of n (λ vs. vs ++ ws) (changed_of n (λ vs. vs ++ v ∷ []) x)
    ≡ changed_of n (λ vs. vs ++ v ∷ ws) x
one_then_rest n v ws x = step (has_number n x) refl
  where
    step : (b : Bool) → has_number n x ≡ b
        → changed_of n (λ vs. vs ++ ws) (changed_of n (λ vs. vs ++ v ∷ []) x)
        ≡ changed_of n (λ vs. vs ++ v ∷ ws) x
    step true h =
        rw (h, h) (ap (λ (vs : List Value). let y : Entrant = record x { values = vs } in y)
        (append_assoc x.values (v ∷ []) ws))
    step false h = rw (h, h) refl

-- a round with other entrants
abbrev with_these : Settings × Table → List Entrant → Option (Settings × Table)
with_these round es =
    let t : Table = record round.1 { entrants = es } in
    let now : Settings × Table = (round.0, t) in
    Some now

-- one attempt and then these outcomes, of one round
abbrev rest_of : (ℕ → Option (List Move)) → ℕ → ℕ → Entered → List Entered → Bool
    → Option (Settings × Table) → Option (Settings × Table)
rest_of scrambles n k x xs b o =
    cond b (option_map (with_appended scrambles n (suc k) xs)
    (cond b (option_map (with_attempt n (scrambles k) x) o) o))
    (cond b (option_map (with_attempt n (scrambles k) x) o) o)

rest_is : (scrambles : ℕ → Option (List Move)) (n k : ℕ) (x : Entered) (xs : List Entered)
    (b : Bool) (o : Option (Settings × Table)) → rest_of scrambles n k x xs b o
    ≡ cond b (option_map (with_appended scrambles n k (x ∷ xs)) o) o
rest_is scrambles n k x xs true None = refl
rest_is scrambles n k x xs true (Some round) =
    ap (with_these round)
    (map-map (changed_of n (λ vs. vs ++ outcomes (counts_in round.0 scrambles) (suc k) xs))
    (changed_of n (λ vs. vs ++ settled round.0 (scrambles k) x ∷ [])) round.1.entrants
    ∙ ap (λ (f : Entrant → Entrant). map f round.1.entrants) (fun_ext
    (one_then_rest n (settled round.0 (scrambles k) x)
    (outcomes (counts_in round.0 scrambles) (suc k) xs))))
rest_is scrambles n k x xs false o = refl

none_is : (scrambles : ℕ → Option (List Move)) (n k : ℕ) (b : Bool) (o : Option (Settings × Table))
    → o ≡ cond b (option_map (with_appended scrambles n k []) o) o
none_is scrambles n k true None = refl
none_is scrambles n k true (Some round) =
    ap (with_these round) (sym (unchanged n round.1.entrants))
none_is scrambles n k false o = refl

-- what the attempts of these outcomes make of each round
attempts_are : (cs : List Command) (id : RoundId) (n k : ℕ) (xs : List Entered) (e : Event) (r : ℕ)
    → round_of (cs ++ attempts_from id n k xs) e r ≡ cond (same_event e id.event && r == id.round)
    (option_map (with_appended (scramble_of cs id.event id.round) n k xs) (round_of cs e r))
    (round_of cs e r)
attempts_are cs id n k [] e r =
    ap (λ (ds : List Command). round_of ds e r) (append-nil cs)
    ∙ none_is (scramble_of cs id.event id.round) n k (same_event e id.event && r == id.round)
    (round_of cs e r)
attempts_are cs id n k (x ∷ xs) e r =
    rw (sym (append_assoc cs (c ∷ []) (attempts_from id n (suc k) xs)))
    (attempts_are later id n (suc k) xs e r
    ∙ ap (λ (s : ℕ → Option (List Move)). here s (round_of later e r))
    (fun_ext (λ j. scramble_kept id.event id.round j cs c refl refl refl))
    ∙ rw (round_attempt e id.event r id.round k n x cs)
    (rest_is (scramble_of cs id.event id.round) n k x xs (same_event e id.event && r == id.round)
    (round_of cs e r)))
  where
    c : Command
    c = Attempt (attempt_entry id k n x)

    later : List Command
    later = cs ++ c ∷ []

    here : (ℕ → Option (List Move)) → Option (Settings × Table) → Option (Settings × Table)
    here scrambles o =
        cond (same_event e id.event && r == id.round)
        (option_map (with_appended scrambles n (suc k) xs) o) o

-- over nothing a card's values are its outcomes
pub over_nothing : (counts : ℕ → Entered → Value) (k : ℕ) (xs : List Entered)
    → values_now counts k (map Some xs) [] ≡ outcomes counts k xs
over_nothing counts k [] = refl
over_nothing counts k (x ∷ xs) = rw (over_nothing counts (suc k) xs) refl

bare_same : (n : ℕ) (counts : ℕ → Entered → Value) (xs : List Entered) (es : List Entrant)
    → AllByRecursion (λ e. has_number n e ≡ true → e.values ≡ []) es
    → map (changed_of n (λ vs. vs ++ outcomes counts 1 xs)) es
    ≡ map (changed_of n (values_now counts 1 (map Some xs))) es
bare_same n counts xs [] h = refl
bare_same n counts xs (e ∷ es) h = rw (one (has_number n e) h.0, bare_same n counts xs es h.1) refl
  where
    one : (b : Bool) → (b ≡ true → e.values ≡ [])
        → cond b (record e { values = e.values ++ outcomes counts 1 xs }) e
        ≡ cond b (record e { values = values_now counts 1 (map Some xs) e.values }) e
    one true bare =
        ap (λ (vs : List Value). let y : Entrant = record e { values = vs } in y)
        (ap (λ (vs : List Value). vs ++ outcomes counts 1 xs) (bare refl)
        ∙ sym (over_nothing counts 1 xs)
        ∙ sym (ap (values_now counts 1 (map Some xs)) (bare refl)))
    one false bare = refl

-- of a round in which nothing counts of a number
bare_round : (scrambles : ℕ → Option (List Move)) (id : RoundId) (n : ℕ) (xs : List Entered)
    (o : Option (Settings × Table)) → StandsBare n o → option_map (with_appended scrambles n 1 xs) o
    ≡ option_map (with_outcomes scrambles (first_card id n xs)) o
bare_round scrambles id n xs None bare = refl
bare_round scrambles id n xs (Some round) bare =
    ap (with_these round) (bare_same n (counts_in round.0 scrambles) xs round.1.entrants
    (recursion_from_All (λ e. has_number n e ≡ true → e.values ≡ []) round.1.entrants bare))

pub card_is_attempts : CardIsAttempts
card_is_attempts cs id n xs e r bare =
    round_dealt (Card card) card (card_is card) e r cs
    ∙ step (same_event e id.event && r == id.round) refl
    ∙ sym (attempts_are cs id n 1 xs e r)
  where
    card : CardEntry
    card = first_card id n xs

    step : (b : Bool) → (same_event e id.event && r == id.round) ≡ b
        → cond b (option_map (with_outcomes (scrambles_of cs id) card) (round_of cs e r))
        (round_of cs e r) ≡ cond b
        (option_map (with_appended (scramble_of cs id.event id.round) n 1 xs) (round_of cs e r))
        (round_of cs e r)
    step true here =
        let event : e ≡ id.event = same_event-equal e id.event (grind arith) in
        let round : r ≡ id.round = eqb-true r id.round (grind arith) in
        let there : round_of cs id.event id.round ≡ round_of cs e r =
        sym (ap (λ (f : Event). round_of cs f r) event
        ∙ ap (λ (s : ℕ). round_of cs id.event s) round) in
        sym (bare_round (scramble_of cs id.event id.round) id n xs (round_of cs e r)
        (subst (StandsBare n) there bare))
    step false here = refl
