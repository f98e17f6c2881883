-- Who leaves a round, who takes the place, and who waits then.
use Rattle.std.proofs.Common.{◌≡◌, ℕ, zero, suc, ◌+◌, ◌-◌, ◌≤◌, Bool, true, false, not, ◌&&◌, ◌==◌}
use Rattle.std.proofs.Common.{cond, List, [], ◌∷◌, ◌++◌, map, filter, drop, count_by, slice_get}
use Rattle.std.proofs.Common.{Option, Some, None, option_map, option_to_list, refl, ap, ◌∙◌, sym}
use Rattle.std.proofs.Common.{append-nil, arith, eqb-true}
use Rattle.std.specs.Option.{option_or, option_and_then}
use Rattle.std.proofs.lemmas.{Bool.Decides.nat_tests, List.Sums.sum_by-cons}
use Rattle.formats.specs.{declared.events.Event.Event, Events.same_event}
use Rattle.formats.proofs.SameEvent.{same_event-equal}
use Rattle.texts.specs.declared.command.{Command.Command, Settings.Settings}
use Rattle.texts.specs.declared.command.Command.TheVariants.{Open, Withdraw, Cancel}
use Rattle.texts.specs.Fields.{round_id}
use Rattle.rounds.specs.Tables.{Entrant, Table, has_number}
use Rattle.commands.specs.model.Kept.{newcomer, with_exit, first_of_all, waiting_now, waiting_of}
use Rattle.commands.specs.Accepted.{Opened, opened, plus_command, is_withdrawal, is_ended}
use Rattle.commands.specs.Accepted.{settings_now, round_at, who_wait, round_in, round_of}
use Rattle.commands.proofs.{Lookups.none_either, OneMore.map_same, OneMore.filter_all}
use Rattle.commands.proofs.OneMore.{keeps_open, opened_kept, with_parts, asked_open, asked_cancel}
use Rattle.commands.proofs.OneMore.{before_opening, entrants_at, entrants_with, round_with}

-- Lists

-- without this many and one more
drop_later : (k : ℕ) (ns : List ℕ) → drop (suc k) ns ≡ drop 1 (drop k ns)
drop_later zero ns = refl
drop_later (suc k) [] = refl
drop_later (suc k) (n ∷ ns) = drop_later k ns

-- the first after this many
pub first_later : (k : ℕ) (ns : List ℕ) → first_of_all (drop k ns) ≡ slice_get ns k
first_later zero ns = refl
first_later (suc k) [] = refl
first_later (suc k) (n ∷ ns) = first_later k ns

count_push : (p : Command → Bool) (cs : List Command) (c : Command)
    → count_by p (cs ++ c ∷ []) ≡ cond (p c) (suc (count_by p cs)) (count_by p cs)
count_push p [] c = sum_by-cons (λ x. cond (p x) 1 0) c [] ∙ step (p c)
  where
    step : (b : Bool) → cond b 1 0 + count_by p [] ≡ cond b (suc (count_by p [])) (count_by p [])
    step true = omega arith
    step false = omega arith
count_push p (d ∷ ds) c =
    sum_by-cons (λ x. cond (p x) 1 0) d (ds ++ c ∷ [])
    ∙ ap (λ m. cond (p d) 1 0 + m) (count_push p ds c)
    ∙ step (p c) (cond (p d) 1 0)
    ∙ ap (λ m. cond (p c) (suc m) m) (sym (sum_by-cons (λ x. cond (p x) 1 0) d ds))
  where
    step : (b : Bool) (k : ℕ) → k + cond b (suc (count_by p ds)) (count_by p ds)
        ≡ cond b (suc (k + count_by p ds)) (k + count_by p ds)
    step true k = omega arith
    step false k = refl

-- Who waits

-- who waits after one more command
abbrev pub waiting_with : Event → ℕ → Command → List ℕ → List ℕ
waiting_with e r c ns = cond (is_withdrawal e r c) (drop 1 ns) ns

waiting_plus : (e : Event) (r : ℕ) (before : Option (Settings × Table)) (o : Opened) (c : Command)
    → waiting_now e r before (plus_command c o) ≡ waiting_with e r c (waiting_now e r before o)
waiting_plus e r before o c =
    ap (λ k. drop k (who_wait before)) (count_push (is_withdrawal e r) o.since c)
    ∙ step (is_withdrawal e r c)
  where
    gone : ℕ
    gone = count_by (is_withdrawal e r) o.since

    step : (b : Bool) → drop (cond b (suc gone) gone) (who_wait before)
        ≡ cond b (drop 1 (drop gone (who_wait before))) (drop gone (who_wait before))
    step true = drop_later gone (who_wait before)
    step false = refl

-- a command that opens no round and takes none back
pub waiting_more : (e : Event) (r : ℕ) (cs : List Command) (c : Command) → keeps_open e r c ≡ true
    → waiting_of (cs ++ c ∷ []) e r ≡ option_map (waiting_with e r c) (waiting_of cs e r)
waiting_more e zero cs c keeps = refl
waiting_more e (suc r) cs c keeps =
    ap (option_map at) (opened_kept e (suc r) cs c keeps) ∙ step (opened e (suc r) [] cs)
  where
    at : Opened → List ℕ
    at o = waiting_now e (suc r) (round_in e r o.before) o

    step : (x : Option Opened) → option_map at (option_map (plus_command c) x)
        ≡ option_map (waiting_with e (suc r) c) (option_map at x)
    step None = refl
    step (Some o) = ap Some (waiting_plus e (suc r) (round_in e r o.before) o c)

-- such a command, by which nobody withdraws
pub waiting_same : (e : Event) (r : ℕ) (cs : List Command) (c : Command) → keeps_open e r c ≡ true
    → is_withdrawal e r c ≡ false → waiting_of (cs ++ c ∷ []) e r ≡ waiting_of cs e r
waiting_same e r cs c keeps stay =
    waiting_more e r cs c keeps
    ∙ ap (λ (b : Bool). option_map (λ (ns : List ℕ). cond b (drop 1 ns) ns) (waiting_of cs e r))
    stay
    ∙ step (waiting_of cs e r)
  where
    step : (x : Option (List ℕ)) → option_map (λ (ns : List ℕ). ns) x ≡ x
    step None = refl
    step (Some ns) = refl

-- who withdraws lets the first of those who wait in
pub waiting_exit : (e f : Event) (r s n : ℕ) (cs : List Command)
    → waiting_of (cs ++ Withdraw (round_id f s) n ∷ []) e r
    ≡ cond (same_event e f && r == s) (option_map (drop 1) (waiting_of cs e r)) (waiting_of cs e r)
waiting_exit e f r s n cs =
    waiting_more e r cs (Withdraw (round_id f s) n) refl
    ∙ step (same_event e f && r == s) (waiting_of cs e r)
  where
    step : (b : Bool) (x : Option (List ℕ)) → option_map (λ (ns : List ℕ). cond b (drop 1 ns) ns) x
        ≡ cond b (option_map (drop 1) x) x
    step true x = refl
    step false None = refl
    step false (Some ns) = refl

-- those who wait once a round is opened
pub waiting_open : (e f : Event) (r s : ℕ) (settings : Settings) (cs : List Command) → 1 ≤ s
    → waiting_of (cs ++ Open (round_id f s) settings ∷ []) e r ≡ option_or (waiting_of cs e r)
    (cond (same_event e f && r == s) (Some (who_wait (round_of cs f (s - 1)))) None)
waiting_open e f zero s settings cs low =
    let other : (same_event e f && 0 == s) ≡ false = grind (arith, nat_tests) in
    rw other refl
waiting_open e f (suc r) s settings cs low =
    asked_open (λ o. waiting_now e (suc r) (round_in e r o.before) o) e f (suc r) s settings cs
    (who_wait (round_of cs f (s - 1)))
    (λ o. waiting_plus e (suc r) (round_in e r o.before) o (Open (round_id f s) settings))
    (before_opening (λ (x : Event). who_wait) e f r s cs)

-- nobody waits for a place in a round that is taken back
pub waiting_cancel : (e f : Event) (r s : ℕ) (cs : List Command)
    → waiting_of (cs ++ Cancel (round_id f s) ∷ []) e r
    ≡ cond (same_event e f && r == s) None (waiting_of cs e r)
waiting_cancel e f zero s cs = none_either (same_event e f && 0 == s) None refl
waiting_cancel e f (suc r) s cs =
    asked_cancel (option_map (λ (o : Opened). waiting_now e (suc r) (round_in e r o.before) o)) e
    f (suc r) s cs (λ o.
    ap Some (waiting_plus e (suc r) (round_in e r o.before) o (Cancel (round_id f s))))

-- Who leaves

-- a round that a number has left
exit_at : (e f : Event) (r s n : ℕ) (before : Option (Settings × Table)) (o : Opened)
    → round_at e r before (plus_command (Withdraw (round_id f s) n) o)
    ≡ cond (same_event e f && r == s)
    (with_exit n (slice_get (who_wait before) (count_by (is_withdrawal e r) o.since))
    (round_at e r before o)) (round_at e r before o)
exit_at e f r s n before o =
    round_with e r before c o (entrants_with e r before o c) (λ settings. refl) refl refl
    ∙ step (same_event e f && r == s)
    (slice_get (who_wait before) (count_by (is_withdrawal e r) o.since))
  where
    c : Command
    c = Withdraw (round_id f s) n

    es : List Entrant
    es = entrants_at e r before o

    left : (b : Bool) → List Entrant
    left b =
        map (λ (x : Entrant). record { number = x.number; values = x.values })
        (filter (λ (x : Entrant). not (b && n == x.number)) es)

    at : List Entrant → Settings × Table
    at xs = with_parts e (settings_now e r o) (is_ended e r o.since) xs

    step : (b : Bool) (next : Option ℕ)
        → at (left b ++ option_to_list (option_map newcomer (cond b next None)))
        ≡ cond b (with_exit n next (round_at e r before o)) (round_at e r before o)
    step true None =
        ap at
        (append-nil _ ∙ map_same _ (λ x. refl) (filter (λ (x : Entrant). not (has_number n x)) es))
    step true (Some m) =
        ap (λ (xs : List Entrant). at (xs ++ newcomer m ∷ []))
        (map_same _ (λ x. refl) (filter (λ (x : Entrant). not (has_number n x)) es))
    step false next =
        ap at (append-nil _ ∙ map_same _ (λ x. refl) (filter (λ (x : Entrant). true) es)
        ∙ filter_all (λ (x : Entrant). true) (λ x. refl) es)

-- who withdraws leaves one round, and the first of those who wait takes the place
pub round_exit : (e f : Event) (r s n : ℕ) (cs : List Command)
    → round_of (cs ++ Withdraw (round_id f s) n ∷ []) e r ≡ cond (same_event e f && r == s)
    (option_map (with_exit n (option_and_then first_of_all (waiting_of cs f s))) (round_of cs e r))
    (round_of cs e r)
unfolding round_in
round_exit e f zero s n cs = none (same_event e f && 0 == s)
  where
    none : (t : Bool) → None ≡ cond t
        (option_map (with_exit n (option_and_then first_of_all (waiting_of cs f s))) None) None
    none true = refl
    none false = refl
round_exit e f (suc r) s n cs =
    ap (option_map at) (opened_kept e (suc r) cs (Withdraw (round_id f s) n) refl)
    ∙ step (opened e (suc r) [] cs) refl
  where
    at : Opened → Settings × Table
    at o = round_at e (suc r) (round_in e r o.before) o

    next : Option ℕ
    next = option_and_then first_of_all (waiting_of cs f s)

    here : (o : Opened) → opened e (suc r) [] cs ≡ Some o → (b : Bool)
        → (same_event e f && suc r == s) ≡ b → Some (cond b (with_exit n
        (slice_get (who_wait (round_in e r o.before)) (count_by (is_withdrawal e (suc r)) o.since))
        (at o)) (at o)) ≡ cond b (option_map (with_exit n next) (Some (at o))) (Some (at o))
    here o is true h =
        let event : e ≡ f = same_event-equal e f (grind arith) in
        let round : suc r ≡ s = eqb-true (suc r) s (grind arith) in
        let waits : waiting_of cs f s ≡ Some (waiting_now e (suc r) (round_in e r o.before) o) =
        sym (ap (λ (x : Event). waiting_of cs x (suc r)) event
        ∙ ap (λ (k : ℕ). waiting_of cs f k) round)
        ∙ ap (option_map (λ (x : Opened). waiting_now e (suc r) (round_in e r x.before) x)) is in
        ap (λ (x : Option ℕ). Some (with_exit n x (at o))) (sym
        (ap (option_and_then first_of_all) waits
        ∙ first_later (count_by (is_withdrawal e (suc r)) o.since)
        (who_wait (round_in e r o.before))))
    here o is false h = refl

    step : (x : Option Opened) → opened e (suc r) [] cs ≡ x
        → option_map at (option_map (plus_command (Withdraw (round_id f s) n)) x)
        ≡ cond (same_event e f && suc r == s)
        (option_map (with_exit n next) (option_map at x)) (option_map at x)
    step None is = none (same_event e f && suc r == s)
      where
        none : (t : Bool) → None ≡ cond t (option_map (with_exit n next) None) None
        none true = refl
        none false = refl
    step (Some o) is =
        ap Some (exit_at e f (suc r) s n (round_in e r o.before) o)
        ∙ here o is (same_event e f && suc r == s) refl
