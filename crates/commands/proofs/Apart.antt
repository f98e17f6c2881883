-- Those who wait for a place in a round are not in it, whatever changes it.
use Rattle.std.proofs.Common.{◌≡◌, ℕ, ◌==◌, ◌||◌, ◌&&◌, not, Bool, true, false, cond, List, [], ◌∷◌}
use Rattle.std.proofs.Common.{map, filter, drop, Option, Some, None, option_map, Result, Ok, Err}
use Rattle.std.proofs.Common.{IfOk, refl, sym, ap, ◌∙◌, subst, arith, eqb-true}
use Rattle.std.specs.{Prelude.nat_eq, Option.option_or}
use Rattle.std.specs.List.{list_any, IsDistinct, AllByRecursion}
use Rattle.std.proofs.lemmas.Bool.{false≢true}
use Rattle.std.proofs.lemmas.{Bool.Decides.nat_tests, List.Folds.list_any-append}
use Rattle.std.proofs.lemmas.List.Elements.{All-from_recursion, recursion_from_All, All-nil}
use Rattle.attempts.specs.declared.Value.{Value}
use Rattle.formats.specs.declared.{advance.Advance.Advance, events.Event.Event}
use Rattle.texts.specs.declared.command.Settings.{Settings}
use Rattle.rounds.specs.Tables.{Entrant, Table, changed_of, has_number, is_entered, with_entrant}
use Rattle.rounds.specs.Tables.{without_entrant, withdrawn, entrant, standings}
use Rattle.advancement.specs.Advancing.{has_result, advances, holds_of, goes_on, advancing}
use Rattle.advancement.specs.Waiting.{waits, stays_out, waiting}
use Rattle.commands.{specs.declared.kept_rounds.KeptRound.KeptRound, proofs.Newcomers.is_among}
use Rattle.commands.specs.model.Kept.{kept_value, waiting_in, AreOthers, AreApart, IsApart}
use Rattle.commands.specs.model.Kept.{first_of_all, newcomer, table_opened}

-- nobody waits
pub nobody_waits : (t : Table) → AreApart t []
unfolding IsDistinct
nobody_waits t = record { once = tt; others = All-nil (λ n. is_entered t n ≡ false) }

-- the same are entered
pub apart_same : (t u : Table) (ns : List ℕ) → ((n : ℕ) → is_entered u n ≡ is_entered t n)
    → AreApart t ns → AreApart u ns
apart_same t u ns same a =
    record {
      once = a.once;
      others =
          All-from_recursion (λ n. is_entered u n ≡ false) ns
          (go ns (recursion_from_All (λ n. is_entered t n ≡ false) ns a.others));
    }
  where
    go : (ms : List ℕ) → AllByRecursion (λ n. is_entered t n ≡ false) ms
        → AllByRecursion (λ n. is_entered u n ≡ false) ms
    go [] h = tt
    go (m ∷ ms) h = (same m ∙ h.0, go ms h.1)

-- a change of each entrant that leaves the numbers
any_map : (n : ℕ) (f : Entrant → Entrant) → ((x : Entrant) → has_number n (f x) ≡ has_number n x)
    → (es : List Entrant) → list_any (has_number n) (map f es) ≡ list_any (has_number n) es
any_map n f h [] = refl
any_map n f h (e ∷ es) = rw (h e, any_map n f h es) refl

values_or : (m : ℕ) (e : Entrant) (vs : List Value) (b : Bool)
    → has_number m (cond b (record e { values = vs }) e) ≡ has_number m e
values_or m e vs true = refl
values_or m e vs false = refl

-- the values of one entrant are changed
pub changed_stays : (m n : ℕ) (change : List Value → List Value) (es : List Entrant)
    → list_any (has_number m) (map (changed_of n change) es) ≡ list_any (has_number m) es
changed_stays m n change es =
    any_map m (changed_of n change) (λ e. values_or m e (change e.values) (has_number n e)) es

-- Once somebody has left

none_of_fewer : (n : ℕ) (q : Entrant → Bool) (es : List Entrant)
    → list_any (has_number n) es ≡ false → list_any (has_number n) (filter q es) ≡ false
none_of_fewer n q [] h = refl
none_of_fewer n q (e ∷ es) h = step (q e) (has_number n e) refl h (none_of_fewer n q es)
  where
    step : (b t : Bool) → has_number n e ≡ t → (t || list_any (has_number n) es) ≡ false
        → (list_any (has_number n) es ≡ false → list_any (has_number n) (filter q es) ≡ false)
        → list_any (has_number n) (cond b (e ∷ filter q es) (filter q es)) ≡ false
    step b true is h later = absurd (false≢true (sym h))
    step true false is h later =
        ap (λ (x : Bool). x || list_any (has_number n) (filter q es)) is ∙ later h
    step false false is h later = later h

-- who waits behind the first is not in the round once the first is
behind : (t : Table) (n m : ℕ) (ns : List ℕ)
    → AllByRecursion (λ k. is_entered t k ≡ false) ns → AllByRecursion (λ k. nat_eq m k ≡ false) ns
    → AllByRecursion (λ k. is_entered (with_entrant (without_entrant t n) m) k ≡ false) ns
behind t n m [] out other = tt
behind t n m (k ∷ ns) out other =
    let apart : (k == m) ≡ false = flips k m other.0 in (
      list_any-append (has_number k) (without_entrant t n).entrants (newcomer m ∷ [])
          ∙ ap (λ (b : Bool). b || ((k == m) || false))
          (none_of_fewer k (λ e. not (has_number n e)) t.entrants out.0)
          ∙ ap (λ (b : Bool). b || false) apart,
      behind t n m ns out.1 other.1,
    )
  where
    flips : (k m : ℕ) → nat_eq m k ≡ false → (k == m) ≡ false
    flips k m h = grind (arith, nat_tests)

pub apart_exit : (t : Table) (n : ℕ) (ns : List ℕ) → AreApart t ns
    → AreApart (withdrawn t n (first_of_all ns)) (drop 1 ns)
unfolding IsDistinct
apart_exit t n [] a = nobody_waits (without_entrant t n)
apart_exit t n (m ∷ ns) a =
    let once = a.once in
    let others = recursion_from_All (λ k. is_entered t k ≡ false) (m ∷ ns) a.others in
    record {
      once = once.1;
      others =
          All-from_recursion (λ k. is_entered (with_entrant (without_entrant t n) m) k ≡ false) ns
          (behind t n m ns others.1 once.0);
    }

-- Once a round is opened

pub apart_opened : (e : Event) (settings : Settings) (first ns : List ℕ) → IsDistinct nat_eq ns
    → AreOthers first ns → AreApart (table_opened e settings first) ns
apart_opened e settings first ns once others =
    record {
      once = once;
      others =
          All-from_recursion (λ n. is_entered (table_opened e settings first) n ≡ false) ns (go ns
          (recursion_from_All (λ n. list_any (λ other. n == other) first ≡ false) ns others));
    }
  where
    go : (ms : List ℕ) → AllByRecursion (λ n. list_any (λ other. n == other) first ≡ false) ms
        → AllByRecursion (λ n. is_entered (table_opened e settings first) n ≡ false) ms
    go [] h = tt
    go (m ∷ ms) h = (is_among m first ∙ h.0, go ms h.1)

-- a round that is added, or one that was there
pub apart_added : (o : Option KeptRound) (b : Bool) (round : Settings × Table) (waits : List ℕ)
    → IsApart (option_map kept_value o) (option_map waiting_in o) → AreApart round.1 waits
    → IsApart (option_or (option_map kept_value o) (cond b (Some round) None))
    (option_or (option_map waiting_in o) (cond b (Some waits) None))
apart_added (Some x) b round waits old new = old
apart_added None true round waits old new = new
apart_added None false round waits old new = tt

-- a round that is changed, or not
pub apart_changed : (b : Bool) (change : Settings × Table → Settings × Table)
    (round : Option (Settings × Table)) (waiting : Option (List ℕ)) → IsApart round waiting
    → ((x : Settings × Table) (ns : List ℕ) → b ≡ true → waiting ≡ Some ns → AreApart x.1 ns
    → AreApart (change x).1 ns) → IsApart (cond b (option_map change round) round) waiting
apart_changed true change None waiting old keeps = tt
apart_changed true change (Some x) None old keeps = tt
apart_changed true change (Some x) (Some ns) old keeps = keeps x ns refl refl old
apart_changed false change round waiting old keeps = old

-- Who waits did not advance

none_kept : (n : ℕ) (p : ℕ → Bool) → p n ≡ false → (ms : List ℕ)
    → list_any (λ m. n == m) (filter p ms) ≡ false
none_kept n p out [] = refl
none_kept n p out (m ∷ ms) = step (p m) refl (none_kept n p out ms)
  where
    step : (b : Bool) → p m ≡ b → list_any (λ k. n == k) (filter p ms) ≡ false
        → list_any (λ k. n == k) (cond b (m ∷ filter p ms) (filter p ms)) ≡ false
    step false is rest = rest
    step true is rest = by (n == m) refl
      where
        by : (t : Bool) → (n == m) ≡ t → ((n == m) || list_any (λ k. n == k) (filter p ms)) ≡ false
        by true same =
            absurd (false≢true (sym out ∙ ap p (eqb-true n m same) ∙ is))
        by false other = ap (λ (t : Bool). t || list_any (λ k. n == k) (filter p ms)) other ∙ rest

-- who waits is an entrant who does not advance
stays_behind : (t : Table) (advance : Advance) (n : ℕ) → stays_out t advance n ≡ true
    → goes_on t advance n ≡ false
stays_behind t advance n = step (entrant t n)
  where
    both : (a b : Bool) → (a && not b) ≡ true → b ≡ false
    both true false h = refl
    both true true h = absurd (false≢true h)
    both false b h = absurd (false≢true h)

    step : (o : Option Entrant) → holds_of (waits t advance) o ≡ true
        → holds_of (advances t advance) o ≡ false
    step None h = refl
    step (Some e) h = both (has_result e) (advances t advance e) h

pub others_wait : (t : Table) (advance : Advance) (ns : List ℕ) → ns ≡ waiting t advance
    → AreOthers (advancing t advance) ns
others_wait t advance ns is =
    subst (AreOthers (advancing t advance)) (sym is) (All-from_recursion
    (λ n. list_any (λ other. n == other) (advancing t advance) ≡ false) (waiting t advance)
    (go (standings t)))
  where
    go : (ms : List ℕ)
        → AllByRecursion (λ n. list_any (λ other. n == other) (advancing t advance) ≡ false)
        (filter (stays_out t advance) ms)
    go [] = tt
    go (m ∷ ms) = step (stays_out t advance m) refl (go ms)
      where
        step : (b : Bool) → stays_out t advance m ≡ b
            → AllByRecursion (λ n. list_any (λ other. n == other) (advancing t advance) ≡ false)
            (filter (stays_out t advance) ms)
            → AllByRecursion (λ n. list_any (λ other. n == other) (advancing t advance) ≡ false)
            (cond b (m ∷ filter (stays_out t advance) ms) (filter (stays_out t advance) ms))
        step true is rest = (
          none_kept m (goes_on t advance) (stays_behind t advance m is) (standings t),
          rest,
        )
        step false is rest = rest

-- what holds of a list holds of the one that is answered
pub holds_at : {T E : Type 0} {P Q : T → Type 0} (r : Result T E) → IfOk r P → ((x : T) → P x → Q x)
    → IfOk r Q
holds_at (Ok x) h f = f x h
holds_at (Err e) h f = tt
