-- Entering numbers that are each there once: none is in the table yet.
use Rattle.std.proofs.Common.{◌≡◌, ℕ, zero, suc, ◌<◌, ◌≤◌, ◌==◌, Bool, false, ◌||◌, nat_le, List}
use Rattle.std.proofs.Common.{[], ◌∷◌, map, length, take, get_or, Option, None, refl, sym, ap, ◌∙◌}
use Rattle.std.proofs.Common.{arith, add-one}
use Rattle.std.specs.{Prelude.nat_eq, List.list_any, List.IsDistinct}
use Rattle.std.proofs.lemmas.{Bool.Decides.nat_tests, Map.Keys.apart_from_distinct}
use Rattle.std.proofs.lemmas.List.{length-map, length-take-le, Folds.list_any_more}
use Rattle.attempts.specs.declared.Unit.{Unit as Measure}
use Rattle.formats.specs.declared.events.Format.{Format}
use Rattle.rounds.specs.Tables.{empty_table, has_number, enter_fault}
use Rattle.commands.specs.model.Kept.{newcomer, with_newcomers}

pub is_among : (n : ℕ) (ms : List ℕ)
    → list_any (has_number n) (map newcomer ms) ≡ list_any (λ m. n == m) ms
is_among n [] = refl
is_among n (m ∷ ms) = ap (λ (b : Bool). (n == m) || b) (is_among n ms)

-- a number is not among those before it
none_before : (ns : List ℕ) (n i d : ℕ) → IsDistinct nat_eq ns → i < length ns → n ≡ get_or ns i d
    → (j : ℕ) → j ≤ i → list_any (λ m. n == m) (take j ns) ≡ false
none_before ns n i d once within is zero below = refl
none_before ns n i d once within is (suc j) below =
    let before : list_any (λ m. n == m) (take j ns) ≡ false =
    none_before ns n i d once within is j (omega arith) in
    let apart : nat_eq (get_or ns j d) (get_or ns i d) ≡ false =
    apart_from_distinct nat_eq ns j i d once (omega arith) within in
    let other : (n == get_or ns j d) ≡ false = grind (arith, nat_tests) in
    ap (λ (k : ℕ). list_any (λ m. n == m) (take k ns)) (sym (add-one j))
    ∙ list_any_more (λ m. n == m) ns j d (omega arith)
    ∙ rw (before, other) refl

-- nothing keeps the next of the numbers out
pub may_enter : (format : Format) (unit : Measure) (cutoff : Option (ℕ × ℕ)) (ns : List ℕ)
    (n i d : ℕ) → IsDistinct nat_eq ns → length ns ≤ 999 → i < length ns → n ≡ get_or ns i d
    → enter_fault (with_newcomers (empty_table format unit cutoff) (take i ns)) n ≡ None
may_enter format unit cutoff ns n i d once few within is =
    let absent : list_any (has_number n) (map newcomer (take i ns)) ≡ false = is_among n (take i ns)
    ∙ none_before ns n i d once within is i (omega arith) in
    let long : length (map newcomer (take i ns)) ≡ i = length-map (take i ns) newcomer
    ∙ length-take-le i ns (omega arith) in
    let room : nat_le 999 (length (map newcomer (take i ns))) ≡ false = grind (arith, nat_tests) in
    rw (absent, room) refl
