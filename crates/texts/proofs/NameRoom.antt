-- How much room a name takes where each double quote of it is doubled.
use Rattle.std.proofs.Common.{◌≡◌, ◌≢◌, ℕ, zero, suc, ◌+◌, ◌<◌, ◌≤◌, Bool, true, false, ◌||◌, ◌==◌}
use Rattle.std.proofs.Common.{not, IsTrue, List, [], ◌∷◌, length, get_or, refl, sym, ◌∙◌, subst}
use Rattle.std.{proofs.Common.arith, specs.Char.encode_utf8, proofs.lemmas.Bool.Decides.nat_tests}
use Rattle.std.specs.{Prelude.count_by, List.list_all, Str.chars, Str.is_utf8, Str.encode_utf8_all}
use Rattle.std.proofs.lemmas.Bool.{false≢true}
use Rattle.std.proofs.lemmas.List.{Folds.list_all-append, Sums.count_by-le-length, append-nil}
use Rattle.std.proofs.lemmas.Str.{IsUtf8-from_is_utf8, encodes-chars, inside_one}
use Rattle.ucd_category.specs.GeneralCategory.{general_category}
use Rattle.texts.specs.Names.{has_single_spaces, is_name_byte, is_early_name, is_seen}
use Rattle.texts.specs.Names.{is_name_character, is_clear_name, is_name_in, is_name}
use Rattle.texts.proofs.Cuts.{and-true, lacks}
use Rattle.texts.proofs.FieldSpellings.{early_name_short, new_name_short}

-- a byte that is nowhere in a text is none of it
lacks_each : (by : ℕ) (xs : List ℕ) → ((k : ℕ) → k < length xs → get_or xs k 0 ≢ by)
    → lacks by xs ≡ true
lacks_each by [] each = refl
lacks_each by (x ∷ xs) each =
    let first : not (x == by) ≡ true = step (x == by) refl in
    rw (first, lacks_each by xs (λ k less. each (suc k) (omega arith))) refl
  where
    step : (b : Bool) → (x == by) ≡ b → not b ≡ true
    step false is = refl
    step true is = absurd (each zero (omega arith) (grind (arith, nat_tests)))

-- a byte of ASCII is in the bytes of characters only where it is one of them
one_lacks : (by c : ℕ) → by < 128 → not (c == by) ≡ true → lacks by (encode_utf8 c) ≡ true
one_lacks by c small other = lacks_each by (encode_utf8 c) none
  where
    none : (k : ℕ) → k < length (encode_utf8 c) → get_or (encode_utf8 c) k 0 ≢ by
    none k less is =
        let same : c ≡ get_or (encode_utf8 c) k 0 =
        inside_one c [] (encode_utf8 c) k (sym (append-nil (encode_utf8 c))) less
        (omega (arith, is, small)) in
        absurd (false≢true (grind (arith, nat_tests, same, is, other)))

text_lacks : (by : ℕ) (cs : List ℕ) → by < 128 → list_all (λ c. not (c == by)) cs ≡ true
    → lacks by (encode_utf8_all cs) ≡ true
text_lacks by [] small each = refl
text_lacks by (c ∷ cs) small each =
    let both = and-true (not (c == by)) (list_all (λ x. not (x == by)) cs) each in
    list_all-append (λ b. not (b == by)) (encode_utf8 c) (encode_utf8_all cs)
    ∙ rw (one_lacks by c small both.0, text_lacks by cs small both.1) refl

-- no character of a name of edition 3 is a double quote
no_quotes : (cs : List ℕ) → list_all is_name_character cs ≡ true
    → list_all (λ c. not (c == 34)) cs ≡ true
no_quotes [] each = refl
no_quotes (c ∷ cs) each =
    let both = and-true (is_name_character c) (list_all is_name_character cs) each in
    let first = and-true (not (c == 34)) (is_seen (general_category c)) both.0 in
    rw (first.0, no_quotes cs both.1) refl

pub new_name_lacks_quotes : (bytes : List ℕ) → IsTrue (is_name_in 3 bytes) → lacks 34 bytes ≡ true
unfolding is_clear_name
new_name_lacks_quotes bytes fits =
    let spaces = and-true _ (has_single_spaces bytes) fits in
    let plain = and-true _ (list_all is_name_byte bytes) spaces.0 in
    let seen = and-true _ (list_all is_name_character (chars bytes)) plain.0 in
    let text = and-true _ (is_utf8 bytes) seen.0 in
    subst (λ (x : List ℕ). lacks 34 x ≡ true)
    (encodes-chars bytes (IsUtf8-from_is_utf8 bytes text.1))
    (text_lacks 34 (chars bytes) (omega arith) (no_quotes (chars bytes) seen.1))

none_counted : (by : ℕ) (xs : List ℕ) → lacks by xs ≡ true → count_by (λ b. b == by) xs ≡ 0
none_counted by [] h = refl
none_counted by (x ∷ xs) h =
    let both = and-true (not (x == by)) (lacks by xs) h in
    let first : (x == by) ≡ false = step (x == by) both.0 in
    rw (first, none_counted by xs both.1) refl
  where
    step : (b : Bool) → not b ≡ true → b ≡ false
    step false h = refl
    step true h = absurd (false≢true h)

pub new_name_room : (name : List ℕ) → IsTrue (is_name_in 3 name)
    → length name + count_by (λ b. b == 34) name ≤ 160
new_name_room name fits =
    let none = none_counted 34 name (new_name_lacks_quotes name fits) in
    let short = new_name_short name fits in
    omega (arith, none, short)

pub name_room : (name : List ℕ) → IsTrue (is_name name)
    → length name + count_by (λ b. b == 34) name ≤ 160
name_room name fits = step (is_early_name name) refl fits
  where
    step : (b : Bool) → is_early_name name ≡ b → (b || is_clear_name name) ≡ true
        → length name + count_by (λ b. b == 34) name ≤ 160
    step true is h =
        let short = early_name_short name is in
        let few = count_by-le-length (λ (b : ℕ). b == 34) name in
        omega (arith, short, few)
    step false is h = new_name_room name h
