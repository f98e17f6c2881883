-- A text is cut at the first of a byte.
use Rattle.std.proofs.Common.{◌≡◌, ℕ, Bool, true, false, ◌&&◌, ◌==◌, not, nat_lt, List, [], ◌∷◌}
use Rattle.std.proofs.Common.{◌++◌, length, take, get_or, position, Option, Some, None, refl, sym}
use Rattle.std.proofs.Common.{ap, ◌∙◌, arith, rules, take-append-drop, drop-cons, add-one}
use Rattle.std.specs.List.{list_all, prefix_len, position_or_len}
use Rattle.std.proofs.Math.Seq.{take-append_seam, drop-append-add}
use Rattle.std.proofs.lemmas.List.{Folds.prefix_len-append, Quantifiers.position-Some}
use Rattle.std.proofs.lemmas.{List.length-append, List.append-nil, Bool.Decides.nat_tests}
use Rattle.std.proofs.lemmas.Bool.{false≢true}
use Rattle.texts.specs.Fields.{cut_at, cut}

-- what is left, with the byte in front
abbrev pub behind : ℕ → Option (List ℕ) → List ℕ
behind by None = []
behind by (Some bytes) = by ∷ bytes

-- a text is what is before the byte, and what is left after that
pub cut_spelled : (by : ℕ) (bytes : List ℕ) → bytes ≡ (cut by bytes).0 ++ behind by (cut by bytes).1
unfolding cut
cut_spelled by bytes = step (position (λ b. b == by) bytes) refl
  where
    step : (o : Option ℕ) → position (λ b. b == by) bytes ≡ o
        → bytes ≡ (cut_at bytes o).0 ++ behind by (cut_at bytes o).1
    step None is = search rules
    step (Some i) is =
        let at = position-Some (λ b. b == by) bytes i 0 is in
        let byte : get_or bytes i 0 ≡ by = (search rules) in
        sym (take-append-drop i bytes) ∙ ap (λ x. take i bytes ++ x) (drop-cons bytes i 0 at.0)
        ∙ rw (byte, add-one) refl

-- the byte is not in a text
abbrev pub lacks : ℕ → List ℕ → Bool
lacks by bytes = list_all (λ b. not (b == by)) bytes

pub and-true : (a b : Bool) → (a && b) ≡ true → (a ≡ true) × (b ≡ true)
and-true true b h = (refl, h)
and-true false b h = absurd (false≢true h)

prefix_len-all : (p : ℕ → Bool) (bytes : List ℕ) → list_all p bytes ≡ true
    → prefix_len p bytes ≡ length bytes
prefix_len-all p [] h = refl
prefix_len-all p (b ∷ bytes) h =
    let both = and-true (p b) (list_all p bytes) h in
    let rest = prefix_len-all p bytes both.1 in
    rw (both.0, rest) (omega arith)

pub eqb-same : (n : ℕ) → (n == n) ≡ true
eqb-same n = grind (arith, nat_tests)

-- a byte that is not in front is the first after it
pub cut-behind : (by : ℕ) (bytes : List ℕ) (left : Option (List ℕ)) → lacks by bytes ≡ true
    → cut by (bytes ++ behind by left) ≡ (bytes, left)
unfolding cut
cut-behind by bytes None h =
    let front : position_or_len (λ b. b == by) bytes ≡ length bytes =
    prefix_len-all (λ b. not (b == by)) bytes h in
    let none : nat_lt (length bytes) (length bytes) ≡ false = grind (arith, nat_tests) in
    rw append-nil (rw front (rw none refl))
cut-behind by bytes (Some left) h =
    let front : prefix_len (λ b. not (b == by)) bytes ≡ length bytes =
    prefix_len-all (λ b. not (b == by)) bytes h in
    let place : position_or_len (λ b. b == by) (bytes ++ by ∷ left) ≡ length bytes =
    prefix_len-append (λ b. not (b == by)) bytes (by ∷ left)
    ∙ rw (front, eqb-same, eqb-same) (omega arith) in
    let total = length-append bytes (by ∷ left) in
    let some : nat_lt (length bytes) (length (bytes ++ by ∷ left)) ≡ true =
    grind (arith, nat_tests) in
    rw place (rw some (rw (take-append_seam, drop-append-add) refl))
