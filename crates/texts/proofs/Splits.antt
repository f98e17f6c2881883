-- Values with one byte between are read from their spellings.
use Rattle.std.proofs.Common.{◌≡◌, ℕ, ◌+◌, ◌<◌, ◌≤◌, Bool, true, false, not, ◌&&◌, ◌==◌, cond}
use Rattle.std.proofs.Common.{nat_lt, nat_le, List, [], ◌∷◌, ◌++◌, length, map, All, Option, Some}
use Rattle.std.proofs.Common.{None, refl, sym, ap, ◌∙◌, subst, arith, append_assoc, length-append}
use Rattle.std.specs.List.{slice_split, join_with_byte, position_or_len, prefix_len}
use Rattle.std.specs.Option.{option_and_then, option_map}
use Rattle.std.proofs.lemmas.Bool.{false≢true}
use Rattle.std.proofs.lemmas.Bool.Decides.{nat_tests}
use Rattle.std.proofs.lemmas.List.{append-nil, length-map, Splits.slice_split_first}
use Rattle.std.proofs.lemmas.List.Elements.{All-cons, All-head, All-nil, All-tail}
use Rattle.std.proofs.lemmas.List.Splits.{join_with_byte-slice_split, length-slice_split}
use Rattle.texts.specs.Fields.{all_of, at_most_5, cut, cut_at}
use Rattle.texts.proofs.{Cuts.and-true, Cuts.eqb-same, Cuts.lacks, Spelled.IsSpelled}

pub not-true : (b : Bool) → not b ≡ true → b ≡ false
not-true false h = refl
not-true true h = absurd (false≢true h)

-- what is between the bytes
abbrev pub parts : ℕ → List ℕ → List (List ℕ)
parts by bytes = slice_split (λ b. b == by) bytes

parts-plain : (by : ℕ) (bytes : List ℕ) → lacks by bytes ≡ true → parts by bytes ≡ bytes ∷ []
parts-plain by [] h = refl
parts-plain by (b ∷ bytes) h =
    let both = and-true (not (b == by)) (lacks by bytes) h in
    rw (not-true (b == by) both.0, parts-plain by bytes both.1) refl

pub parts-front : (by : ℕ) (front more : List ℕ) → lacks by front ≡ true
    → parts by (front ++ by ∷ more) ≡ front ∷ parts by more
parts-front by [] more h = rw (eqb-same by) refl
parts-front by (b ∷ front) more h =
    let both = and-true (not (b == by)) (lacks by front) h in
    rw (not-true (b == by) both.0, parts-front by front more both.1) refl

-- the parts of values that are spelled so are their spellings
pub parts-spelled : {A : Type 0} (by : ℕ) (text : A → List ℕ) (x : A) (xs : List A)
    → All (λ y. lacks by (text y) ≡ true) (x ∷ xs)
    → parts by (join_with_byte by (map text (x ∷ xs))) ≡ map text (x ∷ xs)
parts-spelled by text x [] h =
    parts-plain by (text x) (All-head (λ z. lacks by (text z) ≡ true) x [] h)
parts-spelled by text x (y ∷ xs) h =
    parts-front by (text x) (join_with_byte by (map text (y ∷ xs)))
    (All-head (λ z. lacks by (text z) ≡ true) x (y ∷ xs) h)
    ∙ ap (λ t. text x ∷ t)
    (parts-spelled by text y xs (All-tail (λ z. lacks by (text z) ≡ true) x (y ∷ xs) h))

pub all-found : {A : Type 0} {of : List ℕ → Option A} {text : A → List ℕ} {F : A → Type 0}
    → IsSpelled of text F → (xs : List A) → All F xs → all_of (map of (map text xs)) ≡ Some xs
all-found s [] fits = refl
all-found {F = F} s (x ∷ xs) fits =
    rw (s.found x (All-head F x xs fits), all-found s xs (All-tail F x xs fits)) refl

pub all-only : {A : Type 0} {of : List ℕ → Option A} {text : A → List ℕ} {F : A → Type 0}
    → IsSpelled of text F → (texts : List (List ℕ)) (xs : List A)
    → all_of (map of texts) ≡ Some xs → All F xs × (texts ≡ map text xs)
all-only {F = F} s [] [] h = (All-nil F, refl)
all-only s [] (x ∷ xs) h = absurd (let bad : Some [] ≡ Some (x ∷ xs) = h in cc)
all-only {A = A} {of = of} {text = text} {F = F} s (t ∷ ts) xs h =
    step (all-only s ts) (of t) refl (all_of (map of ts)) refl h
  where
    step : ((ys : List A) → all_of (map of ts) ≡ Some ys → All F ys × (ts ≡ map text ys))
        → (o : Option A) → of t ≡ o → (os : Option (List A)) → all_of (map of ts) ≡ os
        → option_and_then (λ y. option_map (λ ys. y ∷ ys) os) o ≡ Some xs
        → All F xs × (t ∷ ts ≡ map text xs)
    step later None is os are e = absurd (let bad : None ≡ Some xs = e in cc)
    step later (Some y) is None are e = absurd (let bad : None ≡ Some xs = e in cc)
    step later (Some y) is (Some ys) are e =
        let same : y ∷ ys ≡ xs = cc in
        let first = s.only t y is in
        let rest = later ys are in
        subst (λ (zs : List A). All F zs × (t ∷ ts ≡ map text zs)) same (
          All-cons F y ys first.0 rest.0,
          ap (λ u. u ∷ ts) first.1 ∙ ap (λ us. text y ∷ us) rest.1,
        )

-- one value at least is read, and the text is what they spell
pub joined-only : {A : Type 0} {of : List ℕ → Option A} {text : A → List ℕ} {F : A → Type 0}
    → IsSpelled of text F → (by : ℕ) (bytes : List ℕ) (xs : List A)
    → all_of (map of (parts by bytes)) ≡ Some xs
    → All F xs × (1 ≤ length xs) × (bytes ≡ join_with_byte by (map text xs))
joined-only {text = text} s by bytes xs h =
    let read = all-only s (parts by bytes) xs h in
    let total = length-slice_split (λ b. b == by) bytes in
    let texts = length-map xs text in
    let count : length (parts by bytes) ≡ length (map text xs) = ap length read.1 in (
      read.0,
      omega arith,
      sym (join_with_byte-slice_split by bytes) ∙ ap (join_with_byte by) read.1,
    )

pub joined-found : {A : Type 0} {of : List ℕ → Option A} {text : A → List ℕ} {F : A → Type 0}
    → IsSpelled of text F → (by : ℕ) (x : A) (xs : List A)
    → All (λ y. lacks by (text y) ≡ true) (x ∷ xs) → All F (x ∷ xs)
    → all_of (map of (parts by (join_with_byte by (map text (x ∷ xs))))) ≡ Some (x ∷ xs)
joined-found {of = of} {text = text} s by x xs plain fits =
    ap (λ ts. all_of (map of ts)) (parts-spelled by text x xs plain)
    ∙ all-found s (x ∷ xs) fits

-- ---- one part after another

-- the parts of what is left
abbrev pub ahead_parts : ℕ → Option (List ℕ) → List (List ℕ)
ahead_parts by None = []
ahead_parts by (Some bytes) = parts by bytes

whole_lacks : (by : ℕ) (bytes : List ℕ) → length bytes ≤ prefix_len (λ b. not (b == by)) bytes
    → lacks by bytes ≡ true
whole_lacks by [] h = refl
whole_lacks by (b ∷ bytes) h = step (not (b == by)) (whole_lacks by bytes) h
  where
    step : (t : Bool)
        → (length bytes ≤ prefix_len (λ b. not (b == by)) bytes → lacks by bytes ≡ true)
        → length (b ∷ bytes) ≤ cond t (1 + prefix_len (λ b. not (b == by)) bytes) 0
        → (t && lacks by bytes) ≡ true
    step true later h = later (omega arith)
    step false later h = absurd (omega arith)

-- the first part, and those of what is left after it
pub parts-cut : (by : ℕ) (bytes : List ℕ)
    → parts by bytes ≡ (cut by bytes).0 ∷ ahead_parts by (cut by bytes).1
unfolding cut
parts-cut by bytes = step (nat_lt place (length bytes)) refl
  where
    place : ℕ
    place = position_or_len (λ b. b == by) bytes

    step : (t : Bool) → nat_lt place (length bytes) ≡ t
        → (let p : List ℕ × Option (List ℕ) = cut_at bytes (cond t (Some place) None) in
        parts by bytes ≡ p.0 ∷ ahead_parts by p.1)
    step true is =
        let less : place < length bytes = grind (arith, nat_tests, is) in
        slice_split_first (λ b. b == by) bytes 0 less
    step false is =
        let no : length bytes ≤ place = grind (arith, nat_tests, is) in
        parts-plain by bytes (whole_lacks by bytes no)

-- the values so far, in front of those that are ahead
abbrev pub in_front : {A : Type 0} → List A → Option (List A) → Option (List A)
in_front xs o = option_map (λ ys. xs ++ ys) o

pub front_none : {A : Type 0} (o : Option (List A)) → o ≡ in_front [] o
front_none None = refl
front_none (Some xs) = refl

front_more : {A : Type 0} (xs : List A) (x : A) (o : Option (List A))
    → in_front xs (option_map (λ ys. x ∷ ys) o) ≡ in_front (xs ++ x ∷ []) o
front_more xs x None = refl
front_more xs x (Some ys) = ap Some (sym (append_assoc xs (x ∷ []) ys))

-- a part that was read is one more value
pub part_read : {A : Type 0} (of : List ℕ → Option A) (by : ℕ) (bytes : List ℕ)
    (p : List ℕ × Option (List ℕ)) (xs : List A) (x : A) → p ≡ cut by bytes → of p.0 ≡ Some x
    → in_front xs (all_of (map of (parts by bytes)))
    ≡ in_front (xs ++ x ∷ []) (all_of (map of (ahead_parts by p.1)))
part_read of by bytes p xs x is read =
    ap (λ ts. in_front xs (all_of (map of ts)))
    (parts-cut by bytes ∙ ap (λ q. q.0 ∷ ahead_parts by q.1) (sym is))
    ∙ rw read (front_more xs x (all_of (map of (ahead_parts by p.1))))

-- where a part is none no list is read
pub part_refused : {A : Type 0} (of : List ℕ → Option A) (by : ℕ) (bytes : List ℕ)
    (p : List ℕ × Option (List ℕ)) (xs : List A) → p ≡ cut by bytes → of p.0 ≡ None
    → in_front xs (all_of (map of (parts by bytes))) ≡ None
part_refused of by bytes p xs is none =
    ap (λ ts. in_front xs (all_of (map of ts)))
    (parts-cut by bytes ∙ ap (λ q. q.0 ∷ ahead_parts by q.1) (sym is))
    ∙ rw none refl

all-length : {A : Type 0} (os : List (Option A)) (xs : List A) → all_of os ≡ Some xs
    → length xs ≡ length os
all-length [] [] h = refl
all-length [] (x ∷ xs) h = absurd (let bad : Some [] ≡ Some (x ∷ xs) = h in cc)
all-length {A = A} (o ∷ os) xs h = step (all-length os) o (all_of os) refl h
  where
    step : ((ys : List A) → all_of os ≡ Some ys → length ys ≡ length os)
        → (o : Option A) (r : Option (List A)) → all_of os ≡ r
        → option_and_then (λ y. option_map (λ ys. y ∷ ys) r) o ≡ Some xs
        → length xs ≡ length (o ∷ os)
    step later None r is e = absurd (let bad : None ≡ Some xs = e in cc)
    step later (Some y) None is e = absurd (let bad : None ≡ Some xs = e in cc)
    step later (Some y) (Some ys) is e =
        let same : y ∷ ys ≡ xs = cc in
        let more = later ys is in
        let count : length (y ∷ ys) ≡ length xs = ap length same in
        omega arith

-- after five values another one is too many
pub too_many : {A : Type 0} (of : List ℕ → Option A) (by : ℕ) (bytes : List ℕ) (xs : List A)
    → length xs ≡ 5
    → option_and_then at_most_5 (in_front xs (all_of (map of (parts by bytes)))) ≡ None
too_many {A = A} of by bytes xs five = step (all_of (map of (parts by bytes))) refl
  where
    step : (o : Option (List A)) → all_of (map of (parts by bytes)) ≡ o
        → option_and_then at_most_5 (in_front xs o) ≡ None
    step None is = refl
    step (Some ys) is =
        let count = all-length (map of (parts by bytes)) ys is in
        let texts = length-map (parts by bytes) of in
        let some = length-slice_split (λ b. b == by) bytes in
        let total = length-append xs ys in
        let few : nat_le (length (xs ++ ys)) 5 ≡ false =
        grind (arith, nat_tests, count, texts, some, total, five) in
        rw few refl

-- up to five are a list
pub not_too_many : {A : Type 0} (xs : List A) → length xs ≤ 5 → at_most_5 xs ≡ Some xs
not_too_many xs few =
    let yes : nat_le (length xs) 5 ≡ true = grind (arith, nat_tests) in rw yes refl

-- what the values so far come to: all of them where nothing is ahead, and none where a part is
-- refused, or where another one is ahead of five

pub list_ends : {A : Type 0} (of : List ℕ → Option A) (by : ℕ) (bytes : List ℕ) (xs : List A)
    (ahead : Option (List ℕ))
    → all_of (map of (parts by bytes)) ≡ in_front xs (all_of (map of (ahead_parts by ahead)))
    → ahead ≡ None → length xs ≤ 5
    → Some xs ≡ option_and_then at_most_5 (all_of (map of (parts by bytes)))
list_ends of by bytes xs ahead so_far none few =
    rw so_far (rw none (rw (append-nil xs) (sym (not_too_many xs few))))

pub list_refused : {A : Type 0} (of : List ℕ → Option A) (by : ℕ) (bytes : List ℕ) (xs : List A)
    (ahead : Option (List ℕ)) (left : List ℕ) (p : List ℕ × Option (List ℕ))
    → all_of (map of (parts by bytes)) ≡ in_front xs (all_of (map of (ahead_parts by ahead)))
    → ahead ≡ Some left → p ≡ cut by left → of p.0 ≡ None
    → None ≡ option_and_then at_most_5 (all_of (map of (parts by bytes)))
list_refused of by bytes xs ahead left p so_far some is none =
    rw so_far (rw some (rw (part_refused of by left p xs is none) refl))

pub list_full : {A : Type 0} (of : List ℕ → Option A) (by : ℕ) (bytes : List ℕ) (xs : List A)
    (ahead : Option (List ℕ)) (left : List ℕ)
    → all_of (map of (parts by bytes)) ≡ in_front xs (all_of (map of (ahead_parts by ahead)))
    → ahead ≡ Some left → length xs ≡ 5
    → None ≡ option_and_then at_most_5 (all_of (map of (parts by bytes)))
list_full of by bytes xs ahead left so_far some five =
    rw so_far (rw some (sym (too_many of by left xs five)))

pub list_more : {A : Type 0} (of : List ℕ → Option A) (by : ℕ) (bytes : List ℕ) (xs : List A)
    (ahead : Option (List ℕ)) (left : List ℕ) (p : List ℕ × Option (List ℕ)) (x : A)
    → all_of (map of (parts by bytes)) ≡ in_front xs (all_of (map of (ahead_parts by ahead)))
    → ahead ≡ Some left → p ≡ cut by left → of p.0 ≡ Some x
    → all_of (map of (parts by bytes))
    ≡ in_front (xs ++ x ∷ []) (all_of (map of (ahead_parts by p.1)))
list_more of by bytes xs ahead left p x so_far some is read =
    so_far
    ∙ ap (λ o. in_front xs (all_of (map of (ahead_parts by o)))) some
    ∙ part_read of by left p xs x is read

-- ---- texts that are joined

-- texts, each with a byte in front
abbrev pub behind_each : ℕ → List (List ℕ) → List ℕ
behind_each by [] = []
behind_each by (t ∷ texts) = by ∷ (t ++ behind_each by texts)

pub joined : (by : ℕ) (t : List ℕ) (texts : List (List ℕ))
    → join_with_byte by (t ∷ texts) ≡ t ++ behind_each by texts
joined by t [] = sym (append-nil t)
joined by t (u ∷ texts) = ap (λ y. t ++ by ∷ y) (joined by u texts)
