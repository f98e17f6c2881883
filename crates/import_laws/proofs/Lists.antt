-- Lists: what is told of items, items that are apart, and items that are found.
use Rattle.std.proofs.Common.{◌≡◌, refl, sym, ap, ◌∙◌, ℕ, ◌+◌, ◌≤◌, arith, Bool, true, false, ◌||◌}
use Rattle.std.proofs.Common.{◌&&◌, cond, List, [], ◌∷◌, ◌++◌, map, flat_map, filter, find, Some}
use Rattle.std.proofs.Common.{append_assoc, bytes_eq}
use Rattle.std.proofs.lemmas.{Grind.flat_map-append, Bool.or_parts, Slice.Eq.bytes_eq-Decides}
use Rattle.std.specs.{Prelude.count_by, List.list_any, List.AllByRecursion, Option.option_map}
use Rattle.std.proofs.lemmas.List.{map-append, Folds.list_any-append, Sums.sum_by-cons}
use Rattle.wcif.specs.Told.{told, told_from}
use Rattle.import_laws.specs.Held.{AreApart}

-- Tellings

told_of : {X A B : Type 0} (g : X → A) (f : List A → A → List B) (whole earlier xs : List X)
    → earlier ++ xs ≡ whole → ((front : List X) (x : X) (back : List X) → front ++ x ∷ back ≡ whole
    → f (map g front) (g x) ≡ []) → told_from f (map g earlier) (map g xs) ≡ []
told_of g f whole earlier [] is nothing = refl
told_of g f whole earlier (x ∷ xs) is nothing =
    rw (nothing earlier x xs is, sym (map-append g earlier (x ∷ [])))
    (told_of g f whole (earlier ++ x ∷ []) xs (append_assoc earlier (x ∷ []) xs ∙ is) nothing)

-- nothing is told where nothing is told of any item, given those in front
pub told_nothing : {X A B : Type 0} (g : X → A) (f : List A → A → List B) (whole : List X)
    → ((front : List X) (x : X) (back : List X) → front ++ x ∷ back ≡ whole
    → f (map g front) (g x) ≡ []) → told f (map g whole) ≡ []
unfolding told
told_nothing g f whole nothing = told_of g f whole [] whole refl nothing

-- Items

pub all_at : {A : Type 0} (P : A → Type 0) (front : List A) (x : A) (back : List A)
    → AllByRecursion P (front ++ x ∷ back) → P x
all_at P [] x back h = h.0
all_at P (y ∷ front) x back h = all_at P front x back h.1

pub apart_front : {A : Type 0} (same : A → A → Bool) → ((a b : A) → same a b ≡ same b a)
    → (front : List A) (x : A) (back : List A) → AreApart same (front ++ x ∷ back)
    → list_any (same x) front ≡ false
apart_front same swap [] x back h = refl
apart_front same swap (y ∷ front) x back h =
    ap (λ b. b || list_any (same x) front) (swap x y
    ∙ (or_parts (same y x) (list_any (same y) back) (or_parts (list_any (same y) front) _
    (sym (list_any-append (same y) front (x ∷ back)) ∙ h.0)).1).0)
    ∙ apart_front same swap front x back h.1

-- who passes both is among those who pass the first
pub any_filter : {A : Type 0} (t f : A → Bool) (xs : List A)
    → list_any f (filter t xs) ≡ list_any (λ x. t x && f x) xs
any_filter t f [] = refl
any_filter {A} t f (x ∷ xs) = step (t x) (any_filter t f xs)
  where
    step : (b : Bool) → list_any f (filter t xs) ≡ list_any (λ y. t y && f y) xs
        → list_any f (cond b (x ∷ filter t xs) (filter t xs))
        ≡ ((b && f x) || list_any (λ y. t y && f y) xs)
    step true later = ap (λ b. f x || b) later
    step false later = later

pub any_mapped : {X A : Type 0} (g : X → A) (p : A → Bool) (q : X → Bool)
    → ((x : X) → p (g x) ≡ q x) → (xs : List X) → list_any p (map g xs) ≡ list_any q xs
any_mapped g p q alike [] = refl
any_mapped g p q alike (x ∷ xs) = rw (alike x, any_mapped g p q alike xs) refl

pub count_mapped : {X A : Type 0} (g : X → A) (p : A → Bool) (q : X → Bool)
    → ((x : X) → p (g x) ≡ q x) → (xs : List X) → count_by p (map g xs) ≡ count_by q xs
count_mapped g p q alike [] = refl
count_mapped g p q alike (x ∷ xs) =
    sum_by-cons (λ y. cond (p y) 1 0) (g x) (map g xs) ∙ rw (alike x, count_mapped g p q alike xs)
    (sym (sum_by-cons (λ y. cond (q y) 1 0) x xs))

pub count_filter : {A : Type 0} (t f : A → Bool) (xs : List A)
    → count_by (λ x. t x && f x) xs ≡ count_by f (filter t xs)
count_filter t f [] = refl
count_filter {A} t f (x ∷ xs) =
    sum_by-cons (λ y. cond (t y && f y) 1 0) x xs ∙ step (t x) (count_filter t f xs)
  where
    step : (b : Bool) → count_by (λ y. t y && f y) xs ≡ count_by f (filter t xs)
        → cond (b && f x) 1 0 + count_by (λ y. t y && f y) xs
        ≡ count_by f (cond b (x ∷ filter t xs) (filter t xs))
    step true later = rw later (sym (sum_by-cons (λ y. cond (f y) 1 0) x (filter t xs)))
    step false later = omega (arith, later)

count_none : {A : Type 0} (f : A → Bool) (xs : List A) → list_any f xs ≡ false → count_by f xs ≡ 0
count_none f [] h = refl
count_none f (x ∷ xs) h =
    let parts = or_parts (f x) (list_any f xs) h in
    let whole : count_by f (x ∷ xs) ≡ 0 + count_by f xs =
    sum_by-cons (λ y. cond (f y) 1 0) x xs ∙ ap (λ b. cond b 1 0 + count_by f xs) parts.0 in
    let later = count_none f xs parts.1 in omega (arith, whole, later)

-- of texts that are apart, one is a text at most
pub count_apart : {A : Type 0} (key : A → List ℕ) (text : List ℕ) (xs : List A)
    → AreApart (λ a b. bytes_eq (key a) (key b)) xs → count_by (λ x. bytes_eq text (key x)) xs ≤ 1
count_apart key text [] h = omega arith
count_apart {A} key text (x ∷ xs) h =
    step (bytes_eq text (key x)) refl (count_apart key text xs h.1)
  where
    whole : (b : Bool) → bytes_eq text (key x) ≡ b → count_by (λ y. bytes_eq text (key y)) (x ∷ xs)
        ≡ cond b 1 0 + count_by (λ y. bytes_eq text (key y)) xs
    whole b is = sum_by-cons (λ y. cond (bytes_eq text (key y)) 1 0) x xs ∙ rw is refl

    step : (b : Bool) → bytes_eq text (key x) ≡ b → count_by (λ y. bytes_eq text (key y)) xs ≤ 1
        → count_by (λ y. bytes_eq text (key y)) (x ∷ xs) ≤ 1
    step true is later =
        let same : text ≡ key x = (bytes_eq-Decides text (key x)).0 is in
        let none : count_by (λ y. bytes_eq text (key y)) xs ≡ 0 =
        count_none (λ y. bytes_eq text (key y)) xs
        (ap (λ t. list_any (λ y. bytes_eq t (key y)) xs) same ∙ h.0) in
        let all = whole true is in omega (arith, all, none)
    step false is later = let all = whole false is in omega (arith, all, later)

-- the first of those who pass
pub find_mapped : {X A : Type 0} (g : X → A) (p : A → Bool) (t h : X → Bool)
    → ((x : X) → p (g x) ≡ (t x && h x)) → (xs : List X)
    → find p (map g xs) ≡ option_map g (find h (filter t xs))
find_mapped g p t h alike [] = refl
find_mapped {X} {A} g p t h alike (x ∷ xs) =
    rw (alike x) (step (t x) (h x) refl (find_mapped g p t h alike xs))
  where
    step : (b c : Bool) → h x ≡ c → find p (map g xs) ≡ option_map g (find h (filter t xs))
        → cond (b && h x) (Some (g x)) (find p (map g xs))
        ≡ option_map g (find h (cond b (x ∷ filter t xs) (filter t xs)))
    step true true is later = rw is refl
    step true false is later = rw is later
    step false c is later = later

-- Lists that are joined

pub map_flat : {X A B : Type 0} (g : A → B) (f : X → List A) (xs : List X)
    → flat_map (λ x. map g (f x)) xs ≡ map g (flat_map f xs)
map_flat g f [] = refl
map_flat g f (x ∷ xs) = rw (map_flat g f xs) (sym (map-append g (f x) (flat_map f xs)))

pub flat_flat : {X A B : Type 0} (g : A → List B) (f : X → List A) (xs : List X)
    → flat_map (λ x. flat_map g (f x)) xs ≡ flat_map g (flat_map f xs)
flat_flat g f [] = refl
flat_flat g f (x ∷ xs) = rw (flat_flat g f xs) (sym (flat_map-append g (f x) (flat_map f xs)))

pub flat_mapped : {X A B : Type 0} (g : X → A) (f : A → List B) (h : X → List B)
    (P : X → Type 0) → ((x : X) → P x → f (g x) ≡ h x) → (xs : List X) → AllByRecursion P xs
    → flat_map f (map g xs) ≡ flat_map h xs
flat_mapped g f h P alike [] are = refl
flat_mapped g f h P alike (x ∷ xs) are =
    rw (alike x are.0, flat_mapped g f h P alike xs are.1) refl
