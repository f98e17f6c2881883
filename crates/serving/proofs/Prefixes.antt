-- Entries from a position on, one after the other.
use Rattle.std.proofs.Common.{◌≡◌, ◌⊎◌, inl, inr, ℕ, zero, suc, ◌+◌, ◌-◌, ◌≤◌, min, length, nat_lt}
use Rattle.std.proofs.Common.{Bool, true, false, List, [], ◌∷◌, ◌++◌, Some, None, take, drop}
use Rattle.std.proofs.Common.{slice_get, refl, ap, ◌∙◌, arith}
use Rattle.std.proofs.lemmas.{List.length-take, List.length-drop, Bool.ltb-true, Bool.ltb-false}
use Rattle.acceptor.specs.declared.entry.Entry.{Entry}
use Rattle.serving.specs.Answering.{entries_from}

take_more : (log : List Entry) (k : ℕ) (e : Entry) → slice_get log k ≡ Some e
    → take (suc k) log ≡ take k log ++ e ∷ []
take_more [] k e h = absurd cc
take_more (x ∷ xs) zero e h = let same : x ≡ e = cc in ap (λ (y : Entry). y ∷ []) same
take_more (x ∷ xs) (suc k) e h = ap (λ (ys : List Entry). x ∷ ys) (take_more xs k e h)

take_all : (log : List Entry) (k : ℕ) → slice_get log k ≡ None → take (suc k) log ≡ take k log
take_all [] zero h = refl
take_all [] (suc k) h = refl
take_all (x ∷ xs) zero h = absurd cc
take_all (x ∷ xs) (suc k) h = ap (λ (ys : List Entry). x ∷ ys) (take_all xs k h)

get_behind : (p k : ℕ) (log : List Entry) → slice_get (drop p log) k ≡ slice_get log (p + k)
get_behind zero k log =
    let same : k ≡ 0 + k = omega arith in ap (λ (j : ℕ). slice_get log j) same
get_behind (suc p) k [] = refl
get_behind (suc p) k (x ∷ xs) =
    let same : suc (p + k) ≡ suc p + k = omega arith in
    get_behind p k xs ∙ ap (λ (j : ℕ). slice_get (x ∷ xs) j) same

-- how far behind the position the next one is
next_at : (p pos : ℕ) → p ≤ pos → (pos + 1) - p ≡ suc (pos - p)
next_at p pos h = omega (arith, h)

there_at : (p pos : ℕ) → p ≤ pos → p + (pos - p) ≡ pos
there_at p pos h = omega (arith, h)

-- one entry more
pub copies_next : (log : List Entry) (p pos : ℕ) (e : Entry) → p ≤ pos → slice_get log pos ≡ Some e
    → take ((pos + 1) - p) (drop p log) ≡ take (pos - p) (drop p log) ++ e ∷ []
copies_next log p pos e low h =
    ap (λ (j : ℕ). take j (drop p log)) (next_at p pos low)
    ∙ take_more (drop p log) (pos - p) e
    (get_behind p (pos - p) log ∙ ap (λ (j : ℕ). slice_get log j) (there_at p pos low) ∙ h)

-- past the end there is none
pub copies_end : (log : List Entry) (p pos : ℕ) → p ≤ pos → slice_get log pos ≡ None
    → take ((pos + 1) - p) (drop p log) ≡ take (pos - p) (drop p log)
copies_end log p pos low h =
    ap (λ (j : ℕ). take j (drop p log)) (next_at p pos low)
    ∙ take_all (drop p log) (pos - p)
    (get_behind p (pos - p) log ∙ ap (λ (j : ℕ). slice_get log j) (there_at p pos low) ∙ h)

-- how many entries there are from a position on
counted : (p : ℕ) (log : List Entry) → length (entries_from p log) ≡ min 400 (length log - p)
counted p log = length-take 400 (drop p log) ∙ ap (min 400) (length-drop p log)

pub few_entries : (p : ℕ) (log : List Entry) → length (entries_from p log) ≤ 400
few_entries p log = let n = counted p log in omega (arith, n)

-- none, or they end within the log
pub entries_within : (p : ℕ) (log : List Entry) (es : List Entry) (len : ℕ)
    → es ≡ entries_from p log → len ≡ length log → (length es ≡ 0) ⊎ (p + length es ≤ len)
entries_within p log es len is whole = go (nat_lt (length log) p) refl
  where
    many : length es ≡ min 400 (length log - p)
    many = ap (λ (xs : List Entry). length xs) is ∙ counted p log

    go : (b : Bool) → nat_lt (length log) p ≡ b → (length es ≡ 0) ⊎ (p + length es ≤ len)
    go true h = let past = ltb-true _ _ h in inl (omega (arith, many, past))
    go false h = let there = ltb-false _ _ h in inr (omega (arith, many, there, whole))
