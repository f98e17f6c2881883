-- Entries that are held and entries that are reported, position by position.
use Rattle.std.proofs.Common.{◌≡◌, ◌≢◌, ◌⊎◌, inl, inr, refl, sym, ap, ◌∙◌, ℕ, zero, suc, ◌+◌, ◌<◌}
use Rattle.std.proofs.Common.{◌≤◌, true, false, List, length, Some, slice_get, arith, subst}
use Rattle.std.proofs.lemmas.{Bool.Decides.nat_tests, Option.slice_get_within}
use Rattle.std.proofs.lemmas.Slice.Eq.{bytes_eq-Decides}
use Rattle.acceptor.specs.{Entries.is_same_entry, declared.entry.Entry.Entry}
use Rattle.mirror.specs.Mirrors.{AreHeldBelow, DiffersFirst}

entry_ext : (a b : Entry) → a.id ≡ b.id → a.text ≡ b.text → a ≡ b
entry_ext a b i t = λ k. record { id = i k; text = t k }

-- entries that the test finds equal are equal
pub same_entry : (a b : Entry) → is_same_entry a b ≡ true → a ≡ b
same_entry a b h =
    let words = bytes_eq-Decides a.text b.text in
    entry_ext a b (grind (arith, nat_tests)) (grind (arith, nat_tests, words))

self_same : (e : Entry) → is_same_entry e e ≡ true
self_same e = let words = bytes_eq-Decides e.text e.text in grind (arith, nat_tests, words)

-- and those that it finds different are different
pub other_entry : (a b : Entry) → is_same_entry a b ≡ false → a ≢ b
other_entry a b h same =
    let t : is_same_entry a b ≡ true =
    subst (λ (x : Entry). is_same_entry a x ≡ true) same (self_same a) in
    cc

some_of : (a b : Entry) → Some a ≡ Some b → a ≡ b
some_of a b s = cc

below_or_at : (i n : ℕ) → i < n + 1 → (i < n) ⊎ (i ≡ n)
below_or_at zero zero h = inr refl
below_or_at zero (suc n) h = inl (omega arith)
below_or_at (suc i) zero h = absurd (omega arith)
below_or_at (suc i) (suc n) h = up (below_or_at i n (omega arith))
  where
    up : (i < n) ⊎ (i ≡ n) → (suc i < suc n) ⊎ (suc i ≡ suc n)
    up (inl less) = inl (omega arith)
    up (inr same) = inr (ap suc same)

-- one position more
pub one_held : (held told : List Entry) (position place end : ℕ) (a b : Entry)
    → AreHeldBelow (position + place) held position told → end ≡ position + place + 1
    → slice_get held (position + place) ≡ Some a → slice_get told place ≡ Some b → a ≡ b
    → AreHeldBelow end held position told
one_held held told position place end a b before is h t same i mine its less m s =
    go (below_or_at i place (omega (arith, less, is)))
  where
    go : (i < place) ⊎ (i ≡ place) → mine ≡ its
    go (inl l) = before i mine its (omega (arith, l)) m s
    go (inr e) =
        some_of mine a (sym m ∙ ap (λ (j : ℕ). slice_get held (position + j)) e ∙ h)
        ∙ same
        ∙ some_of b its (sym t ∙ ap (slice_get told) (sym e) ∙ s)

-- nothing more was reported
pub all_told : (held told : List Entry) (position end : ℕ)
    → AreHeldBelow end held position told → position + length told ≤ end
    → AreHeldBelow (length held) held position told
all_told held told position end before far i mine its less m s =
    before i mine its (omega (arith, far, slice_get_within told i its s)) m s

-- the first other one
pub differs_at : (held told : List Entry) (position place : ℕ) (a b : Entry)
    → AreHeldBelow (position + place) held position told
    → slice_get held (position + place) ≡ Some a → slice_get told place ≡ Some b
    → is_same_entry a b ≡ false → DiffersFirst held position told (position + place)
differs_at held told position place a b before h t differ =
    record {
      place = place;
      there = refl;
      mine = a;
      its = b;
      holds = h;
      tells = t;
      other = other_entry a b differ;
      before = before;
    }
