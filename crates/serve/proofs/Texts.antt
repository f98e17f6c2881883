-- Texts that are at two places.
use Rattle.std.proofs.Common.{◌≡◌, ◌<◌, ◌≤◌, ◌+◌, ℕ, zero, suc, List, [], ◌∷◌, Some, Option, None}
use Rattle.std.proofs.Common.{refl, ◌∙◌, sym, ap, map, length, get_or, arith, Bor, Bool, true}
use Rattle.std.proofs.Common.{false, subst, inl, inr}
use Rattle.std.proofs.lemmas.{Slice.Eq.bytes_eq-Decides, Bool.Decides.leb_tells}
use Rattle.std.specs.Prelude.{bytes_eq, slice_get, is_some, IsSomeAnd}
use Rattle.std.specs.{Net.Grammar.IsSocketText, declared.net.socket_addr.SocketAddr.SocketAddr}
use Rattle.serve.specs.Addresses.{AreApart, AreTwins, IsFoundFor, IsNoAddress}

pub text_at : (texts : List (Bor (List ℕ))) (i : ℕ) (d : Bor (List ℕ)) → i < length texts
    → slice_get (map (λ (t : Bor (List ℕ)). t.now) texts) i ≡ Some (get_or texts i d).now
text_at [] i d within = absurd (omega (arith, within))
text_at (t ∷ texts) zero d within = refl
text_at (t ∷ texts) (suc i) d within = text_at texts i d (omega (arith, within))

pub twins_at : (texts : List (Bor (List ℕ))) (i j : ℕ) (d e : Bor (List ℕ)) (r : Bool) → i < j
    → j < length texts → r ≡ bytes_eq (get_or texts i d).now (get_or texts j e).now → r ≡ true
    → AreTwins (map (λ (t : Bor (List ℕ)). t.now) texts) i j
twins_at texts i j d e r before within told same =
    let decided = (bytes_eq-Decides (get_or texts i d).now (get_or texts j e).now).0 in
    let is = decided (sym told ∙ same) in (
      before,
      (get_or texts i d).now,
      text_at texts i d (omega (arith, before, within)),
      text_at texts j e within ∙ ap Some (sym is),
    )

some_is : {A : Type 0} (a b : A) → Some a ≡ Some b → a ≡ b
some_is a b same = cc same

no_twins_at : (texts : List (Bor (List ℕ))) (i j : ℕ) (d e : Bor (List ℕ)) → i < j
    → j < length texts → bytes_eq (get_or texts i d).now (get_or texts j e).now ≡ false
    → ¬ AreTwins (map (λ (t : Bor (List ℕ)). t.now) texts) i j
no_twins_at texts i j d e before within other twins =
    let one = some_is (get_or texts i d).now twins.1
    (sym (text_at texts i d (omega (arith, before, within))) ∙ twins.2) in
    let two = some_is (get_or texts j e).now twins.1 (sym (text_at texts j e within) ∙ twins.3) in
    let same = (bytes_eq-Decides (get_or texts i d).now (get_or texts j e).now).1 (one ∙ sym two) in
    absurd (cc (same, other))

pub no_twins_next : (texts : List (Bor (List ℕ))) (n j : ℕ) (d e : Bor (List ℕ)) (r : Bool)
    → n < j → j < length texts → r ≡ bytes_eq (get_or texts n d).now (get_or texts j e).now
    → r ≡ false → ((i : ℕ) → i < n → ¬ AreTwins (map (λ (t : Bor (List ℕ)). t.now) texts) i j)
    → (i : ℕ) → i < n + 1 → ¬ AreTwins (map (λ (t : Bor (List ℕ)). t.now) texts) i j
no_twins_next texts n j d e r before within told other none i next =
    elim (leb_tells n i) [
      | inl at ↦
          let is : i ≡ n = omega (arith, at.1, next) in
          subst (λ k. ¬ AreTwins (map (λ (t : Bor (List ℕ)). t.now) texts) k j) (sym is)
          (no_twins_at texts n j d e before within (sym told ∙ other))
      | inr less ↦ none i less.1
    ]

pub apart_next : (texts : List (List ℕ)) (n : ℕ) → ((i : ℕ) → ¬ AreTwins texts i n)
    → ((i j : ℕ) → j < n → ¬ AreTwins texts i j) → (i j : ℕ) → j < n + 1 → ¬ AreTwins texts i j
apart_next texts n here before i j next =
    elim (leb_tells n j) [
      | inl at ↦
          let is : j ≡ n = omega (arith, at.1, next) in
          subst (λ k. ¬ AreTwins texts i k) (sym is) (here i)
      | inr less ↦ before i j less.1
    ]

within_of : (texts : List (Bor (List ℕ))) (i : ℕ) (text : List ℕ)
    → slice_get (map (λ (t : Bor (List ℕ)). t.now) texts) i ≡ Some text → i < length texts
within_of [] i text is = absurd (cc is)
within_of (t ∷ texts) zero text is = omega arith
within_of (t ∷ texts) (suc i) text is =
    let less = within_of texts i text is in omega (arith, less)

pub all_apart : (texts : List (Bor (List ℕ))) (n : ℕ) → length texts ≤ n
    → ((i j : ℕ) → j < n → ¬ AreTwins (map (λ (t : Bor (List ℕ)). t.now) texts) i j)
    → AreApart (map (λ (t : Bor (List ℕ)). t.now) texts)
all_apart texts n all none i j twins =
    let within = within_of texts j twins.1 twins.3 in
    none i j (omega (arith, all, within)) twins

-- ---- a text of which no address is found

nothing_found : (P : SocketAddr → Type 0) (found : Option SocketAddr) → is_some found ≡ false
    → IsSomeAnd found P → ⊥
nothing_found P None none some = absurd some
nothing_found P (Some a) none some = absurd (cc none)

pub no_address_at : (texts : List (Bor (List ℕ))) (place desk : ℕ) (d : Bor (List ℕ))
    (found : Option SocketAddr) → desk ≡ place + 1 → place < length texts
    → IsFoundFor (get_or texts place d).now found → is_some found ≡ false
    → IsNoAddress (map (λ (t : Bor (List ℕ)). t.now) texts) desk
no_address_at texts place desk d found is within one none = (
  place,
  is,
  (get_or texts place d).now,
  text_at texts place d within,
  λ a spelled. nothing_found (IsSocketText (get_or texts place d).now) found none (one a spelled),
)
