-- The browsers that are looked for, one place of the table after the other.
use Rattle.std.proofs.Common.{◌≡◌, ◌⊎◌, ◌≤◌, ◌<◌, ◌+◌, inl, inr, refl, sym, ap, subst, ◌∙◌, ℕ, Bool}
use Rattle.std.proofs.Common.{true, false, Option, Some, None, arith, nat_eq, slice_get, unwrap_or}
use Rattle.std.proofs.Common.{ltb, ◌&&◌, ◌||◌, ◌==◌, true≢false, if◌then◌else◌}
use Rattle.std.proofs.lemmas.Bool.{cases_eq, eqb-true, eq-eqb, ltb-true, or_cases, lt-ltb}
use Rattle.std.proofs.lemmas.{Map.Entries.place_from_lookup, Option.slice_get_within}
use Rattle.indexmap.specs.IndexMap.{index_map_len}
use Rattle.pages.specs.{Kept.places_of, Musts.IsLongest, Musts.is_late_at}
use Rattle.pages.specs.Waiting.{is_longer, longer}
use Rattle.pages.specs.declared.table.{Browser.Browser, BrowserTable.BrowserTable}
use Rattle.pages.specs.declared.waiting.{Longest.Longest, Waiting.Waiting}

abbrev pub Entry : Type 0
Entry = ℕ × Browser

some_inj : (x y : Entry) → Some x ≡ Some y → x ≡ y
some_inj x y is = ap (λ o. unwrap_or o x) is

-- each entry at a place below this one is such
abbrev pub EachBelow : {C : Type 0} → BrowserTable C → ℕ → (Entry → Type 0) → Type 0
EachBelow t place P =
    (i : ℕ) (e : Entry) → i < place → slice_get t.browsers.entries i ≡ Some e → P e

module _ {C : Type 0} (t : BrowserTable C) where
  pub below_more : (place : ℕ) (one : Entry) (P : Entry → Type 0) → EachBelow t place P
      → slice_get t.browsers.entries place ≡ Some one → P one → EachBelow t (place + 1) P
  below_more place one P below found p i e few at = elim (cases_eq i place) [
    | inl same ↦
        let is : Some one ≡ Some e =
        sym found ∙ ap (λ n. slice_get t.browsers.entries n) (sym same) ∙ at in
        subst P (some_inj one e is) p
    | inr apart ↦ below i e (omega (arith, few, apart)) at
  ]

  -- the entry of each browser is at a place
  pub each_place : (place : ℕ) (P : Entry → Type 0) → index_map_len t.browsers ≤ place
      → EachBelow t place P → (k : ℕ) (b : Browser) → places_of t k ≡ Some b → P (k, b)
  each_place place P all below k b at =
      let p = place_from_lookup (nat_eq k) t.browsers.entries b at in
      let within = slice_get_within t.browsers.entries p.0 (p.1, b) p.2 in
      subst (λ n. P (n, b)) (sym (eqb-true k p.1 p.3))
      (below p.0 (p.1, b) (omega (arith, all, within)) p.2)

  -- ---- who is late

  abbrev pub IsTimely : Entry → Type 0
  IsTimely e = is_late_at t t.now e.1 ≡ false

-- ---- who is waited for longest

all_true : (x y : Bool) → (x && y) ≡ true → (x ≡ true) × (y ≡ true)
all_true true y is = (refl, is)
all_true false y is = absurd (true≢false (sym is))

or_true : (b : Bool) → (b || true) ≡ true
or_true true = refl
or_true false = refl

is_not : (b : Bool) → (b ≡ true → ⊥) → b ≡ false
is_not true wrong = absurd (wrong refl)
is_not false wrong = refl

-- longer than another one, by the moments since which they are waited for and their numbers
abbrev IsBefore : ℕ → ℕ → ℕ → ℕ → Type 0
IsBefore a x b y = (a < b) ⊎ ((a ≡ b) × (x < y))

before_from : (x since other : ℕ) (w : Waiting) → is_longer x since other w ≡ true
    → IsBefore w.since x since other
before_from x since other w is =
    elim (or_cases (ltb w.since since) (w.since == since && ltb x other) is) [
      | inl less ↦ inl (ltb-true w.since since less)
      | inr same ↦
          let both = all_true (w.since == since) (ltb x other) same in
          inr (eqb-true w.since since both.0, ltb-true x other both.1)
    ]

before_to : (x since other : ℕ) (w : Waiting) → IsBefore w.since x since other
    → is_longer x since other w ≡ true
before_to x since other w (inl less) =
    ap (λ b. b || (w.since == since && ltb x other)) (lt-ltb w.since since less)
before_to x since other w (inr same) =
    ap (λ b. ltb w.since since || b)
    (ap (λ b. b && ltb x other) (eq-eqb w.since since same.0) ∙ lt-ltb x other same.1)
    ∙ or_true (ltb w.since since)

before_then : (a x b y c z : ℕ) → IsBefore a x c z → IsBefore c z b y → IsBefore a x b y
before_then a x b y c z (inl h) (inl k) = inl (omega (arith, h, k))
before_then a x b y c z (inl h) (inr k) = inl (omega (arith, h, k.0))
before_then a x b y c z (inr h) (inl k) = inl (omega (arith, h.0, k))
before_then a x b y c z (inr h) (inr k) =
    inr (omega (arith, h.0, k.0), omega (arith, h.1, k.1))

-- it isn't longer than one that is longer than the one that was found
still_not : (x since other n : ℕ) (w v : Waiting) → is_longer x since other w ≡ false
    → is_longer n since other v ≡ true → is_longer x v.since n w ≡ false
still_not x since other n w v less more =
    is_not (is_longer x v.since n w) (λ is. true≢false (sym (before_to x since other w
    (before_then w.since x since other v.since n (before_from x v.since n w is)
    (before_from n since other v more))) ∙ less))

not_itself : (n : ℕ) (v : Waiting) → is_longer n v.since n v ≡ false
not_itself n v =
    is_not (is_longer n v.since n v) (λ is. elim (before_from n v.since n v is) [
      | inl h ↦ omega (arith, h)
      | inr h ↦ omega (arith, h.1)
    ])

module _ {C : Type 0} (t : BrowserTable C) where
  -- the one that was found is open, and none below this place is waited for longer
  pub record IsLongestBelow (place : ℕ) (one : Longest) : Type 0 where
    pub browser : Browser
    pub at : places_of t one.number ≡ Some browser
    pub since : one.since ≡ browser.waiting.since
    pub below : EachBelow t place (λ e. is_longer e.0 one.since one.number e.1.waiting ≡ false)

  abbrev pub LongestBelow : ℕ → Option Longest → Type 0
  LongestBelow place None = place ≡ 0
  LongestBelow place (Some one) = IsLongestBelow place one

  next_found : (place n : ℕ) (b : Browser) → slice_get t.browsers.entries place ≡ Some (n, b)
      → places_of t n ≡ Some b
      → EachBelow t place (λ e. is_longer e.0 b.waiting.since n e.1.waiting ≡ false)
      → IsLongestBelow (place + 1) (record { number = n; since = b.waiting.since })
  next_found place n b at is below = record {
    browser = b;
    at = is;
    since = refl;
    below =
        below_more t place (n, b) (λ e. is_longer e.0 b.waiting.since n e.1.waiting ≡ false)
        below at (not_itself n b.waiting);
  }

  next_by : (place n : ℕ) (b : Browser) (one : Longest) (is_it : Bool)
      → is_longer n one.since one.number b.waiting ≡ is_it
      → slice_get t.browsers.entries place ≡ Some (n, b) → places_of t n ≡ Some b
      → IsLongestBelow place one → IsLongestBelow (place + 1)
      (if is_it then record { number = n; since = b.waiting.since } else one)
  next_by place n b one true longer_one at is h =
      next_found place n b at is
      (λ i e few found. still_not e.0 one.since one.number n e.1.waiting b.waiting
      (h.below i e few found) longer_one)
  next_by place n b one false not_longer at is h = record {
    browser = h.browser;
    at = h.at;
    since = h.since;
    below =
        below_more t place (n, b)
        (λ e. is_longer e.0 one.since one.number e.1.waiting ≡ false) h.below at not_longer;
  }

  -- the entry at the next place is looked at
  pub longest_next : (place n : ℕ) (b : Browser) (found : Option Longest)
      → slice_get t.browsers.entries place ≡ Some (n, b) → places_of t n ≡ Some b
      → LongestBelow place found → LongestBelow (place + 1) (Some (longer n found b.waiting))
  longest_next place n b None at is h =
      next_found place n b at is (λ i e few found. absurd (omega (arith, few, h)))
  longest_next place n b (Some one) at is h =
      next_by place n b one (is_longer n one.since one.number b.waiting) refl at is h

  pub longest_of_all : (place : ℕ) (one : Longest) → index_map_len t.browsers ≤ place
      → IsLongestBelow place one → IsLongest (places_of t) one.number
  longest_of_all place one all h = record {
    one = h.browser;
    found = h.at;
    longest = λ j b at.
        subst (λ since. is_longer j since one.number b.waiting ≡ false) h.since
        (each_place t place (λ e. is_longer e.0 one.since one.number e.1.waiting ≡ false) all
        h.below j b at);
  }
