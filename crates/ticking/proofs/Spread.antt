-- Desks whose time counts from one moment are due at moments that are apart.
use Rattle.std.proofs.Common.{◌≡◌, ◌⊎◌, ℕ, ◌+◌, ◌-◌, ◌*◌, ◌≤◌, ◌<◌, inl, inr, refl, sym, arith}
use Rattle.std.proofs.Common.{Bool, true, false}
use Rattle.std.proofs.{lemmas.Bool.cases_lt, Math.Nat.mul-le-mul_right, Math.Nat.mul-le-mul_left}
use Rattle.ticking.specs.Ticking.{IsDesk, Ticking, slot, first_pause, pause}
use Rattle.ticking.specs.Laws.{AreApart, AreFellows, AreDueApart}
use Rattle.ticking.proofs.Pauses.{IsTicker, IsPower, power_least, product_least, within, slot_least}

-- of two powers one is at least twice the other, where they differ
powers_apart : (m n : ℕ) → IsPower m → IsPower n → (m ≡ n) ⊎ ((2 * m ≤ n) ⊎ (2 * n ≤ m))
powers_apart m n h k = grind arith

-- the same factor: the desk with the lower number comes first
below : (k f g s : ℕ) → 1 ≤ k → f + s ≤ g → k * f + s ≤ k * g
below k f g s h e =
    let a : k * (f + s) ≤ k * g = mul-le-mul_left k e in
    let b : s ≤ k * s = product_least k s h in
    omega arith

-- a lower factor: it comes first, whatever the desks
lower : (m n f g p s : ℕ) → 1 ≤ m → 2 * m ≤ n → f + s ≤ 2 * p → p ≤ g → m * f + s ≤ n * g
lower m n f g p s h e u v =
    let a : m * f + s ≤ m * (2 * p) = below m f (2 * p) s h u in
    let b : (2 * m) * p ≤ n * p = mul-le-mul_right p e in
    let c : n * p ≤ n * g = mul-le-mul_left n v in
    omega arith

-- the slots in front of a desk, where another one has a lower number
front : (c d s : ℕ) → 1 ≤ c → c < d → (c - 1) * s + s ≤ (d - 1) * s
front c d s h k =
    let e : c - 1 + 1 ≤ d - 1 = omega arith in
    let m : (c - 1 + 1) * s ≤ (d - 1) * s = mul-le-mul_right s e in
    omega arith

-- two numbers are the same, or one is at least twice the other
abbrev pub IsTwice : ℕ → ℕ → Type 0
IsTwice m n = (m ≡ n) ⊎ ((2 * m ≤ n) ⊎ (2 * n ≤ m))

-- f and g are the first pauses of two desks of which the first has the lower number
apart : (m n f g p s : ℕ) → 1 ≤ m → 1 ≤ n → IsTwice m n → p ≤ f → f + s ≤ g → g + s ≤ 2 * p
    → AreApart s (m * f) (n * g)
apart m n f g p s h k (inl e) a b c = inl (rw (← e) (below m f g s h b))
apart m n f g p s h k (inr (inl e)) a b c =
    inl (lower m n f g p s h e (omega arith) (omega arith))
apart m n f g p s h k (inr (inr e)) a b c = inr (lower n m g f p s k e c a)

pub added : (a x y s : ℕ) → AreApart s x y → AreApart s (a + x) (a + y)
added a x y s (inl h) = inl (omega arith)
added a x y s (inr h) = inr (omega arith)

turned : (x y s : ℕ) → AreApart s x y → AreApart s y x
turned x y s (inl h) = inr h
turned x y s (inr h) = inl h

spread_ordered : (a b : Ticking) (m n : ℕ) → IsTicker a → IsTicker b → AreFellows a b
    → a.desk < b.desk → 1 ≤ m → 1 ≤ n → IsTwice m n
    → AreApart (slot a) (m * first_pause a) (n * first_pause b)
spread_ordered a b m n h k f lt u v w =
    let e : first_pause b ≡ a.period + (b.desk - 1) * slot a = rw (← f.period, ← f.desks) refl in
    let there : IsDesk b.desk a.desks = rw f.desks k.desk in
    let fore : (a.desk - 1) * slot a + slot a ≤ (b.desk - 1) * slot a =
    front a.desk b.desk (slot a) h.desk.first lt in
    let last : (b.desk - 1) * slot a + slot a ≤ a.period = within a.period b.desk a.desks there in
    apart m n (first_pause a) (first_pause b) a.period (slot a) u v w
    (omega arith) (omega arith) (omega arith)

fellows_turned : (a b : Ticking) → AreFellows a b → AreFellows b a
fellows_turned a b f = record {
  period = sym f.period;
  desks = sym f.desks;
  others = λ e. f.others (sym e);
  since = sym f.since;
}

same_slot : (a b : Ticking) → AreFellows a b → slot b ≡ slot a
same_slot a b f = rw (f.period, f.desks) refl

at_slot : (s u x y : ℕ) → s ≡ u → AreApart s x y → AreApart u x y
at_slot s u x y e h = rw (← e) h

twice_turned : (m n : ℕ) → IsTwice m n → IsTwice n m
twice_turned m n (inl e) = inl (sym e)
twice_turned m n (inr (inl h)) = inr (inr h)
twice_turned m n (inr (inr h)) = inr (inl h)

pub spread : (a b : Ticking) (m n : ℕ) → IsTicker a → IsTicker b → AreFellows a b
    → 1 ≤ m → 1 ≤ n → IsTwice m n → AreApart (slot a) (m * first_pause a) (n * first_pause b)
spread a b m n h k f u v w =
    elim (cases_lt a.desk b.desk) [
      | inl lt ↦ spread_ordered a b m n h k f lt u v w
      | inr le ↦
          let others : ¬ (a.desk ≡ b.desk) = f.others in
          let lt : b.desk < a.desk = omega arith in
          turned (n * first_pause b) (m * first_pause a) (slot a)
          (at_slot (slot b) (slot a) (n * first_pause b) (m * first_pause a) (same_slot a b f)
          (spread_ordered b a n m k h (fellows_turned a b f) lt v u (twice_turned m n w)))
    ]

pub spread_pauses : (a b : Ticking) (waiting : Bool) → IsTicker a → IsTicker b → AreFellows a b
    → AreApart (slot a) (pause a waiting) (pause b waiting)
spread_pauses a b true h k f =
    spread a b a.times b.times h k f (power_least a.times h.times) (power_least b.times k.times)
    (powers_apart a.times b.times h.times k.times)
spread_pauses a b false h k f = spread a b 10 10 h k f (omega arith) (omega arith) (inl refl)

pub due_apart : (a b : Ticking) (waiting : Bool) → IsTicker a → IsTicker b → AreFellows a b
    → AreDueApart a b waiting
due_apart a b waiting h k f = record {
  wide = slot_least a.period a.desk a.desks h.period h.desk;
  apart =
      rw (← f.since)
      (added a.since (pause a waiting) (pause b waiting) (slot a)
      (spread_pauses a b waiting h k f));
}
