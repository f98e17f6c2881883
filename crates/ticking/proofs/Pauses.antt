-- How long pauses are.
use Rattle.std.proofs.Common.{◌≡◌, ◌⊎◌, ℕ, zero, suc, ◌+◌, ◌-◌, ◌*◌, ◌/◌, ◌≤◌, ◌<◌, inl, inr, refl}
use Rattle.std.proofs.{Common.arith, Common.true, Math.Nat.mul-le-mul_right, lemmas.Nat.le-div}
use Rattle.std.{specs.Prelude.min, proofs.Math.Nat.div-mul-le_self}
use Rattle.ticking.specs.Ticking.{IsPeriod, IsDesk, Ticking, slot, first_pause, pause}
use Rattle.ticking.specs.Laws.{AreBounded}

-- 1, doubled at most four times
abbrev pub IsPower : ℕ → Type 0
IsPower n = (n ≡ 1) ⊎ ((n ≡ 2) ⊎ ((n ≡ 4) ⊎ ((n ≡ 8) ⊎ (n ≡ 16))))

-- what is true of each ticker
pub record IsTicker (t : Ticking) : Type 0 where
  pub period : IsPeriod t.period
  pub desk : IsDesk t.desk t.desks
  pub times : IsPower t.times

pub power_most : (n : ℕ) → IsPower n → n ≤ 16
power_most n h = grind arith

pub power_least : (n : ℕ) → IsPower n → 1 ≤ n
power_least n h = grind arith

-- a number that is doubled at most to 16
pub doubled : (n f : ℕ) → IsPower n → min (2 * n) 16 * f ≡ min (2 * (n * f)) (16 * f)
doubled n f (inl e) = rw e (omega arith)
doubled n f (inr (inl e)) = rw e (omega arith)
doubled n f (inr (inr (inl e))) = rw e (omega arith)
doubled n f (inr (inr (inr (inl e)))) = rw e (omega arith)
doubled n f (inr (inr (inr (inr e)))) = rw e (omega arith)

pub power_doubled : (n : ℕ) → IsPower n → IsPower (min (2 * n) 16)
power_doubled n (inl e) = rw e (inr (inl refl))
power_doubled n (inr (inl e)) = rw e (inr (inr (inl refl)))
power_doubled n (inr (inr (inl e))) = rw e (inr (inr (inr (inl refl))))
power_doubled n (inr (inr (inr (inl e)))) = rw e (inr (inr (inr (inr refl))))
power_doubled n (inr (inr (inr (inr e)))) = rw e (inr (inr (inr (inr refl))))

one_less : (d s : ℕ) → 1 ≤ d → (d - 1) * s + s ≡ d * s
one_less zero s h = absurd (omega arith)
one_less (suc d) s h = grind arith

-- the slots in front of a desk, and its own, are within the period
pub within : (p d n : ℕ) → IsDesk d n → (d - 1) * (p / n) + p / n ≤ p
within p d n h =
    let e : (d - 1) * (p / n) + p / n ≡ d * (p / n) = one_less d (p / n) h.first in
    let a : d * (p / n) ≤ n * (p / n) = mul-le-mul_right (p / n) h.last in
    let b : p / n * n ≤ p = div-mul-le_self p n in
    omega arith

-- a slot is no shorter than 20 milliseconds
pub slot_least : (p d n : ℕ) → IsPeriod p → IsDesk d n → 20 ≤ p / n
slot_least p d n h k = le-div 20 p n (omega arith) (omega arith)

pub first_most : (t : Ticking) → IsTicker t → first_pause t < 2 * t.period
first_most t h =
    let a : (t.desk - 1) * slot t + slot t ≤ t.period = within t.period t.desk t.desks h.desk in
    let b : 20 ≤ slot t = slot_least t.period t.desk t.desks h.period h.desk in
    omega arith

pub product_most : (n f p : ℕ) → n ≤ 16 → f < 2 * p → n * f < 32 * p
product_most n f p h k =
    let m : n * f ≤ 16 * f = mul-le-mul_right f h in
    omega arith

pub product_least : (n f : ℕ) → 1 ≤ n → f ≤ n * f
product_least n f h =
    let m : 1 * f ≤ n * f = mul-le-mul_right f h in
    omega arith

pub bounded : (t : Ticking) → IsTicker t → AreBounded t
bounded t h =
    let f : first_pause t < 2 * t.period = first_most t h in
    record {
      least =
          let m : first_pause t ≤ pause t true =
          product_least t.times (first_pause t) (power_least t.times h.times) in
          omega arith;
      most = product_most t.times (first_pause t) t.period (power_most t.times h.times) f;
      idle_least = omega arith;
      idle_most = omega arith;
    }
