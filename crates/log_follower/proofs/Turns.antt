-- Desks come in turn, and none is forgotten.
use Rattle.std.proofs.Common.{◌≡◌, refl, sym, ap, subst, ◌∙◌, ℕ, zero, suc, ◌+◌, ◌-◌, ◌≤◌, ◌<◌}
use Rattle.std.proofs.Common.{List, [], ◌∷◌, length, take, get_or, Bool, true, false, arith}
use Rattle.std.proofs.Common.{if◌then◌else◌, ◌⊎◌, inl, inr, ◌≢◌}
use Rattle.std.{specs.Prelude.Contains, proofs.lemmas.List.get_or-take}
use Rattle.std.proofs.lemmas.{Bool.Decides.eqb_tells, Bool.Decides.leb_tells, List.length-take-le}
use Rattle.log_follower.specs.Following.{next_place}
use Rattle.log_follower.specs.Laws.{IsNextOf, AreInTurn, EachIsAmong}

-- where there is no connection to the desk that is followed, its opening is next; where there is
-- one, its opening was the last
abbrev pub IsTurn : ℕ → ℕ → (closed : Bool) → List ℕ → Type 0
IsTurn desks desk true opened = AreInTurn desks (desk ∷ opened)
IsTurn desks desk false opened = (more : List ℕ) × (opened ≡ desk ∷ more) × AreInTurn desks opened

pub turn_opened : (desks desk d : ℕ) (opened : List ℕ) → d ≡ desk → IsTurn desks desk true opened
    → IsTurn desks desk false (d ∷ opened)
turn_opened desks desk d opened is h =
    (opened, ap (λ z. z ∷ opened) is, subst (λ z. AreInTurn desks (z ∷ opened)) (sym is) h)

pub turn_left : (desks desk : ℕ) (opened : List ℕ) → IsTurn desks desk false opened
    → IsTurn desks (next_place desks desk) true opened
turn_left desks desk opened h =
    (subst (λ z. IsNextOf desks (next_place desks desk) z) (sym h.1) refl, h.2)

-- ---- each desk is among the last

next_cases : (desks desk : ℕ) → ((desk ≡ desks) × (next_place desks desk ≡ 1))
    ⊎ ((desk ≢ desks) × (next_place desks desk ≡ desk + 1))
next_cases desks desk =
    elim (eqb_tells desk desks) [
      | inl h ↦ inl (h.1, ap (λ z. if z then 1 else desk + 1) h.0)
      | inr h ↦ inr (h.1, ap (λ z. if z then 1 else desk + 1) h.0)
    ]

turn_first : (desks desk : ℕ) (more : List ℕ) → IsNextOf desks desk more → 1 ≤ desk
turn_first desks desk [] h = omega (arith, h)
turn_first desks desk (before ∷ more) h =
    elim (next_cases desks before) [
      | inl k ↦ let is : desk ≡ 1 = h ∙ k.1 in omega (arith, is)
      | inr k ↦ let is : desk ≡ before + 1 = h ∙ k.1 in omega (arith, is)
    ]

turn_most : (desks : ℕ) (desk : ℕ) (more : List ℕ) → 1 ≤ desks → AreInTurn desks (desk ∷ more)
    → desk ≤ desks
turn_most desks desk [] some h = let is : desk ≡ 1 = h.0 in omega (arith, is, some)
turn_most desks desk (before ∷ more) some h =
    let most = turn_most desks before more some h.1 in
    elim (next_cases desks before) [
      | inl k ↦ let is : desk ≡ 1 = h.0 ∙ k.1 in omega (arith, is, some)
      | inr k ↦
          let is : desk ≡ before + 1 = h.0 ∙ k.1 in
          let other = k.0 in omega (arith, is, other, most)
    ]

-- going back from a desk, those with lower numbers come
lower : (desks desk : ℕ) (more : List ℕ) (back d : ℕ) → AreInTurn desks (desk ∷ more)
    → back < length (desk ∷ more) → back < desk → get_or (desk ∷ more) back d ≡ desk - back
lower desks desk more zero d h there less = let e : desk ≡ desk - 0 = omega arith in e
lower desks desk [] (suc back) d h there less = absurd (omega (arith, there))
lower desks desk (before ∷ more) (suc back) d h there less =
    elim (next_cases desks before) [
      | inl k ↦ let is : desk ≡ 1 = h.0 ∙ k.1 in absurd (omega (arith, is, less))
      | inr k ↦
          let is : desk ≡ before + 1 = h.0 ∙ k.1 in
          lower desks before more back d h.1 (omega (arith, there)) (omega (arith, is, less))
          ∙ (let e : before - back ≡ desk - suc back = omega (arith, is) in e)
    ]

-- and before the first desk the last one
higher : (desks desk : ℕ) (more : List ℕ) (back d : ℕ) → AreInTurn desks (desk ∷ more)
    → desk + back < length (desk ∷ more) → back < desks
    → get_or (desk ∷ more) (desk + back) d ≡ desks - back
higher desks desk [] back d h there less =
    let some = turn_first desks desk [] h.0 in absurd (omega (arith, some, there))
higher desks desk (before ∷ more) back d h there less =
    elim (next_cases desks before) [
      | inl k ↦
          let is : desk ≡ 1 = h.0 ∙ k.1 in
          let last : before ≡ desks = k.0 in
          let at : desk + back ≡ suc back = omega (arith, is) in
          ap (λ z. get_or (desk ∷ before ∷ more) z d) at
          ∙ lower desks before more back d h.1 (omega (arith, at, there))
          (omega (arith, last, less)) ∙ ap (λ z. z - back) last
      | inr k ↦
          let is : desk ≡ before + 1 = h.0 ∙ k.1 in
          let at : desk + back ≡ suc (before + back) = omega (arith, is) in
          ap (λ z. get_or (desk ∷ before ∷ more) z d) at
          ∙ higher desks before more back d h.1 (omega (arith, at, there)) less
    ]

among : (desks head : ℕ) (more : List ℕ) (desk back : ℕ) → back < desks
    → desks ≤ length (head ∷ more) → get_or (head ∷ more) back desk ≡ desk
    → Contains (take desks (head ∷ more)) desk
among desks head more desk back less many is = (
  back,
  (let e = length-take-le desks (head ∷ more) many in omega (arith, e, less)),
  get_or-take desks (head ∷ more) back desk less ∙ is,
)

pub each_is_among : (desks : ℕ) (opened : List ℕ) → 1 ≤ desks → AreInTurn desks opened
    → EachIsAmong desks opened
each_is_among desks [] some h desk place many = absurd (omega (arith, some, many))
each_is_among desks (head ∷ more) some h desk place many =
    let first = place.first in
    let last = place.last in
    let top = turn_most desks head more some h in
    elim (leb_tells desk head) [
      | inl k ↦
          let low : desk ≤ head = k.1 in
          among desks head more desk (head - desk) (omega (arith, first, low, top)) many
          (lower desks head more (head - desk) desk h (omega (arith, first, low, top, many))
          (omega (arith, first, low))
          ∙ (let e : head - (head - desk) ≡ desk = omega (arith, low) in e))
      | inr k ↦
          let high : head < desk = k.1 in
          among desks head more desk (head + (desks - desk)) (omega (arith, high, last)) many
          (higher desks head more (desks - desk) desk h (omega (arith, high, last, many))
          (omega (arith, first, last))
          ∙ (let e : desks - (desks - desk) ≡ desk = omega (arith, last) in e))
    ]
