-- The two ways to say that a desk is one of a hall of 3 or 5, and its first state.
use Rattle.std.proofs.Common.{◌≡◌, ◌⊎◌, refl, inl, inr, true, ◌<◌, ◌^◌, [], arith}
use Rattle.std.proofs.lemmas.Bool.Decides.{nat_tests}
use Rattle.store.specs.{declared.home.Home.Home, Ranges.IsHome, Ranges.is_housed, Whole.IsSound}
use Rattle.acceptor.specs.Storing.{first_stored}

pub to_home : (h : Home) → is_housed h ≡ true → IsHome h
to_home h e = record { desks = desks; desk = (grind (arith, nat_tests), grind (arith, nat_tests)) }
  where
    desks : (h.desks ≡ 3) ⊎ (h.desks ≡ 5)
    desks = grind (arith, nat_tests)

pub from_home : (h : Home) → IsHome h → is_housed h ≡ true
from_home h i = elim i.desks [
  | inl three ↦ (let low = i.desk.0 in let high = i.desk.1 in grind (arith, nat_tests))
  | inr five ↦ (let low = i.desk.0 in let high = i.desk.1 in grind (arith, nat_tests))
]

-- the first state of such a desk is in its ranges
pub first_is_sound : (h : Home) → IsHome h → h.hall < 2 ^ 32 → IsSound h first_stored []
first_is_sound h i hall =
    let few : h.desks < 6 =
    elim i.desks [ inl three ↦ omega (arith, three) | inr five ↦ omega (arith, five) ] in
    let high = i.desk.1 in
    record {
      place = i;
      row =
          record {
            hall = hall;
            desk = omega (arith, few, high);
            desks = omega (arith, few);
            number = omega arith;
            promised = omega arith;
            tried = omega arith;
            vote = tt;
          };
      stored = (inl refl, tt);
      log = (tt, omega arith);
    }
