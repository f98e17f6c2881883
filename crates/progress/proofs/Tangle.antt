-- A world that meets the premises of the laws.
use Rattle.std.proofs.Common.{◌≤◌, ◌+◌, ◌*◌, ℕ, inl, inr, refl, [], ◌∷◌, length, arith, subst}
use Rattle.learner.specs.{Chosen.Has, Chosen.IsMajority, Steps.IsDesk}
use Rattle.progress.specs.Progress.{HasRoom, NoDeskIsStuck}
use Rattle.progress.specs.Turns.{HasTurnRoom, NoServingDeskIsStuck}
use Rattle.progress.specs.Tangle.{tangle, tangled, these, entry, TangleIsDecided}

-- what holds of desks 1 and 3 holds of each of these
pub of_these : (P : ℕ → Type 0) → P 1 → P 3 → (j : ℕ) → Has these j → P j
of_these P one three j (inl is) = subst P is one
of_these P one three j (inr (inl is)) = subst P is three
of_these P one three j (inr (inr none)) = absurd none

pub majority : IsMajority 3 these
majority = record {
  distinct = (λ has. go has, (λ none. none, tt));
  ours = of_these (λ j. IsDesk 3 j) (omega arith, omega arith) (omega arith, omega arith);
  many = omega arith;
}
  where
    go : Has (3 ∷ []) 1 → ⊥
    go (inl is) = absurd (omega (arith, is))
    go (inr none) = none

room : HasRoom 1 these tangled 1
room = record {
  logs = of_these (λ j. length (tangled.desks j).log + 2 * 1 ≤ 65536) (omega arith) (omega arith);
  promised = of_these _ (omega arith) (omega arith);
  tried = omega arith;
  seen = omega arith;
}

turn_room : HasTurnRoom 1 these tangled 1
turn_room = record {
  logs = of_these (λ j. length (tangled.desks j).log + 2 * 1 ≤ 65536) (omega arith) (omega arith);
  promised = of_these _ (omega arith) (omega arith);
  tried = omega arith;
  seen = omega arith;
}

-- both, and desks 1 and 3 among these
pub and : {A B : Type 0} → A → B → A × B
and a b = (a, b)

one : Has these 1
one = inl refl

three : Has these 3
three = inr (inl refl)

pub tangle_is_decided : NoDeskIsStuck → NoServingDeskIsStuck → TangleIsDecided
tangle_is_decided first serving = record {
  restarted = refl;
  rival = refl;
  outbid = refl;
  majority = majority;
  has = one;
  room = room;
  turn_room = turn_room;
  decides = first 3 tangle 1 these (entry 9) [] majority (inl refl) refl room;
  turns = serving 3 tangle 1 these (entry 9 ∷ []) [] majority (inl refl) refl turn_room;
  helps = search (and, one, three, arith);
  log = refl;
  queue = refl;
}
