use Rattle.std.proofs.Common.{◌≡◌, ◌⊎◌, true, false, ℕ, suc, ◌+◌, ◌-◌, ◌<◌, ◌≤◌, Option, Some, None}
use Rattle.std.proofs.Common.{IsSome, arith, inl, inr, refl, subst, sym}
use Rattle.std.{proofs.lemmas.Bool.cases_lt, specs.Option.is_some, specs.Option.option_map}
use Rattle.commands.specs.Accepted.{name_of}
use Rattle.table_people_views.proofs.people.free_number.Goals as goal

-- what was found is there
found_some : {X Y : Type 0} (of : X → Y) (found : Option X) (there : Option Y)
    → option_map of found ≡ there → is_some found ≡ true → IsSome there
found_some of (Some x) there same some = subst (λ o. IsSome o) same refl
found_some of None there same some = absurd (cc some)

-- what was not found is not there
found_none : {X Y : Type 0} (of : X → Y) (found : Option X) (there : Option Y)
    → option_map of found ≡ there → is_some found ≡ false → there ≡ None
found_none of (Some x) there same none = absurd (cc none)
found_none of None there same none = cc same

-- what is so of a number is so of the one before the next
just_before : (P : ℕ → Type 0) (n k : ℕ) → suc k ≡ n + 1 → P n → P k
just_before P n k same there = subst P (omega arith) there

-- what is so after a number, and of it, is so from it on
from_here : (P : ℕ → Type 0) (back k : ℕ) → back < 9999 → 9999 < k + (back + 1)
    → (9999 < k + back → P k) → P (9999 - back) → (9999 < k + back) ⊎ (k + back ≤ 9999) → P k
from_here P back k high past after here (inl more) = after more
from_here P back k high past after here (inr less) = subst P (omega arith) here

pub returns-then-is_some : goal.returns-then-is_some
returns-then-is_some c = record {
  in_range = (omega arith, omega arith);
  after = λ k low same.
      just_before (λ n. IsSome (name_of c.args.meet.now.accepted n)) (9999 - c.loop-back.back) k same
      (found_some (λ name. name.now) c.name.result _ c.name.ensures (sym c.if-is_some.ensures));
  free = λ k low below. c.loop-back.invariant k (omega arith) below;
}

pub loop-back-preserved : goal.loop-back-preserved
loop-back-preserved c =
    λ k past below.
    from_here (λ n. name_of c.args.meet.now.accepted n ≡ None) c.loop-back.back k (omega arith)
    past (λ more. c.loop-back.invariant k more below)
    (found_none (λ name. name.now) c.name.result _ c.name.ensures (sym c.if-is_some.ensures))
    (cases_lt 9999 (k + c.loop-back.back))

pub returns : goal.returns
returns c = record {
  in_range = (omega arith, omega arith);
  after = λ k low same. absurd (omega arith);
  free = λ k low below. c.loop-back.invariant k (omega arith) below;
}
