-- What a look at the desk leaves.
use Rattle.std.proofs.Common.{◌≡◌, ◌≢◌, refl, Option, None, Some, Result, Ok, Err, Bool, true}
use Rattle.std.proofs.Common.{false, ℕ, List, [], ◌∷◌, sym, subst}
use Rattle.polled.specs.Telling.{Tells}
use Rattle.multiplex.specs.{Musts.WereKeptAt, Passing.TicksBy, model.Ticks.own_of}
use Rattle.std.specs.Prelude.{OnOk, OnErr, is_err, is_some}
use Rattle.serving.specs.{Connection.Sides, Making.Way, OwnTicks.Ticks, OwnTicks.TicksInPart}
use Rattle.store.specs.declared.home.Home.{Home}
use Rattle.ticking.specs.Ticking.{Ticking}

pub ticks_by : {T E V : Type 0} {way : Way V} (r : Result T E) (home : Home) (a b : Sides way)
    → OnOk r (Ticks home a b) → OnErr r (TicksInPart home a b) → TicksBy (is_err r) home a b
ticks_by (Ok x) home a b ok err = ok
ticks_by (Err e) home a b ok err = err

pub own_same : {a b : Option Ticking} {x y : Bool} → a ≡ b → x ≡ y → own_of a x ≡ own_of b y
own_same t s = cc

pub none_of : {X : Type 0} (o : Option X) (b : Bool) → b ≡ is_some o → b ≡ false → o ≡ None
none_of None b is f = refl
none_of (Some x) b is f = absurd cc

pub some_of : {X : Type 0} (o : Option X) (b : Bool) → b ≡ is_some o → b ≡ true → o ≢ None
some_of None b is t = absurd cc
some_of (Some x) b is t = λ none. let n : Some x ≡ None = none in absurd cc

-- when the links were kept last
pub kept_at : (now : ℕ) (old kept new : Option (List ℕ)) → Tells old kept (now ∷ []) → new ≡ kept
    → WereKeptAt now new
kept_at now old kept new h is = subst (λ z. WereKeptAt now z) (sym is) (last old kept h)
  where
    last : (old kept : Option (List ℕ)) → Tells old kept (now ∷ []) → WereKeptAt now kept
    last old None h = tt
    last None (Some ys) h = absurd h
    last (Some xs) (Some ys) h = (xs, h)
