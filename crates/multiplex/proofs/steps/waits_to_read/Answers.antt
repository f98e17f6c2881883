use Rattle.std.proofs.Common.{◌≡◌, ◌≢◌, ◌↔◌, ◌∙◌, refl, inl, inr, Option, None, ℕ, true, false}
use Rattle.std.{proofs.Common.Some, proofs.Common.Bool, specs.Prelude.is_some, specs.Prelude.IsTrue}
use Rattle.multiplex.specs.{Musts.WaitsToRead, declared.table.Guest.Guest}
use Rattle.guarded.specs.LockedConnections.{WantsRead}
use Rattle.multiplex.proofs.Looking.{some_of}
use Rattle.multiplex.proofs.steps.waits_to_read.Goals as goal

pub returns-then-wants_read : goal.returns-then-wants_read
returns-then-wants_read c = (λ t. inl (c.if-wants_read.ensures.0 refl), λ waits. refl)

is_there : (g : Guest) (off : Bool) → (IsTrue false ↔ WantsRead g.talk)
    → off ≡ is_some g.notes.until → WaitsToRead g → off ≡ true
is_there g off h is (inl wants) = let n : false ≡ true = h.1 wants in absurd cc
is_there g off h is (inr there) = is ∙ some_if g.notes.until there
  where
    some_if : (o : Option ℕ) → o ≢ None → is_some o ≡ true
    some_if None at = absurd (at refl)
    some_if (Some x) at = refl

pub returns : goal.returns
returns c = (
  λ t. inr (some_of c.args.guest.now.notes.until c.is_some.result c.is_some.ensures t),
  λ waits.
      is_there c.args.guest.now c.is_some.result c.if-wants_read.ensures c.is_some.ensures waits,
)
