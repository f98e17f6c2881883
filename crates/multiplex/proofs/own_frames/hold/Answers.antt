use Rattle.std.proofs.Common.{◌≡◌, ◌⊎◌, inl, inr, List, cond, Result, Ok, Err}
use Rattle.std.specs.Prelude.{OnErr, is_ok}
use Rattle.multiplex.proofs.own_frames.hold.Goals as goal

held : {A T E : Type 0} (r : Result T E) (old more new : A) (P : Type 0)
    → new ≡ cond (is_ok r) more old → OnErr r P → (new ≡ more) ⊎ ((new ≡ old) × P)
held (Ok x) old more new P is full = inl is
held (Err e) old more new P is full = inr (is, full)

pub returns : goal.returns
returns c =
    held c.extend_from_slice.result _ _ _ _ c.extend_from_slice.ensures.items
    c.extend_from_slice.ensures.full
