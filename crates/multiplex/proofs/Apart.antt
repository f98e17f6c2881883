-- Clients that have numbers of their own.
use Rattle.std.proofs.Common.{◌≡◌, ◌≢◌, sym, subst, ◌∙◌, ℕ, ◌<◌, List, [], ◌∷◌, ◌++◌, arith}
use Rattle.std.specs.List.{AllByRecursion}
use Rattle.multiplex.specs.declared.table.Guest.{Guest}
use Rattle.multiplex.proofs.Placed.{all_back, all_both, all_front}

abbrev pub Other : ℕ → Guest → Type 0
Other k o = o.number ≢ k

abbrev pub Apart : List Guest → Type 0
Apart [] = Unit {0}
Apart (g ∷ gs) = AllByRecursion (Other g.number) gs × Apart gs

abbrev pub Below : ℕ → Guest → Type 0
Below n g = g.number < n

-- the others have other numbers than the one in the middle
pub others : (before : List Guest) (g : Guest) (after : List Guest) → Apart (before ++ g ∷ after)
    → AllByRecursion (Other g.number) before × AllByRecursion (Other g.number) after
others [] g after h = (tt, h.0)
others (x ∷ before) g after h =
    let later = others before g after h.1 in
    let here = (all_back (Other x.number) before (g ∷ after) h.0).0 in
    ((λ e. here (sym e), later.0), later.1)

pub without : (before : List Guest) (g : Guest) (after : List Guest) → Apart (before ++ g ∷ after)
    → Apart (before ++ after)
without [] g after h = h.1
without (x ∷ before) g after h = (
  all_both (Other x.number) before after (all_front (Other x.number) before (g ∷ after) h.0)
      (all_back (Other x.number) before (g ∷ after) h.0).1,
  without before g after h.1,
)

pub instead : (before : List Guest) (g new : Guest) (after : List Guest) → new.number ≡ g.number
    → Apart (before ++ g ∷ after) → Apart (before ++ new ∷ after)
instead [] g new after same h =
    (subst (λ n. AllByRecursion (Other n) after) (sym same) h.0, h.1)
instead (x ∷ before) g new after same h =
    let behind = all_back (Other x.number) before (g ∷ after) h.0 in (
      all_both (Other x.number) before (new ∷ after)
          (all_front (Other x.number) before (g ∷ after) h.0)
          (λ e. behind.0 (sym same ∙ e), behind.1),
      instead before g new after same h.1,
    )

-- one more, whose number is above all
pub one_behind : (gs : List Guest) (g : Guest) → AllByRecursion (Below g.number) gs → Apart gs
    → Apart (gs ++ g ∷ [])
one_behind [] g low h = (tt, tt)
one_behind (x ∷ gs) g low h = (
  all_both (Other x.number) gs (g ∷ []) h.0 (λ e. omega (arith, e, low.0), tt),
  one_behind gs g low.1 h.1,
)
