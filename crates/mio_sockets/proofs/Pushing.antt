-- A frame that is given to the link of its desk.
use Rattle.std.proofs.Common.{◌≡◌, ◌≢◌, refl, sym, ap, subst, ◌∙◌, inl, inr, ℕ, ◌+◌, suc, List, []}
use Rattle.std.proofs.Common.{◌∷◌, ◌++◌, take, drop, get_or, set, None, Some, Bool, cond, ◌==◌}
use Rattle.std.proofs.{Common.true, Common.false, Math.Seq.drop-cons}
use Rattle.std.proofs.lemmas.Bool.{false≢true}
use Rattle.std.proofs.lemmas.{Bool.Decides.eqb_tells, Iterator.Adapters.position_from-zero}
use Rattle.std.proofs.lemmas.List.{set_split, take-append-drop, Quantifiers.position-Some}
use Rattle.std.specs.{List.AllByRecursion, List.position_from, Prelude.position}
use Rattle.mio_sockets.specs.Wiring.{NeighbourOf, TakesFrame, PushesTo, has_number}

is_number : (a b : ℕ) → (a == b) ≡ true → a ≡ b
is_number a b h =
    elim (eqb_tells a b) [ inl e ↦ e.1 | inr e ↦ absurd (false≢true (sym e.0 ∙ h)) ]

is_other : (a b : ℕ) → (a == b) ≡ false → a ≢ b
is_other a b h =
    elim (eqb_tells a b) [ inl e ↦ absurd (false≢true (sym h ∙ e.0)) | inr e ↦ e.1 ]

none_passes : {X : Type 0} (p : X → Bool) (i : ℕ) (xs : List X) → position_from p i xs ≡ None
    → AllByRecursion (λ x. p x ≡ false) xs
none_passes p i [] h = tt
none_passes {X} p i (x ∷ xs) h =
    let first = go (p x) h in (first.0, none_passes p (i + 1) xs first.1)
  where
    go : (b : Bool) → cond b (Some i) (position_from p (i + 1) xs) ≡ None
        → (b ≡ false) × (position_from p (i + 1) xs ≡ None)
    go true none = absurd cc
    go false none = (refl, none)

others : {W : Type 0} (to : ℕ) (ns : List (NeighbourOf W))
    → AllByRecursion (λ n. has_number to n ≡ false) ns → AllByRecursion (λ n. n.line.desk ≢ to) ns
others to [] h = tt
others to (n ∷ ns) h = (is_other n.line.desk to h.0, others to ns h.1)

-- no desk has this number
pub pushed_nowhere : {W : Type 0} (to : ℕ) (frame : List ℕ) (old : List (NeighbourOf W))
    → position (has_number to) old ≡ None → PushesTo to frame old old
pushed_nowhere to frame old h =
    inr (
      others to old (none_passes (has_number to) 0 old
          (sym (position_from-zero (has_number to) old) ∙ h)),
      refl,
    )

-- the desk at this place has it
pub pushed_at : {W : Type 0} (to : ℕ) (frame : List ℕ) (old : List (NeighbourOf W)) (i : ℕ)
    (a b : NeighbourOf W) → position (has_number to) old ≡ Some i → a ≡ get_or old i a
    → TakesFrame frame a.line b.line → b.wire ≡ a.wire → PushesTo to frame old (set old i b)
pushed_at {W} to frame old i a b found at takes wire =
    let there = position-Some (has_number to) old i a found in
    inl (record {
      before = take i old;
      after = drop (suc i) old;
      a = a;
      b = b;
      was = sym (take-append-drop i old)
          ∙ ap (λ (ns : List (NeighbourOf W)). take i old ++ ns)
          (drop-cons old i a there.0 ∙ ap (λ (n : NeighbourOf W). n ∷ drop (suc i) old) (sym at));
      is = set_split old i b there.0;
      to_it = is_number a.line.desk to
          (subst (λ (n : NeighbourOf W). has_number to n ≡ true) (sym at) there.1);
      takes = takes;
      wire = wire;
    })
