-- The empty text changes nothing.
use Rattle.std.proofs.Common.{◌≡◌, inl, inr, ℕ, [], Ok, refl, sym, ap, subst, subst₂, ◌∙◌}
use Rattle.sqlite.specs.{Tree.Trees, Command.TheVariants.Nothing, Does.Does, Clock.timed}
use Rattle.sqlite.specs.State.{State, IsUnchanged, Executes, CommitsBy, mode_of, text_of}
use Rattle.sqlite.proofs.Callers.{IsPlain, command_of, runs_as}
use Rattle.store.proofs.Texts.{empty_is, empty_plain}

pub unchanged : (old new : State) (count : ℕ) → Executes [] [] old new (Ok count)
    → IsUnchanged old new
unchanged old new count ran =
    (runs_as [] [] old new old.now.schema refl Nothing (empty_is old.now.schema)
    (empty_plain old.now.schema) count ran).0

pub never : (s : State) (db : Trees) → CommitsBy [] [] s db → ⊥
unfolding CommitsBy
never s db h =
    let known = sym h.1.is in
    let bare = subst IsPlain (sym known) (empty_plain s.now.schema) in
    let named : h.0.command ≡ Nothing = ap command_of known ∙ empty_is s.now.schema in
    elim h.2 [
      | inl ends ↦ elim ends.0 [
        | inl commit ↦ absurd (let e = sym named ∙ commit in cc)
        | inr release ↦ absurd (let e = sym named ∙ release.2 in cc)
      ]
      | inr wrote ↦
          let full = timed [] h.0.formats h.1.now in
          let done =
          subst₂
          (λ k r.
          Does s.step_limit (mode_of s) full s.now (text_of [] h.0) r k (Ok (wrote.1, wrote.2)))
          named bare.0 wrote.3 in
          cc
    ]
