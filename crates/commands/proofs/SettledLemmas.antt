-- What an entry that is settled makes of its round.
use Rattle.std.proofs.Common.{◌≡◌, ◌≤◌, ◌==◌, ◌&&◌, ℕ, cond, List, get_or, set, Option, Some, Bool}
use Rattle.std.proofs.Common.{refl, sym, ap, subst, ◌∙◌}
use Rattle.cube.specs.declared.moves.Move.{Move}
use Rattle.attempts.specs.declared.Value.{Value}
use Rattle.rounds.specs.Tables.{Table}
use Rattle.texts.specs.declared.command.{AttemptEntry.AttemptEntry, Settings.Settings}
use Rattle.formats.specs.declared.events.Event.{Event}
use Rattle.commands.specs.declared.kept_rounds.{KeptRound.KeptRound, KeptRounds.KeptRounds}
use Rattle.commands.specs.{declared.solutions.Solutions.Solutions, Accepted.settled}
use Rattle.commands.specs.model.{Settled.IsSettled, Kept.ChangesRound, Kept.EntersRound}
use Rattle.commands.specs.{Accepted.is_solution, model.Solved.is_noted, model.Solved.KeepsNotes}
use Rattle.commands.proofs.KeptLemmas.{KeepsBeside, kept_is, round_entered, round_as_before}

module _ (entry : AttemptEntry) (scramble : Option (List Move)) (kept : KeptRounds) (place : ℕ)
    (value : Value) (is : IsSettled entry scramble kept place value) (old : KeptRound)
    (there : old ≡ get_or kept.opened.items place old) where
  abbrev pub pair : Settings × Table
  pair = (old.settings, old.table)

  round_is : is.round ≡ pair
  round_is =
      let same : Some is.round ≡ Some pair =
      sym is.there
      ∙ kept_is kept.opened.items entry.id.event entry.id.round place old is.at there in
      cc

  pub value_is : value ≡ settled old.settings scramble entry.outcome
  value_is =
      subst (λ (r : Settings × Table). value ≡ settled r.0 scramble entry.outcome) round_is
      is.settles

  -- what is written, but for the table and the notes
  keeps : (t : Table) (s : Solutions) → KeepsBeside old (record old { table = t; solutions = s })
  keeps t s = record { event = refl; round = refl; scrambles = refl; waiting = refl; seen = refl }

  -- what is entered changes that round alone
  pub entered_to : (table : Table) (made solutions : Solutions) (solved : Bool)
      (change : Settings × Table → Settings × Table)
      → solved ≡ is_solution entry.outcome → KeepsNotes old.solutions made → ((m j : ℕ) → 1 ≤ j
      → is_noted solutions m j
      ≡ cond (m == entry.number && j == entry.attempt) solved (is_noted made m j))
      → (let round : Settings × Table = (old.settings, table) in round) ≡ change pair
      → EntersRound entry.id.event entry.id.round entry.attempt entry.number entry.outcome change
      kept.opened.items
      (set kept.opened.items place (record old { table = table; solutions = solutions }))
  entered_to table made solutions solved change is_solved room notes says =
      round_entered kept.opened.items entry.id.event entry.id.round place entry.attempt
      entry.number entry.outcome old (record old { table = table; solutions = solutions }) change
      is.at there (keeps table solutions) (λ m j low.
      notes m j low
      ∙ ap (λ b. cond (m == entry.number && j == entry.attempt) b (is_noted made m j)) is_solved
      ∙ ap (cond (m == entry.number && j == entry.attempt) (is_solution entry.outcome)) (room m j))
      says

  -- where it is refused, nothing is looked up otherwise
  pub as_before_to : (solutions : Solutions) → KeepsNotes old.solutions solutions
      → (f : Event) (s : ℕ) → ChangesRound f s (λ round. round) kept.opened.items
      (set kept.opened.items place (record old { solutions = solutions }))
  as_before_to solutions notes =
      round_as_before kept.opened.items entry.id.event entry.id.round place old
      (record old { solutions = solutions }) is.at there (keeps old.table solutions) notes refl
