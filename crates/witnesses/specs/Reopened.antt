-- A round that is closed, and may be opened again (the project's own).
use Rattle.std.specs.Prelude.{◌≡◌, List, [], ◌∷◌, codes, None, Some}
use Rattle.formats.specs.declared.advance.Advance.TheVariants.{Final}
use Rattle.formats.specs.declared.events.{Event.TheVariants.Cube3, Format.TheVariants.Bo1}
use Rattle.texts.specs.Fields.{attempt_entry, round_id}
use Rattle.texts.specs.declared.command.{Command.Command, Entered.TheVariants.Time}
use Rattle.texts.specs.declared.command.Command.TheVariants.{Register, Open, Enter, Attempt, Close}
use Rattle.texts.specs.declared.command.Command.TheVariants.{SetEdition, Rename, Reopen}
use Rattle.commands.specs.Accepted.{refusal}

abbrev pub closed : List Command
closed =
    SetEdition 3 ∷ Register 1 (codes "Ann") ∷ Open (round_id Cube3 1)
    (record { format = Bo1; cutoff = None; limit = Some 60000; advance = Final })
    ∷ Enter Cube3 1 ∷ Attempt (attempt_entry (round_id Cube3 1) 1 1 (Time 900 0))
    ∷ Close (round_id Cube3 1) ∷ []

pub record WorksReopening : Type 0 where
  pub reopens : refusal closed (Reopen (round_id Cube3 1)) ≡ None
  pub renames : refusal closed (Rename 1 (codes "Zoe")) ≡ None
