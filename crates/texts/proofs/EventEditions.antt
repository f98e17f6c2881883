-- Which editions spell a command, by the edition of its event: for proofs of single commands.
use Rattle.std.proofs.Common.{◌≡◌, ◌≤◌, ◌&&◌, ℕ, true, None, refl, arith}
use Rattle.std.{specs.Prelude.max, specs.Prelude.nat_le, proofs.lemmas.Bool.Decides.nat_tests}
use Rattle.formats.specs.declared.events.Event.{Event, TheVariants.Cube3}
use Rattle.formats.specs.Events.{event_edition}
use Rattle.texts.specs.declared.command.Command.TheVariants.{Open, Enter}
use Rattle.texts.specs.declared.command.{RoundId.RoundId, Settings.Settings}
use Rattle.texts.specs.{Editions.is_spelled_in, Reading.told, Table.rows}
use Rattle.texts.specs.declared.command.Entered.TheVariants as entered

-- an event is of edition 1 or a later one
pub event_later : (e : Event) → max 1 (event_edition e) ≡ event_edition e
event_later Cube3 = refl
event_later _ = refl

event_some : (e : Event) → 1 ≤ event_edition e
event_some Cube3 = omega arith
event_some _ = omega arith

-- a command without a remark is of edition 1 or a later one
no_remark : (n edition : ℕ) → 1 ≤ n → nat_le n edition ≡ true
    → (nat_le n edition && nat_le 1 edition) ≡ true
no_remark n edition some h =
    let first : nat_le 1 edition ≡ true = grind (arith, nat_tests, some, h) in rw (h, first) refl

pub open_spelled : (edition : ℕ) (id : RoundId) (s : Settings)
    → nat_le (event_edition id.event) edition ≡ true
    → is_spelled_in edition (told None (Open id s)) ≡ true
unfolding rows
open_spelled edition id s h =
    rw (event_later id.event) (no_remark _ edition (event_some id.event) h)

pub enter_spelled : (edition : ℕ) (e : Event) (n : ℕ)
    → nat_le (event_edition e) edition ≡ true
    → is_spelled_in edition (told None (Enter e n)) ≡ true
unfolding rows
enter_spelled edition e n h = rw (event_later e) (no_remark _ edition (event_some e) h)
