-- The lines of a script: how the events of a hall are spelled, and which lines spell one (the
-- project's own).
use Rattle.std.specs.Prelude.{◌≡◌, ◌≤◌, ℕ, List, ◌∷◌, [], ◌++◌, map, codes, decimal, Option, None}
use Rattle.std.specs.Prelude.{Some}
use Rattle.acceptor.specs.Entries.{EntryValue, IsId, IsText}
use Rattle.learner.specs.declared.event.WorldEvent.{WorldEvent, TheVariants.Restart}
use Rattle.learner.specs.declared.event.WorldEvent.TheVariants.{Submit, Start, Tick, Deliver}
use Rattle.learner.specs.Steps.{IsDesk}

-- an event: its word, and its fields in decimal, parted by one space each; a text is all that
-- follows the space after the id
abbrev pub spelling : WorldEvent → List ℕ
spelling (Submit d e) =
    codes "submit " ++ decimal d ++ codes " " ++ decimal e.id ++ codes " " ++ e.text
spelling (Start d) = codes "start " ++ decimal d
spelling (Tick d) = codes "tick " ++ decimal d
spelling (Deliver k) = codes "deliver " ++ decimal k
spelling (Restart d) = codes "restart " ++ decimal d

-- the most that a script delivers by number
abbrev pub most_delivered : ℕ
most_delivered = 999999999

-- at n desks: the desk is one of them, the entry is one, and the message has a number of 1 to
-- 999,999,999
abbrev pub IsFit : ℕ → WorldEvent → Type 0
IsFit n (Submit d e) = IsDesk n d × IsId e.id × IsText e.text
IsFit n (Start d) = IsDesk n d
IsFit n (Tick d) = IsDesk n d
IsFit n (Deliver k) = (1 ≤ k) × (k ≤ most_delivered)
IsFit n (Restart d) = IsDesk n d

abbrev pub AreFit : ℕ → List WorldEvent → Type 0
AreFit n [] = Unit {0}
AreFit n (e ∷ es) = IsFit n e × AreFit n es

-- at n desks the line is the spelling of this event
abbrev pub Spells : ℕ → List ℕ → WorldEvent → Type 0
Spells n line e = IsFit n e × (line ≡ spelling e)

-- the line is the spelling of no event
abbrev pub SpellsNone : ℕ → List ℕ → Type 0
SpellsNone n line = (e : WorldEvent) → Spells n line e → ⊥

-- the event that was read of a line is the one that it spells, and none was where it spells none
abbrev pub IsRead : ℕ → List ℕ → Option WorldEvent → Type 0
IsRead n line None = SpellsNone n line
IsRead n line (Some e) = Spells n line e

-- the line is the spelling of a Submit
abbrev pub SpellsSubmit : ℕ → List ℕ → Type 0
SpellsSubmit n line = (d : ℕ) × (e : EntryValue) × Spells n line (Submit d e)

-- after these events the lines end, or one spells none
abbrev pub EndsScript : ℕ → List (List ℕ) → Type 0
EndsScript n [] = Unit {0}
EndsScript n (line ∷ lines) = SpellsNone n line

-- the lines are the spellings of these events and then these others, of which the first, where
-- there is one, spells none
pub record HasEvents (n : ℕ) (lines : List (List ℕ)) (events : List WorldEvent)
    (others : List (List ℕ)) : Type 0 where
  pub parts : lines ≡ map spelling events ++ others
  pub fit : AreFit n events
  pub ends : EndsScript n others

-- The laws, at 255 desks at most: an event has a spelling of its own, and lines have one list of
-- events.

abbrev pub SpellsOneEvent : Type 0
SpellsOneEvent =
    (n : ℕ) (line : List ℕ) (d e : WorldEvent) → n ≤ 255 → Spells n line d → Spells n line e → d ≡ e

abbrev pub HasOneScript : Type 0
HasOneScript =
    (n : ℕ) (lines : List (List ℕ)) (ds es : List WorldEvent) (left rest : List (List ℕ)) → n ≤ 255
    → HasEvents n lines ds left → HasEvents n lines es rest → (ds ≡ es) × (left ≡ rest)
