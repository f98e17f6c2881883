-- What was sent of late, and what was sent before and is not saved (the project's own).
use Rattle.std.specs.Prelude.{◌≡◌, ℕ, ◌-◌, ◌++◌, Bool, not, nat_lt, if◌then◌else◌, List, [], ◌∷◌}
use Rattle.std.specs.Prelude.{map, reverse, Option, None, Some}
use Rattle.std.specs.List.{AllByRecursion}
use Rattle.acceptor.specs.declared.entry.Entry.{Entry}
use Rattle.card_forms.specs.Entries.{card_in}
use Rattle.last_change.specs.Changes.{IsLastChange}
use Rattle.outbox.specs.declared.{item.Item.Item, state.ItemState.ItemState}
use Rattle.outbox.specs.{Items.ItemsOf, Items.is_answered, States.state_of}
use Rattle.table_views.specs.declared.around.Recent.{Recent}
use Rattle.texts.specs.declared.command.CardEntry.{CardEntry}
use Rattle.outbox.specs.declared.state.ItemState.TheVariants as state

-- a saved item is shown while this many more saved ones may be shown; any other, until a scoretaker
-- has answered it
abbrev pub is_shown : ItemState → Bool → ℕ → Bool
is_shown (state.Saved position) answered left = nat_lt 0 left
is_shown _ answered left = not answered

-- how many more of what is saved are shown
abbrev pub left_after : ItemState → ℕ → ℕ
left_after (state.Saved position) left = left - 1
left_after _ left = left

abbrev pub shown_if : Bool → Item → ItemState → List (Item × ItemState)
shown_if shows item became = if shows then (item, became) ∷ [] else []

-- the items that are shown of these, in their order
abbrev pub recent_from : List Entry → ItemsOf → ℕ → List (ℕ × Item) → List (Item × ItemState)
recent_from log list left [] = []
recent_from log list left (pair ∷ pairs) =
    shown_if (is_shown (state_of log pair.1.entry) (is_answered list pair.0) left) pair.1
    (state_of log pair.1.entry)
    ++ recent_from log list (left_after (state_of log pair.1.entry) left) pairs

-- the newest first, and ten of those that are saved
abbrev pub recent_in : List Entry → ItemsOf → List (Item × ItemState)
recent_in log list = recent_from log list 10 (reverse list.items)

abbrev pub shown : Recent → Item × ItemState
shown recent = (recent.item.now, recent.state)

-- ---- by which entry

abbrev pub IsByCard : List Entry → Option CardEntry → Option ℕ → Type 0
IsByCard log None by = by ≡ None
IsByCard log (Some card) by = IsLastChange log card.id card.number by

-- the last entry that changed the attempts of the competitor of a card; none where the text is no
-- card
abbrev pub IsByOf : List Entry → List ℕ → Option ℕ → Type 0
IsByOf log text by = IsByCard log (card_in text) by

-- the same for a card that was refused because its attempts were changed meanwhile; none for any
-- other
abbrev pub IsBy : List Entry → List ℕ → ItemState → Option ℕ → Type 0
IsBy log text (state.Changed position) by = IsByOf log text by
IsBy log text _ by = by ≡ None

abbrev pub IsByIn : List Entry → Recent → Type 0
IsByIn log recent = IsBy log recent.item.now.entry.text recent.state recent.by

abbrev pub AreBy : List Entry → List Recent → Type 0
AreBy log recents = AllByRecursion (IsByIn log) recents

-- these are the items that are shown
pub record AreRecent (log : List Entry) (list : ItemsOf) (recents : List Recent) : Type 0 where
  pub items : map shown recents ≡ recent_in log list
  pub by : AreBy log recents
