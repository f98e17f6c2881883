-- The items of an outbox: each is one entry, and is on one line of the journal (the project's own).
use Rattle.std.specs.Prelude.{◌≡◌, ℕ, ◌≤◌, Bool, true, not, take, List, [], ◌∷◌, ◌++◌, None, Some}
use Rattle.std.specs.Prelude.{◌==◌, false, nat_eq, nat_le, if◌then◌else◌, bytes_eq, length, Option}
use Rattle.std.specs.{List.AllByRecursion, List.list_all, List.list_any, Map.lookup}
use Rattle.indexmap.specs.IndexSet.{insert_key}
use Rattle.acceptor.specs.declared.entry.Entry.{Entry}
use Rattle.outbox.specs.declared.item.{Item.Item, QueueOutcome.QueueOutcome}
use Rattle.outbox.specs.Lines.{answered_line, item_line, with_end}
use Rattle.outbox.specs.declared.item.QueueOutcome.TheVariants as taken

-- the items by their ids, in the order in which they were taken; how many of the first of them are
-- in the journal; the lines that are to be put there; and the ids of those that a scoretaker has
-- answered
pub record ItemsOf : Type 0 where
  pub items : List (ℕ × Item)
  pub kept : ℕ
  pub lines : List ℕ
  pub answered : List ℕ

abbrev pub items_of : List (ℕ × Item) → ℕ → List ℕ → List ℕ → ItemsOf
items_of items kept lines answered =
    record { items = items; kept = kept; lines = lines; answered = answered }

abbrev pub no_items : ItemsOf
no_items = items_of [] 0 [] []

-- an item is under the id of its entry
abbrev pub IsUnderItsId : ℕ × Item → Type 0
IsUnderItsId pair = pair.0 ≡ pair.1.entry.id

-- memory has a bound; and what is in the journal are items
pub record IsInBounds (q : ItemsOf) : Type 0 where
  pub few : length q.items ≤ 65536
  pub kept : q.kept ≤ length q.items
  pub ids : AllByRecursion IsUnderItsId q.items

-- ---- what is known

-- the item of an id
abbrev pub item_in : ItemsOf → ℕ → Option Item
item_in q id = lookup (nat_eq id) q.items

abbrev pub is_answered : ItemsOf → ℕ → Bool
is_answered q id = list_any (nat_eq id) q.answered

abbrev pub is_full : ItemsOf → Bool
is_full q = nat_le 65536 (length q.items)

abbrev pub is_no_end : ℕ → Bool
is_no_end byte = not (byte == 10)

-- a text can be on a line
abbrev pub is_line : List ℕ → Bool
is_line text = list_all is_no_end text

-- ---- what is taken

abbrev pub taken_at : Entry → ℕ → Item
taken_at entry now = record { entry = entry; since = now }

-- one more item, whose line is to be put into the journal
abbrev pub queued : ItemsOf → Entry → ℕ → ItemsOf
queued q entry now =
    items_of (q.items ++ (entry.id, taken_at entry now) ∷ []) q.kept
    (q.lines ++ with_end (item_line entry)) q.answered

-- an entry of an id that is known is what it was, or another one
abbrev pub known_as : Item → Entry → QueueOutcome
known_as item entry = if bytes_eq item.entry.text entry.text then taken.Same else taken.Other

abbrev pub TakesNew : ItemsOf → Entry → ℕ → QueueOutcome → ItemsOf → Type 0
TakesNew old entry now taken.New new =
    (is_line entry.text ≡ true) × (is_full old ≡ false) × (new ≡ queued old entry now)
TakesNew old entry now taken.Unfit new = (is_line entry.text ≡ false) × (new ≡ old)
TakesNew old entry now taken.Full new =
    (is_line entry.text ≡ true) × (is_full old ≡ true) × (new ≡ old)
TakesNew old entry now taken.Same new = ⊥
TakesNew old entry now taken.Other new = ⊥

abbrev pub TakesBy : Option Item → ItemsOf → Entry → ℕ → QueueOutcome → ItemsOf → Type 0
TakesBy (Some item) old entry now came new = (came ≡ known_as item entry) × (new ≡ old)
TakesBy None old entry now came new = TakesNew old entry now came new

-- an entry whose id is known changes nothing; another one is queued, if it has a line and there is
-- room
abbrev pub Takes : ItemsOf → Entry → ℕ → QueueOutcome → ItemsOf → Type 0
Takes old entry now came new = TakesBy (item_in old entry.id) old entry now came new

-- ---- what is kept

-- all lines are in the journal
abbrev pub all_kept : ItemsOf → ItemsOf
all_kept q = items_of q.items (length q.items) [] q.answered

-- the lines could not be put there: nothing was taken since
abbrev pub taken_back : ItemsOf → ItemsOf
taken_back q = items_of (take q.kept q.items) q.kept [] q.answered

-- ---- what is answered

-- a scoretaker has answered the item of an id, which a line says
abbrev pub with_answer : ItemsOf → ℕ → ItemsOf
with_answer q id =
    items_of q.items q.kept (q.lines ++ with_end (answered_line id))
    (insert_key nat_eq q.answered id)
