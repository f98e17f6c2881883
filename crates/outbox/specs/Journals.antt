-- What a journal says: the items that its lines come to (the project's own).
use Rattle.std.specs.Prelude.{◌≡◌, ℕ, ◌+◌, ◌||◌, bytes_eq, codes, if◌then◌else◌, is_some, nat_eq}
use Rattle.std.specs.Prelude.{List}
use Rattle.std.specs.Prelude.{Bool, true, false, [], ◌∷◌, ◌++◌, Option, None, Some, Result, Ok, Err}
use Rattle.indexmap.specs.IndexSet.{insert_key}
use Rattle.acceptor.specs.declared.entry.Entry.{Entry}
use Rattle.texts.specs.Fields.{cut}
use Rattle.outbox.specs.declared.journal.JournalFault.{JournalFault}
use Rattle.outbox.specs.declared.journal.JournalFault.TheVariants as fault
use Rattle.outbox.specs.declared.journal_lines.JournalLine.{JournalLine}
use Rattle.outbox.specs.declared.journal_lines.JournalLine.TheVariants as line
use Rattle.outbox.specs.Items.{ItemsOf, is_full, item_in, items_of, no_items, taken_at}
use Rattle.outbox.specs.Lines.{HallOf, hall_line, said, whole_lines}

-- an item that is in the journal
abbrev pub with_item : ItemsOf → Entry → ℕ → ItemsOf
with_item q entry now =
    items_of (q.items ++ (entry.id, taken_at entry now) ∷ []) (q.kept + 1) q.lines q.answered

-- an item whose id no other has, and for which there is room
abbrev pub restored : ItemsOf → Entry → ℕ → Option ItemsOf
restored q entry now =
    if is_some (item_in q entry.id) then None
    else if is_full q then None
    else Some (with_item q entry now)

-- what is said to be answered is an item
abbrev pub answered_again : ItemsOf → ℕ → Option ItemsOf
answered_again q id =
    if is_some (item_in q id)
    then Some (items_of q.items q.kept q.lines (insert_key nat_eq q.answered id))
    else None

-- the items after what a line says, where that fits what was said before
abbrev pub followed : ItemsOf → ℕ → JournalLine → Option ItemsOf
followed q now (line.Item entry) = restored q entry now
followed q now (line.Answered id) = answered_again q id

abbrev pub followed_if : ItemsOf → ℕ → Option JournalLine → Option ItemsOf
followed_if q now None = None
followed_if q now (Some said) = followed q now said

abbrev pub FollowsIf : ItemsOf → ℕ → Option JournalLine → Bool → ItemsOf → Type 0
FollowsIf old now said true new = followed_if old now said ≡ Some new
FollowsIf old now said false new = followed_if old now said ≡ None

abbrev pub go_on : Option ItemsOf → ℕ → (ItemsOf → Result ItemsOf JournalFault)
    → Result ItemsOf JournalFault
go_on None number others = Err (fault.Damaged number)
go_on (Some q) number others = others q

-- the items after these lines, the first of which has this number; or the first that is damaged: it
-- says nothing, or what does not fit
abbrev pub after_lines : ItemsOf → ℕ → ℕ → List (List ℕ) → Result ItemsOf JournalFault
after_lines q now number [] = Ok q
after_lines q now number (line ∷ lines) =
    go_on (followed_if q now (said line)) number (λ next. after_lines next now (number + 1) lines)

-- a line of the earlier program, which knows no `CARD`
abbrev pub is_earlier_word : List ℕ → Bool
is_earlier_word word =
    bytes_eq word (codes "card") || bytes_eq word (codes "command") || bytes_eq word (codes "done")

-- why a first line is not that of a hall
abbrev pub fault_of_first : List ℕ → JournalFault
fault_of_first word =
    if is_earlier_word word then fault.Earlier
    else if bytes_eq word (codes "hall") then fault.OtherHall
    else fault.Damaged 1

-- the items of these lines, of which the first has to be that of the hall
abbrev pub read_lines : HallOf → ℕ → List (List ℕ) → Result ItemsOf JournalFault
read_lines hall now [] = Err fault.Empty
read_lines hall now (first ∷ lines) =
    if bytes_eq first (hall_line hall) then after_lines no_items now 2 lines
    else Err (fault_of_first (cut 32 first).0)

-- the items that a file's lines come to
abbrev pub read_back : HallOf → ℕ → List ℕ → Result ItemsOf JournalFault
read_back hall now bytes = read_lines hall now (whole_lines bytes)

-- the fault is that of the lines, unless memory ran out
abbrev pub IsFaultOf : Result ItemsOf JournalFault → JournalFault → Type 0
IsFaultOf read fault.NoMemory = Unit {0}
IsFaultOf read why = read ≡ Err why
