-- The entries of what a form asks for (the project's own).
use Rattle.std.specs.Prelude.{◌≡◌, ◌↔◌, ℕ, ◌+◌, true, if◌then◌else◌, nat_le, length, List, [], ◌∷◌}
use Rattle.std.specs.Prelude.{Option, None, Some, Result, Ok, Err}
use Rattle.acceptor.specs.declared.entry.Entry.{Entry}
use Rattle.texts.specs.declared.command.{CardEntry.CardEntry, RemarkedCommand.RemarkedCommand}
use Rattle.texts.specs.declared.command.Command.{Command, TheVariants.Card}
use Rattle.texts.specs.{declared.reading.CommandFault.CommandFault, Names.is_remark}
use Rattle.texts.specs.{Reading.command_of, Spelling.spelling, Spelling.told_spelling}
use Rattle.card_forms.specs.Remarks.{is_same_but_remark}

abbrev pub entry_with : ℕ → List ℕ → Entry
entry_with id text = record { id = id; text = text }

-- the entry of a text that has at most 600 bytes
abbrev pub entry_of : ℕ → List ℕ → Option Entry
entry_of id text = if nat_le (length text) 600 then Some (entry_with id text) else None

abbrev pub remark_of : List ℕ → Option (List ℕ)
remark_of bytes = if is_remark bytes then Some bytes else None

-- a card with these bytes as its remark, where they are one
abbrev pub remarked : CardEntry → List ℕ → RemarkedCommand
remarked card bytes = record { command = Card card; remark = remark_of bytes }

-- its text, without the remark where it would have more than 600 bytes
abbrev pub card_text : CardEntry → List ℕ → List ℕ
card_text card bytes =
    if nat_le (length (told_spelling (remarked card bytes))) 600
    then told_spelling (remarked card bytes) else spelling (Card card)

-- a card is one entry: its text is that of `CARD`, under the id of its form
abbrev pub card_entry : ℕ → CardEntry → List ℕ → Option Entry
card_entry id card bytes = entry_of id (card_text card bytes)

-- the entries of commands: the first has this id, and each further one the next
abbrev pub command_entries : ℕ → List (List ℕ) → List Entry
command_entries id [] = []
command_entries id (text ∷ texts) = entry_with id text ∷ command_entries (id + 1) texts

abbrev pub card_of : Command → Option CardEntry
card_of (Card card) = Some card
card_of _ = None

abbrev pub card_told : Result RemarkedCommand CommandFault → Option CardEntry
card_told (Err why) = None
card_told (Ok told) = card_of told.command

-- the card that a text spells, with whatever remark; none where it spells no `CARD`
abbrev pub card_in : List ℕ → Option CardEntry
card_in text = card_told (command_of text)

-- two texts that spell cards are the same but for a remark exactly where they spell the same card
abbrev pub SameWhereTheCardIs : Type 0
SameWhereTheCardIs =
    (one other : List ℕ) (c d : CardEntry) → card_in one ≡ Some c → card_in other ≡ Some d
    → (is_same_but_remark one other ≡ true) ↔ (c ≡ d)
