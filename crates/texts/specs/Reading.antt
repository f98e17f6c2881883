-- The command that a text spells, or the first fault from the left (the project's own).
use Rattle.std.specs.Prelude.{◌≡◌, ◌≤◌, ◌<◌, ℕ, ◌+◌, nat_lt, Bool, true, false, ◌||◌, if◌then◌else◌}
use Rattle.std.specs.Prelude.{IsTrue, List, [], ◌∷◌, length, Option, Some, None, is_some, Result}
use Rattle.std.specs.{Prelude.option_map, Prelude.Ok, Prelude.Err, List.list_any, Option.ok_or}
use Rattle.formats.specs.Events.{event_of_name, format_named, last_round}
use Rattle.texts.specs.declared.command.{Command.Command, RemarkedCommand.RemarkedCommand}
use Rattle.texts.specs.declared.{reading.CommandFault.CommandFault, table.FieldKind.FieldKind}
use Rattle.texts.specs.{declared.value.FieldValue.FieldValue, Names.is_remark}
use Rattle.texts.specs.Fields.{cut, number_between, name_of, new_name_of, cutoff_of, limit_of}
use Rattle.texts.specs.Fields.{advance_of, moves_of, entered_of, was_of, now_of, cut_remark}
use Rattle.texts.specs.Parts.{made_of, parts}
use Rattle.texts.specs.Spelling.{last_edition, IsFit, IsFitTold, spelling, standing, told_spelling}
use Rattle.texts.specs.Table.{TheRow, fields_in, is_rest, kept_at, row_named}
use Rattle.texts.specs.declared.command.Entered.TheVariants as entered
use Rattle.texts.specs.declared.reading.CommandFault.TheVariants as fault
use Rattle.texts.specs.declared.table.FieldKind.TheVariants as kind
use Rattle.texts.specs.declared.value.FieldValue.TheVariants as value

infixl 10 ◌>>=◌
abbrev pub ◌>>=◌ : {A B : Type 0} → Result A CommandFault → (A → Result B CommandFault)
    → Result B CommandFault
(Ok x) >>= f = f x
(Err e) >>= f = Err e

-- The fields. What is left of a text is after a space; where nothing is left the next field is
-- missing.

-- the value that bytes spell, where they spell one of the kind, and this many attempts count
abbrev pub value_of : ℕ → FieldKind → List ℕ → Option FieldValue
value_of _ kind.Number bytes = option_map value.Number (number_between 1 9999 bytes)
value_of _ kind.Name bytes = option_map value.Name (name_of bytes)
value_of _ kind.NewName bytes = option_map value.Name (new_name_of bytes)
value_of _ kind.Event bytes = option_map value.Event (event_of_name bytes)
value_of _ kind.Round bytes = option_map value.Round (number_between 1 last_round bytes)
value_of _ kind.Format bytes = option_map value.Format (format_named bytes)
value_of _ kind.Cutoff bytes = option_map value.Cutoff (cutoff_of bytes)
value_of _ kind.Limit bytes = option_map value.Limit (limit_of bytes)
value_of _ kind.Advance bytes = option_map value.Advance (advance_of bytes)
value_of _ kind.Attempt bytes = option_map value.Attempt (number_between 1 5 bytes)
value_of _ kind.Moves bytes = option_map value.Moves (moves_of bytes)
value_of _ kind.Outcome bytes = option_map value.Outcome (entered_of bytes)
value_of _ kind.Edition bytes = option_map value.Edition (number_between 2 last_edition bytes)
value_of _ kind.Was bytes = option_map value.Was (was_of bytes)
value_of stands kind.Now bytes = option_map value.Now (now_of stands bytes)

-- a field's bytes, and what is left after it
abbrev pub field_of : FieldKind → List ℕ → List ℕ × Option (List ℕ)
field_of k bytes = if is_rest k then (bytes, None) else cut 32 bytes

-- the next field, and what is left after it
abbrev pub next_of : ℕ → FieldKind → ℕ → Option (List ℕ)
    → Result (FieldValue × Option (List ℕ)) CommandFault
next_of stands k index left = do
  bytes ← ok_or left (fault.BadField index)
  v ← ok_or (value_of stands k (field_of k bytes).0) (fault.BadField index)
  Ok (v, (field_of k bytes).1)

-- nothing is left
abbrev pub no_field : ℕ → Option (List ℕ) → Result (Unit {0}) CommandFault
no_field index None = Ok tt
no_field index (Some bytes) = Err (fault.BadField index)

-- the values of fields of these kinds, the first of which has this index; this many attempts count
abbrev pub values_of : ℕ → List FieldKind → ℕ → Option (List ℕ)
    → Result (List FieldValue) CommandFault
values_of stands [] index left = do
  end ← no_field index left
  Ok []
values_of stands (k ∷ ks) index left = do
  next ← next_of stands k index left
  later ← values_of (standing stands next.0) ks (index + 1) next.1
  Ok (next.0 ∷ later)

-- The remark. It is cut off first, and a fault of it is told last: as the field after the last one.

-- what is left of a text before its remark, and the remark, where the text may have one
abbrev pub before_remark : Bool → Option (List ℕ) → Option (List ℕ) × Option (List ℕ)
before_remark false left = (left, None)
before_remark true None = (None, None)
before_remark true (Some bytes) = (Some (cut_remark bytes).0, (cut_remark bytes).1)

abbrev pub told : Option (List ℕ) → Command → RemarkedCommand
told remark c = record { command = c; remark = remark }

-- a command with its remark, which is the field with this index
abbrev pub with_remark : ℕ → Option (List ℕ) → Command → Result RemarkedCommand CommandFault
with_remark index None c = Ok (told None c)
with_remark index (Some bytes) c =
    if is_remark bytes then Ok (told (Some bytes) c) else Err (fault.BadField index)

-- The words by their rows.

abbrev pub by_row : Option TheRow → Option (List ℕ) → Result RemarkedCommand CommandFault
by_row None left = Err fault.NotACommand
by_row (Some row) left = do
  vs ← values_of 0 row.fields 1 (before_remark row.takes_remark left).0
  c ← ok_or (made_of (row.tag, vs)) fault.NotACommand
  with_remark (length row.fields + 1) (before_remark row.takes_remark left).1 c

-- the command that a text spells, with its remark, or why it spells none
unfoldable pub command_of : List ℕ → Result RemarkedCommand CommandFault
command_of bytes =
    if nat_lt 600 (length bytes) then Err fault.TooLong
    else by_row (row_named (cut 32 bytes).0) (cut 32 bytes).1

-- Memory is taken for a name, for moves, for a scorecard and for a remark. Where moves or a field
-- of a scorecard are misspelt, or a field after them, memory may run out first.

abbrev pub takes_memory : FieldValue → Bool
takes_memory (value.Name name) = true
takes_memory (value.Moves moves) = true
takes_memory (value.Outcome (entered.Solution moves)) = true
takes_memory (value.Was was) = true
takes_memory (value.Now now) = true
takes_memory _ = false

-- the index of the first field that memory is taken for while it is read, after a word; 0 where
-- there is none
abbrev pub kept_field : List ℕ → ℕ
kept_field word = kept_at 1 (fields_in (row_named word))

abbrev pub TakesMemory : ℕ → Result RemarkedCommand CommandFault → Type 0
TakesMemory kept (Ok c) =
    IsTrue (is_some c.remark || list_any takes_memory (parts c.command).1)
TakesMemory kept (Err (fault.BadField index)) = (0 < kept) × (kept ≤ index)
TakesMemory _ _ = ⊥

-- where memory runs out, that is said in place of what it is taken for
abbrev pub Gives : ℕ → Result RemarkedCommand CommandFault → Result RemarkedCommand CommandFault
    → Type 0
Gives _ (Ok c) said = said ≡ Ok c
Gives kept (Err fault.NoMemory) said = TakesMemory kept said
Gives _ (Err fault.TooLong) said = said ≡ Err fault.TooLong
Gives _ (Err fault.NotACommand) said = said ≡ Err fault.NotACommand
Gives _ (Err (fault.BadField index)) said = said ≡ Err (fault.BadField index)

-- a command was read, unless memory ran out
abbrev pub ReadsAs : Result RemarkedCommand CommandFault → RemarkedCommand → Type 0
ReadsAs (Ok d) c = d ≡ c
ReadsAs (Err e) c = e ≡ fault.NoMemory

-- The laws: reading and spelling are inverse, and a text spells at most one command.

abbrev pub ReadsWhatIsSpelled : Type 0
ReadsWhatIsSpelled = (c : RemarkedCommand) → IsFitTold c → command_of (told_spelling c) ≡ Ok c

abbrev pub SpellsWhatIsRead : Type 0
SpellsWhatIsRead =
    (bytes : List ℕ) (c : RemarkedCommand) → command_of bytes ≡ Ok c
    → IsFitTold c × (bytes ≡ told_spelling c)

abbrev pub SpellsOneCommand : Type 0
SpellsOneCommand =
    (c d : RemarkedCommand) → IsFitTold c → IsFitTold d → told_spelling c ≡ told_spelling d → c ≡ d

abbrev pub SpellsShort : Type 0
SpellsShort = (c : Command) → IsFit c → length (spelling c) ≤ 600
