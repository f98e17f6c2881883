-- The ranges of an entry (as docs/FORMATS.md has it).
use Rattle.std.specs.Prelude.{ℕ, ◌^◌, ◌≤◌, ◌<◌, length}
use Rattle.acceptor.specs.declared.entry.Entry.{Entry}

abbrev pub IsId : ℕ → Type 0
IsId id = (1 ≤ id) × (id < 2 ^ 63)

abbrev pub IsEntry : Entry → Type 0
IsEntry e = IsId e.id × (length e.text ≤ 600)
