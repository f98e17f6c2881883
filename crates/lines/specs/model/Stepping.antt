-- How a reader of lines goes on, byte by byte and by runs of bytes.
use Rattle.std.specs.Prelude.{◌≡◌, ◌≢◌, ◌<◌, ◌≤◌, ◌+◌, ℕ, slice_index, Bool, true, false, not}
use Rattle.std.specs.Prelude.{nat_lt, List, [], ◌∷◌, ◌++◌, length, Option, MatchOption}
use Rattle.std.specs.Io.KnownBytes.{Consumes, IsAtEnd}
use Rattle.lines.specs.{Lines.most_bytes, Lines.most_lines, Lines.most_in_line, Reading.Reading}

-- one of the bytes that were read was taken, or there was none
pub record TakesHeld (old new : Reading) (byte : ℕ) : Type 0 where
  pub bytes : old.held ≡ byte ∷ new.held
  pub same : new ≡ record old { held = new.held }

pub record TakesNone (old new : Reading) : Type 0 where
  pub none : old.held ≡ []
  pub same : new ≡ old

-- a piece was read in place of what was held, or the end was met
pub record Fills (old new : Reading) (some : Bool) (before now : Option (List ℕ)) : Type 0 where
  pub consumed : Consumes before now new.held
  pub same : new ≡ record old { held = new.held; over = not some }
  pub is : some ≡ nat_lt 0 (length new.held)
  pub end : some ≡ false → IsAtEnd now

-- the next byte was taken out of what was read, or of a piece that was read now
pub record TakesByte (old new : Reading) (byte : ℕ) (before now : Option (List ℕ)) : Type 0 where
  pub piece : List ℕ
  pub consumed : Consumes before now piece
  pub bytes : old.held ++ piece ≡ byte ∷ new.held
  pub same : new ≡ record old { held = new.held }

-- no byte is left
pub record MeetsEnd (old new : Reading) (before now : Option (List ℕ)) : Type 0 where
  pub none : old.held ≡ []
  pub consumed : Consumes before now []
  pub end : IsAtEnd now
  pub same : new ≡ record old { over = true }

-- the next byte, where there is one
abbrev pub GivesByte : Reading → Reading → (before now : Option (List ℕ)) → Option ℕ → Type 0
GivesByte old new before now byte =
    MatchOption byte (MeetsEnd old new before now) (λ b. TakesByte old new b before now)

-- after this many bytes of a line, this many more are within the limits
pub record IsRoomFor (p : Reading) (in_line count : ℕ) : Type 0 where
  pub bytes : p.bytes + count ≤ most_bytes
  pub lines : p.lines < most_lines
  pub line : in_line + count ≤ most_in_line

-- the bytes up to a line feed, as far as the limits have room, were taken out of what was read, put
-- after the line, and counted
pub record TakesRun (old new : Reading) (before now : List ℕ) : Type 0 where
  pub run : List ℕ
  pub line : now ≡ before ++ run
  pub bytes : old.held ≡ run ++ new.held
  pub same : new ≡ record old { held = new.held; bytes = old.bytes + length run }
  pub unended : (k : ℕ) → k < length run → slice_index run k ≢ 10
  pub room : 0 < length run → IsRoomFor old (length before) (length run)
  pub whole : 0 < length new.held → IsRoomFor old (length before) (length run + 1)
      → slice_index new.held 0 ≡ 10
