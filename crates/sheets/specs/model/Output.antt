-- A model of the code: how a record of comma-separated values grows, and what a writer holds.
use Rattle.std.specs.Prelude.{◌≡◌, ℕ, List, [], ◌++◌, false, Vec}
use Rattle.csv.specs.{declared.record.ByteRecord.ByteRecord, Records.fields_of, Records.partial_of}
use Rattle.csv.specs.{declared.writer.Writer.Writer, Writing.writer_under, Writing.writer_pending}
use Rattle.csv.specs.Writing.{default_writer, writer_setup, fields_written, has_written}

-- a record has these fields, and no other has begun
abbrev pub HasFields : ByteRecord → List (List ℕ) → Type 0
HasFields r fields = (fields_of r ≡ fields) × (partial_of r ≡ [])

-- a record has more fields, and no other has begun
abbrev pub AddsFields : ByteRecord → ByteRecord → List (List ℕ) → Type 0
AddsFields old new more = HasFields new (fields_of old ++ more)

-- the writer is between records, and writes as the crate's defaults have it
pub record IsReady {A : Type 0} (w : Writer (Vec ℕ A)) : Type 0 where
  pub setup : writer_setup w ≡ default_writer
  pub fields : fields_written w ≡ 0
  pub wrote : has_written w ≡ false

-- the text that was written
abbrev pub held : {A : Type 0} → Writer (Vec ℕ A) → List ℕ
held w = (writer_under w).items ++ writer_pending w

-- a text was written behind the rest
pub record Adds {A : Type 0} (old new : Writer (Vec ℕ A)) (more : List ℕ) : Type 0 where
  pub text : held new ≡ held old ++ more
  pub ready : IsReady new
