-- The desk of a hall's file that is found.
use Rattle.std.proofs.Common.{◌++◌, ◌∙◌, ℕ, List, Option, None, Some, ap, inl, inr, string_bytes}
use Rattle.std.proofs.KnownBytes.{Keeps-trans}
use Rattle.std.specs.Io.KnownBytes.{Appends, Keeps}
use Rattle.batch.specs.Dialing.{Dialed}
use Rattle.desk_requests.specs.declared.fault.DeskFault.{DeskFault}
use Rattle.hall_file.specs.{Halls.Says, declared.hall_file.HallFile.HallFile}
use Rattle.lines.specs.Bytes.{AppendsPart}
use Rattle.desk_choice.specs.{Keys.FailsKey, Keys.Naming, Keys.key_file_of, Resolving.asking_text}
use Rattle.desk_choice.specs.Resolving.{Chooses, FailsToChoose, FailsToFind, IsQuiet, IsTold}
use Rattle.desk_choice.specs.{Resolving.Outside, declared.resolving.DeskAddress.DeskAddress}

-- the file is said by some bytes
abbrev pub IsOfBytes : HallFile → Type 0
IsOfBytes file = (bytes : List ℕ) × Says bytes file

-- its key cannot be read
pub keyless : (n : Naming) (asked : Option ℕ) (patience : ℕ) (file : HallFile) (o : Outside)
    (f : DeskFault) → IsOfBytes file → IsQuiet o → FailsKey (key_file_of n file) f
    → FailsToFind f n asked patience o
keyless n None patience file o f says quiet none = inl (inr (quiet, (file, says.0, says.1, none)))
keyless n (Some desk) patience file o f says quiet none =
    inl (inr (quiet, (file, says.0, says.1, none)))

-- what was written after nothing was
later : (a b c : Option (List ℕ)) (bs : List ℕ) → Keeps a b → Appends b c bs → Appends a c bs
later None b c bs quiet grown = tt
later (Some x) None c bs quiet grown = absurd quiet
later (Some x) (Some y) None bs quiet grown = absurd grown
later (Some x) (Some y) (Some z) bs quiet grown = grown ∙ ap (λ l. l ++ bs) quiet

part_later : (a b c : Option (List ℕ)) (bs : List ℕ) → Keeps a b → AppendsPart b c bs
    → AppendsPart a c bs
part_later a b c bs quiet (front, rest, w) =
    (front, rest, record { parts = w.parts; written = later a b c front quiet w.written })

told_later : (file : HallFile) (a : DeskAddress) (old mid new : Option (List ℕ)) → Keeps old mid
    → IsTold file a mid new → IsTold file a old new
told_later file a old mid new quiet told = record {
  last = λ is. Keeps-trans old mid new quiet (told.last is);
  other = λ is.
      part_later old mid new (asking_text a.desk (string_bytes a.address)) quiet (told.other is);
}

-- what became of connections, and of the fault stream
abbrev pub seen : (first last : Option (List Dialed)) (old new : Option (List ℕ)) → Outside
seen first last old new = record { dialed = first; dialed_then = last; told = old; told_then = new }

pub chosen_later : (file : HallFile) (key : Option (List ℕ)) (patience : ℕ) (a : DeskAddress)
    (first last : Option (List Dialed)) (old mid new : Option (List ℕ)) → Keeps old mid
    → Chooses file key patience a (seen first last mid new)
    → Chooses file key patience a (seen first last old new)
chosen_later file key patience a first last old mid new quiet chosen = record {
  seeks = chosen.seeks;
  desk = chosen.desk;
  told = told_later file a old mid new quiet chosen.told;
}

pub not_chosen_later : (f : DeskFault) (file : HallFile) (key : Option (List ℕ)) (patience : ℕ)
    (first last : Option (List Dialed)) (old mid new : Option (List ℕ)) → Keeps old mid
    → FailsToChoose f file key patience (seen first last mid new)
    → FailsToChoose f file key patience (seen first last old new)
not_chosen_later f file key patience first last old mid new quiet none = record {
  found = none.found;
  seeks = none.seeks;
  cause = none.cause;
  quiet = Keeps-trans old mid new quiet none.quiet;
}
