-- A log and a file that are read, as all that their readers have, and what is printed of them.
use Rattle.std.proofs.Common.{◌≡◌, ℕ, ◌≤◌, Bool, true, false, List, length, sym, subst, arith}
use Rattle.exports.specs.{declared.logs.LogFault.LogFault, Files.StillRuns}
use Rattle.exports.specs.Logs.{IsNoMeet, opens_any, IsMeetOf, LogFails, ReadsMeet, is_whole}
use Rattle.std.proofs.{Common.nat_le, Common.Option, KnownBytes.Keeps-refl}
use Rattle.exports.proofs.imports.Whole.{long_left, all_of}
use Rattle.lines.{proofs.Inputs.left_of, proofs.Inputs.left_is, specs.Lines.is_within}
use Rattle.std.proofs.lemmas.Bool.{and_parts, Decides.nat_tests}
use Rattle.std.specs.Prelude.{Result, Err, IfErr}
use Rattle.commands.specs.History.{History}
use Rattle.exports.specs.{declared.fault.ExportsFault.ExportsFault, imports.Printing.IsFront}
use Rattle.exports.specs.Files.{TakesNone, FailsExport, IsFilledLine, IsUnfilled, MakesLine}
use Rattle.wcif.specs.Files.{most_bytes}
use Rattle.wcif_results.specs.{Files.ExportFails, declared.exporting.ExportFault.ExportFault}
use Rattle.wcif_results.specs.declared.note.ExportNote.{ExportNote}
use Rattle.wcif_results.specs.declared.exporting.ExportFault.TheVariants as file
use Rattle.exports.specs.declared.fault.ExportsFault.TheVariants as exports
use Rattle.exports.specs.declared.logs.LogFault.TheVariants as log

-- what holds of its error holds of a result that is one
pub fails_by : {T E : Type 0} (P : E → Type 0) (r : Result T E) (e : E) → r ≡ Err e → P e
    → IfErr r P
fails_by P r e is p = subst (λ x. IfErr x P) (sym is) p

-- a log

short : (bytes : List ℕ) → is_within bytes ≡ true → length bytes ≤ most_bytes
short bytes h =
    let low : nat_le (length bytes) 39387136 ≡ true =
    (and_parts _ _ (and_parts _ _ h).0).0 in grind (arith, nat_tests)

pub reads : (had : Option (List ℕ)) (bytes was : List ℕ) (meet : History) → IsFront had bytes
    → was ≡ bytes → IsMeetOf was meet → is_whole bytes ≡ true → ReadsMeet had meet
reads had bytes was meet front same is whole =
    let here = subst (λ z. IsMeetOf z meet) same is in
    (bytes, all_of had bytes front (short bytes here.within), here, whole)

pub cut_off : (had : Option (List ℕ)) (bytes was : List ℕ) (meet : History) → IsFront had bytes
    → was ≡ bytes → IsMeetOf was meet → is_whole bytes ≡ false → LogFails had log.CutOff
cut_off had bytes was meet front same is cut =
    let here = subst (λ z. IsMeetOf z meet) same is in
    (bytes, all_of had bytes front (short bytes here.within), here.within, cut)

-- of the bytes that a reader was given
pub same_meet : (bytes given : List ℕ) (meet : History) → bytes ≡ given → IsMeetOf given meet
    → IsMeetOf bytes meet
same_meet bytes given meet is h = subst (λ z. IsMeetOf z meet) (sym is) h

pub same_fault : (bytes given : List ℕ) (fault : LogFault) → bytes ≡ given
    → IsNoMeet given fault → IsNoMeet bytes fault
same_fault bytes given fault is h = subst (λ z. IsNoMeet z fault) (sym is) h

-- the file

pub makes : (running : Bool) (notes : List ExportNote) (had_file had : Option (List ℕ))
    (bytes was line : List ℕ) (meet : History)
    → IsFront had_file bytes → was ≡ bytes → ReadsMeet had meet
    → IsFilledLine running meet.accepted was line notes → MakesLine running had_file had line notes
makes running notes had_file had bytes was line meet front same read made =
    let here = subst (λ z. IsFilledLine running meet.accepted z line notes) same made in
    (bytes, meet, all_of had_file bytes front here.2.1.short, read, here)

takes_none : (f : ExportFault) (had_file log : Option (List ℕ)) (bytes : List ℕ) (meet : History)
    → IsFront had_file bytes → ReadsMeet log meet → opens_any meet.accepted ≡ true
    → ExportFails meet.accepted bytes f → TakesNone f had_file log
takes_none file.TooLong had_file log bytes meet front had opens h =
    let all = long_left had_file bytes front h in (all.0, meet, all.1, had, opens, all.2)
takes_none (file.NotJson line column) had_file log bytes meet front had opens h =
    (bytes, meet, all_of had_file bytes front h.0, had, opens, h)
takes_none file.TooDeep had_file log bytes meet front had opens h =
    (bytes, meet, all_of had_file bytes front h.1, had, opens, h)
takes_none (file.Refused found) had_file log bytes meet front had opens h =
    (bytes, meet, all_of had_file bytes front h.1.short, had, opens, h)
takes_none file.NoMemory had_file log bytes meet front had opens h =
    (left_of had_file, meet, left_is had_file, had, opens, tt)

-- there is no line of the bytes that were read
pub fails : (f : ExportsFault) (running : Bool) (had_file had old : Option (List ℕ))
    (bytes was : List ℕ)
    (meet : History) → IsFront had_file bytes → was ≡ bytes → ReadsMeet had meet
    → IsUnfilled running meet.accepted was f → FailsExport f running had_file had old old
fails exports.NoRound running had_file had old bytes was meet front same read h =
    ((meet, read, h), Keeps-refl old)
fails (exports.File f) running had_file had old bytes was meet front same read h =
    let fail = subst (λ z. ExportFails meet.accepted z f) same h.1 in
    (takes_none f had_file had bytes meet front read h.0 fail, Keeps-refl old)
fails (exports.Running notes) running had_file had old bytes was meet front same read h =
    let here = subst (λ z. StillRuns running meet.accepted z notes.items) same h in
    ((bytes, meet, all_of had_file bytes front here.1.1.short, read, here), Keeps-refl old)
fails exports.NoMemory running had_file had old bytes was meet front same read h = Keeps-refl old
fails _ running had_file had old bytes was meet front same read h = absurd h
