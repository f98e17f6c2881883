-- Bytes that are read, as all that the reader has.
use Rattle.std.proofs.Common.{◌≡◌, ◌∙◌, ℕ, ◌≤◌, ◌<◌, ◌+◌, ◌++◌, List, [], take, length, ap, refl}
use Rattle.std.proofs.Common.{sym, subst, arith, Option, None, Some}
use Rattle.lines.{proofs.Inputs.left_of, proofs.Inputs.left_is, specs.Bytes.HasLeft}
use Rattle.std.specs.Prelude.{IfSome, option_map}
use Rattle.std.proofs.lemmas.List.{length-take, take_all}
use Rattle.wcif.specs.{Files.FileFails, Files.SetsUp, Files.most_bytes, Later.SaysLater}
use Rattle.wcif.specs.{Later.later_lines, Lines.lines, declared.later.RoundImport.RoundImport}
use Rattle.wcif.specs.declared.{file.FileFault.FileFault, options.Options.Options}
use Rattle.texts.specs.declared.command.Command.{Command}
use Rattle.exports.specs.imports.Printing.{GivesNone, IsFront, IsImported}
use Rattle.wcif.specs.declared.file.FileFault.TheVariants as file

-- what was read with a limit
pub front_of : (had : Option (List ℕ)) (limit : ℕ) (start items : List ℕ) → start ≡ []
    → limit ≡ most_bytes + 1 → IfSome (option_map (take limit) had) (λ xs. items ≡ start ++ xs)
    → IsFront had items
front_of None limit start items none is h = tt
front_of (Some all) limit start items none is h = h ∙ rw (none, is) refl

-- a front part that is shorter than it may be is all
short_is_all : (n : ℕ) (all : List ℕ) → length (take (n + 1) all) ≤ n → take (n + 1) all ≡ all
short_is_all n all short =
    let long = length-take (n + 1) all in
    take_all (n + 1) all (omega (arith, long, short))

pub all_of : (had : Option (List ℕ)) (bytes : List ℕ) → IsFront had bytes
    → length bytes ≤ most_bytes → HasLeft had bytes
all_of None bytes front short = tt
all_of (Some all) bytes front short =
    sym (front ∙ short_is_all most_bytes all (subst (λ z. length z ≤ most_bytes) front short))

-- what is longer than a file may be
pub long_left : (had : Option (List ℕ)) (bytes : List ℕ) → IsFront had bytes
    → most_bytes < length bytes → (all : List ℕ) × HasLeft had all × (most_bytes < length all)
long_left None bytes front long = (bytes, tt, long)
long_left (Some all) bytes front long =
    let most = length-take (most_bytes + 1) all in
    let is = ap length front in (all, refl, omega (arith, most, is, long))

-- the bytes that were read give no commands, so those that the reader has give none
pub gives_none : (f : FileFault) (options : Options) (had : Option (List ℕ)) (bytes : List ℕ)
    → IsFront had bytes → FileFails options bytes f → GivesNone f options had
gives_none file.TooLong options had bytes front h = long_left had bytes front h
gives_none (file.NotJson e) options had bytes front h = (bytes, all_of had bytes front h.0, h)
gives_none file.TooDeep options had bytes front h = (bytes, all_of had bytes front h.1, h)
gives_none (file.Refused found) options had bytes front h =
    (bytes, all_of had bytes front h.1.short, h)
gives_none file.NoMemory options had bytes front h = (left_of had, left_is had, tt)

-- what was written is what those bytes are imported to
pub imported : (options : Options) (had : Option (List ℕ)) (bytes was : List ℕ)
    (made : List Command) (later : List RoundImport) (text : List ℕ) → IsFront had bytes
    → was ≡ bytes → SetsUp options was made → SaysLater options was later
    → text ≡ lines made ++ later_lines later → HasLeft had bytes × IsImported options bytes text
imported options had bytes was made later text front same sets says is =
    let here = subst (λ z. SetsUp options z made) same sets in (
      all_of had bytes front here.1.short,
      record {
        made = made;
        later = later;
        sets_up = here;
        says = subst (λ z. SaysLater options z later) same says;
        is = is;
      },
    )
