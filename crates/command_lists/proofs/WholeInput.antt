-- An input of known bytes that is read to its end, or as far as the limits allow.
use Rattle.std.proofs.Common.{◌≡◌, ℕ, List, [], ◌++◌, Option, None, Some, sym, ap, ◌∙◌, refl}
use Rattle.std.proofs.Common.{append-nil, true, false}
use Rattle.lines.specs.command_file.Commands.{Numbered, ReadsCommands, StopsReading, commands_of}
use Rattle.command_lists.specs.Lists.{IsReadFrom, fit, shorts, texts_in}
use Rattle.lines.specs.{Lines.is_within, Reading.IsAbove}
use Rattle.lines.specs.declared.fault.RunFault.TheVariants as fault

-- what was read is all of the bytes
pub is_whole : (commands : List Numbered) (bytes : List ℕ) (left : Option (List ℕ))
    → (reads : ReadsCommands commands (Some bytes) left) → bytes ≡ reads.input
is_whole commands bytes None reads = absurd reads.read
is_whole commands bytes (Some rest) reads =
    reads.read ∙ ap (λ bs. reads.input ++ bs) reads.ended ∙ append-nil reads.input

read_from : (lines : List ℕ) (texts : Option (List (List ℕ))) → texts ≡ texts_in lines
    → IsReadFrom lines texts
read_from lines None is = sym is
read_from lines (Some texts) is = sym is

-- its commands are those of all bytes, which are within the limits
pub fit_from : (lines : List ℕ) (commands : List Numbered) (left : Option (List ℕ))
    (short : Option (List (List ℕ))) (texts : Option (List (List ℕ)))
    → ReadsCommands commands (Some lines) left → short ≡ shorts [] commands → texts ≡ fit short
    → IsReadFrom lines texts
fit_from lines commands left short texts reads are is =
    let whole = is_whole commands lines left reads in
    let within : is_within lines ≡ true = ap is_within whole ∙ reads.within in
    let of : commands ≡ commands_of lines = reads.are ∙ ap commands_of (sym whole) in
    read_from lines texts (rw within (is ∙ ap fit (are ∙ ap (shorts []) of)))

above : (lines given rest : List ℕ) (left : Option (List ℕ))
    → IsAbove given rest (Some lines) left → is_within lines ≡ false
above lines given rest None h = absurd h.consumed
above lines given rest (Some after) h = ap is_within h.consumed ∙ h.above after

-- where the limits stop the reading, the bytes are above them
pub too_long : (lines : List ℕ) (left : Option (List ℕ))
    → StopsReading fault.InputTooLong (Some lines) left → IsReadFrom lines None
too_long lines left (given, (rest, h)) = rw (above lines given rest left h) refl
