-- What options name.
use Rattle.std.proofs.Common.{◌≡◌, ap, sym, false, ℕ, List, Bor, Option, None, Some, codes, is_some}
use Rattle.std.proofs.Common.{option_map}
use Rattle.clap.specs.{Words.Text, Words.first_value, declared.parser.matches.Found.Found}
use Rattle.hall_file.specs.{Halls.Says, declared.hall_file.HallFile.HallFile}
use Rattle.hall_file.specs.hall_options.Found.{IsHallOf, IsOfFile, is_given}
use Rattle.hall_file.specs.declared.hall_options.finding.FoundHall.{FoundHall}

not_given : (f : Found) (id : Text) (r : Option (Bor Text))
    → option_map (λ s. s.now) r ≡ first_value f id → is_some r ≡ false → is_given f id ≡ false
not_given f id None h is = ap is_some (sym h)
not_given f id (Some t) h is = cc

-- the hall of a file, where no number of a hall is given
pub of_file : (f : Found) (r : Option (Bor Text)) (file : HallFile) (hall : FoundHall)
    → option_map (λ s. s.now) r ≡ first_value f (codes "hall") → is_some r ≡ false
    → ((bytes : List ℕ) × Says bytes file) → IsOfFile f file hall → IsHallOf f hall
of_file f r file hall h is (bytes, says) of =
    rw (not_given f (codes "hall") r h is) (bytes, file, says, of)
