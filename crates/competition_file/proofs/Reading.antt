-- What is read of a file that is cut after some bytes.
use Rattle.std.proofs.Common.{◌≡◌, ℕ, ◌+◌, List, [], ◌++◌, take, Option, None, Some, IfSome}
use Rattle.std.proofs.Common.{option_map}
use Rattle.wcif.specs.Files.{most_bytes}
use Rattle.competition_file.specs.Opening.{IsReadOf}

pub of_cut : (content : Option (List ℕ)) (bytes : List ℕ)
    → IfSome (option_map (take (most_bytes + 1)) content) (λ xs. bytes ≡ [] ++ xs)
    → IsReadOf content bytes
of_cut None bytes is = tt
of_cut (Some all) bytes is = is
