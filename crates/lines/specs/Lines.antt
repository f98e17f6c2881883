-- The lines of an input, and the limits of what is read. Both are this project's own.
use Rattle.std.specs.Prelude.{◌≡◌, true, not, flat_map, ℕ, Bool, ◌==◌, ◌&&◌, nat_le, if◌then◌else◌}
use Rattle.std.specs.Prelude.{List, [], ◌∷◌, ◌++◌, length, take, zero, suc}
use Rattle.std.specs.List.{list_all, list_any}

-- a text goes in front of the first line
abbrev pub onto : List ℕ → List (List ℕ) × List ℕ → List (List ℕ) × List ℕ
onto text ([], rest) = ([], text ++ rest)
onto text (line ∷ lines, rest) = ((text ++ line) ∷ lines, rest)

-- the lines that a line feed ends, and what is after the last line feed
abbrev pub lines_and_rest : List ℕ → List (List ℕ) × List ℕ
lines_and_rest [] = ([], [])
lines_and_rest (b ∷ bs) =
    if b == 10 then ([] ∷ (lines_and_rest bs).0, (lines_and_rest bs).1)
    else onto (b ∷ []) (lines_and_rest bs)

abbrev pub whole_lines : List ℕ → List (List ℕ)
whole_lines bs = (lines_and_rest bs).0

abbrev pub rest_of : List ℕ → List ℕ
rest_of bs = (lines_and_rest bs).1

-- a last line without a line feed counts where it is not empty
abbrev pub closed : List (List ℕ) × List ℕ → List (List ℕ)
closed parts = parts.0 ++ (if length parts.1 == 0 then [] else parts.1 ∷ [])

abbrev pub lines_of : List ℕ → List (List ℕ)
lines_of bs = closed (lines_and_rest bs)

abbrev pub most_lines : ℕ
most_lines = 65536

-- without its line feed
abbrev pub most_in_line : ℕ
most_in_line = 10000

-- as many as the most lines have of the longest command, 600 bytes, and a line feed
abbrev pub most_bytes : ℕ
most_bytes = 39387136

-- the input has at most this many bytes in all, this many lines, and this many bytes a line
abbrev pub is_within : List ℕ → Bool
is_within bs =
    nat_le (length bs) most_bytes && nat_le (length (lines_of bs)) most_lines
    && list_all (λ line. nat_le (length line) most_in_line) (lines_of bs)

-- the longest front part, of at most this many bytes, that is within the limits
abbrev pub longest_within : ℕ → List ℕ → List ℕ
longest_within zero bs = []
longest_within (suc n) bs =
    if is_within (take (suc n) bs) then take (suc n) bs else longest_within n bs

abbrev pub part_within : List ℕ → List ℕ
part_within bs = longest_within (length bs) bs

-- the lines that are read of an input: all, or above the limits the whole ones in front of the
-- first byte too many
abbrev pub lines_read : List ℕ → List (List ℕ)
lines_read bs = if is_within bs then lines_of bs else whole_lines (part_within bs)

-- no byte of a line is a line feed
abbrev pub is_line : List ℕ → Bool
is_line line = not (list_any (λ b. b == 10) line)

-- the whole lines, a line feed after each, and then the rest, are the input; and a line feed is
-- nowhere else
pub record AreParts (input : List ℕ) (lines : List (List ℕ)) (rest : List ℕ) : Type 0 where
  pub joined : flat_map (λ line. line ++ 10 ∷ []) lines ++ rest ≡ input
  pub parted : list_all is_line lines ≡ true
  pub unended : is_line rest ≡ true
