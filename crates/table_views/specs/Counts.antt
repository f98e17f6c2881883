-- Numbers of machines, in words (the project's own).
use Rattle.std.specs.Prelude.{ℕ, ◌==◌, if◌then◌else◌, List, codes}

-- a number of machines, of which a hall has at most five
abbrev pub number_word : ℕ → List ℕ
number_word count =
    if count == 1 then codes "one"
    else if count == 2 then codes "two"
    else if count == 3 then codes "three"
    else if count == 4 then codes "four"
    else if count == 5 then codes "five"
    else codes "several"

-- the same at the beginning of a sentence
abbrev pub number_start : ℕ → List ℕ
number_start count =
    if count == 1 then codes "One"
    else if count == 2 then codes "Two"
    else if count == 3 then codes "Three"
    else if count == 4 then codes "Four"
    else if count == 5 then codes "Five"
    else codes "Several"

-- what is said of this many machines that do not answer
abbrev pub are_away : ℕ → List ℕ
are_away count =
    if count == 1 then codes " machine is away" else codes " machines are away"
