-- What a caller without a key is handed on: all that comes, but of a desk that asks for a key (the
-- project's own).
use Rattle.std.specs.Prelude.{ℕ, ◌==◌, ◌&&◌, Bool, List, [], ◌++◌, length, take, if◌then◌else◌}
use Rattle.std.specs.{Prelude.nat_eq, List.starts_with}
use Rattle.seal.specs.Records.{mark}

-- the four bytes that a desk's preface begins with go on from these, or are these
abbrev pub begins_mark : List ℕ → Bool
begins_mark bytes = starts_with nat_eq mark bytes

-- these are the four bytes
abbrev pub is_mark : List ℕ → Bool
is_mark bytes = length bytes == 4 && begins_mark bytes

-- what is handed on of all that came: nothing of what begins so, nor as long as it may
abbrev pub handed_plain : List ℕ → List ℕ
handed_plain came = if begins_mark (take 4 came) then [] else came

-- what is handed on with one piece more, where the first four bytes were those before it, and are
-- now these: the piece, and in front of it what waited
abbrev pub waited : List ℕ → List ℕ
waited before = if begins_mark before then before else []

abbrev pub passed : List ℕ → List ℕ → List ℕ → List ℕ
passed before now piece = if begins_mark now then [] else waited before ++ piece
