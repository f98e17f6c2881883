-- The arguments of a program (the project's own).
use Rattle.std.specs.{Prelude.List, Prelude.map, Borrow.Bor}
use Rattle.clap.specs.Words.{Text}

-- the texts of borrowed arguments
abbrev pub argument_texts : List (Bor Text) → List Text
argument_texts given = map (λ text. text.now) given
