-- The edition that holds (the project's own).
use Rattle.std.specs.Prelude.{ℕ, List, [], ◌∷◌, unwrap_or, Option, None, Some}
use Rattle.texts.specs.declared.command.Command.{Command, TheVariants.SetEdition}

-- the edition that a command sets
abbrev pub edition_set : Command → Option ℕ
edition_set (SetEdition edition) = Some edition
edition_set _ = None

-- the edition after more commands: the last that was set
abbrev pub edition_after : ℕ → List Command → ℕ
edition_after edition [] = edition
edition_after edition (c ∷ cs) = edition_after (unwrap_or (edition_set c) edition) cs

-- the edition that holds: edition 1 until another is set
abbrev pub edition_in : List Command → ℕ
edition_in cs = edition_after 1 cs
