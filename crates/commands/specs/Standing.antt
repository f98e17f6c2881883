-- What counts of what a list of commands says: the last word on it, or what was given first, until
-- something took its place (the project's own).
use Rattle.std.specs.Prelude.{List, [], ◌∷◌, unwrap_or, Option, None}
use Rattle.std.specs.Option.{option_or, option_map}
use Rattle.texts.specs.declared.command.Command.{Command}

-- what the last command to say something says
abbrev pub last_of : {A : Type 0} → (Command → Option A) → List Command → Option A
last_of f [] = None
last_of f (c ∷ cs) = option_or (last_of f cs) (f c)

-- what is first given holds, or the last that took its place since
abbrev pub standing : {A : Type 0} → (Command → Option A) → (Command → Option A) → List Command
    → Option A
standing given other [] = None
standing given other (c ∷ cs) =
    option_or (option_map (unwrap_or (last_of other cs)) (given c)) (standing given other cs)
