-- The names that commands gave, and whose of them a person of a competition's file has (the
-- project's own).
use Rattle.std.specs.Prelude.{ℕ, Bool, ◌==◌, ◌&&◌, ◌||◌, List, [], ◌∷◌, ◌++◌, codes, bytes_eq}
use Rattle.std.specs.Prelude.{flat_map, option_to_list, Option, Result, Ok, Err}
use Rattle.std.specs.List.{list_any}
use Rattle.json.specs.Json.{Json}
use Rattle.texts.specs.declared.answer.Answer.{Answer, TheVariants.Done, TheVariants.Refused}
use Rattle.texts.specs.declared.command.{Command.Command, RemarkedCommand.RemarkedCommand}
use Rattle.texts.specs.declared.command.Command.TheVariants.{Register, Rename}
use Rattle.texts.specs.declared.reading.CommandFault.{CommandFault}
use Rattle.wcif_results.specs.{declared.named_meet.GivenName.GivenName, Filled.text_under}

abbrev pub naming : Command → List GivenName
naming (Register n name) = record { number = n; name = name } ∷ []
naming (Rename n name) = record { number = n; name = name } ∷ []
naming _ = []

abbrev pub naming_read : Result RemarkedCommand CommandFault → List GivenName
naming_read (Ok told) = naming told.command
naming_read (Err fault) = []

-- the name of an entry, where it is done
abbrev pub kept : Answer → Option GivenName → List GivenName
kept Done name = option_to_list name
kept (Refused code) name = []

-- each name that REG or REN gave a number
abbrev pub names_given : List Command → List GivenName
names_given cs = flat_map naming cs

-- this is one of two names of a number
abbrev pub gives : ℕ → List ℕ → List ℕ → GivenName → Bool
gives n name with_id g = (g.number == n) && (bytes_eq g.name name || bytes_eq g.name with_id)

-- a number was given one of two names
unfoldable pub was_given : ℕ → List ℕ → List ℕ → List GivenName → Bool
was_given n name with_id given = list_any (gives n name with_id) given

-- the name of a person of the file, and the WCA ID after a space
abbrev pub name_with_id : Json → List ℕ
name_with_id p = text_under (codes "name") p ++ codes " " ++ text_under (codes "wcaId") p

-- a number was given the name of a person of the file, alone or with the WCA ID
abbrev pub is_called : List GivenName → ℕ → Json → Bool
is_called given n p = was_given n (text_under (codes "name") p) (name_with_id p) given
