-- The numbers of accepted persons in the WCA Competition Interchange Format (registrantId).
use Rattle.std.specs.Prelude.{◌≡◌, ℕ, if◌then◌else◌, List, [], nat_eq, Option, None, Some}
use Rattle.std.specs.Option.{option_and_then, option_or}
use Rattle.std.specs.{HashMap.HashMap, HashMap.get, List.position}
use Rattle.serde_json.specs.Data.{Data}
use Rattle.texts.specs.Numerals.{within}
use Rattle.wcif.specs.Persons.{has_number, is_accepted, is_number, last_number, number_of}
use Rattle.wcif.specs.Persons.{text_under}

-- the number of a person, if accepted
unfoldable pub own_number : Data → Option ℕ
own_number p = if is_accepted p then number_of p else None

-- the same, where a list can have it
unfoldable pub list_number : Data → Option ℕ
list_number p = option_and_then (within 1 last_number) (own_number p)

-- a text of a person, as the WCA ID; the empty text where there is none
abbrev pub text_of : List ℕ → Option Data → List ℕ
text_of name None = []
text_of name (Some p) = text_under name p

-- a number at a place is noted, unless it is already
abbrev pub NotesFirst : {S : Type 0} → Option ℕ → ℕ → HashMap ℕ ℕ S → HashMap ℕ ℕ S → Type 0
NotesFirst own place old new =
    (n : ℕ) → get nat_eq new n
    ≡ option_or (get nat_eq old n) (if is_number n own then Some place else None)

-- where the first accepted one of these persons with each number is
abbrev pub AreFirsts : {S : Type 0} → HashMap ℕ ℕ S → List Data → Type 0
AreFirsts places ps = (n : ℕ) → get nat_eq places n ≡ position (has_number n) ps
