-- The file of a competition: JSON in the words of the WCA Competition Interchange Format (its
-- Competition, Person, Registration, Event, Round, TimeLimit, Cutoff and AdvancementCondition;
-- https://github.com/thewca/wcif, specification.md), without white space, with the members in one
-- order, an e-mail address before the name.
use Rattle.std.specs.Prelude.{ℕ, ◌+◌, List, [], ◌∷◌, ◌++◌, map, codes, decimal, Option, Some, None}
use Rattle.json.specs.Json.{Json, null, number, string, array, object, no_members, member}
use Rattle.json.specs.{Print.print, Tree.json_tokens, Value.items_of}
use Rattle.formats.specs.{declared.advance.Advance.Advance as Advances, Events.event_name}
use Rattle.formats.specs.declared.advance.Advance.TheVariants.{Final, Top, Percent}
use Rattle.formats.specs.declared.events.{Event.Event, Format.Format}
use Rattle.formats.specs.declared.events.Format.TheVariants.{Ao5, Mo3, Bo1, Bo2, Bo3}
use Rattle.texts.specs.declared.command.Settings.{Settings}
use Rattle.import_laws.specs.Competitions.{Status, accepted, pending, deleted, Person, Held}
use Rattle.import_laws.specs.Competitions.{Competition}

abbrev pub whole : ℕ → Json
whole n = number (decimal n)

abbrev pub list : List Json → Json
list js = array (items_of js)

-- A person.

abbrev pub status_name : Status → List ℕ
status_name accepted = codes "accepted"
status_name pending = codes "pending"
status_name deleted = codes "deleted"

abbrev pub text_or_null : Option (List ℕ) → Json
text_or_null None = null
text_or_null (Some text) = string text

abbrev pub whole_or_null : Option ℕ → Json
whole_or_null None = null
whole_or_null (Some n) = whole n

abbrev pub event_id : Event → Json
event_id e = string (event_name e)

abbrev pub registration_json : Person → Json
registration_json p =
    object (member (codes "status") (string (status_name p.status))
    (member (codes "eventIds") (list (map event_id p.events)) no_members))

unfoldable pub person_json : Person → Json
person_json p =
    object (member (codes "email") (string p.email) (member (codes "name") (string p.name)
    (member (codes "wcaId") (text_or_null p.wca_id)
    (member (codes "registrantId") (whole_or_null p.number)
    (member (codes "registration") (registration_json p) no_members)))))

-- A round.

abbrev pub format_code : Format → List ℕ
format_code Bo1 = codes "1"
format_code Bo2 = codes "2"
format_code Bo3 = codes "3"
format_code Ao5 = codes "a"
format_code Mo3 = codes "m"

-- the limit of each attempt, in hundredths of a second
abbrev pub limit_json : Option ℕ → Json
limit_json None = null
limit_json (Some limit) =
    object (member (codes "centiseconds") (whole limit)
    (member (codes "cumulativeRoundIds") (list []) no_members))

-- this many attempts, and the result that one of them has to be below
abbrev pub cutoff_json : Option (ℕ × ℕ) → Json
cutoff_json None = null
cutoff_json (Some cutoff) =
    object (member (codes "numberOfAttempts") (whole cutoff.0)
    (member (codes "attemptResult") (whole cutoff.1) no_members))

abbrev pub condition_json : List ℕ → ℕ → Json
condition_json type level =
    object (member (codes "type") (string type) (member (codes "level") (whole level) no_members))

-- a final has no condition
abbrev pub advance_json : Advances → Json
advance_json Final = null
advance_json (Top n) = condition_json (codes "ranking") n
advance_json (Percent n) = condition_json (codes "percent") n

-- the event's name, `-r` and the number
abbrev pub round_name : Event → ℕ → List ℕ
round_name e n = event_name e ++ codes "-r" ++ decimal n

unfoldable pub round_json : Event → ℕ → Settings → Json
round_json e n s =
    object (member (codes "id") (string (round_name e n))
    (member (codes "format") (string (format_code s.format))
    (member (codes "timeLimit") (limit_json s.limit) (member (codes "cutoff") (cutoff_json s.cutoff)
    (member (codes "advancementCondition") (advance_json s.advance)
    (member (codes "results") (list []) no_members))))))

-- An event.

-- the rounds from this number on
abbrev pub rounds_json : Event → ℕ → List Settings → List Json
rounds_json e n [] = []
rounds_json e n (s ∷ ss) = round_json e n s ∷ rounds_json e (n + 1) ss

unfoldable pub event_json : Held → Json
event_json h =
    object (member (codes "id") (event_id h.event)
    (member (codes "rounds") (list (rounds_json h.event 1 h.rounds)) no_members))

-- The competition.

unfoldable pub file_json : Competition → Json
file_json c =
    object (member (codes "formatVersion") (string (codes "1.0"))
    (member (codes "name") (string c.name)
    (member (codes "persons") (list (map person_json c.persons))
    (member (codes "events") (list (map event_json c.events)) no_members))))

-- the bytes of the file
abbrev pub spelled : Competition → List ℕ
spelled c = print (json_tokens (file_json c))
