-- The answers of a hall's desks as a JSON value: an object with these members, in this order (the
-- project's own).
use Rattle.std.specs.Prelude.{ℕ, ◌==◌, List, [], ◌∷◌, Option, None, Some, codes, decimal, flat_map}
use Rattle.std.specs.Prelude.{if◌then◌else◌, map}
use Rattle.json.specs.Json.{Json, null, boolean, number, string, array, object, Members, no_members}
use Rattle.json.specs.{Json.member, Value.items_of}
use Rattle.acceptor.specs.declared.ballot.Ballot.{Ballot}
use Rattle.client.specs.Printing.{refusal_name}
use Rattle.wire.specs.{Spelling.lengths_of, declared.standing.Difference.Difference}
use Rattle.wire.specs.declared.standing.Difference.TheVariants.{OtherEntry, Shorter}
use Rattle.standings.specs.AsText.{in_order, role_name}
use Rattle.standings.specs.Standings.{answered, behind_by, every_desk, is_majority, difference}
use Rattle.standings.specs.Standings.{size_of, status_of}
use Rattle.standings.specs.declared.polled.{PolledDesk.PolledDesk, StatusReply.StatusReply}
use Rattle.standings.specs.declared.polled.StatusReply.TheVariants as reply

abbrev pub natural : ℕ → Json
natural n = number (decimal n)

-- a list, with what this says of each of its items
abbrev pub list_of : {X : Type 0} → (X → Json) → List X → Json
list_of f xs = array (items_of (map f xs))

-- a ballot, or null where none was promised
abbrev pub promised_json : Option Ballot → Json
promised_json None = null
promised_json (Some b) =
    object (member (codes "round") (natural b.number)
    (member (codes "desk") (natural b.desk) no_members))

-- a word for why it isn't known how a desk is
abbrev pub fault_members : List ℕ → Members
fault_members name = member (codes "fault") (string name) no_members

-- what came of asking a desk: how it is, or why that isn't known
abbrev pub reply_members : StatusReply → Members
reply_members (reply.Stands desk standing) =
    member (codes "desk") (natural desk) (member (codes "role") (string (role_name standing.role))
    (member (codes "commands") (natural standing.length)
    (member (codes "waiting") (natural standing.waiting)
    (member (codes "promised") (promised_json standing.promised)
    (member (codes "told") (list_of natural (lengths_of standing.told)) no_members)))))
reply_members (reply.Earlier desk) =
    member (codes "desk") (natural desk) (fault_members (codes "an earlier program"))
reply_members reply.CannotConnect = fault_members (codes "cannot connect")
reply_members reply.NoAnswer = fault_members (codes "no answer")
reply_members reply.Late = fault_members (codes "no answer in time")
reply_members reply.NoKey = fault_members (codes "the desk has no key")
reply_members reply.OtherKey = fault_members (codes "the desk has another key")
reply_members reply.HasKey = fault_members (codes "the desk has a key")
reply_members (reply.Refused refusal) =
    member (codes "fault") (string (codes "refused"))
    (member (codes "refusal") (string (refusal_name refusal)) no_members)

-- a desk that was asked
abbrev pub polled_json : PolledDesk → Json
polled_json p =
    object (member (codes "asked") (natural p.asked)
    (member (codes "address") (string p.address.now) (reply_members p.reply)))

-- how many commands a desk lacks
abbrev pub lag_json : (desk by : ℕ) → Json
lag_json desk by =
    object (member (codes "desk") (natural desk)
    (member (codes "commands") (natural by) no_members))

-- what a desk lacks, where it lacks any
abbrev pub lag_of : List PolledDesk → ℕ → List Json
lag_of polled desk =
    if behind_by polled desk == 0 then [] else lag_json desk (behind_by polled desk) ∷ []

-- the desks that are behind
abbrev pub lags_json : List PolledDesk → Json
lags_json polled = array (items_of (flat_map (lag_of polled) every_desk))

-- how a desk differs: where it has another command, or how many it has now
abbrev pub other_json : (desk position : ℕ) → Json
other_json desk position =
    object (member (codes "desk") (natural desk)
    (member (codes "position") (natural position) no_members))

abbrev pub differs_json : Difference → Json
differs_json (OtherEntry desk position) = other_json desk position
differs_json (Shorter desk len) = lag_json desk len

-- or null where none does
abbrev pub difference_json : Option Difference → Json
difference_json None = null
difference_json (Some d) = differs_json d

-- what they come to
abbrev pub meaning_members : List PolledDesk → Members
meaning_members polled =
    member (codes "size") (natural (size_of polled))
    (member (codes "answered") (natural (answered polled))
    (member (codes "majority") (boolean (is_majority polled))
    (member (codes "in_order") (boolean (in_order polled))
    (member (codes "behind") (lags_json polled)
    (member (codes "differs") (difference_json (difference polled))
    (member (codes "status") (natural (status_of polled)) no_members))))))

abbrev pub hall_json : (hall : ℕ) → List PolledDesk → Json
hall_json hall polled =
    object (member (codes "hall") (natural hall)
    (member (codes "desks") (list_of polled_json polled) (meaning_members polled)))
