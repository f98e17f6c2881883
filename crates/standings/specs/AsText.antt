-- What is printed of the answers of a hall's desks (the project's own).
use Rattle.std.specs.Prelude.{ℕ, ◌==◌, Bool, true, false, not, List, [], ◌∷◌, ◌++◌, codes, decimal}
use Rattle.std.specs.Prelude.{flat_map, if◌then◌else◌, Option, None, Some}
use Rattle.std.specs.List.{list_any}
use Rattle.client.specs.Printing.{refusal_name}
use Rattle.wire.specs.declared.{values.DeskRole.DeskRole, standing.Difference.Difference}
use Rattle.wire.specs.declared.values.DeskRole.TheVariants.{Idle, Gathering, Proposing, Leading}
use Rattle.wire.specs.declared.standing.Difference.TheVariants.{OtherEntry, Shorter}
use Rattle.standings.specs.Standings.{answered, behind_by, every_desk, is_majority, missing, newest}
use Rattle.standings.specs.Standings.{difference, size_of, some_behind, standing_count, unasked}
use Rattle.standings.specs.declared.polled.{PolledDesk.PolledDesk, StatusReply.StatusReply}
use Rattle.standings.specs.declared.polled.StatusReply.TheVariants as reply

abbrev pub role_name : DeskRole → List ℕ
role_name Idle = codes "idle"
role_name Gathering = codes "gathering"
role_name Proposing = codes "proposing"
role_name Leading = codes "leading"

-- this many commands
abbrev pub commands_text : ℕ → List ℕ
commands_text n = decimal n ++ (if n == 1 then codes " command" else codes " commands")

-- another desk than the one that was asked for says which it is
abbrev pub name_text : (asked desk : ℕ) → List ℕ
name_text asked desk =
    if desk == asked then [] else codes "this is desk " ++ decimal desk ++ codes "  "

-- what came of asking for the desk of a number
abbrev pub reply_text : ℕ → StatusReply → List ℕ
reply_text asked (reply.Stands desk standing) =
    name_text asked desk ++ role_name standing.role ++ codes "  "
    ++ commands_text standing.length ++ codes "  " ++ decimal standing.waiting ++ codes " waiting"
reply_text asked (reply.Earlier desk) = name_text asked desk ++ codes "an earlier program"
reply_text asked reply.CannotConnect = codes "cannot connect"
reply_text asked reply.NoAnswer = codes "no answer"
reply_text asked reply.Late = codes "no answer in time"
reply_text asked reply.NoKey = codes "the desk has no key"
reply_text asked reply.OtherKey = codes "the desk has another key"
reply_text asked reply.HasKey = codes "the desk has a key"
reply_text asked (reply.Refused refusal) = codes "refused " ++ refusal_name refusal

-- a desk of this many
abbrev pub place_text : (size asked : ℕ) → List ℕ
place_text size asked =
    codes "desk " ++ decimal asked ++ codes " of " ++ decimal size ++ codes "  "

-- the line of a desk that was asked
abbrev pub line_text : (size : ℕ) → PolledDesk → List ℕ
line_text size p =
    place_text size p.asked ++ reply_text p.asked p.reply ++ codes "  " ++ p.address.now
    ++ codes "\n"

-- ---- what it means

-- another desk than the one that was asked for answered
abbrev pub is_other : ℕ → StatusReply → Bool
is_other asked (reply.Stands desk standing) = not (desk == asked)
is_other asked (reply.Earlier desk) = not (desk == asked)
is_other asked _ = false

abbrev pub some_elsewhere : List PolledDesk → Bool
some_elsewhere polled = list_any (λ p. is_other p.asked p.reply) polled

-- the addresses are in the order of the desks, as far as these answered
abbrev pub in_order : List PolledDesk → Bool
in_order polled = not (some_elsewhere polled)

abbrev pub order_text : List PolledDesk → List ℕ
order_text polled =
    if in_order polled then []
    else codes "the addresses are not in the order of the desks\n"

abbrev pub verb_text : ℕ → List ℕ
verb_text n = if n == 1 then codes " desks answers: " else codes " desks answer: "

-- this many of the desks answer
abbrev pub count_text : (answered size : ℕ) → List ℕ
count_text n size = decimal n ++ codes " of " ++ decimal size ++ verb_text n

-- a desk lacks this many commands
abbrev pub lag_text : (desk by : ℕ) → List ℕ
lag_text desk by =
    codes "desk " ++ decimal desk ++ codes " is " ++ commands_text by ++ codes " behind"

-- what each of these desks lacks, where one lacks any, and a semicolon between two of them, and in
-- front of the first one where something is there
abbrev pub lags_text : (follows : Bool) → List PolledDesk → List ℕ → List ℕ
lags_text follows polled [] = []
lags_text follows polled (desk ∷ desks) =
    if behind_by polled desk == 0 then lags_text follows polled desks
    else (if follows then codes "; " else []) ++ lag_text desk (behind_by polled desk)
    ++ lags_text true polled desks

-- what each desk of the hall lacks
unfoldable pub every_lag_text : (follows : Bool) → List PolledDesk → List ℕ
every_lag_text follows polled = lags_text follows polled every_desk

abbrev pub all_text : (size newest : ℕ) → List ℕ
all_text size newest =
    codes "all " ++ decimal size ++ codes " desks have all " ++ commands_text newest

-- each desk of the hall said how it is
abbrev pub all_stand_text : List PolledDesk → List ℕ
all_stand_text polled =
    if some_behind polled then every_lag_text false polled
    else all_text (size_of polled) (newest polled)

abbrev pub works_text : List PolledDesk → List ℕ
works_text polled = codes "the hall works" ++ every_lag_text true polled

-- a majority answered, and not each desk said how it is
abbrev pub some_stand_text : List PolledDesk → List ℕ
some_stand_text polled =
    count_text (answered polled) (size_of polled) ++ works_text polled

-- a majority answered
abbrev pub going_text : List PolledDesk → List ℕ
going_text polled =
    if standing_count polled == size_of polled then all_stand_text polled
    else some_stand_text polled

-- this many more have to run
abbrev pub more_text : ℕ → List ℕ
more_text missing =
    codes "nothing is decided until "
    ++ (if missing == 1 then codes "another one runs" else decimal missing ++ codes " more run")

-- this many were not asked
abbrev pub unasked_text : ℕ → List ℕ
unasked_text n = decimal n ++ (if n == 1 then codes " was not asked" else codes " were not asked")

-- what is wanted for a majority: the desks that weren't asked may run; else this many more have to
abbrev pub wanted_text : List PolledDesk → List ℕ
wanted_text polled =
    if unasked polled == 0 then more_text (missing polled) else unasked_text (unasked polled)

-- no majority answered
abbrev pub waiting_text : List PolledDesk → List ℕ
waiting_text polled = count_text (answered polled) (size_of polled) ++ wanted_text polled

-- a desk differs: how, and what to do
abbrev pub other_text : (desk position : ℕ) → List ℕ
other_text desk position =
    decimal desk ++ codes " has another command at " ++ decimal position

abbrev pub shorter_text : (desk len : ℕ) → List ℕ
shorter_text desk len =
    decimal desk ++ codes " has " ++ commands_text len ++ codes " and had more"

abbrev pub differs_text : Difference → List ℕ
differs_text (OtherEntry desk position) = other_text desk position
differs_text (Shorter desk len) = shorter_text desk len

abbrev pub difference_text : Difference → List ℕ
difference_text d =
    codes "desk " ++ differs_text d
    ++ codes ": enter nothing more; see HALL, 'Two desks differ'"

abbrev pub majority_text : List PolledDesk → List ℕ
majority_text polled = if is_majority polled then going_text polled else waiting_text polled

abbrev pub state_by : Option Difference → List PolledDesk → List ℕ
state_by None polled = majority_text polled
state_by (Some d) polled = difference_text d

abbrev pub state_text : List PolledDesk → List ℕ
state_text polled = state_by (difference polled) polled

-- a line for each desk that was asked, and what they mean
abbrev pub text_of : List PolledDesk → List ℕ
text_of polled =
    flat_map (line_text (size_of polled)) polled ++ order_text polled ++ state_text polled
    ++ codes "\n"
