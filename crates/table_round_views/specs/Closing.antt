-- The forms of a round that is open (the project's own).
use Rattle.std.specs.Prelude.{ℕ, Bool, true, false, ◌==◌, if◌then◌else◌, nat_le, List, [], ◌∷◌}
use Rattle.std.specs.Prelude.{◌++◌, codes, decimal, filter, flat_map, get_or, length, Option, None}
use Rattle.std.specs.Prelude.{Some, option_map}
use Rattle.advancement.specs.{Advancing.advancing, Advancing.quota, Waiting.waiting}
use Rattle.markup.specs.{board_page.Escaped.escaped, Pieces.fill}
use Rattle.formats.specs.declared.advance.Advance.{Advance}
use Rattle.formats.specs.declared.advance.Advance.TheVariants.{Final, Top, Percent}
use Rattle.rounds.specs.Tables.{Table, entrant, place, started}
use Rattle.texts.specs.{Spelling.spelling, declared.command.Command.TheVariants.Close}
use Rattle.texts.specs.declared.command.{Command.Command, RoundId.RoundId, Settings.Settings}
use Rattle.table_views.specs.{declared.around.PageContext.PageContext, Logs.accepted_in}
use Rattle.table_round_views.specs.{Absent.never_came, Changing.changing, Opening.advance_fields}
use Rattle.table_views.specs.{Editions.is_latest, Forms.button, Forms.round_form, Forms.unseen}
use Rattle.table_round_views.specs.Entrants.{entrant_line, unfinished}
use Rattle.table_round_views.specs.declared.closing.TheConstants.{CHANGE_HEAD, LIST_THROUGH}
use Rattle.table_round_views.specs.declared.closing.TheConstants.{TIED_LIST, TOLD, UNTIED}

-- the command that closes a round
abbrev pub close_text : RoundId → List ℕ
close_text id = spelling (Close id)

-- ---- ties at the border

-- the place of the entrant with a number
abbrev pub place_of : Table → ℕ → Option ℕ
place_of t number = option_map (place t) (entrant t number)

abbrev pub is_there : ℕ → Option ℕ → Bool
is_there wanted None = false
is_there wanted (Some place) = place == wanted

-- the entrant with a number has this place
abbrev pub is_placed : Table → ℕ → ℕ → Bool
is_placed t wanted number = is_there wanted (place_of t number)

abbrev pub those_placed : Table → Option ℕ → List ℕ → List ℕ
those_placed t None numbers = []
those_placed t (Some wanted) numbers = filter (is_placed t wanted) numbers

-- those of these numbers who share the place of the first
abbrev pub sharing : Table → List ℕ → List ℕ
sharing t [] = []
sharing t (first ∷ others) = those_placed t (place_of t first) (first ∷ others)

abbrev pub tied_head : ℕ → List ℕ
tied_head most = fill TIED_LIST.now (decimal most ∷ [])

-- these are tied
unfoldable pub tied_list : List Command → RoundId → ℕ → List ℕ → List ℕ
tied_list accepted id most numbers =
    tied_head most ++ flat_map (entrant_line accepted id) numbers ++ codes "</ul>\n"

abbrev pub untied : ℕ → List ℕ
untied most = fill UNTIED.now (decimal most ∷ [])

-- who is tied, or that nobody is
abbrev pub tied : List Command → RoundId → ℕ → List ℕ → List ℕ
tied accepted id most [] = untied most
tied accepted id most (number ∷ numbers) = tied_list accepted id most (number ∷ numbers)

-- where fewer advance than could, the best of those who don't advance are tied at the border
abbrev pub tie : List Command → RoundId → Table → Advance → ℕ → ℕ → List ℕ
tie accepted id t advance most through =
    if nat_le most through then [] else tied accepted id most (sharing t (waiting t advance))

-- ---- who advances

abbrev pub these_go_on : ℕ → List ℕ
these_go_on count = fill LIST_THROUGH.now (decimal count ∷ [])

-- these advance, of this many who could
unfoldable pub list_through : List Command → RoundId → Table → Advance → ℕ → List ℕ → List ℕ
list_through accepted id t advance most numbers =
    these_go_on (length numbers) ++ flat_map (entrant_line accepted id) numbers
    ++ codes "</ol>\n" ++ tie accepted id t advance most (length numbers)

abbrev pub through_by : Advance → List Command → RoundId → Table → List ℕ
through_by Final accepted id t = codes "<p>It is the final: nobody advances.</p>\n"
through_by (Top number) accepted id t =
    list_through accepted id t (Top number) (quota (Top number) (started t))
    (advancing t (Top number))
through_by (Percent percent) accepted id t =
    list_through accepted id t (Percent percent) (quota (Percent percent) (started t))
    (advancing t (Percent percent))

-- who advances, if the round is closed as it is
abbrev pub through : List Command → RoundId → Settings × Table → List ℕ
through accepted id round = through_by round.0.advance accepted id round.1

-- who advances now is chosen beforehand
unfoldable pub change : List ℕ → ℕ → RoundId → Advance → List ℕ
change token form id advance =
    CHANGE_HEAD.now ++ round_form token form (codes "ADV") id ++ advance_fields advance
    ++ button (codes "Change who advances")

-- from edition 4 on a closed round can be opened again
abbrev pub closing_words : Bool → List ℕ
closing_words true = codes "It can be opened again until the next round is opened."
closing_words false = codes "Nothing in it changes afterwards."

abbrev pub closing_line : Bool → List ℕ → List ℕ
closing_line mends text = fill TOLD.now (closing_words mends ∷ escaped text ∷ [])

-- the command is sent as it is shown
abbrev pub closing_told : Bool → List ℕ → List ℕ
closing_told mends text = unseen (codes "text") text ++ closing_line mends text

unfoldable pub close : Bool → List ℕ → ℕ → RoundId → List ℕ
close mends token form id =
    codes "<h2>Close the round</h2>\n" ++ round_form token form (codes "CLOSE") id
    ++ closing_told mends (close_text id) ++ button (codes "Close the round")

-- who is unfinished, with a form for those who never came; who advances; and the other forms
unfoldable pub open_round : PageContext → RoundId → Settings × Table → List ℕ
open_round around id round =
    unfinished (accepted_in around.mirror.now) id round ++ never_came around id round
    ++ through (accepted_in around.mirror.now) id round ++ changing around id round
    ++ change around.token.now (get_or around.ids.now 1 0) id round.0.advance
    ++ close (is_latest (accepted_in around.mirror.now)) around.token.now
    (get_or around.ids.now 0 0) id
