-- The page of a competitor (the project's own).
use Rattle.std.specs.Prelude.{ℕ, if◌then◌else◌, List, [], ◌∷◌, ◌++◌, codes, decimal, flat_map}
use Rattle.std.specs.Prelude.{get_or, is_some, Option, None, Some, option_map}
use Rattle.markup.specs.{board_page.Escaped.escaped, Pieces.fill}
use Rattle.commands.specs.Accepted.{name_of, round_by}
use Rattle.formats.specs.declared.{advance.Advance.Advance, events.Event.Event}
use Rattle.formats.specs.Events.{all_events}
use Rattle.rounds.specs.Tables.{Table, entrant}
use Rattle.round_words.specs.Words.{round_name, round_words}
use Rattle.texts.specs.declared.command.{Command.Command, RoundId.RoundId, Settings.Settings}
use Rattle.table_views.specs.{declared.around.PageContext.PageContext, Leaving.may_leave}
use Rattle.table_views.specs.{Frame.top, Frame.bottom, Editions.edition_form, Editions.is_latest}
use Rattle.table_views.specs.{Logs.accepted_in, Recent.recent_section, Forms.unseen}
use Rattle.table_views.specs.Forms.{button, form_start, person_path, round_numbered, text_field}
use Rattle.table_people_views.specs.declared.person.TheConstants.{RENAMING_HEAD, ROUND_LINK}
use Rattle.table_people_views.specs.declared.person.TheConstants.{SECTION, WITHDRAWING_HEAD}

-- the beginning of a form for a competitor, whose number it carries unseen
unfoldable pub person_form : List ℕ → ℕ → List ℕ → ℕ → List ℕ
person_form token form command number =
    form_start token form command (person_path number)
    ++ unseen (codes "number") (decimal number)

-- the present name is filled in
unfoldable pub renaming : List ℕ → ℕ → ℕ → List ℕ → List ℕ
renaming token form number name =
    RENAMING_HEAD.now ++ person_form token form (codes "REN") number
    ++ text_field (codes "name") (codes "Name") name ++ button (codes "Change the name")

-- ---- the rounds in which the competitor is

abbrev pub number_part : ℕ → List ℕ
number_part number = fill ROUND_LINK.now (decimal number ∷ [])

-- a link to the card
unfoldable pub round_link : ℕ → RoundId → List ℕ
round_link number id =
    codes " <a href=\"/card/" ++ round_name id ++ number_part number ++ round_name id
    ++ codes "</a>"

abbrev pub link_if : ℕ → RoundId → Option (Settings × Table) → List ℕ
link_if number id None = []
link_if number id (Some round) =
    if is_some (entrant round.1 number) then round_link number id else []

abbrev pub within : List Command → ℕ → Event → ℕ → List ℕ
within accepted number event round =
    link_if number (round_numbered event round) (round_by accepted (round_numbered event round))

abbrev pub within_event : List Command → ℕ → Event → List ℕ
within_event accepted number event =
    flat_map (within accepted number event) (1 ∷ 2 ∷ 3 ∷ 4 ∷ [])

-- ---- withdrawing

-- a button sends its round
unfoldable pub leave_button : RoundId → Advance → List ℕ
leave_button id advance =
    codes "<button name=\"round\" value=\"" ++ round_name id ++ codes "\">Withdraw from "
    ++ round_words id advance ++ codes "</button>\n"

abbrev pub leave_if : ℕ → RoundId → Option (Settings × Table) → List ℕ
leave_if number id None = []
leave_if number id (Some round) =
    if may_leave round.1 number then leave_button id round.0.advance else []

-- a button for a round from which the competitor can withdraw
abbrev pub leave_round : List Command → ℕ → RoundId → List ℕ
leave_round accepted number id = leave_if number id (round_by accepted id)

abbrev pub leave_in : List Command → ℕ → Event → ℕ → List ℕ
leave_in accepted number event round = leave_round accepted number (round_numbered event round)

-- the rounds of an event
abbrev pub leave_event : List Command → ℕ → Event → List ℕ
leave_event accepted number event =
    flat_map (leave_in accepted number event) (1 ∷ 2 ∷ 3 ∷ 4 ∷ [])

-- the rounds of all events
abbrev pub leave_buttons : List Command → ℕ → List ℕ
leave_buttons accepted number = flat_map (leave_event accepted number) all_events

-- a form with these buttons, what becomes of it, and the rule of who takes the place
unfoldable pub withdrawing : List ℕ → ℕ → ℕ → List ℕ → List ℕ
withdrawing token form number buttons =
    WITHDRAWING_HEAD.now ++ person_form token form (codes "WDR") number ++ buttons
    ++ codes "</form>\n"

-- no form where there is no button
abbrev pub withdrawing_if : List ℕ → ℕ → ℕ → List ℕ → List ℕ
withdrawing_if token form number [] = []
withdrawing_if token form number (byte ∷ bytes) = withdrawing token form number (byte ∷ bytes)

-- ---- the page

-- the forms of edition 4
unfoldable pub mending : PageContext → ℕ → List ℕ → List ℕ
mending around number name =
    renaming around.token.now (get_or around.ids.now 0 0) number name
    ++ withdrawing_if around.token.now (get_or around.ids.now 1 0) number
    (leave_buttons (accepted_in around.mirror.now) number)

-- or the form that moves to it
abbrev pub mending_or_edition : PageContext → ℕ → List ℕ → List ℕ
mending_or_edition around number name =
    if is_latest (accepted_in around.mirror.now) then mending around number name
    else edition_form around.token.now (get_or around.ids.now 0 0) (person_path number)

abbrev pub person_head : ℕ → List ℕ → List ℕ
person_head number name = fill SECTION.now (escaped name ∷ decimal number ∷ [])

-- name, number, the rounds in which the competitor is, and the forms
unfoldable pub person_section : PageContext → ℕ → List ℕ → List ℕ
person_section around number name =
    person_head number name
    ++ flat_map (within_event (accepted_in around.mirror.now) number) all_events ++ codes "</p>\n"
    ++ mending_or_edition around number name ++ codes "</section>\n"

unfoldable pub page_of : PageContext → ℕ → List ℕ → List ℕ
page_of around number name =
    top (codes "hall") (codes "Competitor") around
    ++ person_section around number name
    ++ recent_section around
    ++ bottom

-- where somebody has the number
abbrev pub person_page : PageContext → ℕ → Option (List ℕ)
person_page around number =
    option_map (page_of around number) (name_of (accepted_in around.mirror.now) number)
