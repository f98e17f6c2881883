-- The cards and the commands of late, and what became of each (the project's own).
use Rattle.std.specs.Prelude.{ℕ, zero, suc, ◌+◌, ◌-◌, ◌/◌, ◌==◌, ◌&&◌, List, [], ◌∷◌, ◌++◌, Bool}
use Rattle.std.specs.Prelude.{true, false, codes, decimal, flat_map, length, Option, None, Some}
use Rattle.std.specs.Prelude.{is_some, if◌then◌else◌}
use Rattle.attempts.specs.{Texts.value_text, declared.Unit.Unit as Measure, declared.Value.Value}
use Rattle.formats.specs.Events.{unit_of}
use Rattle.markup.specs.{board_page.Escaped.escaped, Pieces.fill}
use Rattle.card_forms.specs.Entries.{card_in}
use Rattle.outbox.specs.declared.state.ItemState.{ItemState}
use Rattle.round_words.specs.Words.{round_name}
use Rattle.texts.specs.{Fields.enters_later, Spelling.was_text, meanings.Meanings.meaning_of}
use Rattle.texts.specs.declared.command.{CardEntry.CardEntry, Command.Command}
use Rattle.table_views.specs.declared.around.{PageContext.PageContext, Recent.Recent}
use Rattle.table_views.specs.{declared.desks.HallStatus.HallStatus, Desks.is_everywhere}
use Rattle.table_views.specs.Counts.{are_away, number_word}
use Rattle.table_views.specs.{Hidden.hidden, Logs.accepted_in, People.name_in, Reasons.why_words}
use Rattle.table_views.specs.{Standing.standing, Typed.typed_from}
use Rattle.table_views.specs.declared.recent.TheConstants.{BY, COMMAND, COMPETITOR, EVERYWHERE}
use Rattle.table_views.specs.declared.recent.TheConstants.{LINE_START, SAVED_BUT, UNDO, WAITS}
use Rattle.outbox.specs.declared.state.ItemState.TheVariants as state

-- ---- what was sent

-- the number and the name of a competitor, to which a link leads
abbrev pub competitor : List Command → ℕ → List ℕ
competitor accepted number =
    fill COMPETITOR.now (decimal number ∷ decimal number ∷ escaped (name_in accepted number) ∷ [])

-- a link that opens the card again, to what counts of the competitor
abbrev pub card_link : List Command → CardEntry → List ℕ
card_link accepted card =
    codes "<a href=\"/card/" ++ round_name card.id ++ competitor accepted card.number

-- a card as it was typed
abbrev pub card_line : List Command → CardEntry → List ℕ
card_line accepted card =
    card_link accepted card ++ codes " <small>" ++ round_name card.id
    ++ codes "</small> <span class=\"typed\">"
    ++ typed_from (unit_of card.id.event) card.was 0 card.now ++ codes "</span>"

abbrev pub command_line : List ℕ → List ℕ
command_line text = fill COMMAND.now (escaped text ∷ [])

abbrev pub item_line : List Command → List ℕ → Option CardEntry → List ℕ
item_line accepted text None = command_line text
item_line accepted text (Some card) = card_line accepted card

-- ---- what became of it

abbrev pub class_of : ItemState → List ℕ
class_of state.Waits = codes "waits"
class_of (state.Saved position) = codes "saved"
class_of (state.Changed position) = codes "changed"
class_of (state.Refused position why) = codes "refused"
class_of (state.OtherText position) = codes "refused"

abbrev pub waits_words : ℕ → List ℕ
waits_words milliseconds =
    fill WAITS.now (decimal (milliseconds / 1000) ∷ [])

-- saved, while this many machines are away
abbrev pub saved_but : ℕ → List ℕ
saved_but zero = codes "saved"
saved_but (suc count) =
    fill SAVED_BUT.now (number_word (suc count) ∷ are_away (suc count) ∷ [])

abbrev pub saved_everywhere : ℕ → List ℕ
saved_everywhere machines =
    fill EVERYWHERE.now (number_word machines ∷ [])

-- where the entry at a position is: on all machines, if they are known to have it
abbrev pub saved_words : HallStatus → ℕ → List ℕ
saved_words desks position =
    if is_everywhere desks (position + 1) then saved_everywhere (length desks.lengths.items)
    else saved_but (length desks.away.items)

abbrev pub value_words : Measure → Value → List ℕ
value_words unit value = value_text unit value ++ codes " "

-- what counts now
abbrev pub standing_words : Measure → List Value → List ℕ
standing_words unit [] = codes "nothing on record now"
standing_words unit (value ∷ values) =
    flat_map (value_words unit) (value ∷ values) ++ codes "on record now"

abbrev pub standing_of : List Command → CardEntry → List Value
standing_of accepted card = standing accepted card.id card.number

-- what counts now of the competitor of a card
abbrev pub stands_words : List Command → Option CardEntry → List ℕ
stands_words accepted None = []
stands_words accepted (Some card) =
    codes ": " ++ standing_words (unit_of card.id.event) (standing_of accepted card)

-- by which entry of the log
abbrev pub by_words : Option ℕ → List ℕ
by_words None = []
by_words (Some position) = fill BY.now (decimal (position + 1) ∷ [])

-- what became of an item of this card, if it is one
abbrev pub state_words : PageContext → Recent → Option CardEntry → ItemState → List ℕ
state_words around recent card state.Waits =
    waits_words (around.now - recent.item.now.since)
    ++ why_words around.desks.now recent.item.now.entry.id
state_words around recent card (state.Saved position) = saved_words around.desks.now position
state_words around recent card (state.Changed position) =
    codes "not entered, it was changed meanwhile"
    ++ stands_words (accepted_in around.mirror.now) card ++ by_words recent.by
state_words around recent card (state.Refused position why) =
    codes "not entered: " ++ meaning_of why
state_words around recent card (state.OtherText position) =
    codes "not entered: its id was used for something else"

-- ---- what a scoretaker may answer

-- the form enters what was typed over what counts now, as the page shows it
abbrev pub again_form : List ℕ → ℕ → List Value → List ℕ
again_form token id values =
    codes "<form method=\"post\" action=\"/again\">" ++ hidden token id
    ++ codes "<input type=\"hidden\" name=\"was\" value=\"" ++ was_text values
    ++ codes "\"><button>Enter it over what is on record now</button></form>\n"

-- if a card over these values has a spelling: if the attempts that it leaves as they are count
abbrev pub again_if : Bool → List ℕ → ℕ → List Value → List ℕ
again_if false token id values = []
again_if true token id values = again_form token id values

abbrev pub again_of : PageContext → ℕ → Option CardEntry → List ℕ
again_of around id None = []
again_of around id (Some card) =
    again_if (enters_later (length (standing_of (accepted_in around.mirror.now) card)) card.now)
    around.token.now id (standing_of (accepted_in around.mirror.now) card)

-- the form leaves it
abbrev pub leave_form : List ℕ → ℕ → List ℕ
leave_form token id =
    codes "<form method=\"post\" action=\"/answered\">" ++ hidden token id
    ++ codes "<button>Leave it</button></form>\n"

-- ---- what a scoretaker may take back

abbrev pub is_saved : ItemState → Bool
is_saved (state.Saved position) = true
is_saved _ = false

abbrev pub is_saved_card : Recent → Bool
is_saved_card recent = is_saved recent.state && is_some (card_in recent.item.now.entry.text)

-- the id of the first of these that is a card and is saved: of the newest, where they begin with it
abbrev pub newest_saved : List Recent → Option ℕ
newest_saved [] = None
newest_saved (recent ∷ others) =
    if is_saved_card recent then Some recent.item.now.entry.id else newest_saved others

-- the form takes back the card of an id
abbrev pub undo_form : List ℕ → ℕ → List ℕ
undo_form token id =
    codes "<form method=\"post\" action=\"/undo\">" ++ hidden token id
    ++ fill UNDO.now (decimal id ∷ [])

abbrev pub undo_of : List ℕ → Option ℕ → ℕ → List ℕ
undo_of token None id = []
undo_of token (Some newest) id = if newest == id then undo_form token id else []

-- the forms of an item: of all that are saved the newest card alone can be taken back
abbrev pub forms_of : PageContext → Option ℕ → ℕ → Option CardEntry → ItemState → List ℕ
forms_of around newest id card state.Waits = []
forms_of around newest id card (state.Saved position) = undo_of around.token.now newest id
forms_of around newest id card (state.Changed position) =
    again_of around id card ++ leave_form around.token.now id
forms_of around newest id card (state.Refused position why) = leave_form around.token.now id
forms_of around newest id card (state.OtherText position) = leave_form around.token.now id

-- ---- the section

abbrev pub line_start : ItemState → List ℕ
line_start became = fill LINE_START.now (class_of became ∷ [])

abbrev pub line_of : PageContext → Option ℕ → Recent → Option CardEntry → List ℕ
line_of around newest recent card =
    line_start recent.state
    ++ item_line (accepted_in around.mirror.now) recent.item.now.entry.text card
    ++ codes " <em>" ++ state_words around recent card recent.state ++ codes "</em>"
    ++ forms_of around newest recent.item.now.entry.id card recent.state ++ codes "</li>\n"

abbrev pub recent_line : PageContext → Option ℕ → Recent → List ℕ
recent_line around newest recent =
    line_of around newest recent (card_in recent.item.now.entry.text)

-- what was sent, newest first
abbrev pub recent_section : PageContext → List ℕ
recent_section around =
    codes "<section id=\"recent\"><h2>Last entered</h2>\n<ol>\n"
    ++ flat_map (recent_line around (newest_saved around.recent.now)) around.recent.now
    ++ codes "</ol></section>\n"
