-- The page that opens and closes rounds (the project's own).
use Rattle.std.specs.Prelude.{ℕ, ◌+◌, ◌-◌, Bool, true, false, if◌then◌else◌, nat_le, nat_lt, List}
use Rattle.std.specs.Prelude.{[], ◌∷◌, ◌++◌, codes, decimal, flat_map, get_or, Option, None, Some}
use Rattle.commands.specs.Accepted.{edition_in, leads_on, round_by}
use Rattle.formats.specs.declared.{advance.Advance.Advance, events.Event.Event}
use Rattle.formats.specs.declared.advance.Advance.TheVariants.{Final, Top, Percent}
use Rattle.formats.specs.Events.{all_events, attempts_of, event_edition, last_round}
use Rattle.rounds.specs.Tables.{Table}
use Rattle.round_words.specs.Words.{event_words, round_name, round_words, settings_words}
use Rattle.texts.specs.declared.command.{Command.Command, RoundId.RoundId, Settings.Settings}
use Rattle.markup.specs.Pieces.{fill}
use Rattle.table_views.specs.{declared.around.PageContext.PageContext, Logs.accepted_in}
use Rattle.table_views.specs.{Frame.top, Frame.bottom, Recent.recent_section, Forms.round_numbered}
use Rattle.table_round_views.specs.declared.round_forms.RoundState.{RoundState, TheVariants.ToOpen}
use Rattle.table_round_views.specs.declared.round_forms.RoundState.TheVariants.{Closed, Open}
use Rattle.table_round_views.specs.{Closing.open_round, Closing.through, Scrambles.scrambles}
use Rattle.table_views.specs.Editions.{edition_form, is_latest}
use Rattle.table_round_views.specs.{Opening.opening, Proposal.proposed, Reopening.again}
use Rattle.table_round_views.specs.declared.round_forms.TheConstants.{CALLED, LINK, ROW}

-- ---- which rounds have forms

-- the rounds before it allow that a round is opened: it is the first, or the one before it is
-- closed and no final
abbrev pub is_next : List Command → RoundId → Bool
is_next accepted id =
    if nat_le id.round 1 then true
    else leads_on (round_by accepted (round_numbered id.event (id.round - 1)))

abbrev pub closed_or_open : Bool → RoundState
closed_or_open true = Closed
closed_or_open false = Open

abbrev pub state_of : Bool → Option (Settings × Table) → Option RoundState
state_of next (Some round) = Some (closed_or_open round.1.is_closed)
state_of true None = Some ToOpen
state_of false None = None

abbrev pub state_words : RoundState → List ℕ
state_words Closed = codes "closed"
state_words Open = codes "open"
state_words ToOpen = codes "to open"

-- ---- the rounds of all events

abbrev pub link_rest : ℕ → List ℕ → List ℕ
link_rest round words = fill LINK.now (decimal round ∷ words ∷ [])

unfoldable pub link : RoundId → List ℕ → List ℕ
link id words = codes "<td><a href=\"/rounds?round=" ++ round_name id ++ link_rest id.round words

abbrev pub link_if : RoundId → Option RoundState → List ℕ
link_if id None = []
link_if id (Some state) = link id (state_words state)

-- a link to the forms of a round, if it was opened or can be
abbrev pub round_link : List Command → RoundId → List ℕ
round_link accepted id = link_if id (state_of (is_next accepted id) (round_by accepted id))

abbrev pub link_in : List Command → Event → ℕ → List ℕ
link_in accepted event round = round_link accepted (round_numbered event round)

abbrev pub event_head : Event → List ℕ
event_head event = fill ROW.now (event_words event ∷ [])

unfoldable pub row_of : List Command → Event → List ℕ
row_of accepted event =
    event_head event ++ flat_map (link_in accepted event) (1 ∷ 2 ∷ 3 ∷ 4 ∷ []) ++ codes "</tr>\n"

-- the row of an event, where the edition has it
abbrev pub event_row : List Command → Event → List ℕ
event_row accepted event =
    if nat_lt (edition_in accepted) (event_edition event) then []
    else row_of accepted event

-- the form that moves to edition 4, until it holds
abbrev pub edition_section : PageContext → List ℕ
edition_section around =
    if is_latest (accepted_in around.mirror.now)
    then codes "<p>Edition 4 of the commands holds.</p>\n"
    else edition_form around.token.now (get_or around.ids.now 0 0) (codes "/rounds")

abbrev pub all_head : List ℕ
all_head =
    codes "<section><h1>Open and close rounds</h1>\n<table><caption>By event</caption><tbody>\n"

unfoldable pub all_section : PageContext → List ℕ
all_section around =
    all_head
    ++ flat_map (event_row (accepted_in around.mirror.now)) all_events
    ++ codes "</tbody></table>\n" ++ edition_section around ++ codes "</section>\n"

-- ---- the forms of a round

unfoldable pub link_to_next : RoundId → List ℕ
link_to_next id =
    codes "<p><a href=\"/rounds?round=" ++ round_name id
    ++ codes "\">Open the next round</a></p>\n"

-- an event has at most four rounds (WCA Regulations, article 9m)
abbrev pub link_after : RoundId → List ℕ
link_after id =
    if nat_le last_round id.round then []
    else link_to_next (round_numbered id.event (id.round + 1))

abbrev pub next_link : RoundId → Advance → List ℕ
next_link id Final = []
next_link id (Top number) = link_after id
next_link id (Percent percent) = link_after id

-- who advances, a link to the next round, and the form that opens this one again
unfoldable pub closed_forms : PageContext → RoundId → Settings × Table → List ℕ
closed_forms around id round =
    codes "<p>The round is closed.</p>\n" ++ through (accepted_in around.mirror.now) id round
    ++ next_link id round.0.advance ++ again around id

unfoldable pub running_forms : PageContext → RoundId → Settings × Table → List ℕ
running_forms around id round =
    scrambles id.event around id (attempts_of round.0.format) ++ open_round around id round

abbrev pub closed_or_open_forms : Bool → PageContext → RoundId → Settings × Table → List ℕ
closed_or_open_forms true around id round = closed_forms around id round
closed_or_open_forms false around id round = running_forms around id round

unfoldable pub opened_forms : PageContext → RoundId → Settings × Table → List ℕ
opened_forms around id round =
    codes "<p class=\"rules\">" ++ settings_words id.event round.0 ++ codes "</p>\n"
    ++ closed_or_open_forms round.1.is_closed around id round

-- the form that opens the round, with what is proposed for it
abbrev pub proposed_opening : PageContext → RoundId → List ℕ
proposed_opening around id =
    opening around.token.now (get_or around.ids.now 0 0) id
    (proposed (accepted_in around.mirror.now) around.proposals.now id)

abbrev pub unopened_forms : PageContext → RoundId → List ℕ
unopened_forms around id =
    if is_next (accepted_in around.mirror.now) id
    then proposed_opening around id
    else codes "<p>The round before it is not closed, or is the final.</p>\n"

abbrev pub forms_if : PageContext → RoundId → Option (Settings × Table) → List ℕ
forms_if around id (Some round) = opened_forms around id round
forms_if around id None = unopened_forms around id

abbrev pub numbered : RoundId → List ℕ
numbered id = fill CALLED.now (event_words id.event ∷ decimal id.round ∷ [])

-- a round is called by its number, until it is opened
abbrev pub called : RoundId → Option (Settings × Table) → List ℕ
called id None = numbered id
called id (Some round) = round_words id round.0.advance

unfoldable pub round_head : RoundId → Option (Settings × Table) → List ℕ
round_head id round =
    codes "<section><h1>" ++ called id round ++ codes "</h1>\n<p><a href=\"/card/"

unfoldable pub round_section : PageContext → RoundId → List ℕ
round_section around id =
    round_head id (round_by (accepted_in around.mirror.now) id) ++ round_name id
    ++ codes "\">its cards</a></p>\n"
    ++ forms_if around id (round_by (accepted_in around.mirror.now) id) ++ codes "</section>\n"

-- ---- the page: of all events, or of a round

abbrev pub inside : PageContext → Option RoundId → List ℕ
inside around None = all_section around
inside around (Some id) = round_section around id

unfoldable pub rounds_page : PageContext → Option RoundId → List ℕ
rounds_page around round =
    top (codes "hall") (codes "Open and close rounds") around
    ++ inside around round
    ++ recent_section around
    ++ bottom
