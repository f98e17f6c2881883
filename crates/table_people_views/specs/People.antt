-- The page of competitors (the project's own).
use Rattle.std.specs.Prelude.{◌≡◌, ◌≤◌, ◌<◌, ℕ, suc, IsSome, if◌then◌else◌, List, [], ◌∷◌, ◌++◌}
use Rattle.std.specs.Prelude.{codes, decimal, flat_map, get_or, is_some, Option, None, Some}
use Rattle.std.specs.{Prelude.option_map, Prelude.unwrap_or, List.range_with_len}
use Rattle.markup.specs.{board_page.Escaped.escaped, Pieces.fill}
use Rattle.commands.specs.Accepted.{name_of, round_of}
use Rattle.formats.specs.{declared.events.Event.Event, Events.all_events, Events.event_name}
use Rattle.rounds.specs.Tables.{Table, entrant}
use Rattle.round_words.specs.Words.{event_words}
use Rattle.texts.specs.declared.command.Command.{Command}
use Rattle.table_views.specs.{declared.around.PageContext.PageContext, Logs.accepted_in}
use Rattle.table_views.specs.{Frame.top, Frame.bottom, Recent.recent_section}
use Rattle.table_views.specs.Forms.{button, choice, form_start, text_field}
use Rattle.table_people_views.specs.declared.people.TheConstants.{COMPETITOR, ENTERED}
use Rattle.table_people_views.specs.declared.people.TheConstants.{ENTERING_HEAD, PEOPLE_HEAD}
use Rattle.table_people_views.specs.declared.people.TheConstants.{REGISTERING_HEAD, SECTION_START}

-- the table of a round, where it was opened
abbrev pub table_of : List Command → Event → ℕ → Option Table
table_of accepted event round = option_map (λ r. r.1) (round_of accepted event round)

-- ---- the events of a competitor

abbrev pub event_word : Event → List ℕ
event_word event = fill ENTERED.now (event_name event ∷ [])

abbrev pub entered_if : ℕ → Event → Option Table → List ℕ
entered_if number event None = []
entered_if number event (Some t) = if is_some (entrant t number) then event_word event else []

-- an event in whose first round a competitor is
abbrev pub entered_in : List Command → ℕ → Event → List ℕ
entered_in accepted number event = entered_if number event (table_of accepted event 1)

-- ---- competitors

-- the name is a link to the page of the competitor
abbrev pub competitor_start : ℕ → List ℕ → List ℕ
competitor_start number name =
    fill COMPETITOR.now (decimal number ∷ decimal number ∷ escaped name ∷ [])

abbrev pub competitor_line : List Command → ℕ → List ℕ → List ℕ
competitor_line accepted number name =
    competitor_start number name ++ flat_map (entered_in accepted number) all_events
    ++ codes "</td></tr>\n"

-- the line of a competitor, if somebody has the number
abbrev pub competitor_in : List Command → ℕ → List ℕ
competitor_in accepted number =
    unwrap_or (option_map (competitor_line accepted number) (name_of accepted number)) []

-- the competitors whose numbers are up to this one
unfoldable pub competitors : List Command → ℕ → List ℕ
competitors accepted last = flat_map (competitor_in accepted) (range_with_len 1 last)

-- ---- the forms

abbrev pub open_if : Event → Option Table → List ℕ
open_if event None = []
open_if event (Some t) = if t.is_closed then [] else choice (event_name event) (event_words event)

-- an event whose first round is open
abbrev pub open_choice : List Command → Event → List ℕ
open_choice accepted event = open_if event (table_of accepted event 1)

unfoldable pub registering : List ℕ → ℕ → ℕ → List ℕ
registering token form number =
    REGISTERING_HEAD.now ++ form_start token form (codes "REG") (codes "/people")
    ++ text_field (codes "number") (codes "Number") (decimal number)
    ++ text_field (codes "name") (codes "Name") (codes "") ++ button (codes "Register")

unfoldable pub entering : List Command → List ℕ → ℕ → List ℕ
entering accepted token form =
    ENTERING_HEAD.now ++ form_start token form (codes "ENT") (codes "/people")
    ++ codes "<label>Event <select name=\"event\">\n"
    ++ flat_map (open_choice accepted) all_events ++ codes "</select></label>\n"
    ++ text_field (codes "number") (codes "Number") (codes "") ++ button (codes "Enter")

-- ---- the page

-- the number after the greatest below 9999 that somebody has
pub record IsProposed (accepted : List Command) (number : ℕ) : Type 0 where
  pub in_range : (1 ≤ number) × (number ≤ 9999)
  pub after : (k : ℕ) → 1 ≤ k → suc k ≡ number → IsSome (name_of accepted k)
  pub free : (k : ℕ) → number ≤ k → k < 9999 → name_of accepted k ≡ None

-- the forms, the first with a number proposed, and all competitors
unfoldable pub section : PageContext → ℕ → List ℕ
section around proposed =
    SECTION_START.now ++ registering around.token.now (get_or around.ids.now 0 0) proposed
    ++ entering (accepted_in around.mirror.now) around.token.now (get_or around.ids.now 1 0)
    ++ PEOPLE_HEAD.now
    ++ competitors (accepted_in around.mirror.now) 9999
    ++ codes "</tbody></table></section>\n"

abbrev pub IsSection : PageContext → List ℕ → Type 0
IsSection around text =
    (proposed : ℕ) × IsProposed (accepted_in around.mirror.now) proposed
    × (text ≡ section around proposed)

abbrev pub IsPeoplePage : PageContext → List ℕ → Type 0
IsPeoplePage around page =
    (inside : List ℕ) × IsSection around inside × (page
    ≡ top (codes "hall") (codes "Competitors") around ++ inside
    ++ recent_section around
    ++ bottom)
