-- The form that opens a round (the project's own).
use Rattle.std.specs.Prelude.{ℕ, Bool, true, false, ◌==◌, if◌then◌else◌, List, [], ◌∷◌, ◌++◌, codes}
use Rattle.std.specs.Prelude.{decimal, flat_map, take, Option, None, Some}
use Rattle.attempts.specs.{Texts.number_text, Texts.time_text, declared.Unit.Unit as Measure}
use Rattle.attempts.specs.declared.Unit.TheVariants.{Time, Moves, Multi}
use Rattle.formats.specs.declared.advance.Advance.{Advance}
use Rattle.formats.specs.declared.advance.Advance.TheVariants.{Final, Top, Percent}
use Rattle.formats.specs.declared.events.{Event.Event, Format.Format}
use Rattle.formats.specs.declared.events.Format.TheVariants.{Ao5, Mo3, Bo1, Bo2, Bo3}
use Rattle.formats.specs.Events.{format_name, is_allowed, unit_of}
use Rattle.round_words.specs.Words.{format_words}
use Rattle.texts.specs.declared.command.RoundId.{RoundId}
use Rattle.markup.specs.Pieces.{fill}
use Rattle.table_round_views.specs.declared.proposal.Proposal.{Proposal}
use Rattle.table_views.specs.Forms.{button, round_form, text_field, unit_field}
use Rattle.table_round_views.specs.declared.opening.TheConstants.{ADVANCE_OPTIONS, COME_HEAD}
use Rattle.table_round_views.specs.declared.opening.TheConstants.{CUTOFF_CHOICE, FORMAT_CHOICE}
use Rattle.table_round_views.specs.declared.opening.TheConstants.{OPENING_HEAD}

abbrev pub plain : List ℕ
plain = codes "\">"

abbrev pub chosen : List ℕ
chosen = codes "\" selected>"

abbrev pub same_format : Format → Format → Bool
same_format Ao5 Ao5 = true
same_format Mo3 Mo3 = true
same_format Bo1 Bo1 = true
same_format Bo2 Bo2 = true
same_format Bo3 Bo3 = true
same_format _ _ = false

-- what follows the value of an option; if it is the proposed one, it is chosen beforehand
abbrev pub format_mark : Option Format → Format → List ℕ
format_mark None format = plain
format_mark (Some proposed) format = if same_format proposed format then chosen else plain

-- a format, where the event may have it
abbrev pub format_choice : Event → Option Format → Format → List ℕ
format_choice event proposed format =
    if is_allowed event format
    then fill FORMAT_CHOICE.now (format_name format ∷ format_mark proposed format
    ∷ format_words format ∷ [])
    else []

-- what follows the number in the option of a number of attempts; it is chosen beforehand if the
-- cutoff that holds is after this many
abbrev pub after_mark : Option (ℕ × ℕ) → ℕ → List ℕ
after_mark None attempts = codes ">"
after_mark (Some cutoff) attempts =
    if cutoff.0 == attempts then codes " selected>" else codes ">"

abbrev pub cutoff_choice : Option (ℕ × ℕ) → ℕ → List ℕ
cutoff_choice cutoff attempts =
    fill CUTOFF_CHOICE.now (after_mark cutoff attempts ∷ decimal attempts ∷ [])

-- what one of the attempts has to be below, in the event's unit
abbrev pub border_text : Measure → Option (ℕ × ℕ) → List ℕ
border_text unit None = []
border_text unit (Some cutoff) = number_text unit cutoff.1

abbrev pub formats : List Format
formats = Ao5 ∷ Mo3 ∷ Bo1 ∷ Bo2 ∷ Bo3 ∷ []

-- a cutoff counts fewer attempts than a format has
abbrev pub most_attempts : Event → ℕ
most_attempts event = if is_allowed event Ao5 then 4 else 2

-- what a cutoff has to be below is written in the event's unit
abbrev pub border_field : Measure → List ℕ → List ℕ
border_field Time border =
    unit_field (codes "cutoff")
    (codes "one of them below (minutes and seconds as on a card: 15 is 0.15)") (codes "time") border
border_field Moves border =
    unit_field (codes "cutoff") (codes "one of them below (a number of moves)") (codes "moves")
    border
border_field Multi border = []

unfoldable pub cutoff_select : ℕ → Measure → Option (ℕ × ℕ) → List ℕ
cutoff_select most unit cutoff =
    codes "<label>Cutoff after <select name=\"after\">\n<option value=\"\">none</option>\n"
    ++ flat_map (cutoff_choice cutoff) (take most (1 ∷ 2 ∷ 3 ∷ 4 ∷ []))
    ++ codes "</select> attempts</label>\n"
    ++ border_field unit (border_text unit cutoff)

abbrev pub cutoff_for : Measure → ℕ → Option (ℕ × ℕ) → List ℕ
cutoff_for Multi most cutoff = []
cutoff_for Time most cutoff = cutoff_select most Time cutoff
cutoff_for Moves most cutoff = cutoff_select most Moves cutoff

-- the fields of a cutoff, which multi-blind does not have; the cutoff that holds is filled in
abbrev pub cutoff_fields : Event → Option (ℕ × ℕ) → List ℕ
cutoff_fields event cutoff = cutoff_for (unit_of event) (most_attempts event) cutoff

-- ten minutes, or the limit of the round before
abbrev pub proposed_limit : Option ℕ → List ℕ
proposed_limit None = codes "10:00.00"
proposed_limit (Some limit) = time_text limit

-- timed events have a limit
abbrev pub limit_field : Measure → Option ℕ → List ℕ
limit_field Time proposed =
    unit_field (codes "limit") (codes "Time limit (minutes and seconds as on a card: 10 is 0.10)")
    (codes "time") (proposed_limit proposed)
limit_field Moves proposed = []
limit_field Multi proposed = []

-- who can advance, each option with the rest of its tag
abbrev pub advance_options : List ℕ → List ℕ → List ℕ → List ℕ
advance_options final top percent = fill ADVANCE_OPTIONS.now (final ∷ top ∷ percent ∷ [])

-- one of them is chosen beforehand
abbrev pub advance_choices : Advance → List ℕ
advance_choices Final = advance_options chosen plain plain
advance_choices (Top number) = advance_options plain chosen plain
advance_choices (Percent percent) = advance_options plain plain chosen

abbrev pub amount_of : Advance → List ℕ
amount_of Final = []
amount_of (Top number) = decimal number
amount_of (Percent percent) = decimal percent

-- who advances, with this chosen beforehand
unfoldable pub advance_fields : Advance → List ℕ
advance_fields advance =
    codes "<label>Who advances <select name=\"advance\">\n" ++ advance_choices advance
    ++ codes "</select></label>\n"
    ++ text_field (codes "amount") (codes "how many") (amount_of advance)

-- what the event allows can be chosen, and this is chosen beforehand
unfoldable pub rule_fields : Event → Option Format → Option (ℕ × ℕ) → Option ℕ → List ℕ
rule_fields event format cutoff limit =
    codes "<label>Format <select name=\"format\">\n"
    ++ flat_map (format_choice event format) formats ++ codes "</select></label>\n"
    ++ cutoff_fields event cutoff ++ limit_field (unit_of event) limit

abbrev pub come_word : ℕ → List ℕ
come_word count = if count == 1 then codes " comes" else codes " come"

abbrev pub come_head : ℕ → List ℕ
come_head come = fill COME_HEAD.now (decimal come ∷ come_word come ∷ [])

-- that it is proposed, how many come, and what the button does
abbrev pub opening_head : Option ℕ → List ℕ
opening_head None = OPENING_HEAD.now
opening_head (Some come) = come_head come

-- the form that opens a round: what is proposed is chosen beforehand
unfoldable pub opening : List ℕ → ℕ → RoundId → Proposal → List ℕ
opening token form id proposal =
    opening_head proposal.come ++ round_form token form (codes "OPEN") id
    ++ rule_fields id.event proposal.format proposal.cutoff proposal.limit
    ++ advance_fields proposal.advance ++ button (codes "Open the round")
