-- What a list of accepted commands says: who is registered under which name, which rounds were
-- opened, what was done in them, who left and who took a place, and why a further command is
-- refused. There is one definition of it for all editions: which commands there are depends on the
-- edition that holds (`History`), and what one says does not. The checks and their order are this
-- project's own.
use Rattle.std.specs.Prelude.{◌+◌, ◌-◌, not, ◌&&◌, nat_lt, nat_le, if◌then◌else◌, List, is_some, ℕ}
use Rattle.std.specs.Prelude.{Option, None, Some}
use Rattle.formats.specs.declared.events.Event.{Event}
use Rattle.texts.specs.declared.command.Command.{Command, TheVariants.Fix, TheVariants.Cancel}
use Rattle.texts.specs.declared.command.Command.TheVariants.{Register, Open, Enter, Scramble}
use Rattle.texts.specs.declared.command.Command.TheVariants.{Attempt, Correct, Strike, SetAdvance}
use Rattle.texts.specs.declared.command.Command.TheVariants.{Close, SetEdition, Rename, SetRound}
use Rattle.texts.specs.declared.command.Command.TheVariants.{Rescramble, Withdraw, Reopen, Card}
use Rattle.texts.specs.declared.answer.Code.{Code}
use Rattle.texts.specs.declared.answer.Code.TheVariants as code
pub use Rattle.commands.specs.Standing.{last_of, standing}
pub use Rattle.commands.specs.Competitors.{name_given, renaming, name_of, is_registered, is_called}
pub use Rattle.commands.specs.Competitors.{names_other, is_taken}
pub use Rattle.commands.specs.Openings.{is_of, Opened, opening, opened, settings_by, settings_after}
pub use Rattle.commands.specs.Openings.{settings_now, is_cancelled, just_opened, plus_command}
pub use Rattle.commands.specs.Openings.{opened_by, opened_after}
pub use Rattle.commands.specs.Scrambles.{scrambling, rescrambling, scramble_in, scramble_since}
pub use Rattle.commands.specs.Scrambles.{scramble_of, scramble_by}
pub use Rattle.commands.specs.Solutions.{is_solution, solving_at, solving, is_solved_since}
pub use Rattle.commands.specs.Solutions.{is_solved}
pub use Rattle.commands.specs.Values.{solved_under, outcome_of, settled, value_entered, one_value}
pub use Rattle.commands.specs.Values.{values_after, value_counted, values_now, on_values}
pub use Rattle.commands.specs.Rounds.{is_withdrawal, takes_out, entering, entrant_after, stays}
pub use Rattle.commands.specs.Rounds.{entrants_left, entrants_after, closing, is_ended, table_of}
pub use Rattle.commands.specs.Rounds.{who_advance, who_wait, round_at, round_of, round_by}
pub use Rattle.commands.specs.Rounds.{seen_by, seen_of, advanced_of}
unfoldable pub use Rattle.commands.specs.Rounds.{round_in}
pub use Rattle.commands.specs.EditionHeld.{edition_set, edition_after, edition_in}
pub use Rattle.commands.specs.FaultCodes.{enter_code, put_code, correct_code, strike_code}
pub use Rattle.commands.specs.FaultCodes.{close_code, withdraw_code, rules_code, reopen_code}
pub use Rattle.commands.specs.FaultCodes.{set_code, fix_code}
pub use Rattle.commands.specs.AttemptChecks.{is_time, is_moves, is_multi, is_wrong, lacks_scramble}
pub use Rattle.commands.specs.AttemptChecks.{scramble_refusal, has_solved, rescramble_refusal}
pub use Rattle.commands.specs.AttemptChecks.{unfit_refusal, entered_refusal, put_refusal}
pub use Rattle.commands.specs.AttemptChecks.{correct_refusal, strike_refusal, enter_refusal}
pub use Rattle.commands.specs.AttemptChecks.{withdraw_refusal}
pub use Rattle.commands.specs.RoundChecks.{is_cutoff, is_limit, settings_refusal, rules_refusal}
pub use Rattle.commands.specs.RoundChecks.{advance_refusal, is_final, leads_on, competitors_of}
pub use Rattle.commands.specs.RoundChecks.{has_too_few, breaks_rounds_rule, end_refusal}
pub use Rattle.commands.specs.RoundChecks.{close_refusal, again_refusal, reopen_refusal}
pub use Rattle.commands.specs.CardChecks.{has_outcome, unfit_card_refusal, is_value, are_values}
pub use Rattle.commands.specs.CardChecks.{seen_refusal, counts_in, card_values, with_card}
pub use Rattle.commands.specs.CardChecks.{card_refusal, but_for, breaks_with, fix_refusal}
pub use Rattle.commands.specs.CardChecks.{cancel_refusal}

-- how many competitors a round has, as the next one sees it
abbrev pub competitors_seen : List Command → Event → ℕ → ℕ
competitors_seen cs e r = competitors_of (seen_of cs e r)

-- the first check of a command that fails, each a sentence on the accepted commands so far
abbrev pub refusal : List Command → Command → Option Code
refusal cs (Register n name) =
    if is_registered cs n then Some code.Already
    else if is_taken cs n name then Some code.NameTaken
    else None
refusal cs (Open id settings) =
    if is_some (round_by cs id) then Some code.RoundOpen
    else if nat_lt 1 id.round && not (leads_on (round_of cs id.event (id.round - 1)))
    then Some code.RoundUnknown
    else settings_refusal id.event settings.format settings.cutoff settings.limit
refusal cs (Enter e n) =
    if not (is_registered cs n) then Some code.UnknownCompetitor
    else enter_refusal n (round_of cs e 1)
refusal cs (Scramble id k moves) =
    scramble_refusal id.event k (scramble_of cs id.event id.round k) (round_by cs id)
refusal cs (Attempt entry) =
    if not (is_registered cs entry.number) then Some code.UnknownCompetitor
    else entered_refusal entry.id.event entry.outcome (scramble_by cs entry)
    (put_refusal entry.number entry.attempt) (round_by cs entry.id)
refusal cs (Correct entry) =
    if not (is_registered cs entry.number) then Some code.UnknownCompetitor
    else entered_refusal entry.id.event entry.outcome (scramble_by cs entry)
    (correct_refusal entry.number entry.attempt (scramble_by cs entry) entry.outcome)
    (round_by cs entry.id)
refusal cs (Strike id n) =
    if not (is_registered cs n) then Some code.UnknownCompetitor
    else strike_refusal n (round_by cs id)
refusal cs (SetAdvance id advance) = advance_refusal (round_by cs id)
refusal cs (Close id) = close_refusal (competitors_seen cs id.event) id.round (round_by cs id)
refusal cs (SetEdition edition) =
    if nat_le edition (edition_in cs) then Some code.Already else None
refusal cs (Rename n name) =
    if not (is_registered cs n) then Some code.UnknownCompetitor
    else if is_taken cs n name then Some code.NameTaken
    else None
refusal cs (SetRound id format cutoff limit) =
    rules_refusal id.event format cutoff limit (round_by cs id)
refusal cs (Rescramble id k moves) =
    rescramble_refusal id.event k (scramble_of cs id.event id.round k)
    (is_solved cs id.event id.round k) (round_by cs id)
refusal cs (Withdraw id n) =
    if not (is_registered cs n) then Some code.UnknownCompetitor
    else withdraw_refusal n (round_by cs id)
refusal cs (Reopen id) =
    reopen_refusal (round_of cs id.event (id.round + 1)) (round_by cs id)
refusal cs (Card card) =
    if not (is_registered cs card.number) then Some code.UnknownCompetitor
    else card_refusal card.id.event (scramble_of cs card.id.event card.id.round) card
    (round_by cs card.id)
refusal cs (Fix card) =
    if not (is_registered cs card.number) then Some code.UnknownCompetitor
    else fix_refusal card.id.event (scramble_of cs card.id.event card.id.round) card
    (competitors_seen cs card.id.event) (is_some (round_of cs card.id.event (card.id.round + 1)))
    (round_by cs card.id)
refusal cs (Cancel id) =
    cancel_refusal (round_of cs id.event (id.round + 1)) (round_by cs id)
