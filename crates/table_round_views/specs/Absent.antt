-- The forms that lead to the withdrawal of those who never came (the project's own).
use Rattle.std.specs.Prelude.{ℕ, Bool, not, nat_le, if◌then◌else◌, List, [], ◌∷◌, ◌++◌, codes}
use Rattle.std.specs.Prelude.{filter, flat_map, get_or, is_some}
use Rattle.commands.specs.Accepted.{round_by, who_wait}
use Rattle.rounds.specs.Tables.{Table, entrant}
use Rattle.round_counts.specs.declared.progress.Progress.TheVariants.{Absent}
use Rattle.texts.specs.{Spelling.spelling, declared.command.Command.TheVariants.Withdraw}
use Rattle.texts.specs.declared.command.{Command.Command, RoundId.RoundId, Settings.Settings}
use Rattle.table_views.specs.{declared.around.PageContext.PageContext, Editions.is_latest}
use Rattle.table_views.specs.{Logs.accepted_in, Forms.path_of}
use Rattle.table_round_views.specs.{Entrants.with_progress, Proposal.round_before}
use Rattle.table_views.specs.Lines.{line, lines_form, looks}
use Rattle.table_round_views.specs.declared.absent.TheConstants.{EMPTYING_WORDS, FIRST_LEAVING}
use Rattle.table_round_views.specs.declared.absent.TheConstants.{LATER_LEAVING}

-- the command that withdraws a competitor from a round
abbrev pub leave_text : RoundId → ℕ → List ℕ
leave_text id number = spelling (Withdraw id number)

abbrev pub leave_line : RoundId → ℕ → List ℕ
leave_line id number = line (leave_text id number)

-- the commands of these competitors, in their order
abbrev pub leave_lines : RoundId → List ℕ → List ℕ
leave_lines id numbers = flat_map (leave_line id) numbers

-- what withdrawing means: in a first round it is taken back by entering the competitor once more;
-- in a later one the place goes to the next of those who wait for one
abbrev pub leaving_words : ℕ → List ℕ
leaving_words round =
    if nat_le round 1 then FIRST_LEAVING.now
    else LATER_LEAVING.now

-- words, and a form that shows the commands that withdraw these competitors
unfoldable pub leaving_form : List ℕ → ℕ → RoundId → List ℕ → List ℕ → List ℕ → List ℕ
leaving_form token form id words button numbers =
    words ++ lines_form looks token form (path_of id) (leave_lines id numbers) button

-- a competitor is not in a round
abbrev pub is_outside : Table → ℕ → Bool
is_outside t number = not (is_some (entrant t number))

-- those of the round before who wait for a place in this one, and are not in it
abbrev pub to_come : List Command → RoundId → Table → List ℕ
to_come accepted id t = filter (is_outside t) (who_wait (round_by accepted (round_before id)))

-- the form for those without an attempt, and those who would get their places, if there are any
abbrev pub emptying : PageContext → RoundId → List ℕ → List ℕ → List ℕ
emptying around id numbers [] = []
emptying around id numbers (other ∷ others) =
    leaving_form around.token.now (get_or around.ids.now 17 0) id EMPTYING_WORDS.now
    (codes "Withdraw these and all who wait") (numbers ++ other ∷ others)

-- the form for those without an attempt, and the other one
abbrev pub leaving : PageContext → RoundId → List ℕ → Table → List ℕ
leaving around id numbers t =
    leaving_form around.token.now (get_or around.ids.now 16 0) id (leaving_words id.round)
    (codes "Withdraw who never came") numbers
    ++ emptying around id numbers (to_come (accepted_in around.mirror.now) id t)

-- the forms, in edition 4; before it, what edition 4 would allow
abbrev pub leaving_or_told : PageContext → RoundId → List ℕ → Table → List ℕ
leaving_or_told around id numbers t =
    if is_latest (accepted_in around.mirror.now) then leaving around id numbers t
    else codes "<p>With <a href=\"/rounds\">edition 4</a> they could be withdrawn.</p>\n"

-- nothing where everybody came
abbrev pub leaving_if : PageContext → RoundId → List ℕ → Table → List ℕ
leaving_if around id [] t = []
leaving_if around id (number ∷ numbers) t = leaving_or_told around id (number ∷ numbers) t

-- the forms for those who have no attempt
abbrev pub never_came : PageContext → RoundId → Settings × Table → List ℕ
never_came around id round = leaving_if around id (with_progress round Absent) round.1
