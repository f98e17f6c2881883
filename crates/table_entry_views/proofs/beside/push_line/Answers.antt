use Rattle.std.proofs.Common.{◌≡◌, ◌++◌, ◌∙◌, ◌&&◌, ℕ, Bool, List, [], refl, sym, ap}
use Rattle.std.specs.Prelude.{option_map, unwrap_or}
use Rattle.attempts.specs.declared.Unit.{Unit as Measure}
use Rattle.board_rounds.specs.Rows.{result_cells}
use Rattle.commands.specs.Accepted.{seen_of}
use Rattle.formats.specs.Events.{attempts_of, unit_of}
use Rattle.markup.proofs.board_page.Steps.{five_parts}
use Rattle.round_counts.specs.{Counts.progress_in, declared.progress.Progress.Progress}
use Rattle.rounds.specs.{declared.table.EntrantRow.EntrantRow, Rows.IsRow}
use Rattle.rounds.specs.Tables.{Entrant, Table}
use Rattle.sheets.specs.Sheet.{is_marked}
use Rattle.texts.specs.declared.command.{Command.Command, RoundId.RoundId, Settings.Settings}
use Rattle.table_entry_views.specs.Beside.{attempt_cells, entrant_line, line, line_end, line_start}
use Rattle.table_entry_views.specs.Beside.{person_cells}
use Rattle.table_entry_views.proofs.beside.push_line.Goals as goal

-- what is printed of a row is what is printed of its entrant
line_of_row : (cs : List Command) (id : RoundId) (r : Settings × Table) (n : ℕ) (e : Entrant)
    (row : EntrantRow) (unit : Measure) (progress : Progress) (count : ℕ) (through : Bool)
    → IsRow r.1 n e row → unit ≡ unit_of id.event → progress ≡ progress_in r.0.format r.1 n
    → count ≡ attempts_of r.0.format → through ≡ is_marked r.1 (seen_of cs id.event id.round) n
    → line_start progress row.values.now ++ person_cells cs id row.place n
    ++ result_cells unit row.average row.values.now ++ attempt_cells unit row.values.now count
    ++ line_end through ≡ line cs id r n
unfolding entrant_line
line_of_row cs id r n e row unit progress count through is in_unit so_far of_format goes =
    let shown : line_start progress row.values.now ++ person_cells cs id row.place n
    ++ result_cells unit row.average row.values.now ++ attempt_cells unit row.values.now count
    ++ line_end through ≡ entrant_line cs id r n e =
    rw (in_unit, so_far, of_format, goes, is.values, is.average, is.place) refl in
    shown ∙ sym (ap (λ o. unwrap_or (option_map (entrant_line cs id r n) o) []) is.entrant)

pub returns : goal.returns
returns c =
    let is = c.in-Some.ensures in
    let t = c.args.round.table.now in
    five_parts _ _ _ _ _ _ _ _ _ _ _ c.in_ok-push_line_start.ensures
    c.in_ok-push_person.ensures c.in_ok-push_results.ensures c.in_ok-push_attempts.ensures
    c.in_ok-push_line_end.ensures
    ∙ ap (λ x. c.args.out.now.items ++ x)
    (line_of_row c.args.meet.now.accepted c.args.id (c.args.round.settings, t) c.args.number is.0
    c.in-Some.row _ _ _ _ is.1 c.unit_of-unit.ensures c.progress_of-progress.ensures
    c.attempts_of-count.ensures.value (c.is_through-through.ensures is.0 is.1
    ∙ ap (λ (b : Bool). t.is_closed && b) (c.requires c.args.number)))
