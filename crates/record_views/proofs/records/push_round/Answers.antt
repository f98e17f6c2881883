use Rattle.std.proofs.Common.{◌++◌, ◌∙◌, ℕ, List, ap, flat_map}
use Rattle.competition_file.specs.Files.{data_of}
use Rattle.markup.proofs.board_page.Steps.{five_parts}
use Rattle.rounds.specs.Tables.{standings}
use Rattle.record_views.specs.declared.records.TheConstants.{START, HEAD, END}
use Rattle.record_views.specs.Records.{line_of, records_of, title}
use Rattle.record_views.proofs.records.push_round.Goals as goal

pub returns : goal.returns
unfolding records_of
returns c =
    let line = line_of (data_of c.args.file.now) c.args.meet.now.accepted c.args.id
    c.args.round.table.now in
    five_parts c.args.out.now.items START.now
    (title (data_of c.args.file.now) c.args.id c.args.round.settings.advance) HEAD.now
    (flat_map line (standings c.args.round.table.now)) END.now _ _ _ _ _
    c.in_ok-extend_from_slice.ensures.items c.in_ok-push_title.ensures
    c.in_ok-extend_from_slice-2.ensures.items
    (c.in_ok-push_entrants.ensures
    ∙ ap (λ (ns : List ℕ). c.extend_from_slice-2.new.self.items ++ flat_map line ns)
    (c.deref.ensures.value ∙ c.in_ok-numbers.ensures.order))
    c.in_ok-extend_from_slice-3.ensures.items
