use Rattle.std.proofs.Common.{◌++◌, codes}
use Rattle.competition_file.specs.Files.{data_of, persons}
use Rattle.competition_file.specs.declared.duties.Duty.TheVariants.{Scrambler, Runner, Judge}
use Rattle.markup.proofs.board_page.Steps.{six_parts, two_parts}
use Rattle.round_words.specs.Words.{round_words}
use Rattle.table_entry_views.specs.paper.Lists.{duty_list, group_list, list_start}
use Rattle.table_entry_views.proofs.paper.group_lists.push_group.Goals as goal

pub returns : goal.returns
unfolding group_list
returns c =
    let out = c.args.out.now.items in
    let start = codes "<section class=\"duties\"><h2>" in
    let words = round_words c.args.id c.args.advance in
    let number = list_start c.args.group.number in
    let of = duty_list (persons (data_of c.args.file.now)) c.args.group.activity in
    two_parts out (start ++ words ++ number ++ of Scrambler ++ of Runner ++ of Judge)
    (codes "</section>\n") _ _
    (six_parts out start words number (of Scrambler) (of Runner) (of Judge) _ _ _ _ _ _
    c.in_ok-extend_from_slice.ensures.items c.in_ok-push_round_words.ensures
    c.in_ok-push_list_start.ensures c.in_ok-push_duty.ensures c.in_ok-push_duty-2.ensures
    c.in_ok-push_duty-3.ensures) c.in_ok-extend_from_slice-2.ensures.items
