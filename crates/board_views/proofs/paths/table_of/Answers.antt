use Rattle.std.proofs.Common.{◌≡◌, ◌++◌, codes, Some}
use Rattle.std.proofs.lemmas.{Bool.Decides.Decides-eqb, Slice.Eq.strip_suffix_is}
use Rattle.board_views.proofs.Names.{table_named}
use Rattle.board_views.proofs.paths.table_of.Goals as goal

pub returns-clause-some : goal.returns-clause-some
returns-clause-some c =
    let stripped =
    strip_suffix_is Decides-eqb c.args.name.now c.as_slice.result.now (Some c.in_ok-name.name)
    c.in_ok-name.ensures.cases in
    let is : c.args.name.now ≡ c.in_ok-name.name.now ++ codes ".csv" = cc in
    table_named c.round_of.result c.in_ok-name.name.now c.args.name.now is c.round_of.ensures.some
