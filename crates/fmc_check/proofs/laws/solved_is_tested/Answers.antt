use Rattle.fmc_check.proofs.Centres.{tests_solved}
use Rattle.fmc_check.proofs.laws.solved_is_tested.Goals as goal

pub returns : goal.returns
returns c = tests_solved c.fifty_four_stickers.ensures.numbers c.fifty_four_stickers.ensures.each
