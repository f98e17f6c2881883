use Rattle.wcif_results.proofs.ReadBack.{results_read_back}
use Rattle.wcif_results.proofs.laws.results_read_back.Goals as goal

pub returns : goal.returns
returns c = results_read_back
