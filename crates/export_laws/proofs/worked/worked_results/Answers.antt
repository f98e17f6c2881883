use Rattle.std.{proofs.Common.refl, specs.Fmt.digits}
use Rattle.json.specs.Print.{escape_byte, print_from}
use Rattle.wcif_results.specs.Results.{result_json, results_json}
use Rattle.export_laws.proofs.worked.worked_results.Goals as goal

pub returns : goal.returns
unfolding digits escape_byte print_from result_json results_json
returns c = record { of_times = refl; of_moves = refl; of_multi = refl }
