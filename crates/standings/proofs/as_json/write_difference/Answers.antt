use Rattle.std.proofs.Common.{OnOk, Option, subst, sym}
use Rattle.json.specs.Tree.{json_tokens}
use Rattle.wire.specs.declared.standing.Difference.{Difference}
use Rattle.standings.{specs.AsJson.difference_json, specs.Written.Adds, proofs.Adding.wrote_last}
use Rattle.standings.proofs.as_json.write_difference.Goals as goal

pub returns-in-None : goal.returns-in-None
returns-in-None c =
    subst (λ (d : Option Difference).
    OnOk c.null.result (Adds c.args.out.now c.null.new.self (json_tokens (difference_json d))))
    (sym c.in-None.is) (wrote_last c.null.result c.null.ensures)
