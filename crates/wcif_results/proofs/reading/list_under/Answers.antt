use Rattle.std.proofs.Common.{map, ap, ◌∙◌, sym}
use Rattle.json.specs.Value.{value_view}
use Rattle.wcif_results.proofs.FilledRounds.{list_found}
use Rattle.wcif_results.proofs.reading.list_under.Goals as goal

pub returns-in-Array : goal.returns-in-Array
returns-in-Array c =
    ap (map value_view) c.as_slice.ensures.value
    ∙ list_found c.args.name.now (value_view c.args.value.now) c.in_ok-items.field-0.now
    c.in-Array.items (sym c.in_ok-items.ensures) c.in-Array.is
