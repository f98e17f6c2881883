use Rattle.toml.{specs.View.table_view, proofs.Views.table_get}
use Rattle.hall_file.specs.Lines.{IsDocument}
use Rattle.hall_file.proofs.Got.{none_seen, none_found, lacks}
use Rattle.hall_file.proofs.line.is_without.Goals as goal

pub returns-in-Ok : goal.returns-in-Ok
returns-in-Ok c =
    let name = c.args.name.now in
    let text = c.args.text.now in
    let ms = table_view c.in-Ok.table in
    let found = table_get c.get.result name c.in-Ok.table.entries c.get.ensures.value in
    let doc : IsDocument text ms =
    record { utf8 = c.in-Ok.ensures.ok.0; value = c.in-Ok.ensures.ok.1 } in (
      λ t. (ms, doc, none_seen c.get.result c.is_none.result _ found c.is_none.ensures t),
      λ h. none_found c.get.result c.is_none.result _ found c.is_none.ensures
          (lacks name text ms doc h),
    )
