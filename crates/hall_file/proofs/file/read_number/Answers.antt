use Rattle.std.proofs.Common.{sym}
use Rattle.toml.{specs.View.view, specs.View.table_view, proofs.Views.table_get}
use Rattle.hall_file.specs.Members.{hall_name}
use Rattle.hall_file.proofs.file.read_number.Goals as goal

pub returns-in_default-clause-err : goal.returns-in_default-clause-err
returns-in_default-clause-err c =
    let found = table_get c.get.result hall_name c.args.table.now.entries c.get.ensures.value in
    (table_view c.args.table.now, c.requires, sym (rw c.in_default.is at found))

pub returns-in-Ok-clause-ok : goal.returns-in-Ok-clause-ok
returns-in-Ok-clause-ok c =
    let found = table_get c.get.result hall_name c.args.table.now.entries c.get.ensures.value in
    record {
      known = c.requires;
      value = view c.in-Some.value.now;
      found = sym (rw c.in-Some.is at found);
      says = sym c.in-Ok.ensures;
    }

pub returns-in_ok-line-in-Err-clause-err : goal.returns-in_ok-line-in-Err-clause-err
returns-in_ok-line-in-Err-clause-err c =
    let found = table_get c.get.result hall_name c.args.table.now.entries c.get.ensures.value in (
      table_view c.args.table.now,
      c.requires,
      view c.in-Some.value.now,
      sym (rw c.in-Some.is at found),
      sym c.in-Err.ensures,
      c.in_ok-line-in-Err.ensures,
    )
