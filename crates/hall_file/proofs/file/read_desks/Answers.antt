use Rattle.std.proofs.Common.{sym}
use Rattle.toml.{specs.View.view, specs.View.table_view, proofs.Views.table_get}
use Rattle.hall_file.specs.Members.{desks_name}
use Rattle.hall_file.proofs.file.read_desks.Goals as goal

pub returns-in_default-clause-err : goal.returns-in_default-clause-err
returns-in_default-clause-err c hall has =
    let found = table_get c.get.result desks_name c.args.table.now.entries c.get.ensures.value in
    (table_view c.args.table.now, hall, has, sym (rw c.in_default.is at found))

pub returns-in-Ok-clause-ok : goal.returns-in-Ok-clause-ok
returns-in-Ok-clause-ok c =
    let found = table_get c.get.result desks_name c.args.table.now.entries c.get.ensures.value in
    (view c.in-Some.value.now, sym (rw c.in-Some.is at found), c.in-Ok.ensures.ok)

pub returns-in_ok-line-in-Err-Fault-clause-err : goal.returns-in_ok-line-in-Err-Fault-clause-err
returns-in_ok-line-in-Err-Fault-clause-err c hall has =
    let found = table_get c.get.result desks_name c.args.table.now.entries c.get.ensures.value in (
      table_view c.args.table.now,
      hall,
      has,
      view c.in-Some.value.now,
      sym (rw c.in-Some.is at found),
      rw c.in-Err-Fault.field-0-is at c.in-Err-Fault.ensures.err,
      c.in_ok-line-in-Err-Fault.ensures,
    )
