use Rattle.std.proofs.Common.{◌∙◌, ap, sym, Ok}
use Rattle.toml.{specs.View.view, specs.View.table_view, proofs.Views.table_get}
use Rattle.hall_file.specs.Members.{key_name}
use Rattle.hall_file.proofs.file.read_key.Goals as goal

pub returns-in_default-clause-ok : goal.returns-in_default-clause-ok
returns-in_default-clause-ok c =
    let found = table_get c.get.result key_name c.args.table.now.entries c.get.ensures.value in
    sym (rw c.in_default.is at found)

pub returns-in_ok-from_str-in-Ok-clause-ok : goal.returns-in_ok-from_str-in-Ok-clause-ok
returns-in_ok-from_str-in-Ok-clause-ok c =
    let found = table_get c.get.result key_name c.args.table.now.entries c.get.ensures.value in (
      view c.in-Some.value.now,
      sym (rw c.in-Some.is at found),
      c.in-Ok.ensures.ok ∙ ap (λ t. Ok t) (sym c.in_ok-from_str-in-Ok.ensures.ok),
    )

pub returns-in_ok-line-in-Err-clause-err : goal.returns-in_ok-line-in-Err-clause-err
returns-in_ok-line-in-Err-clause-err c hall desks has lists =
    let found = table_get c.get.result key_name c.args.table.now.entries c.get.ensures.value in (
      table_view c.args.table.now,
      hall,
      desks,
      has,
      lists,
      view c.in-Some.value.now,
      sym (rw c.in-Some.is at found),
      c.in-Err.ensures.err,
      c.in_ok-line-in-Err.ensures,
    )
