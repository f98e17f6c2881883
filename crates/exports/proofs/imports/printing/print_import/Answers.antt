use Rattle.std.proofs.Common.{◌∙◌, subst}
use Rattle.std.proofs.KnownBytes.{Keeps-refl}
use Rattle.wcif.specs.Files.{FileFails}
use Rattle.exports.proofs.imports.Whole.{gives_none, imported}
use Rattle.exports.proofs.imports.printing.print_import.Goals as goal

pub returns-in-Err : goal.returns-in-Err
returns-in-Err g c = record {
  ok = tt;
  err = (
    gives_none c.in-Err.fault c.args.options _ c.in-Ok.bytes.items c.in-Ok.ensures
        (subst (λ z. FileFails c.args.options z c.in-Err.fault) c.deref.ensures.value
        c.in-Err.ensures.err),
    Keeps-refl _,
  );
}

pub returns-in-Ok-write_text-clause-ok : goal.returns-in-Ok-write_text-clause-ok
returns-in-Ok-write_text-clause-ok g c =
    let done = imported c.args.options _ c.in-Ok.bytes.items c.deref.result.now
    c.in-Ok-import_file.made.commands.items c.in-Ok-import_file.made.later.items
    c.deref-2.result.now c.in-Ok.ensures c.deref.ensures.value c.in-Ok-import_file.ensures.ok
    c.in-Ok-import_file.ensures.later (c.deref-2.ensures.value ∙ c.in-Ok-print_imported.ensures) in
    (c.in-Ok.bytes.items, c.deref-2.result.now, done.0, done.1, c.in-Ok-write_text.ensures.ok)

pub returns-clause-err : goal.returns-clause-err
returns-clause-err g c =
    let done = imported c.args.options _ c.in-Ok.bytes.items c.deref.result.now
    c.in-Ok-import_file.made.commands.items c.in-Ok-import_file.made.later.items
    c.deref-2.result.now c.in-Ok.ensures c.deref.ensures.value c.in-Ok-import_file.ensures.ok
    c.in-Ok-import_file.ensures.later (c.deref-2.ensures.value ∙ c.in-Ok-print_imported.ensures) in
    (c.in-Ok.bytes.items, c.deref-2.result.now, done.0, done.1, c.in-Err-write_text.ensures.err)
