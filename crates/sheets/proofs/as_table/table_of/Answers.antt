use Rattle.std.proofs.Common.{◌∙◌, ◌++◌, List, ℕ, ap, flat_map, append-nil}
use Rattle.std.proofs.lemmas.Result.{IfOk-weaker}
use Rattle.csv.specs.Writing.{row_text, default_writer, writer_pending}
use Rattle.formats.specs.Events.{attempts_of}
use Rattle.sheets.{specs.Sheet.header, specs.model.Shown.record_shown, proofs.Rows.two_parts}
use Rattle.sheets.proofs.as_table.table_of.Goals as goal

pub write_entrants-requires-clause-who : goal.write_entrants-requires-clause-who
write_entrants-requires-clause-who c =
    c.in_ok-going_on.ensures (c.args.shown.settings, c.args.shown.table.now) c.requires

pub returns : goal.returns
returns c =
    let empty =
    ap (λ v. v.items ++ writer_pending c.from_writer-writer.result) c.from_writer-writer.ensures.wtr
    ∙ ap (λ (x : List ℕ). c.new.result.items ++ x) c.from_writer-writer.ensures.empty
    ∙ append-nil c.new.result.items ∙ c.new.ensures.items in
    let top =
    ap (row_text default_writer) (c.in_ok-names.ensures ∙ ap header c.attempts_of.ensures.value) in
    let rows =
    ap (flat_map (record_shown c.args.shown))
    (c.deref.ensures.value ∙ c.in_ok-numbers.ensures.order) in
    IfOk-weaker c.text_held.result _ _ (λ text is.
    two_parts _ _ _ _ _ _ _ text.items empty c.in_ok-write_record.ensures.text
    c.in_ok-write_entrants.ensures.text is top rows) c.text_held.ensures
