use Rattle.std.proofs.Common.{◌≡◌, List, Some, Err, rules}
use Rattle.std.specs.Option.{option_copied}
use Rattle.arrayvec.specs.declared.array_vec.ArrayVec.{ArrayVec}
use Rattle.texts.specs.{declared.value.FieldValue.FieldValue, Table.plain, Table.row_named}
use Rattle.texts.proofs.{Rows.named_row, Words.gives_none, Words.gives_remark, Words.gives_values}
use Rattle.texts.proofs.reading.command_of_word.Goals as goal

pub values_of-requires-clause-few : goal.values_of-requires-clause-few
values_of-requires-clause-few c =
    let is : row_named c.args.word.now ≡ Some (plain c.in_ok-row.row.now) = search rules in
    (named_row c.args.word.now (plain c.in_ok-row.row.now) is).few

pub values_of-requires-clause-last : goal.values_of-requires-clause-last
values_of-requires-clause-last c =
    let is : row_named c.args.word.now ≡ Some (plain c.in_ok-row.row.now) = search rules in
    (named_row c.args.word.now (plain c.in_ok-row.row.now) is).last

pub returns-in_err-values : goal.returns-in_err-values
returns-in_err-values c =
    let is : row_named c.args.word.now ≡ Some (plain c.in_ok-row.row.now) = search rules in
    let same : c.from_residual-in_err-values.result ≡ Err c.in_err-values.field-0.0 =
    search rules in
    let view : ArrayVec FieldValue 6 (Unit {0}) → List FieldValue = λ vs. vs.items in
    rw same
    (gives_values view c.args.word.now (plain c.in_ok-row.row.now) (option_copied c.args.left)
    (option_copied c.before_remark.result.0) (option_copied c.before_remark.result.1)
    c.in_err-values.field-0.0 is c.before_remark.ensures c.in_err-values.ensures)

pub returns-in-Some : goal.returns-in-Some
returns-in-Some c =
    let is : row_named c.args.word.now ≡ Some (plain c.in_ok-row.row.now) = search rules in
    gives_remark c.args.word.now (plain c.in_ok-row.row.now) (option_copied c.args.left)
    (option_copied c.before_remark.result.0) (option_copied c.before_remark.result.1)
    c.in_ok-values.values.items c.command_of_values.result c.in-Some.command
    c.index_after-index.result c.with_remark.result is c.before_remark.ensures
    c.in_ok-values.ensures c.command_of_values.ensures c.in-Some.is c.index_after-index.ensures
    c.with_remark.ensures

pub returns-in-None : goal.returns-in-None
returns-in-None c =
    let is : row_named c.args.word.now ≡ Some (plain c.in_ok-row.row.now) = search rules in
    gives_none c.args.word.now (plain c.in_ok-row.row.now) (option_copied c.args.left)
    (option_copied c.before_remark.result.0) (option_copied c.before_remark.result.1)
    c.in_ok-values.values.items c.command_of_values.result is c.before_remark.ensures
    c.in_ok-values.ensures c.command_of_values.ensures c.in-None.is

pub index_after-index-requires : goal.index_after-index-requires
index_after-index-requires c =
    let is : row_named c.args.word.now ≡ Some (plain c.in_ok-row.row.now) = search rules in
    record { few = (named_row c.args.word.now (plain c.in_ok-row.row.now) is).few }
