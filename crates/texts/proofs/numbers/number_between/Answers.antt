use Rattle.std.proofs.Common.{◌≡◌, Some, None, rules, tests}
use Rattle.texts.specs.Fields.{number_between}
use Rattle.texts.proofs.{Numerals.readings, FieldSpellings.number_spelled_alone}
use Rattle.texts.proofs.numbers.number_between.Goals as goal

pub returns-then-not-is_numeral-clause-spelled : goal.returns-then-not-is_numeral-clause-spelled
returns-then-not-is_numeral-clause-spelled c =
    let value : None ≡ number_between c.args.low c.args.high c.args.bytes.now =
    search (readings, rules, tests) in
    number_spelled_alone c.args.low c.args.high c.args.bytes.now None c.requires value

pub returns-then-value-high-clause-spelled : goal.returns-then-value-high-clause-spelled
returns-then-value-high-clause-spelled c =
    let value
    : Some c.digits_value-value.result ≡ number_between c.args.low c.args.high c.args.bytes.now =
    search (readings, rules, tests) in
    number_spelled_alone c.args.low c.args.high c.args.bytes.now (Some c.digits_value-value.result)
    c.requires value

pub returns-else-low-value-clause-spelled : goal.returns-else-low-value-clause-spelled
returns-else-low-value-clause-spelled c =
    let value : None ≡ number_between c.args.low c.args.high c.args.bytes.now =
    search (readings, rules, tests) in
    number_spelled_alone c.args.low c.args.high c.args.bytes.now None c.requires value
