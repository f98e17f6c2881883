use Rattle.formats.specs.Events.{unit_of}
use Rattle.scorecard.specs.Spelling.{trimmed}
use Rattle.scorecard.proofs.Whole.{field-read, field-found, field-only, field-fits}
use Rattle.scorecard.proofs.reading.read.Goals as goal

pub returns-clause-value : goal.returns-clause-value
returns-clause-value c =
    field-read c.unit_of.result (unit_of c.args.event) c.trimmed.result.now
    (trimmed c.args.text.now) c.read_bare.result c.unit_of.ensures c.trimmed.ensures
    c.read_bare.ensures

pub returns-clause-found : goal.returns-clause-found
returns-clause-found c = field-found (unit_of c.args.event) c.args.text.now c.read_bare.result
    (returns-clause-value c)

pub returns-clause-only : goal.returns-clause-only
returns-clause-only c = field-only (unit_of c.args.event) c.args.text.now c.read_bare.result
    (returns-clause-value c)

pub returns-clause-entered : goal.returns-clause-entered
returns-clause-entered c =
    field-fits (unit_of c.args.event) c.args.text.now c.read_bare.result (returns-clause-value c)
