use Rattle.std.proofs.Common.{◌∙◌, ap, sym}
use Rattle.serve.{proofs.Periods.period_is, specs.Serves.period_of}
use Rattle.serve.proofs.running.period_of.Goals as goal

pub returns-in-Some : goal.returns-in-Some
returns-in-Some c =
    period_is c.in-Some.milliseconds c.new.result c.new.ensures ∙ ap period_of (sym c.in-Some.is)
