-- Without later editions every sheet is that of a program that does not know them.
use Rattle.std.proofs.Common.{ap}
use Rattle.commands.{specs.History.History, proofs.Known.history_alike}
use Rattle.sheets.specs.{EditionLaw.PrintsAsEarlier, Sheet.sheet}

pub prints_as_earlier : PrintsAsEarlier
prints_as_earlier k later entries style event round position most others =
    ap (λ (h : History). sheet style h.accepted event round position)
    (history_alike k later most entries others)
