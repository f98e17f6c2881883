use Rattle.sheets.proofs.EarlierSheets.{prints_as_earlier}
use Rattle.sheets.proofs.laws.later_editions_change_no_sheet.Goals as goal

pub returns : goal.returns
returns c = prints_as_earlier
