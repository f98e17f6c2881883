-- The sheet at a position is that of the meet which the entries up to there come to.
use Rattle.std.proofs.Common.{◌≡◌, ◌≤◌, ℕ, List, Some, Result, Ok, Err, IfOk, IfErr, Vec, length}
use Rattle.std.proofs.Common.{take, refl, sym, ap, ◌∙◌}
use Rattle.acceptor.specs.declared.entry.Entry.{Entry}
use Rattle.formats.specs.declared.{events.Event.Event, styles.SheetStyle.SheetStyle as Style}
use Rattle.commands.specs.History.{History, history}
use Rattle.sheets.specs.Sheet.{sheet}
use Rattle.formats.specs.declared.styles.SheetStyle.TheVariants.{Text, Table}
use Rattle.answers.specs.Answers.{texts, sheet_at, NoSheetAt, NoSheetIn}
use Rattle.answers.specs.declared.fault.LogSheetFault.{LogSheetFault}
use Rattle.answers.specs.declared.fault.LogSheetFault.TheVariants.{NotThere, NoSuchRound, NoMemory}

same_sheet : (style : Style) (log : List Entry) (position : ℕ) (event : Event) (round : ℕ)
    → sheet_at style log position event round
    ≡ sheet style (history (texts (take position log))).accepted event round position
same_sheet Text log position event round = refl
same_sheet Table log position event round = refl

module _ (style : Style) (log : List Entry) (position : ℕ) (event : Event) (round : ℕ) (h : History)
    (stands : h ≡ history (texts (take position log))) where
  sheet_is : sheet_at style log position event round ≡ sheet style h.accepted event round position
  sheet_is =
      same_sheet style log position event round
      ∙ ap (λ (x : History). sheet style x.accepted event round position) (sym stands)

  pub sheet_there : {A : Type 0} (r : Result (Vec ℕ A) LogSheetFault)
      → IfOk r (λ text. sheet style h.accepted event round position ≡ Some text.items)
      → IfOk r (λ text. sheet_at style log position event round ≡ Some text.items)
  sheet_there (Ok text) is = sheet_is ∙ is
  sheet_there (Err fault) is = tt

  no_sheet : (fault : LogSheetFault) → position ≤ length log
      → NoSheetIn fault (sheet style h.accepted event round position)
      → NoSheetAt fault log position (sheet_at style log position event round)
  no_sheet NotThere within is = absurd is
  no_sheet NoSuchRound within is = (within, sheet_is ∙ is)
  no_sheet NoMemory within is = within

  pub none_there : {A : Type 0} (r : Result (Vec ℕ A) LogSheetFault) → position ≤ length log
      → IfErr r (λ fault. NoSheetIn fault (sheet style h.accepted event round position)) → IfErr r
      (λ fault. NoSheetAt fault log position (sheet_at style log position event round))
  none_there (Ok text) within is = tt
  none_there (Err fault) within is = no_sheet fault within is
