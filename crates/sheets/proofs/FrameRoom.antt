-- A sheet of a round that a list of entries opens fits into a frame.
use Rattle.std.proofs.Common.{◌≡◌, ℕ, ◌≤◌, List, length, Option, Some, None, IfSome, option_map}
use Rattle.std.proofs.Common.{subst}
use Rattle.rounds.specs.Tables.{Table}
use Rattle.texts.specs.declared.command.Settings.{Settings}
use Rattle.commands.specs.{History.history, Accepted.round_of}
use Rattle.commands.proofs.Sizes.{IsSmallRound, small_history}
use Rattle.sheets.specs.{Sheet.text_of_round, Sheet.table_of_round, FrameLaw.FitsInAFrame}
use Rattle.sheets.proofs.{TextLengths.text_short, TableLengths.table_short}
use Rattle.formats.specs.declared.styles.SheetStyle.TheVariants as style

-- what is printed of a round, where it is there
printed : (round : ℕ) (print : Settings × Table → List ℕ) → ((r : Settings × Table)
    → IsSmallRound round r → length (print r) ≤ 299992)
    → (o : Option (Settings × Table)) → IfSome o (IsSmallRound round) → (text : List ℕ)
    → option_map print o ≡ Some text → length text ≤ 299992
printed round print short None small text is = absurd (let bad : None ≡ Some text = is in cc)
printed round print short (Some r) small text is = let same : print r ≡ text =
    cc in subst (λ (x : List ℕ). length x ≤ 299992) same (short r small)

pub fits : FitsInAFrame
fits entries style.Text event round position text low is =
    let small = small_history entries in
    printed round (text_of_round (history entries).accepted event round position)
    (λ r kept. text_short (history entries).accepted event round position r small kept low)
    (round_of (history entries).accepted event round) (small.rounds event round) text is
fits entries style.Table event round position text low is =
    let small = small_history entries in
    printed round (table_of_round (history entries).accepted event round)
    (λ r kept. table_short (history entries).accepted event round r small kept)
    (round_of (history entries).accepted event round) (small.rounds event round) text is
