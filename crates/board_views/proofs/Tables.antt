-- The table of a round at a position, by what a mirror answers.
use Rattle.std.proofs.Common.{◌≡◌, ◌<◌, ◌≤◌, ℕ, Bool, true, false, List, None, Some, cond, length}
use Rattle.std.proofs.Common.{nat_le, refl, sym, arith}
use Rattle.std.proofs.lemmas.Bool.Decides.{nat_tests}
use Rattle.acceptor.specs.declared.entry.Entry.{Entry}
use Rattle.texts.specs.declared.command.RoundId.{RoundId}
use Rattle.formats.specs.declared.styles.SheetStyle.TheVariants as style
use Rattle.answers.specs.Answers.{sheet_at}
use Rattle.board_views.specs.Rounds.{table_at}

pub table_there : (log : List Entry) (position : ℕ) (id : RoundId) (text : List ℕ)
    → position ≤ length log → sheet_at style.Table log position id.event id.round ≡ Some text
    → Some text ≡ table_at log position id
unfolding table_at
table_there log position id text there is =
    let test : nat_le position (length log) ≡ true = grind (arith, nat_tests) in
    rw test (sym is)

pub table_not_there : (log : List Entry) (position : ℕ) (id : RoundId) → length log < position
    → None ≡ table_at log position id
unfolding table_at
table_not_there log position id above =
    let test : nat_le position (length log) ≡ false = grind (arith, nat_tests) in
    rw test refl

pub table_not_open : (log : List Entry) (position : ℕ) (id : RoundId)
    → sheet_at style.Table log position id.event id.round ≡ None → None ≡ table_at log position id
unfolding table_at
table_not_open log position id none = step (nat_le position (length log))
  where
    step : (b : Bool) → None ≡ cond b (sheet_at style.Table log position id.event id.round) None
    step true = sym none
    step false = refl
