-- What a replay of an archive gives.
use Rattle.std.proofs.Common.{◌≡◌, ℕ, suc, ◌≤◌, Bool, true, false, cond, ◌&&◌, not, List, [], ◌∷◌}
use Rattle.std.proofs.Common.{◌++◌, length, take, refl, sym, ap, ◌∙◌, arith, take_all}
use Rattle.std.{specs.List.All, specs.List.list_all, proofs.lemmas.Bool.Decides.nat_tests}
use Rattle.acceptor.specs.{Entries.IsText, declared.entry.Entry.Entry}
use Rattle.formats.specs.declared.{events.Event.Event, styles.SheetStyle.SheetStyle as Style}
use Rattle.texts.specs.{declared.command.Command.Command, Reading.SpellsWhatIsRead}
use Rattle.commands.specs.History.{history, SeesEachId}
use Rattle.formats.specs.declared.styles.SheetStyle.TheVariants.{Text, Table}
use Rattle.sheets.specs.Sheet.{sheet}
use Rattle.lines.specs.Lines.{is_line, lines_of}
use Rattle.replay.specs.Replay.{entries, sheet_after}
use Rattle.answers.specs.Answers.{texts, sheet_at}
use Rattle.archive.specs.Archive.{has_id, lines_behind, archive, archive_text}
use Rattle.archive.specs.Replayed.{IsLog, IsReplayed}
use Rattle.archive.proofs.Parting.{is_short, lines-joined, joined-within}
use Rattle.archive.proofs.Agreeing.{length-archive, same_accepted, same_answer}

-- each line is one
one-line : (seen : Bool) (text : List ℕ) → is_line (cond (not seen && is_line text) text []) ≡ true
one-line true text = refl
one-line false text = step (is_line text) refl
  where
    step : (plain : Bool) → is_line text ≡ plain → is_line (cond plain text []) ≡ true
    step true is = is
    step false is = refl

behind-lines : (before es : List Entry) → list_all is_line (lines_behind before es) ≡ true
behind-lines before [] = refl
behind-lines before (e ∷ es) =
    rw (one-line (has_id before e.id) e.text, behind-lines (before ++ e ∷ []) es) refl

-- and is no longer than its text
one-short : (kept : Bool) (text : List ℕ) → IsText text → is_short (cond kept text []) ≡ true
one-short true text fits = grind (arith, nat_tests)
one-short false text fits = refl

rest-short : (e : Entry) (es : List Entry) → All (λ x. IsText x.text) (e ∷ es)
    → All (λ x. IsText x.text) es
rest-short e es all = λ k d less. all (suc k) d (omega arith)

behind-short : (before es : List Entry) → All (λ e. IsText e.text) es
    → list_all is_short (lines_behind before es) ≡ true
behind-short before [] all = refl
behind-short before (e ∷ es) all =
    let first : IsText e.text = all 0 e (omega arith) in
    rw (
      one-short (not (has_id before e.id) && is_line e.text) e.text first,
      behind-short (before ++ e ∷ []) es (rest-short e es all),
    )
    refl

-- ---- sheets

style-is : (style : Style) (log : List Entry) (cs : List Command) (event : Event) (round pos : ℕ)
    → cs ≡ (history (texts (take pos log))).accepted
    → sheet style cs event round pos ≡ sheet_at style log pos event round
style-is Text log cs event round pos is =
    ap (λ (xs : List Command). sheet Text xs event round pos) is
style-is Table log cs event round pos is =
    ap (λ (xs : List Command). sheet Table xs event round pos) is

replay-is : (style : Style) (log : List Entry) (lines : List (List ℕ)) (event : Event) (round : ℕ)
    → lines ≡ archive log
    → (history (entries (archive log))).accepted ≡ (history (texts log)).accepted
    → sheet_after style event round lines ≡ sheet_at style log (length log) event round
replay-is style log lines event round are same =
    ap (sheet_after style event round) are
    ∙ ap (sheet style (history (entries (archive log))).accepted event round) (length-archive log)
    ∙ style-is style log (history (entries (archive log))).accepted event round (length log) (same
    ∙ ap (λ (es : List Entry). (history (texts es)).accepted)
    (sym (take_all (length log) log (omega arith))))

pub is_replayed : SpellsWhatIsRead → SeesEachId → (log : List Entry) → IsLog log → IsReplayed log
is_replayed spells sees log fits =
    let are : list_all is_line (archive log) ≡ true = behind-lines [] log in
    let count : length (archive log) ≡ length log = length-archive log in
    let lines : lines_of (archive_text log) ≡ archive log = lines-joined (archive log) are in
    record {
      within = joined-within (archive log) are (behind-short [] log fits.1)
          (let few : length log ≤ 65536 = fits.0 in omega arith);
      lines = lines;
      count = count;
      answers = λ before e behind is. same_answer spells sees before e;
      sheets = λ style event round.
          replay-is style log (lines_of (archive_text log)) event round lines
          (same_accepted spells sees log);
    }
