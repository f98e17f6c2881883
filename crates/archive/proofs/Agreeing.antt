-- The lines of an archive come to the accepted commands of the log, entry by entry.
use Rattle.std.proofs.Common.{◌≡◌, ℕ, ◌+◌, ◌≤◌, suc, Bool, true, false, cond, ◌&&◌, ◌==◌, not, List}
use Rattle.std.proofs.Common.{[], ◌∷◌, ◌++◌, length, Option, Some, Result, Ok, Err, refl, sym, ap}
use Rattle.std.proofs.Common.{◌∙◌, subst, arith, append_assoc, append-nil}
use Rattle.std.specs.List.{list_any, enumerate_from}
use Rattle.std.proofs.lemmas.Bool.{false≢true}
use Rattle.std.proofs.lemmas.{Bool.Decides.nat_tests, List.map-append, List.Sums.fold-append}
use Rattle.acceptor.specs.declared.entry.Entry.{Entry}
use Rattle.texts.specs.declared.command.{Command.Command, RemarkedCommand.RemarkedCommand}
use Rattle.texts.specs.declared.answer.{Answer.TheVariants.Refused, Code.Code}
use Rattle.texts.specs.{declared.reading.CommandFault.CommandFault, Fields.cut, Table.rows}
use Rattle.texts.specs.Reading.{command_of, SpellsWhatIsRead}
use Rattle.commands.specs.History.{History, nothing, history, after, is_seen, answer_of, answer_to}
use Rattle.commands.specs.History.{read_refusal, added_read, SeesEachId}
use Rattle.commands.proofs.Entries.{accepted_new, after_seen, answer_new}
use Rattle.lines.specs.Lines.{is_line}
use Rattle.replay.{specs.Replay.entries, proofs.Applied.history_more}
use Rattle.answers.specs.Answers.{texts}
use Rattle.archive.specs.Archive.{has_id, line_of, lines_behind, archive}
use Rattle.archive.{specs.Replayed.replayed, proofs.Feeds.command_is_line}
use Rattle.texts.specs.declared.answer.Code.TheVariants as code
use Rattle.texts.specs.declared.reading.CommandFault.TheVariants as fault

-- ---- one entry more

lines-more : (before es : List Entry) (e : Entry)
    → lines_behind before (es ++ e ∷ []) ≡ lines_behind before es ++ line_of (before ++ es) e ∷ []
lines-more before [] e = ap (λ (b : List Entry). line_of b e ∷ []) (sym (append-nil before))
lines-more before (x ∷ es) e =
    ap (λ (ls : List (List ℕ)). line_of before x ∷ ls) (lines-more (before ++ x ∷ []) es e
    ∙ ap (λ (b : List Entry). lines_behind (before ++ x ∷ []) es ++ line_of b e ∷ [])
    (append_assoc before (x ∷ []) es))

archive-more : (es : List Entry) (e : Entry)
    → archive (es ++ e ∷ []) ≡ archive es ++ line_of es e ∷ []
archive-more es e = lines-more [] es e

length-behind : (before es : List Entry) → length (lines_behind before es) ≡ length es
length-behind before [] = refl
length-behind before (e ∷ es) = ap suc (length-behind (before ++ e ∷ []) es)

pub length-archive : (es : List Entry) → length (archive es) ≡ length es
length-archive es = length-behind [] es

-- the history of one entry more
log-more : (es : List Entry) (e : Entry)
    → history (texts (es ++ e ∷ [])) ≡ after (history (texts es)) e.id e.text
log-more es e =
    ap history (map-append (λ (x : Entry). (x.id, x.text)) es (e ∷ []))
    ∙ fold-append (λ (h : History) (entry : ℕ × List ℕ). after h entry.0 entry.1) nothing (texts es)
    ((e.id, e.text) ∷ [])

-- and that of one line more
replay-more : (es : List Entry) (e : Entry) → history (entries (archive (es ++ e ∷ [])))
    ≡ after (history (entries (archive es))) (length es + 1) (line_of es e)
replay-more es e =
    ap (λ (ls : List (List ℕ)). history (entries ls)) (archive-more es e)
    ∙ history_more (archive es) (line_of es e)
    ∙ ap (λ (n : ℕ). after (history (entries (archive es))) (n + 1) (line_of es e))
    (length-archive es)

-- ---- ids

same-test : (a b : ℕ) → (a == b) ≡ (b == a)
same-test a b = grind (arith, nat_tests)

log-has : (es : List Entry) (id : ℕ)
    → list_any (λ (entry : ℕ × List ℕ). id == entry.0) (texts es) ≡ has_id es id
log-has [] id = refl
log-has (e ∷ es) id = rw (same-test id e.id, log-has es id) refl

-- the number of a line behind these
number-new : (n m : ℕ) (lines : List (List ℕ)) → n + length lines ≤ m
    → list_any (λ (entry : ℕ × List ℕ). m == entry.0) (enumerate_from n lines) ≡ false
number-new n m [] past = refl
number-new n m (x ∷ lines) past =
    let rest : n + 1 + length lines ≤ m = omega arith in
    let other : (m == n) ≡ false = grind (arith, nat_tests) in
    rw (other, number-new (n + 1) m lines rest) refl

log-sees : SeesEachId → (es : List Entry) (id : ℕ) → is_seen (history (texts es)) id ≡ has_id es id
log-sees sees es id = sees (texts es) id ∙ log-has es id

replay-sees : SeesEachId → (es : List Entry)
    → is_seen (history (entries (archive es))) (length es + 1) ≡ false
replay-sees sees es =
    let count = length-archive es in
    sees (entries (archive es)) (length es + 1)
    ∙ number-new 1 (length es + 1) (archive es) (omega arith)

-- ---- answers

no-command : command_of [] ≡ Err fault.NotACommand
unfolding command_of cut rows
no-command = refl

abbrev refusal_in : History → List ℕ → Option Code
refusal_in h text = read_refusal h.accepted (command_of text)

abbrev accepted_in : History → List ℕ → List Command
accepted_in h text = added_read (refusal_in h text) (command_of text)

-- what is no command is refused as Unread, and adds nothing
abbrev IsUnread : History → List ℕ → Type 0
IsUnread h text = (refusal_in h text ≡ Some code.Unread) × (accepted_in h text ≡ [])

empty-unread : (h : History) → IsUnread h []
empty-unread h = (rw no-command refl, rw no-command refl)

feed-unread : SpellsWhatIsRead → (h : History) (text : List ℕ) → is_line text ≡ false
    → IsUnread h text
feed-unread spells h text feed = step (command_of text) refl
  where
    step : (r : Result RemarkedCommand CommandFault) → command_of text ≡ r
        → (read_refusal h.accepted r ≡ Some code.Unread)
        × (added_read (read_refusal h.accepted r) r ≡ [])
    step (Ok c) is = absurd (false≢true (sym feed ∙ command_is_line spells text c is))
    step (Err f) is = (refl, refl)

unread-accepted : (h : History) (id : ℕ) (text : List ℕ) → is_seen h id ≡ false → IsUnread h text
    → (after h id text).accepted ≡ h.accepted
unread-accepted h id text new unread =
    accepted_new h id text new
    ∙ ap (λ (cs : List Command). h.accepted ++ cs) unread.1
    ∙ append-nil h.accepted

unread-answer : (h : History) (id : ℕ) (text : List ℕ) → is_seen h id ≡ false → IsUnread h text
    → answer_to h id text ≡ Refused code.Unread
unread-answer h id text new unread = answer_new h id text new ∙ ap answer_of unread.0

-- an entry in the log, and its line in the replay, after the same accepted commands
abbrev Agree : Bool → (h g : History) (id n : ℕ) (text line : List ℕ) → Type 0
Agree seen h g id n text line =
    ((after g n line).accepted ≡ (after h id text).accepted)
    × (answer_to g n line ≡ replayed seen (answer_to h id text))

agree-seen : (h g : History) (id n : ℕ) (text : List ℕ) → is_seen h id ≡ true
    → is_seen g n ≡ false → g.accepted ≡ h.accepted → Agree true h g id n text []
agree-seen h g id n text seen new same = (
  unread-accepted g n [] new (empty-unread g) ∙ same
      ∙ ap (λ (x : History). x.accepted) (after_seen h id text seen),
  unread-answer g n [] new (empty-unread g),
)

agree-plain : (h g : History) (id n : ℕ) (text : List ℕ) → is_seen h id ≡ false
    → is_seen g n ≡ false → g.accepted ≡ h.accepted → Agree false h g id n text text
agree-plain h g id n text fresh new same = (
  accepted_new g n text new
      ∙ ap
      (λ (cs : List Command).
      cs ++ added_read (read_refusal cs (command_of text)) (command_of text)) same
      ∙ sym (accepted_new h id text fresh),
  answer_new g n text new
      ∙ ap (λ (cs : List Command). answer_of (read_refusal cs (command_of text))) same
      ∙ sym (answer_new h id text fresh),
)

agree-feed : SpellsWhatIsRead → (h g : History) (id n : ℕ) (text : List ℕ)
    → is_seen h id ≡ false → is_line text ≡ false → is_seen g n ≡ false
    → g.accepted ≡ h.accepted → Agree false h g id n text []
agree-feed spells h g id n text fresh feed new same =
    let unread = feed-unread spells h text feed in (
      unread-accepted g n [] new (empty-unread g) ∙ same
          ∙ sym (unread-accepted h id text fresh unread),
      unread-answer g n [] new (empty-unread g) ∙ sym (unread-answer h id text fresh unread),
    )

agree : SpellsWhatIsRead → (h g : History) (id n : ℕ) (text : List ℕ) (seen : Bool)
    → is_seen h id ≡ seen → is_seen g n ≡ false → g.accepted ≡ h.accepted
    → Agree seen h g id n text (cond (not seen && is_line text) text [])
agree spells h g id n text true seen new same = agree-seen h g id n text seen new same
agree spells h g id n text false fresh new same = step (is_line text) refl
  where
    step : (plain : Bool) → is_line text ≡ plain → Agree false h g id n text (cond plain text [])
    step true plain = agree-plain h g id n text fresh new same
    step false feed = agree-feed spells h g id n text fresh feed new same

-- ---- the whole log

abbrev pub SameAccepted : List Entry → Type 0
SameAccepted es = (history (entries (archive es))).accepted ≡ (history (texts es)).accepted

abbrev pub SameAnswer : List Entry → Entry → Type 0
SameAnswer es e =
    answer_to (history (entries (archive es))) (length es + 1) (line_of es e)
    ≡ replayed (has_id es e.id) (answer_to (history (texts es)) e.id e.text)

entry-agrees : SpellsWhatIsRead → SeesEachId → (es : List Entry) (e : Entry) → SameAccepted es
    → SameAccepted (es ++ e ∷ []) × SameAnswer es e
entry-agrees spells sees es e same =
    let both = agree spells (history (texts es)) (history (entries (archive es))) e.id
    (length es + 1) e.text (has_id es e.id) (log-sees sees es e.id) (replay-sees sees es) same in (
      ap (λ (h : History). h.accepted) (replay-more es e) ∙ both.0
          ∙ ap (λ (h : History). h.accepted) (sym (log-more es e)),
      both.1,
    )

behind-agree : SpellsWhatIsRead → SeesEachId → (before es : List Entry) → SameAccepted before
    → SameAccepted (before ++ es)
behind-agree spells sees before [] same = subst SameAccepted (sym (append-nil before)) same
behind-agree spells sees before (e ∷ es) same =
    subst SameAccepted (append_assoc before (e ∷ []) es)
    (behind-agree spells sees (before ++ e ∷ []) es (entry-agrees spells sees before e same).0)

pub same_accepted : SpellsWhatIsRead → SeesEachId → (es : List Entry) → SameAccepted es
same_accepted spells sees es = behind-agree spells sees [] es refl

pub same_answer : SpellsWhatIsRead → SeesEachId → (es : List Entry) (e : Entry) → SameAnswer es e
same_answer spells sees es e = (entry-agrees spells sees es e (same_accepted spells sees es)).1
