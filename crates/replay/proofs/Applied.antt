-- A replay from line to line, and how it ends, in words on the whole input.
use Rattle.std.proofs.Common.{◌≡◌, ℕ, ◌+◌, Bool, true, false, List, [], ◌∷◌, ◌++◌, length, fold}
use Rattle.std.proofs.Common.{unwrap_or, is_some, Option, Some, refl, sym, ap, ap₂, ◌∙◌}
use Rattle.std.proofs.Common.{append_assoc, append-nil, length-append, subst, add_comm, arith}
use Rattle.std.specs.Prelude.{Result, Ok, Err, IfErr}
use Rattle.std.proofs.KnownBytes.{Appends-trans, Appends-nil}
use Rattle.std.specs.{Io.KnownBytes.Appends, List.enumerate_from}
use Rattle.commands.specs.History.{History, nothing, history, after, answer_to}
use Rattle.lines.specs.{Bytes.Writes, Bytes.AppendsPart, declared.fault.RunFault.RunFault}
use Rattle.lines.specs.{Bytes.HasLeft, Lines.lines_of, Lines.is_within, Lines.lines_read}
use Rattle.lines.specs.Reading.{Reading, nothing_read, HasGiven, GivesLine, GivesFault, Gives}
use Rattle.lines.proofs.Inputs.{given_of, left_of, left_is, has_read, part_front, part_after}
use Rattle.lines.proofs.Inputs.{nothing_written, whole_written, waits_more, all_out, part_out}
use Rattle.lines.proofs.Inputs.{still_waits, lines_above}
use Rattle.sheets.specs.Sheet.{sheet}
use Rattle.replay.specs.Replay.{entries, refusal_text, refusals_after, refusals, Run, run_text}
use Rattle.replay.specs.Replay.{run_sheet, Replays, ReplayFails}
use Rattle.replay.specs.model.Applying.{Applies, StopsAmong}
use Rattle.lines.specs.declared.fault.RunFault.TheVariants as fault
use Rattle.replay.specs.declared.fault.ReplayFault.TheVariants as replay_fault

-- ---- lines

abbrev pub histories : History → List (ℕ × List ℕ) → History
histories h es = fold (λ h entry. after h entry.0 entry.1) h es

enumerate_append : (n : ℕ) (xs ys : List (List ℕ))
    → enumerate_from n (xs ++ ys) ≡ enumerate_from n xs ++ enumerate_from (n + length xs) ys
enumerate_append n [] ys = ap (λ m. enumerate_from m ys) (omega arith)
enumerate_append n (x ∷ xs) ys =
    ap (λ es. (n, x) ∷ es) (enumerate_append (n + 1) xs ys
    ∙ ap (λ m. enumerate_from (n + 1) xs ++ enumerate_from m ys) (omega arith))

refusals_append : (h : History) (es fs : List (ℕ × List ℕ))
    → refusals_after h (es ++ fs) ≡ refusals_after h es ++ refusals_after (histories h es) fs
refusals_append h [] fs = refl
refusals_append h (e ∷ es) fs =
    ap (λ x. refusal_text e.0 (answer_to h e.0 e.1) ++ x) (refusals_append (after h e.0 e.1) es fs)
    ∙ sym
    (append_assoc (refusal_text e.0 (answer_to h e.0 e.1)) (refusals_after (after h e.0 e.1) es)
    (refusals_after (histories h (e ∷ es)) fs))

histories_append : (h : History) (es fs : List (ℕ × List ℕ))
    → histories h (es ++ fs) ≡ histories (histories h es) fs
histories_append h [] fs = refl
histories_append h (e ∷ es) fs = histories_append (after h e.0 e.1) es fs

-- one more line
entries_more : (lines : List (List ℕ)) (line : List ℕ)
    → entries (lines ++ line ∷ []) ≡ entries lines ++ (length lines + 1, line) ∷ []
entries_more lines line =
    enumerate_append 1 lines (line ∷ [])
    ∙ ap (λ n. entries lines ++ (n, line) ∷ []) (add_comm 1 (length lines))

pub history_more : (lines : List (List ℕ)) (line : List ℕ) → history (entries (lines ++ line ∷ []))
    ≡ after (history (entries lines)) (length lines + 1) line
history_more lines line =
    ap history (entries_more lines line)
    ∙ histories_append nothing (entries lines) ((length lines + 1, line) ∷ [])

refusals_more : (lines : List (List ℕ)) (line : List ℕ) → refusals (lines ++ line ∷ [])
    ≡ refusals lines ++ refusal_text (length lines + 1)
    (answer_to (history (entries lines)) (length lines + 1) line)
refusals_more lines line =
    ap (refusals_after nothing) (entries_more lines line)
    ∙ refusals_append nothing (entries lines) ((length lines + 1, line) ∷ [])
    ∙ ap (λ x. refusals lines ++ x) (append-nil
    (refusal_text (length lines + 1) (answer_to (history (entries lines)) (length lines + 1) line)))

-- what is written for the first lines is the front of what is written for all
refusals_begin : (lines others : List (List ℕ))
    → (more : List ℕ) × (refusals (lines ++ others) ≡ refusals lines ++ more)
refusals_begin lines others = (
  refusals_after (histories nothing (entries lines)) (enumerate_from (1 + length lines) others),
  ap (refusals_after nothing) (enumerate_append 1 lines others)
      ∙ refusals_append nothing (entries lines) (enumerate_from (1 + length lines) others),
)

-- ---- one line after the other

-- the lines that were given are applied, and a part of what is written for them waits
pub record Applied (p : Reading) (meet : History) (out given : List ℕ)
    (start now old new : Option (List ℕ)) : Type 0 where
  pub read : HasGiven p given start now
  pub meet_is : meet ≡ history (entries (lines_of given))
  pub front : List ℕ
  pub written : Writes old new (refusals (lines_of given)) front out

pub begins : (meet : History) (out : List ℕ) (start old : Option (List ℕ)) → meet ≡ nothing
    → out ≡ [] → HasGiven nothing_read [] start start
    → Applied nothing_read meet out [] start start old old
begins meet out start old is none read = record {
  read = read;
  meet_is = is;
  front = [];
  written = record { parts = sym none; written = Appends-nil old };
}

-- a line was given and applied
one_more : (p q : Reading) (meet meet' : History) (line given out out' out'' : List ℕ)
    (start before now old new new' : Option (List ℕ))
    → Applied p meet out given start before old new → (g : GivesLine q line given start now)
    → meet' ≡ after meet q.lines line
    → out' ≡ out ++ refusal_text q.lines (answer_to meet q.lines line)
    → (front : List ℕ) × Writes new new' out' front out''
    → Applied q meet' out'' (given ++ g.more) start now old new'
one_more p q meet meet' line given out out' out'' start before now old new new' a g after_it said
    w =
    let count : q.lines ≡ length (lines_of given) + 1 = g.read.lines ∙ ap length g.is
    ∙ length-append (lines_of given) (line ∷ []) in
    let text : refusals (lines_of (given ++ g.more)) ≡ a.front ++ out' =
    ap refusals g.is
    ∙ refusals_more (lines_of given) line
    ∙ ap
    (λ n.
    refusals (lines_of given) ++ refusal_text n
    (answer_to (history (entries (lines_of given))) n line))
    (sym count)
    ∙ ap (λ h. refusals (lines_of given) ++ refusal_text q.lines (answer_to h q.lines line))
    (sym a.meet_is)
    ∙ ap (λ x. x ++ refusal_text q.lines (answer_to meet q.lines line)) a.written.parts
    ∙ append_assoc a.front out (refusal_text q.lines (answer_to meet q.lines line))
    ∙ ap (λ x. a.front ++ x) (sym said) in
    record {
      read = g.read;
      meet_is = after_it
          ∙ ap (λ h. after h q.lines line) a.meet_is
          ∙ ap (λ n. after (history (entries (lines_of given))) n line) count
          ∙ sym (history_more (lines_of given) line)
          ∙ ap (λ lines. history (entries lines)) (sym g.is);
      front = a.front ++ w.0;
      written =
          waits_more old new new' (refusals (lines_of (given ++ g.more))) a.front out' w.0 out''
          text a.written.written w.1;
    }

pub gives_true : (t : Bool) (p : Reading) (line given : List ℕ) (start now : Option (List ℕ))
    → t ≡ true → Gives (Ok t) p line given start now → GivesLine p line given start now
gives_true true p line given start now is h = h
gives_true false p line given start now is h = cc

-- a line was read, applied, and perhaps written
pub one_line : (t : Bool) (p q : Reading) (meet meet' : History) (number : ℕ)
    (text line given out out' out'' : List ℕ) (start before now old new new' : Option (List ℕ))
    → Applied p meet out given start before old new → t ≡ true
    → Gives (Ok t) q line given start now → number ≡ q.lines → text ≡ line
    → meet' ≡ after meet number text
    → out' ≡ out ++ refusal_text number (answer_to meet number text)
    → (front : List ℕ) × Writes new new' out' front out''
    → (more : List ℕ) × Applied q meet' out'' more start now old new'
one_line t p q meet meet' number text line given out out' out'' start before now old new new' a is
    gives count value after_it said w =
    let g = gives_true t q line given start now is gives in (
      given ++ g.more,
      one_more p q meet meet' line given out out' out'' start before now old new new' a g
          (after_it ∙ ap₂ (after meet) count value)
          (said ∙ ap₂ (λ n x. out ++ refusal_text n (answer_to meet n x)) count value) w,
    )

-- ---- the end

-- what holds of its error holds of a result that is one
pub fails_by : {T E : Type 0} (P : E → Type 0) (r : Result T E) (e : E) → r ≡ Err e → P e
    → IfErr r P
fails_by P r e is p = subst (λ x. IfErr x P) (sym is) p

-- a part of what is written for the lines that were given is a part of the whole
pub part_of_whole : (p : Reading) (given : List ℕ) (start now old new : Option (List ℕ))
    → HasGiven p given start now → AppendsPart old new (refusals (lines_of given))
    → (input : List ℕ) × HasLeft start input × AppendsPart old new (refusals (lines_read input))
part_of_whole p given start now old new h part =
    let input = given_of p given start now h in
    let more = refusals_begin (lines_of given) input.2.0 in (
      input.0,
      input.1,
      subst (AppendsPart old new) (sym more.1 ∙ ap refusals (sym input.2.1))
          (part_front old new (refusals (lines_of given)) more.0 part),
    )

-- the rest of what waits was not written whole
pub unwritten : (p : Reading) (meet : History) (out given : List ℕ)
    (start now old before new : Option (List ℕ))
    → Applied p meet out given start now old before → AppendsPart before new out
    → (input : List ℕ) × HasLeft start input × AppendsPart old new (refusals (lines_read input))
unwritten p meet out given start now old before new a part =
    part_of_whole p given start now old new a.read
    (part_out old before new (refusals (lines_of given)) a.front out a.written part)

-- memory ran out, and what waits was not written
pub forgotten : (p : Reading) (meet : History) (out given : List ℕ)
    (start now old new : Option (List ℕ)) → Applied p meet out given start now old new
    → (input : List ℕ) × HasLeft start input × AppendsPart old new (refusals (lines_read input))
forgotten p meet out given start now old new a =
    part_of_whole p given start now old new a.read
    (still_waits old new (refusals (lines_of given)) a.front out a.written)

-- reading ended early, after lines whose text is written
pub stops : (e : RunFault) (p : Reading) (meet : History) (out given : List ℕ)
    (start before now old between new : Option (List ℕ))
    → Applied p meet out given start before old between → GivesFault e given start now
    → Appends between new out
    → (input : List ℕ) × HasLeft start input × StopsAmong e input now old new
stops fault.InputTooLong p meet out given start before now old between new a f last =
    let above = lines_above given f.0 start now f.1 in (
      above.0,
      above.1,
      (
        above.2,
        subst (λ lines. Appends old new (refusals lines)) (sym above.3)
            (all_out old between new (refusals (lines_of given)) a.front out a.written last),
      ),
    )
stops fault.Read p meet out given start before now old between new a f last = (
  (given ++ f.0) ++ left_of now,
  has_read start now (given ++ f.0) f.1.consumed,
  record {
    front = given ++ f.0;
    rest = left_of now;
    parts = refl;
    remains = left_is now;
    within = f.1.within;
    written =
        subst (λ lines. Appends old new (refusals lines)) (sym f.1.lines)
        (all_out old between new (refusals (lines_of given)) a.front out a.written last);
  },
)
stops fault.NoMemory p meet out given start before now old between new a f last =
    part_of_whole p given start before old new a.read
    (whole_written old new (refusals (lines_of given))
    (all_out old between new (refusals (lines_of given)) a.front out a.written last))
stops _ p meet out given start before now old between new a f last = absurd f

-- ---- the run

-- lines were not all applied
pub fails_among : (e : RunFault) (r : Run) → StopsAmong e r.input r.left r.old r.new
    → ReplayFails (replay_fault.Lines e) r
fails_among fault.InputTooLong r s =
    record {
      above = s.0;
      written =
          subst (Appends r.old r.new)
          (sym (append-nil (refusals (lines_read r.input))) ∙ rw s.0 refl) s.1;
    }
fails_among fault.Read r s =
    record {
      front = s.front;
      rest = s.rest;
      parts = s.parts;
      remains = s.remains;
      within = s.within;
      written = s.written;
    }
fails_among fault.Write r s = part_front r.old r.new (refusals (lines_read r.input)) _ s
fails_among fault.NoMemory r s = part_front r.old r.new (refusals (lines_read r.input)) _ s
fails_among fault.BadCount r s = absurd s
fails_among (fault.BadLine n) r s = absurd s

-- the text where all is within the limits
text_within : (r : Run) → is_within r.input ≡ true
    → run_text r ≡ refusals (lines_of r.input) ++ unwrap_or (run_sheet r) []
text_within r h = rw h refl

abbrev sheet_is : Run → History → ℕ → Option (List ℕ)
sheet_is r meet count = sheet r.style meet.accepted r.event r.round count

same_sheet : (r : Run) (meet : History) (count : ℕ) (left mid : Option (List ℕ))
    → Applies meet count r.input left r.old mid → sheet_is r meet count ≡ run_sheet r
same_sheet r meet count left mid a = rw (a.meet_is, a.count_is) refl

-- the sheet was written after the refused lines
pub replays : (r : Run) (meet : History) (count : ℕ) (mid : Option (List ℕ)) (text : List ℕ)
    → Applies meet count r.input r.left r.old mid → sheet_is r meet count ≡ Some text
    → Appends mid r.new text → Replays r
replays r meet count mid text a there written =
    let is : run_sheet r ≡ Some text = sym (same_sheet r meet count r.left mid a) ∙ there in
    record {
      end = a.end;
      within = a.within;
      round_there = ap is_some is;
      written =
          subst (Appends r.old r.new)
          (ap (λ (o : Option (List ℕ)). refusals (lines_of r.input) ++ unwrap_or o []) (sym is)
          ∙ sym (text_within r a.within)) (Appends-trans r.old mid r.new _ _ a.written written);
    }

-- the sheet was not written whole
pub cut_off : (r : Run) (meet : History) (count : ℕ) (mid : Option (List ℕ)) (text : List ℕ)
    → Applies meet count r.input r.left r.old mid → sheet_is r meet count ≡ Some text
    → AppendsPart mid r.new text → ReplayFails (replay_fault.Lines fault.Write) r
cut_off r meet count mid text a there part =
    let is : run_sheet r ≡ Some text = sym (same_sheet r meet count r.left mid a) ∙ there in
    subst (AppendsPart r.old r.new)
    (ap (λ (o : Option (List ℕ)). refusals (lines_of r.input) ++ unwrap_or o []) (sym is)
    ∙ sym (text_within r a.within))
    (part_after r.old mid r.new (refusals (lines_of r.input)) text a.written part)

-- nothing was done
pub fails_at_once : (start old : Option (List ℕ)) (text : List ℕ → List ℕ)
    → (input : List ℕ) × HasLeft start input × AppendsPart old old (text input)
fails_at_once start old text =
    (left_of start, left_is start, nothing_written old (text (left_of start)))
