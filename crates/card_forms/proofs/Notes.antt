-- A remark that is added to a command's text changes nothing else.
use Rattle.std.proofs.Common.{◌≡◌, ℕ, ◌+◌, ◌≤◌, Bool, true, false, ◌&&◌, ◌==◌, not, nat_le, List}
use Rattle.std.proofs.Common.{[], ◌∷◌, ◌++◌, length, codes, Option, Some, None, refl, sym, ap, ◌∙◌}
use Rattle.std.proofs.Common.{arith, append_assoc, bytes_eq, length-append}
use Rattle.std.proofs.lemmas.Bool.{false≢true}
use Rattle.std.proofs.lemmas.{Bool.Decides.nat_tests, List.append-nil, List.Folds.list_all-append}
use Rattle.texts.proofs.{Numerals.bytes_eq-same, Cuts.and-true, Remarks.cut_remark_found}
use Rattle.texts.specs.declared.command.{Command.Command, RemarkedCommand.RemarkedCommand}
use Rattle.texts.specs.{Fields.cut, Names.is_remark, Parts.parts, Reading.command_of}
use Rattle.texts.specs.Spelling.{IsFitTold, spelling, told_spelling, with_remark_text}
use Rattle.texts.specs.Table.{row_named, row_of, takes_remark_in}
use Rattle.texts.proofs.{Cuts.behind, Cuts.cut-behind, Words.spelled_found, Words.spelled_only}
use Rattle.texts.proofs.{Cuts.lacks, Rows.left_of, Rows.left_text, Rows.row_right, Rows.text_is}
use Rattle.card_forms.specs.Remarks.{IsNoted, NotesTheCommand, before_remark, is_same_but_remark}
use Rattle.card_forms.specs.Remarks.{is_plain, may_note, noted, takes_remark}

-- what is left after a word, and more after a space
abbrev and_more : Option (List ℕ) → List ℕ → List ℕ
and_more None more = more
and_more (Some left) more = left ++ 32 ∷ more

with_more : (word : List ℕ) (left : Option (List ℕ)) (more : List ℕ)
    → (word ++ behind 32 left) ++ 32 ∷ more ≡ word ++ behind 32 (Some (and_more left more))
with_more word None more = rw append-nil refl
with_more word (Some left) more = append_assoc word (32 ∷ left) (32 ∷ more)

spelled_word : (c : Command) → spelling c
    ≡ (row_right (parts c).0).row.word ++ behind 32 (left_of (parts c).1)
spelled_word c =
    let it = row_right (parts c).0 in
    rw it.is (text_is it.row.word (parts c).1 ∙ ap (λ y. it.row.word ++ y) (left_text (parts c).1))

with_mark : (text remark : List ℕ)
    → with_remark_text text (Some remark) ≡ text ++ 32 ∷ 35 ∷ 32 ∷ remark
with_mark [] remark = refl
with_mark (b ∷ text) remark = ap (λ (t : List ℕ). b ∷ t) (with_mark text remark)

-- the word of a command's text, whatever its remark
word_of : (c : Command) (remark : Option (List ℕ))
    → (cut 32 (with_remark_text (spelling c) remark)).0 ≡ (row_right (parts c).0).row.word
word_of c None =
    let it = row_right (parts c).0 in
    ap (λ (t : List ℕ). (cut 32 t).0) (spelled_word c)
    ∙ ap (λ (p : List ℕ × Option (List ℕ)). p.0)
    (cut-behind 32 it.row.word (left_of (parts c).1) it.word)
word_of c (Some remark) =
    let it = row_right (parts c).0 in
    ap (λ (t : List ℕ). (cut 32 t).0) (with_mark (spelling c) remark)
    ∙ ap (λ (t : List ℕ). (cut 32 (t ++ 32 ∷ 35 ∷ 32 ∷ remark)).0) (spelled_word c)
    ∙ ap (λ (t : List ℕ). (cut 32 t).0)
    (with_more it.row.word (left_of (parts c).1) (35 ∷ 32 ∷ remark))
    ∙ ap (λ (p : List ℕ × Option (List ℕ)). p.0)
    (cut-behind 32 it.row.word (Some (and_more (left_of (parts c).1) (35 ∷ 32 ∷ remark))) it.word)

takes_of : (c : Command) (remark : Option (List ℕ))
    → takes_remark (with_remark_text (spelling c) remark) ≡ takes_remark_in (row_of (parts c).0)
takes_of c remark =
    let it = row_right (parts c).0 in
    ap (λ (w : List ℕ). takes_remark_in (row_named w)) (word_of c remark)
    ∙ ap takes_remark_in (it.named ∙ sym it.is)

-- what is before the remark of a command that may have one
pub before_is : (c : Command) (remark : Option (List ℕ))
    → takes_remark_in (row_of (parts c).0) ≡ true → lacks 35 (spelling c) ≡ true
    → before_remark (with_remark_text (spelling c) remark) ≡ spelling c
before_is c remark takes plain =
    let it : takes_remark (with_remark_text (spelling c) remark) ≡ true =
    takes_of c remark ∙ takes in
    rw it (ap (λ (p : List ℕ × Option (List ℕ)). p.0) (cut_remark_found (spelling c) remark plain))

-- a text without a number sign has no remark
no_remark : (c : Command) (remark : Option (List ℕ))
    → lacks 35 (with_remark_text (spelling c) remark) ≡ true → remark ≡ None
no_remark c None h = refl
no_remark c (Some r) h =
    let apart = list_all-append (λ b. not (b == 35)) (spelling c) (32 ∷ 35 ∷ 32 ∷ r) in
    let plain : lacks 35 (spelling c ++ 32 ∷ 35 ∷ 32 ∷ r) ≡ true =
    ap (lacks 35) (sym (with_mark (spelling c) r)) ∙ h in
    absurd (false≢true
    (and-true (lacks 35 (spelling c)) (lacks 35 (32 ∷ 35 ∷ 32 ∷ r)) (sym apart ∙ plain)).1)

all_three : (a b c : Bool) → (a && b && c) ≡ true → (a ≡ true) × (b ≡ true) × (c ≡ true)
all_three true true true h = (refl, refl, refl)
all_three true true false h = absurd (false≢true h)
all_three true false c h = absurd (false≢true h)
all_three false b c h = absurd (false≢true h)

pub notes : NotesTheCommand
notes remark text told reads = step (may_note remark text) refl
  where
    spelled : IsFitTold told × (text ≡ told_spelling told)
    spelled = spelled_only text told reads

    step : (b : Bool) → may_note remark text ≡ b → IsNoted remark text told
    step false is =
        let same : noted remark text ≡ text = rw is refl in
        record {
          now = told;
          reads = ap command_of same ∙ reads;
          same = refl;
          texts =
              ap (λ (t : List ℕ). is_same_but_remark t text) same
              ∙ bytes_eq-same (before_remark text);
        }
    step true is =
        let c = told.command in
        let all =
        all_three (is_remark remark) (nat_le (length text + length remark) 597) (is_plain text)
        is in
        let last = and-true (takes_remark text) (lacks 35 text) all.2 in
        let room = all.1 in
        let short : length text + length remark ≤ 597 = grind (arith, nat_tests) in
        let none : told.remark ≡ None =
        no_remark told.command told.remark (ap (lacks 35) (sym spelled.1) ∙ last.1) in
        let plain : text ≡ spelling told.command =
        spelled.1 ∙ ap (with_remark_text (spelling told.command)) none in
        let lacks_mark : lacks 35 (spelling told.command) ≡ true =
        ap (lacks 35) (sym plain) ∙ last.1 in
        let takes : takes_remark_in (row_of (parts told.command).0) ≡ true =
        sym (takes_of told.command None) ∙ ap takes_remark (sym plain) ∙ last.0 in
        let now : RemarkedCommand = record { command = told.command; remark = Some remark } in
        let whole : noted remark text ≡ told_spelling (record {
          command = told.command;
          remark = Some remark;
        }) =
        rw is (ap (λ (t : List ℕ). t ++ codes " # " ++ remark) plain) in
        let total : length (told_spelling (record {
          command = told.command;
          remark = Some remark;
        })) ≤ 600 =
        let sum = length-append (spelling told.command) (32 ∷ 35 ∷ 32 ∷ remark) in
        let mark = ap length (with_mark (spelling told.command) remark) in
        let size = ap length plain in omega (arith, mark, sum, size, short) in
        let found = spelled_found (record { command = told.command; remark = Some remark })
        (spelled.0.0, (takes, all.0), total) in
        record {
          now = record { command = told.command; remark = Some remark };
          reads = ap command_of whole ∙ found;
          same = refl;
          texts =
              ap (λ (t : List ℕ). bytes_eq (before_remark t) (before_remark text)) whole
              ∙ ap (λ (t : List ℕ). bytes_eq t (before_remark text))
              (before_is told.command (Some remark) takes lacks_mark)
              ∙ ap (bytes_eq (spelling told.command))
              (ap before_remark plain ∙ before_is told.command None takes lacks_mark)
              ∙ bytes_eq-same (spelling told.command);
        }
