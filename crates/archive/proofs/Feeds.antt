-- A text that reads as a command has no line feed.
use Rattle.std.proofs.Common.{◌≡◌, ℕ, Bool, true, false, ◌||◌, ◌==◌, not, List, [], ◌∷◌, ◌++◌, map}
use Rattle.std.proofs.Common.{codes, length, nat_le, Option, Some, None, Ok, refl, sym, ap, ◌∙◌}
use Rattle.std.proofs.{Common.eqb-true, lemmas.List.Folds.list_all-append}
use Rattle.std.specs.List.{list_all, list_any, join_with_byte}
use Rattle.std.proofs.lemmas.Bool.{false≢true}
use Rattle.texts.specs.declared.command.{Command.Command, RemarkedCommand.RemarkedCommand}
use Rattle.texts.specs.Names.{is_clear_name, is_name_byte, is_name, is_name_in, is_remark}
use Rattle.texts.specs.{Parts.parts, Reading.SpellsWhatIsRead, declared.value.FieldValue.FieldValue}
use Rattle.texts.{specs.Reading.command_of, proofs.Values.may_have_mark, proofs.Values.value_plain}
use Rattle.texts.specs.Spelling.{AllFit, Fits, IsFit, IsFitRemark, spelling, standing}
use Rattle.texts.specs.Spelling.{told_spelling, value_text, with_remark_text, words_of}
use Rattle.texts.specs.Table.{fields_in, row_of, rows, word_in}
use Rattle.texts.specs.declared.table.{FieldKind.FieldKind, Tag.Tag}
use Rattle.texts.proofs.{Bytes.is_plain, Cuts.lacks, Cuts.and-true}
use Rattle.texts.proofs.FieldSpellings.{name_bytes, new_name_bytes}
use Rattle.lines.specs.Lines.{is_line}
use Rattle.texts.specs.declared.table.FieldKind.TheVariants as kind
use Rattle.texts.specs.declared.table.Tag.TheVariants as tag
use Rattle.texts.specs.declared.value.FieldValue.TheVariants as value

-- ---- bytes

-- a test that a line feed fails: no byte of a text that passes it is a line feed
lack : (p : ℕ → Bool) → p 10 ≡ false → (bytes : List ℕ) → list_all p bytes ≡ true
    → lacks 10 bytes ≡ true
lack p feed [] h = refl
lack p feed (b ∷ bytes) h =
    let both = and-true (p b) (list_all p bytes) h in
    let first : not (b == 10) ≡ true = step (b == 10) refl both.0 in
    rw (first, lack p feed bytes both.1) refl
  where
    step : (t : Bool) → (b == 10) ≡ t → p b ≡ true → not t ≡ true
    step false is passes = refl
    step true is passes =
        absurd (false≢true (sym feed ∙ ap p (sym (eqb-true b 10 is)) ∙ passes))

both-lack : (xs ys : List ℕ) → lacks 10 xs ≡ true → lacks 10 ys ≡ true → lacks 10 (xs ++ ys) ≡ true
both-lack xs ys front back =
    list_all-append (λ b. not (b == 10)) xs ys ∙ rw (front, back) refl

-- words with a space between
joined-lack : (words : List (List ℕ)) → list_all (lacks 10) words ≡ true
    → lacks 10 (join_with_byte 32 words) ≡ true
joined-lack [] h = refl
joined-lack (w ∷ []) h = (and-true (lacks 10 w) true h).0
joined-lack (w ∷ x ∷ words) h =
    let both = and-true (lacks 10 w) (list_all (lacks 10) (x ∷ words)) h in
    both-lack w (32 ∷ join_with_byte 32 (x ∷ words)) both.0 (joined-lack (x ∷ words) both.1)

-- ---- commands

name-lacks : (name : List ℕ) → is_name name ≡ true → lacks 10 name ≡ true
name-lacks name fits = lack is_name_byte refl name (name_bytes name fits)

new-name-lacks : (name : List ℕ) → is_name_in 3 name ≡ true → lacks 10 name ≡ true
new-name-lacks name fits = lack is_name_byte refl name (new_name_bytes name fits)

plain-lacks : (stands : ℕ) (k : FieldKind) (v : FieldValue) → may_have_mark k ≡ false
    → Fits stands k v → lacks 10 (value_text v) ≡ true
plain-lacks stands k v none fits =
    lack is_plain refl (value_text v) (value_plain stands k v none fits)

value-lacks : (stands : ℕ) (k : FieldKind) (v : FieldValue) → Fits stands k v
    → lacks 10 (value_text v) ≡ true
value-lacks stands kind.Name (value.Name name) fits = name-lacks name fits
value-lacks stands kind.NewName (value.Name name) fits = new-name-lacks name fits
value-lacks stands kind.Number v fits = plain-lacks stands kind.Number v refl fits
value-lacks stands kind.Event v fits = plain-lacks stands kind.Event v refl fits
value-lacks stands kind.Round v fits = plain-lacks stands kind.Round v refl fits
value-lacks stands kind.Format v fits = plain-lacks stands kind.Format v refl fits
value-lacks stands kind.Cutoff v fits = plain-lacks stands kind.Cutoff v refl fits
value-lacks stands kind.Limit v fits = plain-lacks stands kind.Limit v refl fits
value-lacks stands kind.Advance v fits = plain-lacks stands kind.Advance v refl fits
value-lacks stands kind.Attempt v fits = plain-lacks stands kind.Attempt v refl fits
value-lacks stands kind.Moves v fits = plain-lacks stands kind.Moves v refl fits
value-lacks stands kind.Outcome v fits = plain-lacks stands kind.Outcome v refl fits
value-lacks stands kind.Edition v fits = plain-lacks stands kind.Edition v refl fits
value-lacks stands kind.Was v fits = plain-lacks stands kind.Was v refl fits
value-lacks stands kind.Now v fits = plain-lacks stands kind.Now v refl fits
value-lacks _ _ _ fits = absurd fits

values-lack : (stands : ℕ) (ks : List FieldKind) (vs : List FieldValue) → AllFit stands ks vs
    → list_all (lacks 10) (map value_text vs) ≡ true
values-lack stands [] [] fits = refl
values-lack stands [] (v ∷ vs) fits = absurd fits
values-lack stands (k ∷ ks) [] fits = absurd fits
values-lack stands (k ∷ ks) (v ∷ vs) fits =
    rw (value-lacks stands k v fits.0, values-lack (standing stands v) ks vs fits.1) refl

word-lacks : (t : Tag) → lacks 10 (word_in (row_of t)) ≡ true
unfolding rows
word-lacks tag.Register = refl
word-lacks _ = refl

words-lack : (c : Command) → IsFit c → list_all (lacks 10) (words_of c) ≡ true
words-lack c fits =
    rw (
      word-lacks (parts c).0,
      values-lack 0 (fields_in (row_of (parts c).0)) (parts c).1 fits.0,
    )
    refl

-- the remark is a name of edition 3
remark-lacks : (remark : List ℕ) → is_remark remark ≡ true → lacks 10 remark ≡ true
remark-lacks remark fits =
    new-name-lacks remark (and-true (nat_le (length remark) 80) (is_clear_name remark) fits).1

told-lacks : (c : Command) (text : List ℕ) (remark : Option (List ℕ)) → IsFitRemark c remark
    → lacks 10 text ≡ true → lacks 10 (with_remark_text text remark) ≡ true
told-lacks c text None fits front = front
told-lacks c text (Some remark) fits front =
    both-lack (text ++ codes " # ") remark (both-lack text (codes " # ") front refl)
    (remark-lacks remark fits.1)

-- ---- lines

line-lacks : (bytes : List ℕ) → lacks 10 bytes ≡ true → is_line bytes ≡ true
line-lacks [] h = refl
line-lacks (b ∷ bytes) h =
    let both = and-true (not (b == 10)) (lacks 10 bytes) h in
    step (b == 10) both.0 (line-lacks bytes both.1)
  where
    step : (t : Bool) → not t ≡ true → is_line bytes ≡ true
        → not (t || list_any (λ x. x == 10) bytes) ≡ true
    step false feed rest = rest
    step true feed rest = absurd (false≢true feed)

pub command_is_line : SpellsWhatIsRead → (text : List ℕ) (told : RemarkedCommand)
    → command_of text ≡ Ok told → is_line text ≡ true
command_is_line spells text told h =
    let spelled = spells text told h in
    let c : Command = told.command in
    ap is_line spelled.1
    ∙ line-lacks (told_spelling told) (told-lacks c (spelling c) told.remark spelled.0.1
    (joined-lack (words_of c) (words-lack c spelled.0.0)))
