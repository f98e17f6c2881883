-- A text is read as a command exactly where it is the spelling of the command.
use Rattle.std.proofs.Common.{◌≡◌, ℕ, ◌≤◌, Bool, true, false, ◌&&◌, cond, nat_lt, List, [], ◌∷◌}
use Rattle.std.proofs.Common.{◌++◌, length, Option, Some, None, Result, Ok, Err, refl, sym, ap, ◌∙◌}
use Rattle.std.proofs.Common.{◌+◌, subst, arith, append_assoc, length-append}
use Rattle.std.specs.{Prelude.IsTrue, List.join_with_byte, List.list_any, Option.ok_or, Result.IfOk}
use Rattle.std.proofs.lemmas.Bool.{false≢true}
use Rattle.std.proofs.lemmas.Bool.Decides.{nat_tests}
use Rattle.texts.specs.declared.command.Command.{Command, TheVariants.Register}
use Rattle.texts.specs.{declared.command.RemarkedCommand.RemarkedCommand, Names.is_remark}
use Rattle.texts.specs.declared.{reading.CommandFault.CommandFault, value.FieldValue.FieldValue}
use Rattle.texts.specs.declared.table.{FieldKind.FieldKind, Tag.Tag}
use Rattle.texts.specs.{Fields.cut, Fields.cut_remark, Parts.Parts, Table.takes_remark_in}
use Rattle.texts.specs.{Parts.made_of, Parts.parts, Spelling.value_text, Spelling.words_by}
use Rattle.texts.specs.Reading.{◌>>=◌, Gives, ReadsAs, TakesMemory, before_remark, by_row}
use Rattle.texts.specs.Reading.{command_of, kept_field, takes_memory, told, values_of, with_remark}
use Rattle.texts.specs.Spelling.{AllFit, AreInRange, IsFit, IsFitRemark, IsFitTold, IsLeftShort}
use Rattle.texts.specs.Spelling.{IsShort, spelling, told_spelling, values_text, with_remark_text}
use Rattle.texts.specs.Table.{TheRow, fields_in, has_moves, kept_at, row_named, row_of, rows}
use Rattle.texts.specs.model.Returned.{GivesRemark, GivesValues, TakesForRemark, TakesForValues}
use Rattle.texts.proofs.{Bytes.is_plain, Bytes.passes_lack, Memory.kept_fields}
use Rattle.texts.proofs.Cuts.{behind, cut-behind, cut_spelled, lacks}
use Rattle.texts.proofs.Remarks.{cut_remark_found, cut_remark_spelled, more_text}
use Rattle.texts.proofs.Rows.{IsNamed, IsRow, bars_remark, bound, left_of, named_row, no_mark}
use Rattle.texts.proofs.Rows.{ok_same, room_of, row_right, taken, text_is, values_found}
use Rattle.texts.proofs.Rows.{values_only, values_plain, values_short}
use Rattle.texts.specs.declared.reading.CommandFault.TheVariants as fault
use Rattle.texts.specs.declared.table.Tag.TheVariants as tag
use Rattle.texts.specs.declared.value.FieldValue.TheVariants as value

abbrev pub Spells : List ℕ → RemarkedCommand → Type 0
Spells bytes c = IsFitTold c × (bytes ≡ told_spelling c)

-- ---- the parts of a command

pub retracts : (c : Command) → made_of (parts c) ≡ Some c
retracts (Register number name) = refl
retracts _ = refl

-- a command that has these parts
pub record IsMade (p : Parts) : Type 0 where
  pub command : Command
  pub is : made_of p ≡ Some command
  pub parts : parts command ≡ p

pub makes : (t : Tag) (vs : List FieldValue) → AllFit 0 (fields_in (row_of t)) vs → IsMade (t, vs)
unfolding rows
makes tag.Register (value.Number number ∷ value.Name name ∷ []) fits =
    record { command = _; is = refl; parts = refl }
makes tag.Open
    (value.Event event ∷ value.Round round ∷ value.Format form ∷ value.Cutoff cutoff ∷
    value.Limit limit ∷ value.Advance advance ∷ []) fits =
    record { command = _; is = refl; parts = refl }
makes tag.Enter (value.Event event ∷ value.Number number ∷ []) fits =
    record { command = _; is = refl; parts = refl }
makes tag.Scramble
    (value.Event event ∷ value.Round round ∷ value.Attempt attempt ∷ value.Moves moves ∷ []) fits =
    record { command = _; is = refl; parts = refl }
makes tag.Attempt
    (value.Event event ∷ value.Round round ∷ value.Attempt attempt ∷ value.Number number ∷
    value.Outcome outcome ∷ []) fits =
    record { command = _; is = refl; parts = refl }
makes tag.Correct
    (value.Event event ∷ value.Round round ∷ value.Attempt attempt ∷ value.Number number ∷
    value.Outcome outcome ∷ []) fits =
    record { command = _; is = refl; parts = refl }
makes tag.Strike (value.Event event ∷ value.Round round ∷ value.Number number ∷ []) fits =
    record { command = _; is = refl; parts = refl }
makes tag.SetAdvance (value.Event event ∷ value.Round round ∷ value.Advance advance ∷ []) fits =
    record { command = _; is = refl; parts = refl }
makes tag.Close (value.Event event ∷ value.Round round ∷ []) fits =
    record { command = _; is = refl; parts = refl }
makes tag.SetEdition (value.Edition edition ∷ []) fits =
    record { command = _; is = refl; parts = refl }
makes tag.Rename (value.Number number ∷ value.Name name ∷ []) fits =
    record { command = _; is = refl; parts = refl }
makes tag.SetRound
    (value.Event event ∷ value.Round round ∷ value.Format form ∷ value.Cutoff cutoff ∷
    value.Limit limit ∷ []) fits =
    record { command = _; is = refl; parts = refl }
makes tag.Rescramble
    (value.Event event ∷ value.Round round ∷ value.Attempt attempt ∷ value.Moves moves ∷ []) fits =
    record { command = _; is = refl; parts = refl }
makes tag.Withdraw (value.Event event ∷ value.Round round ∷ value.Number number ∷ []) fits =
    record { command = _; is = refl; parts = refl }
makes tag.Reopen (value.Event event ∷ value.Round round ∷ []) fits =
    record { command = _; is = refl; parts = refl }
makes tag.Card
    (value.Event event ∷ value.Round round ∷ value.Number number ∷ value.Was was ∷ value.Now now ∷
    []) fits =
    record { command = _; is = refl; parts = refl }
makes tag.Fix
    (value.Event event ∷ value.Round round ∷ value.Number number ∷ value.Was was ∷ value.Now now ∷
    []) fits =
    record { command = _; is = refl; parts = refl }
makes tag.Cancel (value.Event event ∷ value.Round round ∷ []) fits =
    record { command = _; is = refl; parts = refl }
makes _ _ fits = absurd (assumption fits)

-- ---- what is read is spelled so

-- the values that were read of a row make a command
pub made_row : (word : List ℕ) (row : TheRow) (left : Option (List ℕ)) (vs : List FieldValue)
    → row_named word ≡ Some row → values_of 0 row.fields 1 left ≡ Ok vs → IsMade (row.tag, vs)
made_row word row left vs is read =
    let it = named_row word row is in
    let fits = (values_only 0 row.fields 1 left vs read).0 in
    makes row.tag vs (subst (λ o. AllFit 0 (fields_in o) vs) (sym it.is) fits)

before_spelled : (takes : Bool) (left : Option (List ℕ))
    → behind 32 left
    ≡ with_remark_text (behind 32 (before_remark takes left).0) (before_remark takes left).1
before_spelled false left = refl
before_spelled true None = refl
before_spelled true (Some bytes) =
    ap (λ y. 32 ∷ y) (cut_remark_spelled bytes)
    ∙ sym (more_text 32 (cut_remark bytes).0 (cut_remark bytes).1)

-- a remark is cut off only where one may be
takes_where_cut : (takes : Bool) (left : Option (List ℕ)) (bytes : List ℕ)
    → (before_remark takes left).1 ≡ Some bytes → takes ≡ true
takes_where_cut true left bytes h = refl
takes_where_cut false left bytes h = absurd (let bad : None ≡ Some bytes = h in cc)

behind_word : (word text : List ℕ) (remark : Option (List ℕ))
    → word ++ with_remark_text text remark ≡ with_remark_text (word ++ text) remark
behind_word word text None = refl
behind_word word text (Some remark) = simp append_assoc

-- what was read after the fields: a remark that is right, or none
abbrev IsRemarked : Option (List ℕ) → Command → RemarkedCommand → Type 0
IsRemarked None d c = told None d ≡ c
IsRemarked (Some bytes) d c = (told (Some bytes) d ≡ c) × IsTrue (is_remark bytes)

remark_only : (index : ℕ) (remark : Option (List ℕ)) (d : Command) (c : RemarkedCommand)
    → with_remark index remark d ≡ Ok c → IsRemarked remark d c
remark_only index None d c h = ok_same (told None d) c h
remark_only index (Some bytes) d c h = step (is_remark bytes) refl h
  where
    step : (b : Bool) → is_remark bytes ≡ b
        → cond b (Ok (told (Some bytes) d)) (Err (fault.BadField index)) ≡ Ok c
        → IsRemarked (Some bytes) d c
    step true is e = (ok_same (told (Some bytes) d) c e, is)
    step false is e = absurd (let bad : Err (fault.BadField index) ≡ Ok c = e in cc)

-- whose values are in range, whose remark is right, and which is spelled so
abbrev InRange : List ℕ → RemarkedCommand → Type 0
InRange bytes c =
    AreInRange c.command × IsFitRemark c.command c.remark × (bytes ≡ told_spelling c)

in_range : (bytes : List ℕ) (remark : Option (List ℕ)) (d : Command) (c : RemarkedCommand)
    → IsRemarked remark d c → AreInRange d
    → ((r : List ℕ) → remark ≡ Some r → takes_remark_in (row_of (parts d).0) ≡ true)
    → bytes ≡ with_remark_text (spelling d) remark → InRange bytes c
in_range bytes None d c is fits may spelled = subst (InRange bytes) is (fits, tt, spelled)
in_range bytes (Some r) d c is fits may spelled =
    subst (InRange bytes) is.0 (fits, (may r refl, is.1), spelled)

by_row_only : (word : List ℕ) (left : Option (List ℕ)) (c : RemarkedCommand) (o : Option TheRow)
    → row_named word ≡ o → by_row o left ≡ Ok c → InRange (word ++ behind 32 left) c
by_row_only word left c None is h = absurd (let bad : Err fault.NotACommand ≡ Ok c = h in cc)
by_row_only word left c (Some row) is h =
    let front = (before_remark row.takes_remark left).0 in
    let remark = (before_remark row.takes_remark left).1 in
    let last : Command → Result RemarkedCommand CommandFault =
    with_remark (length row.fields + 1) remark in
    let of : List FieldValue → Result RemarkedCommand CommandFault =
    λ vs. ok_or (made_of (row.tag, vs)) fault.NotACommand >>= last in
    let b = bound (values_of 0 row.fields 1 front) of c h in
    let m = bound (ok_or (made_of (row.tag, b.0)) fault.NotACommand) last c b.1.1 in
    let it = named_row word row is in
    let made = made_row word row front b.0 is b.1.0 in
    let same : made.command ≡ m.0 =
    (let e : Some made.command ≡ Some m.0 =
    sym made.is ∙ taken _ fault.NotACommand m.0 m.1.0 in cc) in
    let parts_are : (let p : Parts = (row.tag, b.0) in p) ≡ parts m.0 =
    sym made.parts ∙ ap parts same in
    one row front remark b.0 m.0 c it parts_are
    (values_only 0 row.fields 1 front b.0 b.1.0)
    (remark_only (length row.fields + 1) remark m.0 c m.1.1)
    (takes_where_cut row.takes_remark left) (before_spelled row.takes_remark left)
  where
    one : (row : TheRow) (front remark : Option (List ℕ)) (vs : List FieldValue) (d : Command)
        (c : RemarkedCommand)
        → IsNamed word row → (let p : Parts = (row.tag, vs) in p) ≡ parts d
        → AllFit 0 row.fields vs × (behind 32 front ≡ values_text vs) → IsRemarked remark d c
        → ((r : List ℕ) → remark ≡ Some r → row.takes_remark ≡ true)
        → behind 32 left ≡ with_remark_text (behind 32 front) remark
        → InRange (word ++ behind 32 left) c
    one row front remark vs d c it parts_are read is may cut_so =
        let fits : AllFit 0 (fields_in (row_of row.tag)) vs =
        subst (λ o. AllFit 0 (fields_in o) vs) (sym it.is) read.0 in
        let takes : (r : List ℕ) → remark ≡ Some r → takes_remark_in (row_of row.tag) ≡ true =
        λ r e. subst (λ o. takes_remark_in o ≡ true) (sym it.is) (may r e) in
        let spelled : word ++ behind 32 front ≡ join_with_byte 32 (words_by (row.tag, vs)) =
        rw it.is (rw (text_is row.word vs) (rw (read.1, it.spelled) refl)) in
        let whole : word ++ behind 32 left
        ≡ with_remark_text (join_with_byte 32 (words_by (row.tag, vs))) remark =
        ap (λ y. word ++ y) cut_so ∙ behind_word word (behind 32 front) remark
        ∙ ap (λ y. with_remark_text y remark) spelled in
        subst
        (λ (p : Parts). AllFit 0 (fields_in (row_of p.0)) p.1
        → ((r : List ℕ) → remark ≡ Some r → takes_remark_in (row_of p.0) ≡ true)
        → word ++ behind 32 left ≡ with_remark_text (join_with_byte 32 (words_by p)) remark
        → InRange (word ++ behind 32 left) c)
        (sym parts_are)
        (in_range (word ++ behind 32 left) remark d c is) fits takes whole

-- a command in range whose spelling is short is fit
fit_of_short : (c : Command) → AreInRange c → IsShort c → IsFit c
fit_of_short c fits short = (fits, step (list_any has_moves (fields_in (row_of (parts c).0))))
  where
    step : (b : Bool) → IsLeftShort b c
    step true = short
    step false = tt

text_within : (text : List ℕ) (remark : Option (List ℕ))
    → length text ≤ length (with_remark_text text remark)
text_within text None = omega arith
text_within text (Some remark) =
    let total = length-append (text ++ 32 ∷ 35 ∷ 32 ∷ []) remark in
    let front = length-append text (32 ∷ 35 ∷ 32 ∷ []) in
    omega arith

pub spelled_only : (bytes : List ℕ) (c : RemarkedCommand) → command_of bytes ≡ Ok c → Spells bytes c
unfolding command_of
spelled_only bytes c h = step (nat_lt 600 (length bytes)) refl h
  where
    step : (b : Bool) → nat_lt 600 (length bytes) ≡ b
        → cond b (Err fault.TooLong) (by_row (row_named (cut 32 bytes).0) (cut 32 bytes).1) ≡ Ok c
        → Spells bytes c
    step true is e = absurd (let bad : Err fault.TooLong ≡ Ok c = e in cc)
    step false is e =
        let short : length bytes ≤ 600 = grind (arith, nat_tests, is) in
        let it = by_row_only (cut 32 bytes).0 (cut 32 bytes).1 c _ refl e in
        let spelled : bytes ≡ told_spelling c = cut_spelled 32 bytes ∙ it.2 in
        let whole : length (told_spelling c) ≤ 600 =
        subst (λ (x : List ℕ). length x ≤ 600) spelled short in
        let within = text_within (spelling c.command) c.remark in
        ((fit_of_short c.command it.0 (omega (arith, within, whole)), it.1, whole), spelled)

-- ---- what is spelled is short

pub spelling_short : (c : Command) → IsFit c → length (spelling c) ≤ 600
spelling_short c fits =
    step (list_any has_moves (fields_in (row_of (parts c).0))) refl fits.1
  where
    it : IsRow (parts c).0
    it = row_right (parts c).0

    small : (row : TheRow) → row_of (parts c).0 ≡ Some row
        → list_any has_moves (fields_in (row_of (parts c).0)) ≡ false
        → length row.word + room_of row.fields ≤ 600 → length (spelling c) ≤ 600
    small row is none room =
        let fit : AllFit 0 row.fields (parts c).1 =
        subst (λ o. AllFit 0 (fields_in o) (parts c).1) is fits.0 in
        let few : list_any has_moves row.fields ≡ false =
        sym (ap (λ o. list_any has_moves (fields_in o)) is) ∙ none in
        let rest = values_short 0 row.fields (parts c).1 fit few in
        let total = length-append row.word (values_text (parts c).1) in
        let text : spelling c ≡ row.word ++ values_text (parts c).1 =
        rw is (text_is row.word (parts c).1) in
        rw text (omega arith)

    step : (b : Bool) → list_any has_moves (fields_in (row_of (parts c).0)) ≡ b
        → IsLeftShort b c → length (spelling c) ≤ 600
    step true is h = h
    step false is h =
        let room : length it.row.word + room_of it.row.fields ≤ 600 =
        grind (arith, nat_tests, it.room) in
        small it.row it.is is room

-- ---- what is spelled is read

-- what is left after the word
abbrev left_told : List FieldValue → Option (List ℕ) → Option (List ℕ)
left_told [] remark = None
left_told (v ∷ vs) remark = Some (with_remark_text (value_text v ++ values_text vs) remark)

-- a remark is where one may be
abbrev HasItsPlace : Bool → List FieldValue → Option (List ℕ) → Type 0
HasItsPlace takes vs None = Unit {0}
HasItsPlace takes [] (Some remark) = ⊥
HasItsPlace takes (v ∷ vs) (Some remark) = takes ≡ true

told_text : (takes : Bool) (vs : List FieldValue) (remark : Option (List ℕ))
    → HasItsPlace takes vs remark
    → with_remark_text (values_text vs) remark ≡ behind 32 (left_told vs remark)
told_text takes [] None may = refl
told_text takes [] (Some remark) may = absurd may
told_text takes (v ∷ vs) None may = refl
told_text takes (v ∷ vs) (Some remark) may = refl

before_found : (takes : Bool) (vs : List FieldValue) (remark : Option (List ℕ))
    → HasItsPlace takes vs remark → (takes ≡ true → lacks 35 (values_text vs) ≡ true)
    → before_remark takes (left_told vs remark) ≡ (left_of vs, remark)
before_found takes [] (Some remark) may plain = absurd may
before_found false [] None may plain = refl
before_found true [] None may plain = refl
before_found false (v ∷ vs) None may plain = refl
before_found false (v ∷ vs) (Some remark) may plain = absurd (false≢true may)
before_found true (v ∷ vs) remark may plain =
    rw (cut_remark_found (value_text v ++ values_text vs) remark (plain refl)) refl

has_its_place : (row : TheRow) (vs : List FieldValue) (remark : Option (List ℕ))
    → AllFit 0 row.fields vs → (row.takes_remark && bars_remark row.fields) ≡ false
    → ((r : List ℕ) → remark ≡ Some r → row.takes_remark ≡ true)
    → HasItsPlace row.takes_remark vs remark
has_its_place row vs None fits marks may = tt
has_its_place row (v ∷ vs) (Some r) fits marks may = may r refl
has_its_place row [] (Some r) fits marks may =
    step row.fields row.takes_remark (may r refl) fits marks
  where
    step : (ks : List FieldKind) (t : Bool) → t ≡ true → AllFit 0 ks []
        → (t && bars_remark ks) ≡ false → ⊥
    step [] true is fits marks = false≢true (sym marks)
    step [] false is fits marks = false≢true is
    step (k ∷ ks) t is fits marks = fits

lacks_mark : (row : TheRow) (vs : List FieldValue) → AllFit 0 row.fields vs
    → (row.takes_remark && bars_remark row.fields) ≡ false → row.takes_remark ≡ true
    → lacks 35 (values_text vs) ≡ true
lacks_mark row vs fits marks takes =
    passes_lack is_plain 35 refl (values_text vs)
    (values_plain 0 row.fields vs fits (no_mark row marks takes))

remark_found : (index : ℕ) (c : RemarkedCommand) → IsFitRemark c.command c.remark
    → with_remark index c.remark c.command ≡ Ok c
remark_found index c fits = step c.remark fits
  where
    step : (remark : Option (List ℕ)) → IsFitRemark c.command remark
        → with_remark index remark c.command ≡ Ok (told remark c.command)
    step None fits = refl
    step (Some bytes) fits = rw fits.1 refl

remark_takes : (c : Command) (remark : Option (List ℕ)) (row : TheRow)
    → row_of (parts c).0 ≡ Some row → IsFitRemark c remark → (r : List ℕ) → remark ≡ Some r
    → row.takes_remark ≡ true
remark_takes c None row is fits r h = absurd (let bad : None ≡ Some r = h in cc)
remark_takes c (Some bytes) row is fits r h =
    subst (λ o. takes_remark_in o ≡ true) is fits.0

pub spelled_found : (c : RemarkedCommand) → IsFitTold c → command_of (told_spelling c) ≡ Ok c
unfolding command_of
spelled_found c fits =
    let it = row_right (parts c.command).0 in
    let vs = (parts c.command).1 in
    let fit : AllFit 0 it.row.fields vs =
    subst (λ o. AllFit 0 (fields_in o) vs) it.is fits.0.0 in
    let may = remark_takes c.command c.remark it.row it.is fits.1 in
    let place = has_its_place it.row vs c.remark fit it.marks may in
    let front : spelling c.command ≡ it.row.word ++ values_text vs =
    rw it.is (text_is it.row.word vs) in
    let text : told_spelling c ≡ it.row.word ++ behind 32 (left_told vs c.remark) =
    ap (λ y. with_remark_text y c.remark) front
    ∙ sym (behind_word it.row.word (values_text vs) c.remark)
    ∙ ap (λ y. it.row.word ++ y) (told_text it.row.takes_remark vs c.remark place) in
    let whole : length (told_spelling c) ≤ 600 = fits.2 in
    let few : nat_lt 600 (length (told_spelling c)) ≡ false = grind (arith, nat_tests, whole) in
    let made : made_of (it.row.tag, vs) ≡ Some c.command =
    ap (λ t. made_of (t, vs)) it.tag ∙ retracts c.command in
    rw few
    (rw text
    (rw (cut-behind 32 it.row.word (left_told vs c.remark) it.word)
    (rw it.named
    (rw (before_found it.row.takes_remark vs c.remark place (lacks_mark it.row vs fit it.marks))
    (rw (values_found 0 it.row.fields 1 vs fit it.last)
    (ap
    (λ o. ok_or o fault.NotACommand >>= with_remark (length it.row.fields + 1) c.remark) made
    ∙ remark_found (length it.row.fields + 1) c fits.1))))))

pub spelled_once : (c d : RemarkedCommand) → IsFitTold c → IsFitTold d
    → told_spelling c ≡ told_spelling d → c ≡ d
spelled_once c d fits fits' same =
    ok_same c d (sym (spelled_found c fits) ∙ ap command_of same ∙ spelled_found d fits')

-- ---- what `read` answers

-- a command that is made of what was read of the fields, and its remark

pub gives_remark : (word : List ℕ) (row : TheRow) (left front remark : Option (List ℕ))
    (vs : List FieldValue) (o : Option Command) (c : Command) (index : ℕ)
    (r : Result RemarkedCommand CommandFault)
    → row_named word ≡ Some row
    → (let p : Option (List ℕ) × Option (List ℕ) = (front, remark) in p)
    ≡ before_remark row.takes_remark left
    → values_of 0 row.fields 1 front ≡ Ok vs → o ≡ made_of (row.tag, vs) → o ≡ Some c
    → index ≡ length row.fields + 1 → GivesRemark r (with_remark index remark c)
    → Gives (kept_field word) r (by_row (row_named word) left)
gives_remark word row left front remark vs o c index r is cut_so read made some place h =
    step r (sym whole) h
  where
    whole : by_row (row_named word) left ≡ with_remark index remark c
    whole =
        subst
        (λ (q : Option TheRow). by_row q left ≡ with_remark index remark c) (sym is)
        (subst
        (λ (p : Option (List ℕ) × Option (List ℕ)). (values_of 0 row.fields 1 p.0
        >>= (λ ws. ok_or (made_of (row.tag, ws)) fault.NotACommand
        >>= with_remark (length row.fields + 1) p.1))
        ≡ with_remark index remark c)
        cut_so
        (rw read (rw (sym made ∙ some) (ap (λ i. with_remark i remark c) (sym place)))))

    step : (r : Result RemarkedCommand CommandFault)
        → with_remark index remark c ≡ by_row (row_named word) left
        → GivesRemark r (with_remark index remark c)
        → Gives (kept_field word) r (by_row (row_named word) left)
    step (Ok d) same h = sym same ∙ h
    step (Err fault.TooLong) same h = sym same ∙ h
    step (Err fault.NotACommand) same h = sym same ∙ h
    step (Err (fault.BadField i)) same h = sym same ∙ h
    step (Err fault.NoMemory) same h =
        subst (TakesMemory (kept_field word)) same (takes (with_remark index remark c) h)
      where
        takes : (said : Result RemarkedCommand CommandFault) → TakesForRemark said
            → TakesMemory (kept_field word) said
        takes (Ok d) t = rw t refl
        takes (Err e) t = absurd t

pub gives_none : (word : List ℕ) (row : TheRow) (left front remark : Option (List ℕ))
    (vs : List FieldValue) (o : Option Command)
    → row_named word ≡ Some row
    → (let p : Option (List ℕ) × Option (List ℕ) = (front, remark) in p)
    ≡ before_remark row.takes_remark left
    → values_of 0 row.fields 1 front ≡ Ok vs → o ≡ made_of (row.tag, vs) → o ≡ None
    → Gives (kept_field word) (Err fault.NotACommand) (by_row (row_named word) left)
gives_none word row left front remark vs o is cut_so read made none =
    let there = made_row word row front vs is read in
    absurd (let bad : None ≡ Some there.command = sym none ∙ made ∙ there.is in cc)

pub gives_values : {X : Type 0} (view : X → List FieldValue) (word : List ℕ) (row : TheRow)
    (left front remark : Option (List ℕ)) (e : CommandFault)
    → row_named word ≡ Some row
    → (let p : Option (List ℕ) × Option (List ℕ) = (front, remark) in p)
    ≡ before_remark row.takes_remark left
    → GivesValues view row.fields (Err e) (values_of 0 row.fields 1 front)
    → Gives (kept_field word) (Err e) (by_row (row_named word) left)
gives_values view word row left front remark e is cut_so h =
    subst (λ (o : Option TheRow). Gives (kept_at 1 (fields_in o)) (Err e) (by_row o left)) (sym is)
    (subst
    (λ (p : Option (List ℕ) × Option (List ℕ)). Gives (kept_at 1 row.fields) (Err e)
    (values_of 0 row.fields 1 p.0
    >>= (λ vs. ok_or (made_of (row.tag, vs)) fault.NotACommand
    >>= with_remark (length row.fields + 1) p.1)))
    cut_so (step e h))
  where
    of : Result (List FieldValue) CommandFault → Result RemarkedCommand CommandFault
    of r =
        r
        >>= (λ vs. ok_or (made_of (row.tag, vs)) fault.NotACommand
        >>= with_remark (length row.fields + 1) remark)

    it : IsNamed word row
    it = named_row word row is

    may : (r : List ℕ) → remark ≡ Some r → row.takes_remark ≡ true
    may r there =
        takes_where_cut row.takes_remark left r
        (sym (ap (λ (p : Option (List ℕ) × Option (List ℕ)). p.1) cut_so) ∙ there)

    after_values : (d : Command) (o : Option (List ℕ)) → remark ≡ o
        → list_any takes_memory (parts d).1 ≡ true → AllFit 0 row.fields (parts d).1
        → TakesMemory (kept_at 1 row.fields) (with_remark (length row.fields + 1) o d)
    after_values d None same takes fits = takes
    after_values d (Some bytes) same takes fits = rest (is_remark bytes)
      where
        rest : (b : Bool)
            → TakesMemory (kept_at 1 row.fields)
            (cond b (Ok (told (Some bytes) d)) (Err (fault.BadField (length row.fields + 1))))
        rest true = refl
        rest false =
            let there =
            kept_fields 0 1 row.fields (parts d).1 (omega arith) fits
            (no_mark row it.marks (may bytes same)) takes in
            (there.0, let few = there.1 in omega (arith, few))

    one : (vs : List FieldValue) → IsMade (row.tag, vs) → list_any takes_memory vs ≡ true
        → AllFit 0 row.fields vs → TakesMemory (kept_at 1 row.fields) (of (Ok vs))
    one vs made takes fits =
        rw made.is
        (after_values made.command remark refl
        (subst (λ (p : Parts). list_any takes_memory p.1 ≡ true) (sym made.parts) takes)
        (subst (λ (p : Parts). AllFit 0 row.fields p.1) (sym made.parts) fits))

    takes : (r : Result (List FieldValue) CommandFault) → values_of 0 row.fields 1 front ≡ r
        → TakesForValues row.fields r → TakesMemory (kept_at 1 row.fields) (of r)
    takes (Ok vs) read t =
        one vs (made_row word row front vs is read) t
        (values_only 0 row.fields 1 front vs read).0
    takes (Err (fault.BadField index)) read t = t
    takes (Err fault.TooLong) read t = absurd t
    takes (Err fault.NotACommand) read t = absurd t
    takes (Err fault.NoMemory) read t = absurd t

    step : (e : CommandFault)
        → GivesValues view row.fields (Err e) (values_of 0 row.fields 1 front)
        → Gives (kept_at 1 row.fields) (Err e) (of (values_of 0 row.fields 1 front))
    step fault.NoMemory h = takes (values_of 0 row.fields 1 front) refl h
    step _ h = ap of h

pub gives_too_long : (kept : ℕ) (bytes : List ℕ) → nat_lt 600 (length bytes) ≡ true
    → Gives kept (Err fault.TooLong) (command_of bytes)
unfolding command_of
gives_too_long kept bytes long = rw long refl

pub gives_word : (r : Result RemarkedCommand CommandFault) (bytes : List ℕ)
    (text : List ℕ × Option (List ℕ))
    → nat_lt 600 (length bytes) ≡ false → text ≡ cut 32 bytes
    → Gives (kept_field text.0) r (by_row (row_named text.0) text.1)
    → Gives (kept_field (cut 32 bytes).0) r (command_of bytes)
unfolding command_of
gives_word r bytes text short same h =
    rw short
    (subst
    (λ (p : List ℕ × Option (List ℕ)). Gives (kept_field p.0) r (by_row (row_named p.0) p.1)) same
    h)

pub gives_found : (kept : ℕ) (r : Result RemarkedCommand CommandFault) (bytes : List ℕ)
    → Gives kept r (command_of bytes) → (c : RemarkedCommand) → IsFitTold c
    → bytes ≡ told_spelling c
    → ReadsAs r c
gives_found kept r bytes h c fits same =
    step r (subst (Gives kept r) (ap command_of same ∙ spelled_found c fits) h)
  where
    step : (r : Result RemarkedCommand CommandFault) → Gives kept r (Ok c) → ReadsAs r c
    step (Ok d) e = sym (ok_same c d e)
    step (Err fault.NoMemory) e = refl
    step (Err fault.TooLong) e = absurd (let bad : Ok c ≡ Err fault.TooLong = e in cc)
    step (Err fault.NotACommand) e = absurd (let bad : Ok c ≡ Err fault.NotACommand = e in cc)
    step (Err (fault.BadField index)) e =
        absurd (let bad : Ok c ≡ Err (fault.BadField index) = e in cc)

pub gives_only : (kept : ℕ) (r : Result RemarkedCommand CommandFault) (bytes : List ℕ)
    → Gives kept r (command_of bytes) → IfOk r (λ c. IsFitTold c × (bytes ≡ told_spelling c))
gives_only kept (Ok c) bytes h = spelled_only bytes c h
gives_only kept (Err e) bytes h = _
