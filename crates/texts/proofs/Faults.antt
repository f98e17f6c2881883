-- When a text is too long, and when it is no command: no field is at fault then.
use Rattle.std.proofs.Common.{◌≡◌, ◌↔◌, ℕ, ◌+◌, ◌<◌, ◌≤◌, ◌⊎◌, inl, inr, Bool, true, false, ◌||◌}
use Rattle.std.proofs.Common.{cond, nat_lt, List, [], ◌∷◌, length, bytes_eq, find, Option, Some}
use Rattle.std.proofs.Common.{None, Result, Ok, Err, refl, sym, ◌∙◌, subst, arith}
use Rattle.std.{specs.List.list_any, specs.Option.ok_or, proofs.lemmas.Bool.Decides.nat_tests}
use Rattle.std.proofs.lemmas.Bool.{false≢true}
use Rattle.texts.specs.declared.command.{Command.Command, RemarkedCommand.RemarkedCommand}
use Rattle.texts.specs.declared.{reading.CommandFault.CommandFault, value.FieldValue.FieldValue}
use Rattle.texts.specs.{Fields.cut, Parts.made_of, Names.is_remark, Table.TheRow, Table.is_word}
use Rattle.texts.specs.Reading.{◌>>=◌, Gives, TakesMemory, before_remark, by_row, command_of, told}
use Rattle.texts.specs.{Reading.values_of, Reading.with_remark, Table.row_named, Table.rows}
use Rattle.texts.proofs.{Memory.IsFrom, Memory.later, Memory.values_from, Words.made_row}
use Rattle.texts.specs.declared.reading.CommandFault.TheVariants as fault

-- what is read of a remark: a command with it, or a field at fault
remark_from : (index : ℕ) (remark : Option (List ℕ)) (c : Command)
    → IsFrom 0 (with_remark index remark c)
remark_from index None c = tt
remark_from index (Some bytes) c = step (is_remark bytes)
  where
    step : (b : Bool)
        → IsFrom 0 (cond b (Ok (told (Some bytes) c)) (Err (fault.BadField index)))
    step true = tt
    step false = omega arith

-- what is read by a row: the values make a command
row_from : (word : List ℕ) (row : TheRow) (left : Option (List ℕ)) → row_named word ≡ Some row
    → IsFrom 0 (by_row (Some row) left)
row_from word row left is =
    step (values_of 0 row.fields 1 front) refl
    (later 0 _ (values_from 0 row.fields 1 front))
  where
    front : Option (List ℕ)
    front = (before_remark row.takes_remark left).0

    last : Command → Result RemarkedCommand CommandFault
    last = with_remark (length row.fields + 1) (before_remark row.takes_remark left).1

    step : (r : Result (List FieldValue) CommandFault) → values_of 0 row.fields 1 front ≡ r
        → IsFrom 0 r
        → IsFrom 0 (r >>= (λ vs. ok_or (made_of (row.tag, vs)) fault.NotACommand >>= last))
    step (Ok vs) read h =
        let made = made_row word row front vs is read in
        rw made.is
        (remark_from (length row.fields + 1) (before_remark row.takes_remark left).1 made.command)
    step (Err (fault.BadField index)) read h = h
    step (Err fault.TooLong) read h = absurd h
    step (Err fault.NotACommand) read h = absurd h
    step (Err fault.NoMemory) read h = absurd h

-- What is said where no word is is said of no word.

not_found : (word : List ℕ) (rs : List TheRow)
    → (find (λ row. bytes_eq row.word word) rs ≡ None)
    ↔ (list_any (λ row. bytes_eq row.word word) rs ≡ false)
not_found word [] = (λ h. refl, λ h. refl)
not_found word (row ∷ rs) = step (bytes_eq row.word word) (not_found word rs)
  where
    step : (b : Bool)
        → (find (λ row. bytes_eq row.word word) rs ≡ None)
        ↔ (list_any (λ row. bytes_eq row.word word) rs ≡ false)
        → (cond b (Some row) (find (λ row. bytes_eq row.word word) rs) ≡ None)
        ↔ ((b || list_any (λ row. bytes_eq row.word word) rs) ≡ false)
    step true later = (
      λ h. absurd (let bad : Some row ≡ None = h in cc),
      λ h. absurd (false≢true (sym h)),
    )
    step false later = later

by_row-short : (word : List ℕ) (left : Option (List ℕ)) (o : Option TheRow) → row_named word ≡ o
    → by_row o left ≡ Err fault.TooLong → ⊥
by_row-short word left None is e =
    let bad : Err fault.NotACommand ≡ Err fault.TooLong = e in cc
by_row-short word left (Some row) is e =
    subst (λ (r : Result RemarkedCommand CommandFault). IsFrom 0 r) e (row_from word row left is)

by_row-none : (word : List ℕ) (left : Option (List ℕ)) (o : Option TheRow) → row_named word ≡ o
    → by_row o left ≡ Err fault.NotACommand → is_word word ≡ false
by_row-none word left None is e = (not_found word rows).0 is
by_row-none word left (Some row) is e =
    absurd
    (subst (λ (r : Result RemarkedCommand CommandFault). IsFrom 0 r) e (row_from word row left is))

-- What `read` answers.

too_long : (bytes : List ℕ) → (command_of bytes ≡ Err fault.TooLong) ↔ (600 < length bytes)
unfolding command_of
too_long bytes = (
  λ e. step (nat_lt 600 (length bytes)) refl e,
  λ long. let yes : nat_lt 600 (length bytes)
      ≡ true = grind (arith, nat_tests) in
      rw yes refl,
)
  where
    step : (b : Bool) → nat_lt 600 (length bytes) ≡ b
        → cond b (Err fault.TooLong) (by_row (row_named (cut 32 bytes).0) (cut 32 bytes).1)
        ≡ Err fault.TooLong
        → 600 < length bytes
    step true is e = grind (arith, nat_tests)
    step false is e = absurd (by_row-short (cut 32 bytes).0 (cut 32 bytes).1 _ refl e)

not_a_command : (bytes : List ℕ)
    → (command_of bytes ≡ Err fault.NotACommand)
    ↔ ((length bytes ≤ 600) × (is_word (cut 32 bytes).0 ≡ false))
unfolding command_of
not_a_command bytes = (
  λ e. step (nat_lt 600 (length bytes)) refl e,
  λ h. let no : nat_lt 600 (length bytes) ≡ false =
      short h.0 in
      rw (no, (not_found (cut 32 bytes).0 rows).1 h.1) refl,
)
  where
    short : length bytes ≤ 600 → nat_lt 600 (length bytes) ≡ false
    short h = grind (arith, nat_tests)

    step : (b : Bool) → nat_lt 600 (length bytes) ≡ b
        → cond b (Err fault.TooLong) (by_row (row_named (cut 32 bytes).0) (cut 32 bytes).1)
        ≡ Err fault.NotACommand
        → (length bytes ≤ 600) × (is_word (cut 32 bytes).0 ≡ false)
    step true is e = absurd (let bad : Err fault.TooLong ≡ Err fault.NotACommand = e in cc)
    step false is e = (
      grind (arith, nat_tests),
      by_row-none (cut 32 bytes).0 (cut 32 bytes).1 _ refl e,
    )

-- what is answered is what is said, unless memory ran out
answered : (kept : ℕ) (r said : Result RemarkedCommand CommandFault) → Gives kept r said
    → (r ≡ said) ⊎ ((r ≡ Err fault.NoMemory) × TakesMemory kept said)
answered kept (Ok c) said h = inl (sym h)
answered kept (Err fault.TooLong) said h = inl (sym h)
answered kept (Err fault.NotACommand) said h = inl (sym h)
answered kept (Err (fault.BadField index)) said h = inl (sym h)
answered kept (Err fault.NoMemory) said h = inr (refl, h)

-- a fault in whose place memory does not run out is answered just where it is said
alike : (e : CommandFault) (kept : ℕ) (r said : Result RemarkedCommand CommandFault)
    → (Err fault.NoMemory ≡ (let of : Result RemarkedCommand CommandFault = Err e in of) → ⊥)
    → (TakesMemory kept (Err e) → ⊥)
    → Gives kept r said → (r ≡ Err e) ↔ (said ≡ Err e)
alike e kept r said other takes h = step (answered kept r said h)
  where
    step : (r ≡ said) ⊎ ((r ≡ Err fault.NoMemory) × TakesMemory kept said)
        → (r ≡ Err e) ↔ (said ≡ Err e)
    step (inl same) = (λ is. sym same ∙ is, λ is. same ∙ is)
    step (inr none) = (
      λ is. absurd (other (sym none.0 ∙ is)),
      λ is. absurd (takes (subst (TakesMemory kept) is none.1)),
    )

pub gives_too_long_alone : (kept : ℕ) (r : Result RemarkedCommand CommandFault) (bytes : List ℕ)
    → Gives kept r (command_of bytes) → (r ≡ Err fault.TooLong) ↔ (600 < length bytes)
gives_too_long_alone kept r bytes h =
    let answer =
    alike fault.TooLong kept r (command_of bytes)
    (λ e. let bad : Err fault.NoMemory ≡ Err fault.TooLong = e in cc) (λ t. t) h in
    let text = too_long bytes in
    (λ e. text.0 (answer.0 e), λ long. answer.1 (text.1 long))

pub gives_not_a_command : (kept : ℕ) (r : Result RemarkedCommand CommandFault) (bytes : List ℕ)
    → Gives kept r (command_of bytes)
    → (r ≡ Err fault.NotACommand) ↔ ((length bytes ≤ 600) × (is_word (cut 32 bytes).0 ≡ false))
gives_not_a_command kept r bytes h =
    let answer =
    alike fault.NotACommand kept r (command_of bytes)
    (λ e. let bad : Err fault.NoMemory ≡ Err fault.NotACommand = e in cc) (λ t. t) h in
    let text = not_a_command bytes in
    (λ e. text.0 (answer.0 e), λ no. answer.1 (text.1 no))
