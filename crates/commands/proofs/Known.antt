-- What a program answers that knows fewer editions.
use Rattle.std.proofs.Common.{◌≡◌, ◌≤◌, ◌<◌, [], ◌∷◌, fold, Some, None, Ok, Err, refl, sym, ap, ◌∙◌}
use Rattle.std.proofs.Common.{ℕ, Bool, true, false, cond, nat_le, List, ◌++◌, Option, Result, arith}
use Rattle.std.specs.List.{AllByRecursion}
use Rattle.std.proofs.lemmas.{List.Elements.recursion_from_All, Bool.Decides.nat_tests}
use Rattle.std.proofs.lemmas.Bool.{false≢true}
use Rattle.texts.specs.declared.{answer.Code.Code, command.RemarkedCommand.RemarkedCommand}
use Rattle.texts.specs.declared.command.Command.{Command, TheVariants.SetEdition}
use Rattle.texts.specs.{declared.reading.CommandFault.CommandFault, Reading.command_of, Table.rows}
use Rattle.texts.specs.Spelling.{IsFit, IsFitRemark, last_edition, spelling, with_remark_text}
use Rattle.texts.proofs.Words.{spelled_only}
use Rattle.commands.specs.History.{History, nothing, answer_of, is_seen, added_read, knows}
use Rattle.commands.specs.History.{spelled_refusal, read_refusal, read_refusal_in, entry_refusal_in}
use Rattle.commands.specs.History.{answer_in, after_in, history_in}
use Rattle.commands.specs.EditionLaws.{SetsNone, AreWithout, AnswersAsEarlier}
use Rattle.texts.specs.declared.answer.Code.TheVariants as code

-- This program knows each command.

pub knows_fit : (c : Command) → IsFit c → knows last_edition c ≡ true
unfolding rows
knows_fit (SetEdition e) fit = low fit.0.0.1
  where
    low : e ≤ last_edition → nat_le e last_edition ≡ true
    low h = grind (arith, nat_tests)
knows_fit _ fit = refl

-- so a command that is read is refused by its own checks
pub read_fit : (cs : List Command) (told : RemarkedCommand) → IsFit told.command
    → read_refusal cs (Ok told) ≡ spelled_refusal cs told
read_fit cs told fit =
    ap (λ (b : Bool). cond b (spelled_refusal cs told) (Some code.Unread))
    (knows_fit told.command fit)

module _ (k later : ℕ) (most : k ≤ later) where
  -- a text sets no edition between: it is known to both, or to none
  counts_alike : (e : ℕ) → (k < e → e ≤ later → ⊥) → nat_le e later ≡ nat_le e k
  counts_alike e other = step (nat_le e k) (nat_le e later) refl refl
    where
      step : (a b : Bool) → nat_le e k ≡ a → nat_le e later ≡ b → nat_le e later ≡ nat_le e k
      step true b known is = grind (arith, nat_tests)
      step false true known is =
          absurd (other (let low : k < e = grind (arith, nat_tests) in low)
          (let within : e ≤ later = grind (arith, nat_tests) in within))
      step false false known is = is ∙ sym known

  -- the same of the command that a text of either kind sets; a remark goes with no such command
  knows_alike : (text : List ℕ) (c : Command) (remark : Option (List ℕ))
      → IsFitRemark c remark → text ≡ with_remark_text (spelling c) remark
      → SetsNone k later text → knows later c ≡ knows k c
  unfolding rows
  knows_alike text (SetEdition e) None fit is other =
      counts_alike e (λ low within. other e low within is)
  knows_alike text (SetEdition e) (Some remark) fit is other = absurd (false≢true fit.0)
  knows_alike text _ remark fit is other = refl

  read_alike : (cs : List Command) (text : List ℕ) (r : Result RemarkedCommand CommandFault)
      → command_of text ≡ r → SetsNone k later text
      → read_refusal_in later cs r ≡ read_refusal_in k cs r
  read_alike cs text (Ok told) is other =
      let spelled = spelled_only text told is in
      ap (λ (b : Bool). cond b (spelled_refusal cs told) (Some code.Unread))
      (knows_alike text told.command told.remark spelled.0.1 spelled.1 other)
  read_alike cs text (Err fault) is other = refl

  after_alike : (h : History) (id : ℕ) (text : List ℕ) → SetsNone k later text
      → after_in later h id text ≡ after_in k h id text
  unfolding after_in
  after_alike h id text other =
      ap (λ (o : Option Code).
      cond (is_seen h id) h (let new : History = record {
        ids = h.ids ++ id ∷ [];
        accepted = h.accepted ++ added_read o (command_of text);
      } in new)) (read_alike h.accepted text (command_of text) refl other)

  fold_alike : (h : History) (entries : List (ℕ × List ℕ))
      → AllByRecursion (λ entry. SetsNone k later entry.1) entries
      → fold (λ (x : History) (entry : ℕ × List ℕ). after_in later x entry.0 entry.1) h entries
      ≡ fold (λ (x : History) (entry : ℕ × List ℕ). after_in k x entry.0 entry.1) h entries
  fold_alike h [] others = refl
  fold_alike h (entry ∷ entries) others =
      ap (λ (x : History).
      fold (λ (y : History) (e : ℕ × List ℕ). after_in later y e.0 e.1) x entries)
      (after_alike h entry.0 entry.1 others.0)
      ∙ fold_alike (after_in k h entry.0 entry.1) entries others.1

  -- it comes to the same
  pub history_alike : (entries : List (ℕ × List ℕ)) → AreWithout k later entries
      → history_in later entries ≡ history_in k entries
  history_alike entries others =
      fold_alike nothing entries
      (recursion_from_All (λ entry. SetsNone k later entry.1) entries others)

  -- and is answered alike
  pub answer_alike : (h : History) (id : ℕ) (text : List ℕ) → SetsNone k later text
      → answer_in later h id text ≡ answer_in k h id text
  unfolding entry_refusal_in
  answer_alike h id text other =
      ap (λ (o : Option Code). answer_of (cond (is_seen h id) (Some code.Repeat) o))
      (read_alike h.accepted text (command_of text) refl other)

pub answers_as_earlier : AnswersAsEarlier
answers_as_earlier k later entries id text most others other =
    ap (λ (h : History). answer_in later h id text) (history_alike k later most entries others)
    ∙ answer_alike k later most (history_in k entries) id text other
