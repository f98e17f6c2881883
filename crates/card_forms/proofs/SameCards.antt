-- Two texts that spell cards are the same but for a remark exactly where they spell the same card.
use Rattle.std.proofs.Common.{◌≡◌, ◌∙◌, ℕ, true, List, Option, None, Some, Result, Ok, Err, ap}
use Rattle.std.proofs.Common.{codes, refl, subst, sym}
use Rattle.std.{specs.Prelude.unwrap_or, proofs.lemmas.Slice.Eq.bytes_eq-Decides}
use Rattle.texts.specs.declared.command.{CardEntry.CardEntry, RemarkedCommand.RemarkedCommand}
use Rattle.texts.specs.declared.command.Command.{Command, TheVariants.Card}
use Rattle.texts.specs.{declared.reading.CommandFault.CommandFault, Reading.command_of}
use Rattle.texts.specs.{Parts.card_values, Parts.parts, Spelling.with_remark_text}
use Rattle.texts.specs.Spelling.{AreInRange, IsFit, IsFitTold, spelling, values_text}
use Rattle.texts.specs.Table.{fields_in, row_of, rows, takes_remark_in}
use Rattle.texts.proofs.Bytes.{is_plain, passes_lack}
use Rattle.texts.proofs.{Cuts.lacks, Rows.text_is, Rows.values_plain}
use Rattle.texts.proofs.Words.{spelled_once, spelled_only, spelling_short}
use Rattle.card_forms.{specs.Remarks.before_remark, proofs.Notes.before_is}
use Rattle.card_forms.specs.Entries.{SameWhereTheCardIs, card_in, card_of, card_told}
use Rattle.texts.specs.declared.table.Tag.TheVariants as tag

pub card_is_of : (command : Command) (card : CardEntry) → card_of command ≡ Some card
    → command ≡ Card card
card_is_of (Card one) card is = ap Card (ap (λ (o : Option CardEntry). unwrap_or o one) is)
card_is_of _ card is = absurd (cc)

-- the spelling of a card has no `#`
no_mark : (card : CardEntry) → AreInRange (Card card) → lacks 35 (spelling (Card card)) ≡ true
unfolding rows
no_mark card fits =
    ap (lacks 35) (text_is (codes "CARD") (card_values card))
    ∙ passes_lack is_plain 35 refl (values_text (card_values card))
    (values_plain 0 (fields_in (row_of tag.Card)) (card_values card) fits refl)

-- a card may have a remark
takes : (card : CardEntry) → takes_remark_in (row_of (parts (Card card)).0) ≡ true
unfolding rows
takes card = refl

-- what a text that spells a card is
record IsCardText (text : List ℕ) (card : CardEntry) : Type 0 where
  fit : IsFit (Card card)
  front : before_remark text ≡ spelling (Card card)

text_of_card : (text : List ℕ) (card : CardEntry) → card_in text ≡ Some card → IsCardText text card
text_of_card text card is = step (command_of text) refl is
  where
    step : (r : Result RemarkedCommand CommandFault) → command_of text ≡ r → card_told r ≡ Some card
        → IsCardText text card
    step (Err why) reads is = absurd (cc)
    step (Ok told) reads is =
        let command : told.command ≡ Card card = card_is_of told.command card is in
        let spells = spelled_only text told reads in
        let fit : IsFit (Card card) = subst IsFit command spells.0.0 in
        record {
          fit = fit;
          front = ap before_remark spells.1
              ∙ ap (λ (c : Command). before_remark (with_remark_text (spelling c) told.remark))
              command
              ∙ before_is (Card card) told.remark (takes card) (no_mark card fit.0);
        }

-- a card without a remark
abbrev alone : CardEntry → RemarkedCommand
alone card = record { command = Card card; remark = None }

fit_alone : (card : CardEntry) → IsFit (Card card) → IsFitTold (alone card)
fit_alone card fit = (fit, tt, spelling_short (Card card) fit)

same_card : (c d : CardEntry) → IsFit (Card c) → IsFit (Card d)
    → spelling (Card c) ≡ spelling (Card d) → c ≡ d
same_card c d fit fit' same =
    ap (λ (told : RemarkedCommand). unwrap_or (card_of told.command) c)
    (spelled_once (alone c) (alone d) (fit_alone c fit) (fit_alone d fit') same)

pub same_where : SameWhereTheCardIs
same_where one other c d reads reads' =
    let first = text_of_card one c reads in
    let second = text_of_card other d reads' in
    let decides = bytes_eq-Decides (before_remark one) (before_remark other) in (
      λ same.
          same_card c d first.fit second.fit
          (sym first.front ∙ decides.0 same ∙ second.front),
      λ same.
          decides.1
          (first.front ∙ ap (λ (card : CardEntry). spelling (Card card)) same ∙ sym second.front),
    )
