-- A card that is read is in its ranges.
use Rattle.std.proofs.Common.{◌≡◌, List, ℕ, Result, Ok, Err, Some, arith, refl, subst}
use Rattle.texts.specs.declared.command.{CardEntry.CardEntry, RemarkedCommand.RemarkedCommand}
use Rattle.texts.specs.{declared.reading.CommandFault.CommandFault, Reading.command_of}
use Rattle.texts.{specs.Spelling.IsFit, specs.Table.rows, proofs.Words.spelled_only}
use Rattle.card_forms.{specs.Entries.card_in, specs.Entries.card_told, proofs.SameCards.card_is_of}
use Rattle.table_service.specs.Taking.{IsFitCard}
use Rattle.texts.specs.declared.command.Command.TheVariants as command

few_enter : (card : CardEntry) → IsFit (command.Card card) → IsFitCard card
unfolding rows
few_enter card fit =
    let stands = fit.0.1.1.1.1.0 in
    let most = stands.0.1 in
    record { few = omega (arith, most); entered = stands.1 }

pub card_fits : (text : List ℕ) (card : CardEntry) → card_in text ≡ Some card → IsFitCard card
card_fits text card is = step (command_of text) refl is
  where
    step : (r : Result RemarkedCommand CommandFault) → command_of text ≡ r → card_told r ≡ Some card
        → IsFitCard card
    step (Err why) reads is = absurd (cc)
    step (Ok told) reads is =
        few_enter card
        (subst IsFit (card_is_of told.command card is) (spelled_only text told reads).0.0)
