-- What a version tells of an answer, of a refusal and of how a desk is is what it has.
use Rattle.std.proofs.Common.{◌≡◌, ◌≤◌, Bool, true, false, cond, leb, refl, arith}
use Rattle.std.proofs.lemmas.Bool.{leb-true}
use Rattle.texts.specs.declared.answer.Answer.{Answer, TheVariants.Refused}
use Rattle.texts.specs.declared.answer.Code.TheVariants.{Unread}
use Rattle.wire.specs.declared.{values.CommandState.CommandState, standing.DeskStatus.DeskStatus}
use Rattle.wire.specs.declared.values.CommandState.TheVariants.{Unknown, Pending, Done}
use Rattle.wire.specs.declared.values.Version.{Version, TheVariants.One, TheVariants.Five}
use Rattle.wire.specs.declared.values.ClientRefusal.{ClientRefusal, TheVariants.Down}
use Rattle.wire.specs.Numbers.{answer_number, answer_in, last_code, state_in, last_refusal}
use Rattle.wire.specs.Numbers.{refusal_number, refusal_in, standing_in}
use Rattle.wire.specs.Ranges.{IsPosition, IsAnswerOf, IsCommandState, IsRefusalOf, IsStanding}

unread_told : (v : Version) → 1 ≤ last_code v
unread_told One = omega arith
unread_told _ = omega arith

pub answer_told : (v : Version) (a : Answer) → IsAnswerOf v (answer_in v a)
answer_told v a = step (leb (answer_number a) (last_code v)) refl
  where
    step : (b : Bool) → leb (answer_number a) (last_code v) ≡ b
        → IsAnswerOf v (cond b a (Refused Unread))
    step true is = leb-true _ _ is
    step false is = unread_told v

-- at any position of a log
abbrev pub HasPlace : CommandState → Type 0
HasPlace Unknown = Unit {0}
HasPlace Pending = Unit {0}
HasPlace (Done pos answer) = IsPosition pos

pub state_told : (v : Version) (s : CommandState) → HasPlace s → IsCommandState v (state_in v s)
state_told v Unknown h = tt
state_told v Pending h = tt
state_told v (Done pos a) h = (h, answer_told v a)

-- each version has the refusal for those that it has not
down_told : (v : Version) → 5 ≤ last_refusal v
down_told One = omega arith
down_told _ = omega arith

pub refusal_told : (v : Version) (r : ClientRefusal) → IsRefusalOf v (refusal_in v r)
refusal_told v r = step (leb (refusal_number r) (last_refusal v)) refl
  where
    step : (b : Bool) → leb (refusal_number r) (last_refusal v) ≡ b → IsRefusalOf v (cond b r Down)
    step true is = leb-true _ _ is
    step false is = down_told v

pub standing_told : (v : Version) (s : DeskStatus) → IsStanding Five s
    → IsStanding v (standing_in v s)
standing_told Five s fits = fits
standing_told _ s fits = record {
  log = fits.log;
  queue = fits.queue;
  promised = fits.promised;
  told = fits.told;
  differs = refl;
}
