-- What is entered in a round is of the unit of its event.
use Rattle.std.proofs.Common.{◌≡◌, ℕ, zero, suc, true, false, not, List, [], Option, Some, None}
use Rattle.std.proofs.Common.{option_map, refl, sym, subst}
use Rattle.std.proofs.lemmas.Bool.{false≢true}
use Rattle.attempts.specs.declared.Unit.{Unit as Measure}
use Rattle.formats.specs.declared.events.Event.{Event}
use Rattle.texts.specs.declared.command.Command.{Command}
use Rattle.commands.specs.Accepted.{Opened, opened, round_at, round_in, round_of, is_multi}
use Rattle.commands.specs.declared.index.Index.{Index}
use Rattle.commands.specs.model.Kept.{kept_round, IsIndexOf, HasUnit}
use Rattle.attempts.specs.declared.Unit.TheVariants as measure

pub multi_unit : (unit : Measure) → not (is_multi unit) ≡ false → unit ≡ measure.Multi
multi_unit measure.Multi h = refl
multi_unit measure.Time h = absurd (false≢true (sym h))
multi_unit measure.Moves h = absurd (false≢true (sym h))

-- a round has the unit of its event
round_unit : (cs : List Command) (e : Event) (r : ℕ) → HasUnit e (round_of cs e r)
unfolding round_in
round_unit cs e zero = tt
round_unit cs e (suc r) = step (opened e (suc r) [] cs)
  where
    step : (o : Option Opened) → HasUnit e
        (option_map (λ x. round_at e (suc r) (round_in e r x.before) x) o)
    step None = tt
    step (Some o) = refl

-- so has a round that is kept
pub kept_unit : (cs : List Command) (index : Index) (e : Event) (r : ℕ) → IsIndexOf cs index
    → HasUnit e (kept_round e r index.rounds.opened.items)
kept_unit cs index e r is = subst (HasUnit e) (sym (is.rounds.rounds e r)) (round_unit cs e r)

pub ruleset units = (multi_unit, kept_unit)
