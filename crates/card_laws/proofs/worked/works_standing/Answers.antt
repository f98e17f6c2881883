use Rattle.std.proofs.Common.{◌≡◌, false, refl}
use Rattle.std.proofs.lemmas.List.Elements.{All-from_recursion}
use Rattle.formats.specs.declared.events.Event.TheVariants.{Cube3}
use Rattle.commands.specs.Accepted.{round_in}
use Rattle.card_laws.specs.{Holding.names, WorkedCards.to_ben, WorkedCards.to_ben_later}
use Rattle.card_laws.proofs.worked.works_standing.Goals as goal

pub returns : goal.returns
unfolding round_in
returns c =
    record {
      round = refl;
      accepted = refl;
      unnamed =
          All-from_recursion (λ d. names Cube3 1 1 d ≡ false) to_ben (refl, (refl, (refl, tt)));
      leaves = refl;
      stands = refl;
      not_cancelled = refl;
      fixed = refl;
      unnamed_later =
          All-from_recursion (λ d. names Cube3 1 1 d ≡ false) to_ben_later (refl, (refl, tt));
    }
