use Rattle.std.proofs.Common.{◌≡◌, true, [], refl, arith}
use Rattle.std.proofs.lemmas.List.Elements.{All-from_recursion}
use Rattle.rounds.specs.Tables.{has_number}
use Rattle.commands.specs.Accepted.{round_in}
use Rattle.card_laws.specs.WorkedCards.{begun_round}
use Rattle.card_laws.proofs.worked.works_over_nothing.Goals as goal

pub returns : goal.returns
unfolding round_in
returns c =
    record {
      done = refl;
      rules = (omega arith, omega arith);
      bare =
          All-from_recursion (λ e. has_number 1 e ≡ true → e.values ≡ []) begun_round.1.entrants
          (λ h. refl, (λ h. refl, tt));
      card = refl;
      attempts = refl;
      refused_card = refl;
      refused_attempts = refl;
      other_card = refl;
      other_attempts = refl;
    }
