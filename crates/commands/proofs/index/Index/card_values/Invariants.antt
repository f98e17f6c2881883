use Rattle.std.proofs.Common.{◌≡◌, suc, ◌++◌, length, drop}
use Rattle.commands.specs.{Accepted.counts_in, Accepted.values_now, model.Cards.scrambles_of}
use Rattle.commands.proofs.index.Index.card_values.Given as goal

abbrev pub invariant-loop-at : goal.invariant-loop-at
invariant-loop-at l = record {
  count : l.count ≡ length l.card.now;
  values : values_now (counts_in l.settings (scrambles_of l.accepted l.card.id)) 1 l.card.now
      l.card.was ≡ l.values.items
      ++ values_now (counts_in l.settings (scrambles_of l.accepted l.card.id)) (suc l.at)
      (drop l.at l.card.now) (drop l.at l.card.was);
}
