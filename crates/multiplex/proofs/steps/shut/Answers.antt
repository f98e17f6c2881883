use Rattle.std.proofs.Common.{ap, sym, ◌∙◌, refl, take, drop, suc, [], ◌∷◌}
use Rattle.polled.specs.Requests.{Closing}
use Rattle.multiplex.specs.Passing.{over_by}
use Rattle.multiplex.proofs.Placed.{left_as, split_as, split_at}
use Rattle.multiplex.proofs.steps.shut.Goals as goal

pub returns-clause-shut : goal.returns-clause-shut
returns-clause-shut g c =
    let guests = c.args.table.now.guests.items in
    let place = c.args.place in
    let split = split_at guests place c.requires in
    let gone = c.remove-guest.result in
    let same = c.remove-guest.ensures.value ∙ split.1.at gone in (
      take place guests,
      drop (suc place) guests,
      gone,
      split.1.front,
      record {
        found = split_as guests place split.0 gone split.1.whole same;
        left = left_as guests place c.remove-guest.new.self.items c.remove-guest.ensures.by_index.2;
        next = refl;
        time = refl;
        own = refl;
        dear = refl;
        differs = refl;
        ends = c.over_by.ensures ∙ ap over_by c.end.ensures;
        told = c.close.ensures.told;
      },
    )

pub returns-clause-asks : goal.returns-clause-asks
returns-clause-asks g c =
    let guests = c.args.table.now.guests.items in
    let split = split_at guests c.args.place c.requires in
    let gone = c.remove-guest.result in (
      Closing gone.number ∷ [],
      c.close.ensures.requests,
      record {
        gone = gone;
        at = λ d. split.1.at d ∙ sym (c.remove-guest.ensures.value ∙ split.1.at gone);
        all = refl;
      },
    )
