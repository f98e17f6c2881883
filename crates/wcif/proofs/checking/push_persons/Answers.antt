use Rattle.std.proofs.Common.{◌∙◌, ◌<◌, ◌++◌, ◌∷◌, [], sym, ap, arith, map, take, subst, length}
use Rattle.std.proofs.Common.{◌+◌}
use Rattle.serde_json.specs.View.{view}
use Rattle.wcif.{specs.Faults.person_faults, specs.model.Kept.AreKept, proofs.Numbered.viewed_more}
use Rattle.wcif.proofs.Listed.{adds_next, adds_none, in_front}
use Rattle.wcif.proofs.checking.push_persons.Goals as goal

pub loop-index-init : goal.loop-index-init
loop-index-init c = record {
  faults =
      adds_none (person_faults c.args.how (map view c.args.events.now) (map view
      c.args.persons.now)) c.args.faults.now.items;
  kept = c.in_ok-people.ensures c.args.how;
}

pub loop-index-preserved : goal.loop-index-preserved
loop-index-preserved c =
    let within : c.loop-index.index < length c.args.persons.now = omega arith in
    let everyone = map view c.args.persons.now in
    let earlier = map view (take c.loop-index.index c.args.persons.now) in
    let kept = c.loop-index.invariant.kept in
    let person = c.index-persons-index.result in
    record {
      faults =
          adds_next
          (person_faults c.args.how (map view c.args.events.now) (map view c.args.persons.now))
          c.args.persons.now c.loop-index.index person c.args.faults.now.items
          c.loop-index.faults.items c.push_person.new.faults.items within c.index-persons-index.is
          c.loop-index.invariant.faults (c.in_ok-push_person.ensures.faults everyone earlier kept
          (ap (λ n. n + 1) (sym (in_front c.args.persons.now c.loop-index.index within))));
      kept =
          subst (λ front. AreKept c.args.how everyone front c.push_person.new.people)
          (ap (λ v. earlier ++ view v ∷ []) c.index-persons-index.is
          ∙ sym (viewed_more c.args.persons.now c.loop-index.index person within))
          (c.in_ok-push_person.ensures.kept everyone earlier kept);
    }
