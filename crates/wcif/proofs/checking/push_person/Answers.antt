use Rattle.std.proofs.Common.{◌∙◌, sym}
use Rattle.serde_json.specs.View.{view}
use Rattle.wcif.proofs.Numbered.{AreNames-other, AreNumbers-other}
use Rattle.wcif.proofs.checking.push_person.Goals as goal

pub returns-then-not-is_accepted-clause-kept : goal.returns-then-not-is_accepted-clause-kept
returns-then-not-is_accepted-clause-kept c everyone earlier kept =
    let other = sym c.is_accepted.ensures ∙ c.if-not-is_accepted.true in
    record {
      counts = kept.counts;
      numbers =
          AreNumbers-other earlier (view c.args.person.now) c.args.people.now.numbers other
          kept.numbers;
      names =
          AreNames-other c.args.how everyone earlier (view c.args.person.now)
          c.args.people.now.names other kept.names;
    }
