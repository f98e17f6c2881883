use Rattle.std.proofs.Common.{ap, ◌∙◌, ◌++◌, map}
use Rattle.std.specs.{Option.option_to_list, Option.option_map, String.string_bytes}
use Rattle.serde_json.specs.View.{view}
use Rattle.wcif.specs.Persons.{accepted_faults, events_faults}
use Rattle.wcif.proofs.Numbered.{name_said, faults_joined}
use Rattle.wcif.proofs.people.People.add.Goals as goal

pub returns-clause-faults : goal.returns-clause-faults
unfolding accepted_faults
returns-clause-faults c everyone earlier kept =
    faults_joined c.push_events_faults.new.faults.items _ _ _ _ _ _ c.new-faults.result.items
    c.new-faults.ensures.items (c.in_ok-add.ensures.fault earlier kept.numbers)
    (c.in_ok-add-2.ensures.fault
    ∙ name_said c.args.how everyone earlier (view c.args.person.now)
    (string_bytes c.in_ok-name.name) c.args.self.now.names kept.names
    (c.in_ok-name.ensures everyone kept.counts))
    (ap (events_faults (map view c.args.events.now)) c.event_ids.ensures)
    (c.in_ok-push_events_faults.ensures
    ∙ ap (λ front. front ++ events_faults (map view c.args.events.now)
    (option_map (λ vs. map view vs.now) c.event_ids.result)) (c.in_ok-push_some-2.ensures
    ∙ ap (λ front. front ++ option_to_list c.in_ok-add-2.field-0) c.in_ok-push_some.ensures))
