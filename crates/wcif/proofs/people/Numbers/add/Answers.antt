use Rattle.std.proofs.Common.{◌==◌, ◌∙◌, sym, ap, true, false, Some, nat_eq, None, refl}
use Rattle.std.specs.HashMap.{get}
use Rattle.serde_json.specs.View.{view}
use Rattle.wcif.specs.Persons.{last_number}
use Rattle.wcif.proofs.Numbered.{AreNumbers-outside, AreNumbers-taken, AreNumbers-more, taken_said}
use Rattle.wcif.proofs.Numbered.{is_kept, ranged, mapped_put}
use Rattle.wcif.proofs.people.Numbers.add.Goals as goal

pub returns-in_default-clause-kept : goal.returns-in_default-clause-kept
returns-in_default-clause-kept c persons are accepted =
    AreNumbers-outside persons (view c.args.person.now) None c.args.self.now
    (sym c.in_default.ensures) refl are

pub returns-in_default-desk_number-clause-kept : goal.returns-in_default-desk_number-clause-kept
returns-in_default-desk_number-clause-kept c persons are accepted =
    AreNumbers-outside persons (view c.args.person.now) (Some c.in-Some.number) c.args.self.now
    (sym c.in-Some.ensures) (sym c.in_default-desk_number.ensures) are

pub returns-then-contains_key-clause-fault : goal.returns-then-contains_key-clause-fault
returns-then-contains_key-clause-fault c persons are =
    rw (← c.in-Some.ensures) (sym (taken_said persons c.in-Some.number c.in-Some-desk_number.number
    c.args.self.now true (sym c.in-Some-desk_number.ensures)
    (sym c.contains_key.ensures ∙ c.if-contains_key.true) are))

pub returns-then-contains_key-clause-kept : goal.returns-then-contains_key-clause-kept
returns-then-contains_key-clause-kept c persons are accepted =
    AreNumbers-taken persons (view c.args.person.now) c.in-Some.number c.in-Some-desk_number.number
    c.args.self.now (sym c.in-Some.ensures) (sym c.in-Some-desk_number.ensures)
    (sym c.contains_key.ensures ∙ c.if-contains_key.true) are

pub returns-clause-fault : goal.returns-clause-fault
returns-clause-fault c persons are =
    rw (← c.in-Some.ensures) (sym (taken_said persons c.in-Some.number c.in-Some-desk_number.number
    c.args.self.now false (sym c.in-Some-desk_number.ensures)
    (sym c.contains_key.ensures ∙ c.if-contains_key.false) are))

pub returns-clause-kept : goal.returns-clause-kept
returns-clause-kept c persons are accepted =
    let range = ranged 1 last_number c.in-Some.number c.in-Some-desk_number.number
    (sym c.in-Some-desk_number.ensures) in
    AreNumbers-more persons (view c.args.person.now) c.in-Some-desk_number.number c.args.self.now
    (record { persons = c.insert.new.self }) accepted (sym c.in-Some.ensures ∙ ap Some range.0)
    (sym (is_kept persons c.in-Some-desk_number.number c.args.self.now range.1 range.2 are)
    ∙ sym c.contains_key.ensures ∙ c.if-contains_key.false) (λ n. mapped_put (λ v. view v.now)
    (get nat_eq c.insert.new.self n) (get nat_eq c.args.self.now.persons n)
    (c.in-Some-desk_number.number == n) c.args.person (c.in_ok-insert.ensures.updates.0 n)) are
