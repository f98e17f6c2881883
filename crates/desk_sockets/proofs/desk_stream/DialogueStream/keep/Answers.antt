use Rattle.std.proofs.Common.{[]}
use Rattle.desk_sockets.proofs.Driving.{after, asks, both, earlier, looks_in, plain}
use Rattle.desk_sockets.proofs.desk_stream.DialogueStream.keep.Goals as goal

pub returns-in-true-true-clause-told : goal.returns-in-true-true-clause-told
returns-in-true-true-clause-told g c =
    let over = c.args.self.now.addresses.items in
    let (looks, seen, went) = c.look-changed.ensures.went in (
      looks,
      looks_in g.D.Dialogue.leads _ _ _ _ looks seen,
      both (both (after c.end_closed.ensures.told (went over)) (c.write.ensures.went over))
          (rw c.deref.ensures.value at c.fulfil_all-whole.ensures.went),
    )

pub returns-in-true-true-clause-went : goal.returns-in-true-true-clause-went
returns-in-true-true-clause-went g c = plain (returns-in-true-true-clause-told g c).2

pub returns-in-true-true-clause-rests : goal.returns-in-true-true-clause-rests
returns-in-true-true-clause-rests g c =
    earlier (plain (both (c.look-changed.ensures.went.2 []) (c.write.ensures.went [])))
    c.fulfil_all-whole.ensures.asked

pub returns-in-true-true-clause-asked : goal.returns-in-true-true-clause-asked
returns-in-true-true-clause-asked g c = asks (returns-in-true-true-clause-rests g c)

pub returns-in-true-false-clause-told : goal.returns-in-true-false-clause-told
returns-in-true-false-clause-told g c =
    let over = c.args.self.now.addresses.items in
    let (looks, seen, went) = c.look-changed.ensures.went in (
      looks,
      looks_in g.D.Dialogue.leads _ _ _ _ looks seen,
      both (both (after c.end_closed.ensures.told (went over)) (c.write.ensures.went over))
          (rw c.deref.ensures.value at c.fulfil_all-whole.ensures.went),
    )

pub returns-in-true-false-clause-went : goal.returns-in-true-false-clause-went
returns-in-true-false-clause-went g c = plain (returns-in-true-false-clause-told g c).2

pub returns-in-true-false-clause-rests : goal.returns-in-true-false-clause-rests
returns-in-true-false-clause-rests g c =
    earlier (plain (both (c.look-changed.ensures.went.2 []) (c.write.ensures.went [])))
    c.fulfil_all-whole.ensures.asked

pub returns-in-true-false-clause-asked : goal.returns-in-true-false-clause-asked
returns-in-true-false-clause-asked g c = asks (returns-in-true-false-clause-rests g c)

pub returns-in-false-default-clause-told : goal.returns-in-false-default-clause-told
returns-in-false-default-clause-told g c =
    let over = c.args.self.now.addresses.items in
    let (looks, seen, went) = c.look-changed.ensures.went in (
      looks,
      looks_in g.D.Dialogue.leads _ _ _ _ looks seen,
      both (both (after c.end_closed.ensures.told (went over)) (c.write.ensures.went over))
          (rw c.deref.ensures.value at c.fulfil_all-whole.ensures.went),
    )

pub returns-in-false-default-clause-went : goal.returns-in-false-default-clause-went
returns-in-false-default-clause-went g c = plain (returns-in-false-default-clause-told g c).2

pub returns-in-false-default-clause-rests : goal.returns-in-false-default-clause-rests
returns-in-false-default-clause-rests g c =
    earlier (plain (both (c.look-changed.ensures.went.2 []) (c.write.ensures.went [])))
    c.fulfil_all-whole.ensures.asked

pub returns-in-false-default-clause-asked : goal.returns-in-false-default-clause-asked
returns-in-false-default-clause-asked g c = asks (returns-in-false-default-clause-rests g c)
