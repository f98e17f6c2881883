use Rattle.std.proofs.Common.{Some, ap, refl, ◌∙◌}
use Rattle.sealed.specs.{declared.callers.Holder.Holder, Trials.TrialOf}
use Rattle.sealed.proofs.Trying.{tries_entry, tries_hall}
use Rattle.sealed.proofs.trial.Trial.feed.Goals as goal

pub returns-in_ok-handed-in-Some-Hall-clause-tries :
    goal.returns-in_ok-handed-in-Some-Hall-clause-tries
returns-in_ok-handed-in-Some-Hall-clause-tries c =
    let was = c.self.inside in
    let old : TrialOf = record { hall = was.hall; entry = was.entry; holder = was.holder } in
    let new : TrialOf =
    record { hall = c.feed.new.self; entry = was.entry; holder = was.holder } in
    let holds = rw c.in-Some-Hall.is at c.in-Some-Hall.field-0-is in
    let is = c.in-Some-Hall.is ∙ ap (λ (h : Holder). Some h) holds in
    rw (← c.self.view_is) (λ s x tries.
    tries_hall old new s x c.args.piece.now c.in_ok-handed-in-Some-Hall.handed.items is is
    c.in_ok-handed-in-Some-Hall.ensures.fed tries)

pub returns-in_ok-handed-in-Some-Entry-clause-tries :
    goal.returns-in_ok-handed-in-Some-Entry-clause-tries
returns-in_ok-handed-in-Some-Entry-clause-tries c =
    let was = c.self.inside in
    let key = c.feed-in-Some-Entry.new.self in
    let old : TrialOf = record { hall = was.hall; entry = was.entry; holder = was.holder } in
    let new : TrialOf = record { hall = was.hall; entry = Some key; holder = was.holder } in
    let holds = rw c.in-Some-Entry.is at c.in-Some-Entry.field-0-is in
    let is = c.in-Some-Entry.is ∙ ap (λ (h : Holder). Some h) holds in
    rw (← c.self.view_is) (λ s x tries.
    tries_entry old new c.in-Some.entry key s x c.args.piece.now
    c.in_ok-handed-in-Some-Entry.handed.items is is c.in-Some.is refl refl
    c.in_ok-handed-in-Some-Entry.ensures.fed tries)
