use Rattle.std.proofs.Common.{refl, sym, subst, [], Some}
use Rattle.sealed.specs.{declared.callers.Access.Access, Trials.TrialOf, Trials.Tries, Sent.IsNew}
use Rattle.sealed.specs.{ServerSeals.ServerSealOf, ServerSeals.IsOfLocks, model.Steps.OpensAs}
use Rattle.sealed.proofs.Fresh.{fresh_is_new, fresh_of_locks, tries_fresh}
use Rattle.sealed.proofs.{Sending.is_new_still, Sending.keeps_opened, Standing.of_locks}
use Rattle.sealed.proofs.Standing.{side_of}
use Rattle.sealed.proofs.server_seal.ServerSeal.open.Goals as goal

pub returns-clause-opens : goal.returns-clause-opens
returns-clause-opens c =
    let was = c.self.inside in
    let locks = c.in-Locked.locks in
    let client = c.args.client.now in
    let rest = c.args.rest.now in
    let more = c.in_ok-handed.handed.items in
    let old = side_of was.doors was.random was.front.items was.passing was.trial was.refusal in
    let now : ServerSealOf = record old { trial = Some c.feed.new.self } in
    let began = subst (λ (t : TrialOf). IsOfLocks locks client was.random t)
    (sym c.in_ok-trial.ensures) (fresh_of_locks locks client was.random) in
    let keys = of_locks locks client was.random c.in_ok-trial.trial c.feed.new.self began
    c.in_ok-handed.ensures.same in
    let none = subst (λ (t : TrialOf). Tries [] [] t) (sym c.in_ok-trial.ensures)
    (tries_fresh locks client was.random) in
    let tries = c.in_ok-handed.ensures.tries [] [] none in
    rw (← c.self.view_is)
    (subst (λ (d : Access). OpensAs d client rest old now more) (sym c.in-Locked.is)
    (c.feed.new.self, refl, keys, tries))

pub returns-clause-sends : goal.returns-clause-sends
returns-clause-sends c =
    let was = c.self.inside in
    let locks = c.in-Locked.locks in
    let client = c.args.client.now in
    let old = side_of was.doors was.random was.front.items was.passing was.trial was.refusal in
    let now : ServerSealOf = record old { trial = Some c.feed.new.self } in
    let untried = rw (← c.self.view_is) at c.requires.untried in
    let unknown = rw (← c.self.view_is) at c.requires.unknown in
    let first = subst (λ (t : TrialOf). IsNew t) (sym c.in_ok-trial.ensures)
    (fresh_is_new locks client was.random) in
    let new = is_new_still c.in_ok-trial.trial c.feed.new.self c.in_ok-handed.ensures.same first in
    rw (← c.self.view_is) (keeps_opened old now c.feed.new.self untried unknown refl new)
