-- A Start and a Tick keep the invariant.
use Rattle.std.proofs.Common.{List, ◌∷◌, zero, suc, ◌≡◌, ℕ, ◌+◌, false, [], inl, inr, Result, Ok}
use Rattle.std.proofs.Common.{Err, length, subst, arith, ◌≤◌}
use Rattle.learner.specs.Invariant.{RoleStands, ProposingStands, IsSound}
use Rattle.learner.proofs.Quiet.{plain_each, gather_goes}
use Rattle.learner.proofs.{Votes.lead_goes, Prepared.PlanGoes}
use Rattle.acceptor.specs.declared.{ballot.Ballot.Ballot, entry.Entry.Entry}
use Rattle.acceptor.specs.Messages.{desks_from, without, to_each, to_others}
use Rattle.acceptor.specs.declared.message.Body.TheVariants.{Accept, Behind}
use Rattle.proposer.specs.declared.{role.Role.Role, plan.Plan.Plan, fault.Refusal.Refusal}
use Rattle.proposer.specs.{Plans.queue_after, declared.role.Role.TheVariants.Leading}
use Rattle.proposer.specs.Proposing.{last_number, new_ballot, ask_next, start, tick}
use Rattle.learner.specs.{Worlds.World, Desks.passing}
use Rattle.learner.proofs.Cases.{ballot_cases, start_cases, tick_cases}
use Rattle.learner.proofs.Prepared.{nothing_goes, say_goes}

-- a plan that is refused changes nothing
abbrev pub ResultGoes : ℕ → World → ℕ → Result Plan Refusal → Type 0
ResultGoes n w d (Ok p) = PlanGoes n w d p
ResultGoes n w d (Err why) = Unit {0}

ballot_goes : (n : ℕ) (w : World) (d : ℕ) → IsSound n w → ResultGoes n w d
    (new_ballot n d (w.desks d).stored (length (w.desks d).log) (passing (w.desks d)))
ballot_goes n w d sound =
    ballot_cases (ResultGoes n w d) n d (w.desks d).stored (length (w.desks d).log)
    (passing (w.desks d)) tt
    (gather_goes n w d sound (last_number (w.desks d).stored (passing (w.desks d)) + 1)
    (omega arith))

-- a desk that leads asks for votes for the first of its queue
ask_next_goes : (n : ℕ) (w : World) (d : ℕ) → IsSound n w → (1 ≤ d) × (d ≤ n) → (own : Ballot)
    → (w.desks d).role ≡ Leading own → (queue : List Entry)
    → PlanGoes n w d (ask_next n d (length (w.desks d).log) (passing (w.desks d)) own queue)
ask_next_goes n w d sound ours own role [] = nothing_goes n w d sound
ask_next_goes zero w d sound ours own role (e ∷ es) = absurd (omega arith)
ask_next_goes (suc m) w d sound ours own role (e ∷ es) =
    let queue = queue_after (w.desks d).queue false in
    lead_goes (suc m) w d sound own role e 1 (desks_from 2 m) queue (w.desks d).seen

pub start_goes : (n : ℕ) (w : World) (d : ℕ) → IsSound n w → (1 ≤ d) × (d ≤ n)
    → ResultGoes n w d (start n d (w.desks d).stored (length (w.desks d).log) (passing (w.desks d)))
start_goes n w d sound ours =
    start_cases (ResultGoes n w d) n d (w.desks d).stored (length (w.desks d).log)
    (passing (w.desks d)) tt (nothing_goes n w d sound) (λ t. ballot_goes n w d sound)
    (λ b e t. ask_next_goes n w d sound ours b e (w.desks d).queue)

pub tick_goes : (n : ℕ) (w : World) (d : ℕ) → IsSound n w → (1 ≤ d) × (d ≤ n)
    → ResultGoes n w d (tick n d (w.desks d).stored (length (w.desks d).log) (passing (w.desks d)))
tick_goes n w d sound ours =
    tick_cases (ResultGoes n w d) n d (w.desks d).stored (length (w.desks d).log)
    (passing (w.desks d)) (say_goes n w d sound (to_others n d (Behind (length (w.desks d).log)))
    (plain_each n w.sent d (without (desks_from 1 n) (d ∷ [])) (Behind (length (w.desks d).log))
    (inr tt))) (λ t. ballot_goes n w d sound) (λ b pos heard e. ballot_goes n w d sound)
    (λ b pos f heard e.
    let was :
    ProposingStands n w.sent d (w.desks d).stored.tried (length (w.desks d).log) b pos f heard =
    subst (λ (r : Role). RoleStands n w.sent d (w.desks d).stored.tried (length (w.desks d).log) r)
    e (sound.desks d).role in
    say_goes n w d sound (to_each d (without (desks_from 1 n) heard) (Accept b pos f))
    (plain_each n w.sent d (without (desks_from 1 n) heard) (Accept b pos f) (inl was.asked)))
    (λ b e t. ask_next_goes n w d sound ours b e (w.desks d).queue)
