-- A Prepare and an Accept keep the invariant.
use Rattle.std.proofs.Common.{◌≡◌, ℕ, false, inr, Option, Some, List, [], ◌∷◌, None, length}
use Rattle.std.proofs.Common.{slice_get, refl, sym, subst}
use Rattle.learner.specs.{Invariant.Asked, Desks.adopt, Worlds.World, Steps.answered}
use Rattle.learner.{specs.Invariant.IsSound, proofs.Votes.promise_goes, proofs.Votes.vote_goes}
use Rattle.learner.{proofs.Cases.prepare_cases, proofs.Cases.accept_cases, specs.Desks.passing}
use Rattle.learner.proofs.{Goes.Goes, Quiet.plain_one, Quiet.says_goes, Quiet.plain_none}
use Rattle.learner.proofs.{Goes.IsPlain, Goes.IsQuiet}
use Rattle.acceptor.specs.declared.{ballot.Ballot.Ballot, entry.Entry.Entry}
use Rattle.acceptor.specs.declared.message.Body.TheVariants.{Behind, Promise, Accepted, Nack}
use Rattle.acceptor.specs.{declared.message.Body.TheVariants.Decided, Messages.message}
use Rattle.proposer.specs.{Plans.queue_after, declared.plan.Plan.Plan}
use Rattle.acceptor.specs.Answers.{prepare_reply, accept_reply, elsewhere, reported}
use Rattle.acceptor.specs.declared.stored.Change.TheVariants.{Promised, Voted}
use Rattle.acceptor.specs.declared.message.{Body.Body, Message.Message}
use Rattle.proposer.specs.Plans.{only_say}

-- the plan, done at desk d of the world, keeps what one step has to keep
abbrev pub PlanGoes : ℕ → World → ℕ → Plan → Type 0
PlanGoes n w d p = Goes n w.sent d (w.desks d) (adopt (w.desks d) p) p.messages

-- nothing changes, and this is said
pub say_goes : (n : ℕ) (w : World) (d : ℕ) → IsSound n w → (out : List Message)
    → IsPlain n w.sent d out → PlanGoes n w d (only_say (passing (w.desks d)) out)
say_goes n w d sound out plain =
    says_goes n w d sound (queue_after (w.desks d).queue false) (w.desks d).seen out plain

pub nothing_goes : (n : ℕ) (w : World) (d : ℕ) → IsSound n w
    → PlanGoes n w d (only_say (passing (w.desks d)) [])
nothing_goes n w d sound = say_goes n w d sound [] (plain_none n w.sent d)

-- one desk is answered
pub answer_goes : (n : ℕ) (w : World) (d from : ℕ) → IsSound n w → (c : Body) → IsQuiet n w.sent c
    → PlanGoes n w d (only_say (passing (w.desks d)) (message d from c ∷ []))
answer_goes n w d from sound c quiet =
    say_goes n w d sound (message d from c ∷ []) (plain_one n w.sent d from c (inr quiet))

-- what a desk answers about a position that is not its next one
pub elsewhere_goes : (n : ℕ) (w : World) (d from pos : ℕ) → IsSound n w → PlanGoes n w d
    (answered d (w.desks d) from
    (elsewhere (slice_get (w.desks d).log pos) (length (w.desks d).log) pos))
elsewhere_goes n w d from pos sound = go (slice_get (w.desks d).log pos) refl
  where
    go : (o : Option Entry) → slice_get (w.desks d).log pos ≡ o
        → PlanGoes n w d (answered d (w.desks d) from (elsewhere o (length (w.desks d).log) pos))
    go None e = answer_goes n w d from sound (Behind (length (w.desks d).log)) tt
    go (Some f) e = answer_goes n w d from sound (Decided pos f) ((sound.desks d).log pos f e)

pub prepare_goes : (n : ℕ) (w : World) (d from : ℕ) → IsSound n w → (b : Ballot) (pos : ℕ)
    → PlanGoes n w d (answered d (w.desks d) from
    (prepare_reply (w.desks d).stored (length (w.desks d).log) (slice_get (w.desks d).log pos) b
    pos))
prepare_goes n w d from sound b pos =
    prepare_cases (λ r. PlanGoes n w d (answered d (w.desks d) from r)) (w.desks d).stored
    (length (w.desks d).log) (slice_get (w.desks d).log pos) b pos
    (elsewhere_goes n w d from pos sound) (λ same e.
    subst (λ (p : ℕ).
    PlanGoes n w d (answered d (w.desks d) from (record {
      change = Some (Promised b);
      body = Promise b p (reported (w.desks d).stored.vote p);
    }))) (sym same)
    (promise_goes n w d sound b from e (queue_after (w.desks d).queue false) (w.desks d).seen))
    (λ e. answer_goes n w d from sound (Nack b pos (w.desks d).stored.promised) tt)

pub accept_goes : (n : ℕ) (w : World) (d from : ℕ) → IsSound n w
    → (b : Ballot) (pos : ℕ) (e : Entry) → Asked w.sent b pos e → PlanGoes n w d
    (answered d (w.desks d) from
    (accept_reply (w.desks d).stored (length (w.desks d).log) (slice_get (w.desks d).log pos) b pos
    e))
accept_goes n w d from sound b pos e asked =
    accept_cases (λ r. PlanGoes n w d (answered d (w.desks d) from r)) (w.desks d).stored
    (length (w.desks d).log) (slice_get (w.desks d).log pos) b pos e
    (elsewhere_goes n w d from pos sound)
    (λ i. answer_goes n w d from sound (Nack b pos (w.desks d).stored.promised) tt) (λ same i.
    subst (λ (p : ℕ).
    PlanGoes n w d (answered d (w.desks d) from (record {
      change = Some (Voted (record { pos = p; ballot = b; entry = e }));
      body = Accepted b p;
    }))) (sym same)
    (vote_goes n w d sound b e from i (subst (λ (p : ℕ). Asked w.sent b p e) same asked)
    (queue_after (w.desks d).queue false) (w.desks d).seen))
