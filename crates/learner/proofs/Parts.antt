-- Each part of the invariant is read off from the whole.
use Rattle.std.proofs.Common.{◌≡◌, ℕ, Option, Some, refl, subst}
use Rattle.acceptor.specs.declared.message.Body.TheVariants.{Promise, Accept, Accepted, Decided}
use Rattle.acceptor.specs.declared.stored.Vote.{Vote}
use Rattle.learner.specs.{Order.IsAtMost, Worlds.World, Parts.DecisionsAreChosen, Parts.RolesStand}
use Rattle.learner.specs.Invariant.{Asked, IsSound, VoteStands}
use Rattle.learner.specs.Parts.{HasOneEntry, VotesStand, PromisesStand, AcceptsAreBacked}

pub has_one_entry : (n : ℕ) (w : World) → IsSound n w → HasOneEntry w
has_one_entry n w sound = sound.one

vote_stands : (n : ℕ) (w : World) → IsSound n w → (d : ℕ) (v : Vote)
    → (w.desks d).stored.vote ≡ Some v
    → IsAtMost v.ballot (w.desks d).stored.promised × Asked w.sent v.ballot v.pos v.entry
vote_stands n w sound d v e =
    subst (λ (o : Option Vote). VoteStands w.sent (w.desks d).stored.promised o) e
    (sound.desks d).vote

pub votes_stand : (n : ℕ) (w : World) → IsSound n w → VotesStand w
votes_stand n w sound =
    record {
      stored = λ d v e. (vote_stands n w sound d v e).1;
      promised = λ d v e. (vote_stands n w sound d v e).0;
      reported = λ d b pos r h. (sound.messages d (Promise b pos (Some r)) h).vote.1;
      accepted = λ d b pos h. sound.messages d (Accepted b pos) h;
    }

pub promises_stand : (n : ℕ) (w : World) → IsSound n w → PromisesStand w
promises_stand n w sound =
    record {
      promised = λ d b pos v h. (sound.messages d (Promise b pos v) h).promised;
      below = λ d b pos r h. (sound.messages d (Promise b pos (Some r)) h).vote.0;
      kept = λ d b c pos v h k. (sound.kept d b pos v c pos h k).same refl;
      later = λ d b c pos above v h k. (sound.kept d b pos v c above h k).later;
    }

pub accepts_are_backed : (n : ℕ) (w : World) → IsSound n w → AcceptsAreBacked n w
accepts_are_backed n w sound d b pos e h = (sound.messages d (Accept b pos e) h).backed

pub decisions_are_chosen : (n : ℕ) (w : World) → IsSound n w → DecisionsAreChosen n w
decisions_are_chosen n w sound =
    record {
      log = λ d pos e h. (sound.desks d).log pos e h;
      told = λ d pos e h. sound.messages d (Decided pos e) h;
    }

pub roles_stand : (n : ℕ) (w : World) → IsSound n w → RolesStand n w
roles_stand n w sound =
    record {
      role = λ d. (sound.desks d).role;
      own = λ d b pos e h. (sound.messages d (Accept b pos e) h).own;
      tried = λ d b pos e h. (sound.messages d (Accept b pos e) h).tried;
      accept = λ d b pos e h. (sound.messages d (Accept b pos e) h).role;
    }
