-- The parts of the invariant, each in words of its own. It is proved as one (IsSound), since its
-- parts rest on one another; what it says of submissions and of numbers that were tried is in
-- Contents.
use Rattle.std.specs.Prelude.{ℕ, ◌≡◌, ◌≤◌, ◌<◌, Option, Some, slice_get, length}
use Rattle.acceptor.specs.declared.{ballot.Ballot.Ballot, entry.Entry.Entry, message.Report.Report}
use Rattle.acceptor.specs.declared.message.Body.TheVariants.{Promise, Accept, Accepted, Decided}
use Rattle.acceptor.specs.{declared.stored.Vote.Vote, Messages.Sent}
use Rattle.learner.specs.{Order.IsAtMost, Order.IsBelow, Worlds.World, Chosen.IsChosen}
use Rattle.learner.specs.Invariant.{Asked, IsBacked, CoversReport, AcceptedStands, RoleAllows}
use Rattle.learner.specs.Invariant.{RoleStands, OneEntry}

-- for one ballot and position votes were asked for one entry at most
abbrev pub HasOneEntry : World → Type 0
HasOneEntry w = OneEntry w.sent

-- votes were asked for what was voted for. A stored vote is no higher than the promise. Who has
-- sent Accepted has promised that ballot or a higher one, its log is at least as long as the
-- position, and at equality the stored vote is there and is of that ballot or a higher one
pub record VotesStand (w : World) : Type 0 where
  pub stored : (d : ℕ) (v : Vote)
      → (w.desks d).stored.vote ≡ Some v → Asked w.sent v.ballot v.pos v.entry
  pub promised : (d : ℕ) (v : Vote)
      → (w.desks d).stored.vote ≡ Some v → IsAtMost v.ballot (w.desks d).stored.promised
  pub reported : (d : ℕ) (b : Ballot) (pos : ℕ) (r : Report)
      → Sent w.sent d (Promise b pos (Some r)) → Asked w.sent r.ballot pos r.entry
  pub accepted : (d : ℕ) (b : Ballot) (pos : ℕ)
      → Sent w.sent d (Accepted b pos) → AcceptedStands w.sent (w.desks d) b pos

-- who has sent a Promise has promised that ballot or a higher one; what it reports is below the
-- ballot, and is no lower than any vote of the desk at that position below the ballot; and at a
-- later position the desk has given no vote below the ballot
pub record PromisesStand (w : World) : Type 0 where
  pub promised : (d : ℕ) (b : Ballot) (pos : ℕ) (v : Option Report)
      → Sent w.sent d (Promise b pos v) → IsAtMost b (w.desks d).stored.promised
  pub below : (d : ℕ) (b : Ballot) (pos : ℕ) (r : Report)
      → Sent w.sent d (Promise b pos (Some r)) → IsBelow r.ballot b
  pub kept : (d : ℕ) (b c : Ballot) (pos : ℕ) (v : Option Report)
      → Sent w.sent d (Promise b pos v) → Sent w.sent d (Accepted c pos)
      → IsBelow c b → CoversReport v c
  pub later : (d : ℕ) (b c : Ballot) (pos above : ℕ) (v : Option Report)
      → Sent w.sent d (Promise b pos v) → Sent w.sent d (Accepted c above)
      → pos < above → IsAtMost b c

-- each Accept is backed by a majority's promises of its ballot, at its position or an earlier one;
-- its entry is that of the highest vote which they report at its own position, where there is one
abbrev pub AcceptsAreBacked : ℕ → World → Type 0
AcceptsAreBacked n w =
    (d : ℕ) (b : Ballot) (pos : ℕ) (e : Entry)
    → Sent w.sent d (Accept b pos e) → IsBacked n w.sent b pos e

-- each log entry and each Decided is chosen
pub record DecisionsAreChosen (n : ℕ) (w : World) : Type 0 where
  pub log : (d pos : ℕ) (e : Entry)
      → slice_get (w.desks d).log pos ≡ Some e → IsChosen n w.sent pos e
  pub told : (d pos : ℕ) (e : Entry) → Sent w.sent d (Decided pos e) → IsChosen n w.sent pos e

-- what a role has heard was sent, its ballot names the desk and is of a number that it has tried,
-- and its position, where it has one, is the log's length; the ballot of a desk that leads was
-- promised by a majority, at a position below the log's length. An Accept names its sender and is
-- of a number that it has tried; none is of the ballot of a desk that gathers promises. None of the
-- ballot of a desk that proposes is past its log's length, and none of the ballot of one that leads
-- is there or past it
pub record RolesStand (n : ℕ) (w : World) : Type 0 where
  pub role : (d : ℕ)
      → RoleStands n w.sent d (w.desks d).stored.tried (length (w.desks d).log) (w.desks d).role
  pub own : (d : ℕ) (b : Ballot) (pos : ℕ) (e : Entry) → Sent w.sent d (Accept b pos e) → b.desk ≡ d
  pub tried : (d : ℕ) (b : Ballot) (pos : ℕ) (e : Entry)
      → Sent w.sent d (Accept b pos e) → b.number ≤ (w.desks d).stored.tried
  pub accept : (d : ℕ) (b : Ballot) (pos : ℕ) (e : Entry) → Sent w.sent d (Accept b pos e)
      → RoleAllows (w.desks d).role (length (w.desks d).log) b pos
