-- For how long the links to the other desks may be left (the project's own).
use Rattle.std.specs.Prelude.{ℕ, ◌-◌, min, ◌&&◌, ◌||◌, Bool, true, false, List, [], ◌∷◌, Option}
use Rattle.std.specs.{Prelude.None, Prelude.Some, Option.is_none}
use Rattle.links.specs.Links.{LinkState, wait_of, wish_of}
use Rattle.links.specs.declared.stages.{LinkStage.LinkStage, LinkAction.LinkAction}
use Rattle.links.specs.declared.stages.LinkStage.TheVariants.{Closed, Paused, Opening, Open}
use Rattle.mio_sockets.specs.Wiring.{NeighbourOf}
use Rattle.links.specs.declared.stages.LinkAction.TheVariants as wish

-- for how long an open connection took nothing
abbrev pub quiet_in : LinkStage → ℕ → ℕ
quiet_in Closed now = 0
quiet_in (Paused since millis) now = 0
quiet_in (Opening since) now = 0
quiet_in (Open frames quiet) now = now - quiet

-- how long a wish may wait that stays as it is: not at all, but for bytes that the connection does
-- not take, until it took none for three seconds
abbrev pub wait_for : LinkAction → ℕ → Option ℕ
wait_for wish.Rest quiet = None
wait_for wish.Write quiet = Some (3000 - quiet)
wait_for wish.Open quiet = Some 0
wait_for wish.Close quiet = Some 0
wait_for wish.GiveUp quiet = Some 0

-- the first of these that is one
abbrev pub first_some : Option ℕ → Option ℕ → Option ℕ
first_some None b = b
first_some (Some a) b = Some a

-- in how many milliseconds the link to a desk is to be kept again: once its wish may be another
-- one, or else once that is overdue
abbrev pub wait_in : LinkState → ℕ → Option ℕ
wait_in s now = first_some (wait_of s now) (wait_for (wish_of s now) (quiet_in s.stage now))

abbrev pub sooner : Option ℕ → Option ℕ → Option ℕ
sooner None b = b
sooner (Some a) None = Some a
sooner (Some a) (Some b) = Some (min a b)

-- the link that is to be kept soonest
abbrev pub soonest : {W : Type 0} → List (NeighbourOf W) → ℕ → Option ℕ
soonest [] now = None
soonest (n ∷ ns) now = sooner (wait_in n.line.link now) (soonest ns now)

-- something is still to be sent to a desk that is not known to be out of reach: a connection is
-- being opened, or bytes wait for an open one
abbrev pub is_opening : LinkStage → Bool
is_opening Closed = false
is_opening (Paused since millis) = false
is_opening (Opening since) = true
is_opening (Open frames quiet) = false

abbrev pub is_write : LinkAction → Bool
is_write wish.Rest = false
is_write wish.Write = true
is_write wish.Open = false
is_write wish.Close = false
is_write wish.GiveUp = false

abbrev pub is_busy : {W : Type 0} → ℕ → NeighbourOf W → Bool
is_busy now n =
    is_none n.line.link.down && (is_opening n.line.link.stage || is_write (wish_of n.line.link now))
