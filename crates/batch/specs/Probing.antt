-- Whether a desk is asked by an Await (the project's own).
use Rattle.std.specs.Prelude.{◌≡◌, ◌⊎◌, ◌≤◌, ◌∷◌, [], ℕ, Bool, true, false, Result, Ok, Err}
use Rattle.client.specs.{Standings.await_request, declared.fault.ClientFault.TheVariants.Refused}
use Rattle.wire.specs.{Ranges.IsDesk, declared.frame.FrameBody.FrameBody}
use Rattle.batch.specs.Dialing.{Adds, Told, asked_so}
use Rattle.batch.specs.declared.fault.BatchFault.{BatchFault, TheVariants.Asking}

-- a desk knows a request that it answers or refuses
abbrev pub is_known : Result FrameBody BatchFault → Bool
is_known (Ok answer) = true
is_known (Err (Asking (Refused why))) = true
is_known (Err _) = false

-- it is waited for so long that its answer to an Await comes in time
abbrev pub MayAwait : (desk patience : ℕ) → Type 0
MayAwait desk patience = IsDesk desk × (4 ≤ patience)

-- A desk that is waited for long enough was asked once, over a connection of its own, what becomes
-- of the id 1, and for no second: whether it knew that. Else it was not asked.
abbrev pub KnowsAwait : Told → (hall desk : ℕ) → Bool → Type 0
KnowsAwait t hall desk knows =
    (MayAwait desk t.place.patience × (came : Result FrameBody BatchFault)
    × Adds t.place t.old t.new (asked_so (await_request hall desk 1 0) came ∷ [])
    × (knows ≡ is_known came))
    ⊎ ((¬ MayAwait desk t.place.patience) × (t.old ≡ t.new) × (knows ≡ false))
