-- Laws of the two sides of a connection (the project's own).
use Rattle.std.specs.Prelude.{◌≡◌, ◌≢◌, ◌⊎◌, ℕ, List, [], ◌++◌, Some, length}
use Rattle.seal.specs.Records.{AreBodies, preface_of, records}
use Rattle.seal.specs.{Sealing.Sealing, Streams.joined}
use Rattle.sealed.specs.declared.callers.{Access.TheVariants.Locked, Holder.TheVariants.Hall}
use Rattle.sealed.specs.{declared.callers.DeskKeys.DeskKeys, Admitting.Admits, Tunnels.SealsAll}
use Rattle.sealed.specs.{Admitting.comes_under, ClientSeals.ClientSealOf, ClientSeals.IsOpened}
use Rattle.sealed.specs.ServerSeals.{ServerSealOf, Stands, caller_of}
use Rattle.sealed.specs.declared.callers.Caller.TheVariants as caller
use Rattle.sealed.specs.ClientSeals as Callings

-- a desk's side that has read these bytes, and handed on those, has admitted this caller
abbrev pub StandsAdmits : Type 0
StandsAdmits = (c : ServerSealOf) (came handed : List ℕ) → Stands c came handed
    → Admits c.doors c.random came handed (caller_of c)

-- the side of the caller has handed on nothing, or what fits under its key
abbrev pub StandsOpens : Type 0
StandsOpens = (c : ClientSealOf) (came handed : List ℕ) → Callings.Stands c came handed
    → (handed ≡ []) ⊎ IsOpened c.key c.random came handed

-- a holder of the hall's key, who seals with it, is let in with all that was sealed
abbrev pub HolderIsAdmitted : Type 0
HolderIsAdmitted =
    (locks : DeskKeys) (client server : List ℕ) (bodies : List (List ℕ)) → length client ≡ 16
    → AreBodies 0 bodies → joined bodies ≢ [] → Admits (Locked locks) server
    (preface_of client ++ records (comes_under client server locks.hall) 0 bodies) (joined bodies)
    (Some (caller.Holder Hall))

-- bytes that are sealed one after the other are sealed as the whole of them
abbrev pub SealsOn : Type 0
SealsOn = (first later sent more : List ℕ) (old mid new : Sealing) → SealsAll first old mid sent
    → SealsAll later mid new more → SealsAll (first ++ later) old new (sent ++ more)
