-- How requests are made in a call, as contracts see it.
use Rattle.std.specs.Prelude.{◌≡◌, ◌∷◌, [], ℕ, List, Option, true, Result}
use Rattle.client.specs.declared.fault.ClientFault.{ClientFault}
use Rattle.wire.specs.declared.frame.{Frame.Frame, FrameBody.FrameBody}
use Rattle.batch.specs.Dialing.{Asked, AsksBy, Came, Dialed, Dials, IsAnew, IsOverKept, Place}
use Rattle.batch.specs.Dialing.{Standing, Way, ended_so, exchanged, heard_as, is_hung_up, place_of}
use Rattle.batch.specs.Watching.{Notice, Telling, Watched, watched}
use Rattle.batch.specs.declared.dialing.{Contact.Contact, ConnectionLoss.ConnectionLoss}

-- a request was made, and this was made of the first frame that came
pub record Hears (request : Frame) (ended : Result FrameBody ClientFault)
    (old new : Option (List Dialed)) : Type 0 where
  pub came : Result Frame ClientFault
  pub told : Dials old new (Came request came ∷ [])
  pub heard : ended ≡ heard_as request came

-- so it was, and then the connection was ended, unless the desk answered
pub record Uses (request : Frame) (ended : Result FrameBody ClientFault) (ending : ConnectionLoss)
    (old new : Option (List Dialed)) : Type 0 where
  pub came : Result Frame ClientFault
  pub told : Dials old new (Came request came ∷ ended_so ended ending)
  pub heard : ended ≡ heard_as request came

-- the request was made over a new connection
abbrev pub MakesAnew : Place → (old new : Option (List Dialed)) → Asked → ℕ → Type 0
MakesAnew p old new a after =
    (dialed : List Dialed) × Dials old new dialed × IsAnew p a after dialed

-- it was made over the one that is kept
abbrev pub MakesKept : ℕ → (old new : Option (List Dialed)) → Asked → ℕ → Type 0
MakesKept made old new a after =
    (dialed : List Dialed) × Dials old new dialed × IsOverKept made a after dialed

-- the connection that was kept was cut off at the request, and ended
pub record Cuts (request : Frame) (old new : Option (List Dialed)) : Type 0 where
  pub came : Result Frame ClientFault
  pub ending : ConnectionLoss
  pub cut : is_hung_up (heard_as request came) ending ≡ true
  pub told : Dials old new (exchanged request came ending)

-- by what is told of connections, and how many requests were made over the one that is kept
abbrev pub standing : {D : Type 0} → (D → Option (List Dialed)) → D → ℕ → Standing
standing dialed dial made = record { dialed = dialed dial; made = made }

-- how connections to a contact's place are before a call and afterwards
abbrev pub way_of : {D : Type 0} → (D → Option (List Dialed)) → Contact → (dial dial_after : D)
    → (made made_later : ℕ) → Way
way_of dialed c dial dial_after made made_later =
    record {
      place = place_of c;
      old = standing dialed dial made;
      new = standing dialed dial_after made_later;
    }

-- so much is said of the requests of a call, and of what its observer is told of them
abbrev pub AsksIn : {D V : Type 0} → (D → Option (List Dialed)) → (V → Option (List Notice))
    → Contact → (dial dial_later : D) → (made made_later : ℕ) → (watch watch_later : V)
    → (List Asked → List Notice → Type 0) → Type 0
AsksIn dialed heard c dial dial_later made made_later watch watch_later Is =
    AsksBy (way_of dialed c dial dial_later made made_later)
    (Telling (watched heard watch watch_later) Is)

-- This is so of the way in which a call's requests are made, and of what its observer is told.
abbrev pub InCall : {D V : Type 0} → (D → Option (List Dialed)) → (V → Option (List Notice))
    → Contact → (dial dial_after : D) → (made made_later : ℕ) → (watch watch_after : V)
    → (Way → Watched → Type 0) → Type 0
InCall dialed heard c dial dial_after made made_later watch watch_after Is =
    Is (way_of dialed c dial dial_after made made_later) (watched heard watch watch_after)
