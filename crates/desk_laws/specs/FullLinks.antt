-- What a link wants where it has something to send, and which frame a full queue loses, by hand.
use Rattle.std.specs.Prelude.{◌≡◌, ◌≢◌, ℕ, List, [], ◌∷◌, ◌++◌, None, map}
use Rattle.std.specs.List.{range_with_len}
use Rattle.links.specs.Links.{LinkState, Pushes, pending, wish_of}
use Rattle.links.specs.declared.stages.PushOutcome.TheVariants.{DroppedOldest}
use Rattle.links.specs.declared.stages.LinkStage.TheVariants.{Open}
use Rattle.links.specs.declared.stages.LinkAction.TheVariants as wish

-- frames of two bytes, whose first bytes count up from this number
abbrev pub counted : ℕ → ℕ → List (List ℕ)
counted from count = map (λ i. i ∷ 7 ∷ []) (range_with_len from count)

-- as many as may wait, with this many bytes of the first sent on a connection
abbrev pub full : ℕ → LinkState
full begun =
    record { waiting = counted 0 256; begun = begun; stage = Open 0 0; pause = 100; down = None }

pub record WorksFullLinks : Type 0 where
  -- of the first nothing was sent: it goes
  pub first : (frame : List ℕ) (new : LinkState) → Pushes DroppedOldest frame (full 0) new
      → new.waiting ≡ counted 1 255 ++ frame ∷ []
  -- a byte of it was sent: it stays, and the second goes
  pub second : (frame : List ℕ) (new : LinkState) → Pushes DroppedOldest frame (full 1) new
      → new.waiting ≡ (0 ∷ 7 ∷ []) ∷ (counted 2 254 ++ frame ∷ [])
  -- a link that has something to send wants to write it, at every moment
  pub writes : (s : LinkState) (now : ℕ) → pending s ≢ [] → wish_of s now ≡ wish.Write
