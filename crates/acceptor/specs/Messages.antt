-- What is sent, by whom and to whom ('Paxos Made Simple', sections 2.2 and 2.3).
use Rattle.std.specs.Prelude.{ℕ, zero, suc, ◌≡◌, ◌⊎◌, Bool, if◌then◌else◌, List, [], ◌∷◌, ◌==◌}
use Rattle.std.specs.List.{list_any}
use Rattle.acceptor.specs.declared.message.{Body.Body, Message.Message}

-- from one desk to another
abbrev pub message : ℕ → ℕ → Body → Message
message from to body = record { from = from; to = to; body = body }

-- the desk has sent this, to whichever desk
abbrev pub Sent : List Message → ℕ → Body → Type 0
Sent [] from body = ⊥
Sent (m ∷ ms) from body = ((m.from ≡ from) × (m.body ≡ body)) ⊎ Sent ms from body

-- the desks from `first` on, `count` of them
abbrev pub desks_from : ℕ → ℕ → List ℕ
desks_from first zero = []
desks_from first (suc count) = first ∷ desks_from (suc first) count

-- the desk is in the list
abbrev pub has : List ℕ → ℕ → Bool
has xs d = list_any (λ x. x == d) xs

-- the list without those that are gone
abbrev pub without : List ℕ → List ℕ → List ℕ
without [] gone = []
without (x ∷ xs) gone = if has gone x then without xs gone else x ∷ without xs gone

-- the same words to each of these desks
abbrev pub to_each : ℕ → List ℕ → Body → List Message
to_each from [] body = []
to_each from (to ∷ rest) body = message from to body ∷ to_each from rest body

-- to every desk of the hall, the desk itself too
abbrev pub to_all : ℕ → ℕ → Body → List Message
to_all n from body = to_each from (desks_from 1 n) body

-- to every other desk of the hall
abbrev pub to_others : ℕ → ℕ → Body → List Message
to_others n from body = to_each from (without (desks_from 1 n) (from ∷ [])) body
