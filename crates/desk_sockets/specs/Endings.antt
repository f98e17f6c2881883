-- Which connections that are ending are kept (the project's own).
use Rattle.std.specs.Prelude.{◌≡◌, ◌⊎◌, ◌≤◌, ℕ, ◌-◌, nat_le, nat_lt, ◌&&◌, not, Bool, true, false}
use Rattle.std.specs.Prelude.{if◌then◌else◌, List, [], ◌∷◌, ◌++◌, length, drop}
use Rattle.std.specs.VecDeque.{deque_capacity, deque_len}
use Rattle.std.specs.declared.collections.VecDeque.{VecDeque}
use Rattle.desk_sockets.specs.declared.endings.EndingConnection.{EndingConnection}

-- one is kept for two seconds at least, in milliseconds, unless the desk has ended it too
abbrev pub stays : {S : Type 0} → ℕ → EndingConnection S → Bool
stays now e = not e.over && nat_le (now - e.since) 2000

-- at this time those are kept that stay, as they have become, in order
abbrev pub KeepsOn : {S : Type 0} → ℕ → (old new : List (EndingConnection S)) → Type 0
KeepsOn now [] new = new ≡ []
KeepsOn {S} now (x ∷ xs) new =
    (y : EndingConnection S) × (y.since ≡ x.since) × (rest : List (EndingConnection S))
    × KeepsOn now xs rest × (new ≡ (if stays now y then y ∷ rest else rest))

-- where sixteen are kept, the first one, which is ending for the longest time, is closed for one
-- more
abbrev pub with_room : {S : Type 0} → List (EndingConnection S) → List (EndingConnection S)
with_room xs = if nat_lt (length xs) 16 then xs else drop 1 xs

-- one more is kept, as the last one, unless it is over at once, or memory is refused for it
abbrev pub KeepsOne : {S A : Type 0} → EndingConnection S → Bool
    → (old new : VecDeque (EndingConnection S) A) → Type 0
KeepsOne e true old new = new ≡ old
KeepsOne e false old new =
    (new.items ≡ with_room old.items ++ e ∷ [])
    ⊎ ((new.items ≡ with_room old.items) × (deque_capacity old ≤ deque_len new))

-- a connection that is ending from this time on is kept so
abbrev pub Ends : {S A : Type 0} → ℕ → (old new : VecDeque (EndingConnection S) A) → Type 0
Ends {S} now old new = (e : EndingConnection S) × (e.since ≡ now) × KeepsOne e e.over old new
