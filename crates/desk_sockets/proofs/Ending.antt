-- Which connections that are ending are kept.
use Rattle.std.proofs.Common.{◌≡◌, ◌≤◌, ◌+◌, inl, inr, refl, sym, ap, subst, ◌∙◌, ℕ, ltb, Bool}
use Rattle.std.proofs.Common.{false, true, List, [], ◌∷◌, ◌++◌, length, drop, cond, Result, Ok, Err}
use Rattle.std.specs.{Prelude.OnErr, Prelude.is_ok, List.Retain.RetainsInTurn}
use Rattle.std.specs.VecDeque.{deque_capacity, deque_len}
use Rattle.std.specs.declared.collections.VecDeque.{VecDeque}
use Rattle.desk_sockets.specs.declared.endings.EndingConnection.{EndingConnection}
use Rattle.desk_sockets.specs.Endings.{KeepsOn, KeepsOne, stays, with_room}

-- a test that answers so at each of them keeps those that stay
pub keeps_on : {S F : Type 0} (now : ℕ)
    (R : F → EndingConnection S → Bool → F → EndingConnection S → Type 0) (f : F)
    → ((x : EndingConnection S) (b : Bool) (g : F) (y : EndingConnection S) → R f x b g y
    → (b ≡ stays now y) × (y.since ≡ x.since) × (g ≡ f)) → (xs ys : List (EndingConnection S))
    → RetainsInTurn R f xs ys → KeepsOn now xs ys
keeps_on now R f each [] ys is = is
keeps_on now R f each (x ∷ xs) ys (b, g, y, said, zs, rest, is) =
    let at = each x b g y said in (
      y,
      at.1,
      zs,
      keeps_on now R f each xs zs (subst (λ h. RetainsInTurn R h xs zs) at.2 rest),
      is ∙ ap (λ z. cond z (y ∷ zs) zs) at.0,
    )

pub room_left : {S : Type 0} (xs : List (EndingConnection S)) → ltb (length xs) 16 ≡ true
    → xs ≡ with_room xs
room_left xs is = rw is refl

pub room_made : {S : Type 0} (xs : List (EndingConnection S)) → ltb (length xs) 16 ≡ false
    → drop 1 xs ≡ with_room xs
room_made xs is = rw is refl

-- one more was put behind those for which there is room, or memory was refused
pub keeps_one : {S A T E : Type 0} (e : EndingConnection S)
    (old mid new : VecDeque (EndingConnection S) A) (r : Result T E)
    → mid.items ≡ with_room old.items → deque_capacity mid ≡ deque_capacity old
    → new.items ≡ cond (is_ok r) (mid.items ++ e ∷ []) mid.items
    → deque_len new ≡ cond (is_ok r) (deque_len mid + 1) (deque_len mid)
    → OnErr r (deque_capacity mid ≤ deque_len mid) → KeepsOne e false old new
keeps_one e old mid new (Ok x) room size is len full = inl (is ∙ ap (λ xs. xs ++ e ∷ []) room)
keeps_one e old mid new (Err x) room size is len full =
    inr (
      is ∙ room,
      subst (λ (n : ℕ). deque_capacity old ≤ n) (sym len)
          (subst (λ (n : ℕ). n ≤ deque_len mid) size full),
    )
