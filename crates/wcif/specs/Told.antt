-- What is said of the items of a list, one after the other (the project's own).
use Rattle.std.specs.Prelude.{ℕ, ◌+◌, List, [], ◌∷◌, ◌++◌, length}

-- f says something of an item, given those in front of it
abbrev pub told_from : {A B : Type 0} → (List A → A → List B) → List A → List A → List B
told_from f earlier [] = []
told_from f earlier (x ∷ xs) = f earlier x ++ told_from f (earlier ++ x ∷ []) xs

unfoldable pub told : {A B : Type 0} → (List A → A → List B) → List A → List B
told f xs = told_from f [] xs

-- the place of an item, from 1, given those in front of it
abbrev pub place : {A : Type 0} → List A → ℕ
place earlier = length earlier + 1
