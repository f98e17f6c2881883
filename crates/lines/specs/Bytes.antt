-- What a writer was given of a text, and what a reader has left (the project's own).
use Rattle.std.specs.Prelude.{◌≡◌, ℕ, List, ◌++◌, Option, None, Some}
use Rattle.std.specs.Io.KnownBytes.{Appends}

-- the text is the front and then the rest, and the front was written
pub record Writes (old new : Option (List ℕ)) (text front rest : List ℕ) : Type 0 where
  pub parts : text ≡ front ++ rest
  pub written : Appends old new front

-- a front part of the text was written, and this rest waits
abbrev pub WritesUpTo : Option (List ℕ) → Option (List ℕ) → (text rest : List ℕ) → Type 0
WritesUpTo old new text rest = (front : List ℕ) × Writes old new text front rest

-- a front part of the text was written
abbrev pub AppendsPart : Option (List ℕ) → Option (List ℕ) → List ℕ → Type 0
AppendsPart old new text = (front : List ℕ) × (rest : List ℕ) × Writes old new text front rest

-- the reader has these bytes left, where it tells them
abbrev pub HasLeft : Option (List ℕ) → List ℕ → Type 0
HasLeft None bs = Unit {0}
HasLeft (Some xs) bs = xs ≡ bs

-- the two sides of a run: what its reader had and has left, and what its writer had and has, each
-- where it is known
pub record Sides : Type 0 where
  pub had : Option (List ℕ)
  pub left : Option (List ℕ)
  pub old : Option (List ℕ)
  pub new : Option (List ℕ)

-- by what readers have left and what writers have: of this reader and this writer, before the run
-- and after it
abbrev pub sides : {R W : Type 0} → (R → Option (List ℕ)) → (W → Option (List ℕ))
    → (before after : R) (first last : W) → Sides
sides remaining contents before after first last = record {
  had = remaining before;
  left = remaining after;
  old = contents first;
  new = contents last;
}
