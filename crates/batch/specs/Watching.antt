-- What an observer hears while commands are entered, where that is known (the project's own).
use Rattle.std.specs.Prelude.{◌++◌, ◌∷◌, [], ℕ, List, Option, None, map}
use Rattle.std.specs.List.{range_with_len}
use Rattle.acceptor.specs.declared.entry.Entry.{Entry}
use Rattle.texts.specs.declared.answer.Answer.{Answer}
use Rattle.batch.specs.Dialing.{Asked, Grows}

-- A command with this id and this text is about to be entered. It is tried again, after this many
-- tries in front of this one. It was entered, and its line is printed; where it was waited for, it
-- was answered so. This other entry is in the log under its id.
pub data Notice : Type 0 where
  Begins : (id : ℕ) → (text : List ℕ) → Notice
  Waits : (tries : ℕ) → Notice
  Entered : Option Answer → Notice
  Another : Entry → Notice

-- what the observer heard before a call and afterwards
pub record Watched : Type 0 where
  pub old : Option (List Notice)
  pub new : Option (List Notice)

-- by what it was told: before and after
abbrev pub watched : {A : Type 0} → (A → Option (List Notice)) → (before after : A) → Watched
watched heard before after = record { old = heard before; new = heard after }

-- it is told this, in order, and nothing else
abbrev pub Tells : Watched → List Notice → Type 0
Tells w more = Grows w.old w.new more

-- this many times it is told that the same is tried again: after no try, after one, and so on
abbrev pub waits_of : ℕ → List Notice
waits_of tries = map Waits (range_with_len 0 tries)

-- what is told of a line that is entered with this id and answered so, where this is told of its
-- requests
abbrev pub line_notices : ℕ → List ℕ → List Notice → Option Answer → List Notice
line_notices id line told answer = Begins id line ∷ (told ++ Entered answer ∷ [])

-- this is said of some requests and of what is told of them, and so it is told
abbrev pub Telling : Watched → (List Asked → List Notice → Type 0) → List Asked → Type 0
Telling w Is asked = (told : List Notice) × Is asked told × Tells w told

-- an observer of whom nothing is known
abbrev pub unheard : Watched
unheard = record { old = None; new = None }
