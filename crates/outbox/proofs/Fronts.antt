-- What is in the front of a log is there in the whole.
use Rattle.std.proofs.Common.{◌≡◌, ℕ, suc, ◌+◌, ◌<◌, Bool, true, false, List, [], ◌∷◌, ◌++◌, Option}
use Rattle.std.proofs.Common.{Some, length, slice_get, take, refl, ap, ◌∙◌, arith, if◌then◌else◌}
use Rattle.std.proofs.lemmas.List.{take-append-le}
use Rattle.std.specs.{List.position_from, Option.option_map}
use Rattle.acceptor.specs.declared.entry.Entry.{Entry}
use Rattle.answers.proofs.Fronts.{get_front}
use Rattle.answers.specs.Transcripts.{answer_after, answer_at}

-- what is answered at a position depends on the entries up to there
pub answer_front : (xs rest : List Entry) (p : ℕ) → p < length xs
    → answer_at (xs ++ rest) p ≡ answer_at xs p
answer_front xs rest p h =
    ap (λ (front : List Entry). option_map (answer_after front) (slice_get (xs ++ rest) p))
    (take-append-le p xs rest (omega arith))
    ∙ ap (λ (o : Option Entry). option_map (answer_after (take p xs)) o) (get_front xs rest p h)

-- what is found is there, and passes
pub record IsFound (t : Entry → Bool) (i p : ℕ) (xs : List Entry) : Type 0 where
  pub place : ℕ
  pub at : p ≡ i + place
  pub within : place < length xs
  pub entry : Entry
  pub there : slice_get xs place ≡ Some entry
  pub passes : t entry ≡ true

pub found_at : (t : Entry → Bool) (i p : ℕ) (xs : List Entry) → position_from t i xs ≡ Some p
    → IsFound t i p xs
found_at t i p [] h = absurd cc
found_at t i p (x ∷ xs) h = go (t x) refl h (found_at t (i + 1) p xs)
  where
    go : (b : Bool) → t x ≡ b → (if b then Some i else position_from t (i + 1) xs) ≡ Some p
        → (position_from t (i + 1) xs ≡ Some p → IsFound t (i + 1) p xs) → IsFound t i p (x ∷ xs)
    go true is e f = record {
      place = 0;
      at = let same : i ≡ p = cc in omega arith;
      within = omega arith;
      entry = x;
      there = refl;
      passes = is;
    }
    go false is e f = let later = f e in record {
      place = suc later.place;
      at = omega (arith, later.at);
      within = omega (arith, later.within);
      entry = later.entry;
      there = later.there;
      passes = later.passes;
    }
