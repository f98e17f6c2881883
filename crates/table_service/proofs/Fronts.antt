-- The front of a file's bytes that has its whole lines.
use Rattle.std.proofs.Common.{◌≡◌, ◌∙◌, ◌++◌, ◌+◌, ◌∷◌, ◌==◌, [], ℕ, Bool, true, false, List, ap}
use Rattle.std.proofs.Common.{arith, cond, length, length-append, refl, subst, sym, take}
use Rattle.std.{specs.List.join_with_byte, specs.List.onto_first, proofs.Math.Seq.take-length}
use Rattle.std.proofs.lemmas.List.{take-append-le, Splits.join_with_byte-slice_split}
use Rattle.outbox.specs.Histories.{IsCutFrom}
use Rattle.outbox.specs.Lines.{all_but_last, cut_line, last_of, parts}
use Rattle.outbox.proofs.Pieces.{first_other, first_whole, some_parts}

-- bytes with these parts are whole lines and the last part
record FrontOf (bytes : List ℕ) (ps : List (List ℕ)) : Type 0 where
  front : List ℕ
  is : bytes ≡ front ++ last_of ps
  ends : cut_line front ≡ []
  lines : all_but_last (parts front) ≡ all_but_last ps

module _ (b : ℕ) where
  parts_by : (t : Bool) → (b == 10) ≡ t → (xs : List ℕ)
      → parts (b ∷ xs) ≡ cond t ([] ∷ parts xs) (onto_first b (parts xs))
  parts_by t is xs = ap (λ (u : Bool). cond u ([] ∷ parts xs) (onto_first b (parts xs))) is

  -- the end of a line
  after_end : (bytes : List ℕ) → (b == 10) ≡ true → FrontOf bytes (parts bytes)
      → FrontOf (b ∷ bytes) ([] ∷ parts bytes)
  after_end bytes is f = record {
    front = b ∷ f.front;
    is =
        ap (λ (xs : List ℕ). b ∷ xs) f.is
        ∙ ap (λ (xs : List ℕ). b ∷ (f.front ++ xs))
        (sym (first_other [] (parts bytes) (some_parts bytes)));
    ends =
        ap last_of (parts_by true is f.front)
        ∙ first_other [] (parts f.front) (some_parts f.front) ∙ f.ends;
    lines =
        ap all_but_last (parts_by true is f.front)
        ∙ first_whole [] (parts f.front) (some_parts f.front)
        ∙ ap (λ (xs : List (List ℕ)). [] ∷ xs) f.lines
        ∙ sym (first_whole [] (parts bytes) (some_parts bytes));
  }

  -- one more byte of the first line
  longer : (ps fs : List (List ℕ)) (p q : List ℕ) → last_of fs ≡ []
      → all_but_last fs ≡ all_but_last (p ∷ q ∷ ps) → ((last_of (onto_first b fs) ≡ [])
      × (all_but_last (onto_first b fs) ≡ all_but_last (onto_first b (p ∷ q ∷ ps))))
  longer ps [] p q ends lines = absurd cc
  longer ps (f ∷ []) p q ends lines = absurd cc
  longer ps (f ∷ g ∷ fs) p q ends lines = (ends, ap (onto_first b) lines)

  in_line : (bytes : List ℕ) → (b == 10) ≡ false → (ps : List (List ℕ)) → parts bytes ≡ ps
      → FrontOf bytes ps → FrontOf (b ∷ bytes) (onto_first b ps)
  in_line bytes is [] are f =
      absurd (let some = some_parts bytes in let none = ap length are in omega (arith, some, none))
  in_line bytes is (p ∷ []) are f = record {
    front = [];
    is =
        ap (λ (xs : List ℕ). b ∷ xs)
        (sym (join_with_byte-slice_split 10 bytes) ∙ ap (join_with_byte 10) are);
    ends = refl;
    lines = refl;
  }
  in_line bytes is (p ∷ q ∷ ps) are f =
      let both = longer ps (parts f.front) p q f.ends f.lines in
      record {
        front = b ∷ f.front;
        is = ap (λ (xs : List ℕ). b ∷ xs) f.is;
        ends = ap last_of (parts_by false is f.front) ∙ both.0;
        lines = ap all_but_last (parts_by false is f.front) ∙ both.1;
      }

front_of : (bytes : List ℕ) → FrontOf bytes (parts bytes)
front_of [] = record { front = []; is = refl; ends = refl; lines = refl }
front_of (b ∷ bytes) = go (b == 10) refl (front_of bytes)
  where
    go : (t : Bool) → (b == 10) ≡ t → FrontOf bytes (parts bytes)
        → FrontOf (b ∷ bytes) (parts (b ∷ bytes))
    go true is f =
        subst (FrontOf (b ∷ bytes)) (sym (parts_by b true is bytes)) (after_end b bytes is f)
    go false is f =
        subst (FrontOf (b ∷ bytes)) (sym (parts_by b false is bytes))
        (in_line b bytes is (parts bytes) refl f)

-- this many bytes of a file are its whole lines
pub cut_from : (bytes : List ℕ) (count : ℕ) → count + length (cut_line bytes) ≡ length bytes
    → IsCutFrom bytes (take count bytes)
cut_from bytes count long =
    let f = front_of bytes in
    let all = ap length f.is in
    let sum = length-append f.front (cut_line bytes) in
    let few : count ≡ length f.front = omega (arith, all, sum, long) in
    let same : take count bytes ≡ f.front =
    ap (λ (n : ℕ). take n bytes) few ∙ ap (take (length f.front)) f.is
    ∙ take-append-le (length f.front) f.front (cut_line bytes) (omega arith)
    ∙ take-length f.front in
    record {
      lines = ap (λ (xs : List ℕ). all_but_last (parts xs)) same ∙ f.lines;
      ends = ap cut_line same ∙ f.ends;
    }
