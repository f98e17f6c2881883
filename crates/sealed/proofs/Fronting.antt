-- The front of a stream, as more of it comes.
use Rattle.std.proofs.Common.{◌≡◌, ℕ, List, ◌++◌, length, take, drop, sym, ap, ◌∙◌, arith}
use Rattle.std.proofs.{Common.append_assoc, lemmas.List.take-append-le}
use Rattle.std.proofs.lemmas.List.{length-append, take-append-drop}
use Rattle.seal.specs.Records.{preface_of}
use Rattle.sealed.specs.{Fronts.IsPrefaced, Fronts.IsUnsealed, model.Steps.IsHeld}

-- what came is what is held, and the rest of the piece
pub held_and_rest : (came piece old new : List ℕ) (added : ℕ) → IsHeld piece old new added
    → old ≡ came → came ++ piece ≡ new ++ drop added piece
held_and_rest came piece old new added held is =
    ap (λ (s : List ℕ). s ++ piece) (sym is)
    ∙ ap (λ (s : List ℕ). old ++ s) (sym (take-append-drop added piece))
    ∙ sym (append_assoc old (take added piece) (drop added piece))
    ∙ ap (λ (s : List ℕ). s ++ drop added piece) (sym held.held)

pub unsealed_more : (bytes more : List ℕ) → IsUnsealed bytes → IsUnsealed (bytes ++ more)
unsealed_more bytes more is = record {
  there = omega (arith, is.there, length-append bytes more);
  other = λ same. is.other (sym (take-append-le 4 bytes more is.there) ∙ same);
}

pub prefaced_more : (came random stream more : List ℕ) → IsPrefaced came random stream
    → IsPrefaced (came ++ more) random (stream ++ more)
prefaced_more came random stream more is = record {
  sixteen = is.sixteen;
  whole =
      ap (λ (s : List ℕ). s ++ more) is.whole ∙ append_assoc (preface_of random) stream more;
}

-- a preface is held, and the rest of the piece is the stream
pub prefaced_first : (came piece old new random : List ℕ) (added : ℕ) → IsHeld piece old new added
    → old ≡ came → length random ≡ 16 → new ≡ preface_of random
    → IsPrefaced (came ++ piece) random (drop added piece)
prefaced_first came piece old new random added held is sixteen whole = record {
  sixteen = sixteen;
  whole =
      held_and_rest came piece old new added held is
      ∙ ap (λ (s : List ℕ). s ++ drop added piece) whole;
}
