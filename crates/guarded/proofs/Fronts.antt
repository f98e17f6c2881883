-- The front of a stream tells one thing of it alone.
use Rattle.std.proofs.Common.{◌≡◌, ℕ, ◌≤◌, List, ◌++◌, length, take, ap, ◌∙◌, arith, inl, inr}
use Rattle.std.proofs.{Common.append_assoc, lemmas.List.length-append, lemmas.List.take-append-le}
use Rattle.seal.specs.Records.{mark, preface_of}
use Rattle.sealed.specs.Fronts.{IsPrefaced, IsShort, IsUnsealed}

-- a preface begins with the mark
pub begins_marked : (came random stream : List ℕ) → IsPrefaced came random stream
    → take 4 came ≡ mark
begins_marked came random stream is =
    let four : 4 ≤ length mark = omega arith in
    ap (λ (s : List ℕ). take 4 s) (is.whole ∙ append_assoc mark random stream)
    ∙ take-append-le 4 mark (random ++ stream) four

pub prefaced_unsealed : (came random stream : List ℕ) → IsPrefaced came random stream
    → IsUnsealed came → ⊥
prefaced_unsealed came random stream is unsealed =
    unsealed.other (begins_marked came random stream is)

pub prefaced_short : (came random stream : List ℕ) → IsPrefaced came random stream → IsShort came
    → ⊥
prefaced_short came random stream is short =
    let all = ap (λ (s : List ℕ). length s) is.whole in
    let long = length-append (preface_of random) stream in
    let first = length-append mark random in
    let twenty : 20 ≤ length came = omega (arith, all, long, first, is.sixteen) in
    short_less came short twenty
  where
    short_less : (came : List ℕ) → IsShort came → 20 ≤ length came → ⊥
    short_less came (inl h) twenty = absurd (omega (arith, h, twenty))
    short_less came (inr h) twenty = absurd (omega (arith, h.1, twenty))
