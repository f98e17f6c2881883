-- Where OR and XOR are 0.
use Rattle.std.proofs.Common.{◌≡◌, ℕ, ◌+◌, ◌%◌, ◌<◌, ◌≤◌, max, bit_or, bit_xor, sym, ap, ◌∙◌, arith}
use Rattle.std.{specs.Int.bit_at, proofs.lemmas.Nat.Bits.same_from_bits}
use Rattle.std.proofs.lemmas.Nat.Bits.{bit_at_or, bit_at_xor, bit_at-zero, bit_at-lt}

most_none : (a b : ℕ) → max a b ≡ 0 → (a ≡ 0) × (b ≡ 0)
most_none a b h = (omega arith, omega arith)

even_none : (a b : ℕ) → a < 2 → b < 2 → (a + b) % 2 ≡ 0 → a ≡ b
even_none a b x y h = omega arith

pub or_none : (a b : ℕ) → bit_or a b ≡ 0 → (a ≡ 0) × (b ≡ 0)
or_none a b h =
    let bits : (i : ℕ) → (bit_at a i ≡ 0) × (bit_at b i ≡ 0) = λ i.
    most_none (bit_at a i) (bit_at b i)
    (sym (bit_at_or a b i) ∙ ap (λ (n : ℕ). bit_at n i) h ∙ bit_at-zero i) in (
      same_from_bits a 0 (λ i. (bits i).0 ∙ sym (bit_at-zero i)),
      same_from_bits b 0 (λ i. (bits i).1 ∙ sym (bit_at-zero i)),
    )

pub xor_none : (a b : ℕ) → bit_xor a b ≡ 0 → a ≡ b
xor_none a b h = same_from_bits a b (λ i.
    even_none (bit_at a i) (bit_at b i) (bit_at-lt a i) (bit_at-lt b i)
    (sym (bit_at_xor a b i) ∙ ap (λ (n : ℕ). bit_at n i) h ∙ bit_at-zero i))
