-- Numbers that are added to random bytes, and what of both is told by the sum.
use Rattle.std.proofs.Common.{◌≡◌, ◌∙◌, ℕ, ◌+◌, ◌%◌, ◌^◌, ◌<◌, List, ◌++◌, take, drop, ap, sym}
use Rattle.std.proofs.{Common.refl, lemmas.Nat.be_bytes_8, lemmas.Nat.from_be_bytes-to_be_bytes_8}
use Rattle.std.{proofs.Common.arith, specs.Int.from_be_bytes, specs.Int.to_be_bytes, specs.Int.w64}
use Rattle.polled.specs.sockets.Mixing.{IsHalf, KeepsDrawn, TellsApart, added}

-- a sum within 64 bits
small : (n : ℕ) → n % 2 ^ 64 < 2 ^ 64
small n = omega arith

same_sum : (v n m : ℕ) → n < 2 ^ 64 → m < 2 ^ 64 → (v + n) % 2 ^ 64 ≡ (v + m) % 2 ^ 64 → n ≡ m
same_sum v n m nl ml is = omega (arith, nl, ml, is)

same_value : (v w : ℕ) → to_be_bytes w64 (v % 2 ^ 64) ≡ to_be_bytes w64 (w % 2 ^ 64)
    → v % 2 ^ 64 ≡ w % 2 ^ 64
same_value v w is =
    sym (from_be_bytes-to_be_bytes_8 (v % 2 ^ 64) (small v)) ∙ ap (from_be_bytes w64) is
    ∙ from_be_bytes-to_be_bytes_8 (w % 2 ^ 64) (small w)

-- the two halves of what is mixed
first_half : (a b c d : List ℕ) (n m k l : ℕ)
    → added a n ++ added b m ≡ added c k ++ added d l → added a n ≡ added c k
first_half a b c d n m k l is = ap (take 8) is

second_half : (a b c d : List ℕ) (n m k l : ℕ)
    → added a n ++ added b m ≡ added c k ++ added d l → added b m ≡ added d l
second_half a b c d n m k l is = ap (drop 8) is

same_number : (bytes : List ℕ) (n m : ℕ) → n < 2 ^ 64 → m < 2 ^ 64 → added bytes n ≡ added bytes m
    → n ≡ m
same_number bytes n m nl ml is =
    let v : ℕ = from_be_bytes w64 bytes in
    same_sum v n m nl ml (same_value (v + n) (v + m) is)

pub mixed_apart : TellsApart
mixed_apart first second start later count other sl ll cl ol is = (
  same_number first start later sl ll
      (first_half first second first second start count later other is),
  same_number second count other cl ol
      (second_half first second first second start count later other is),
)

-- eight bytes as a number
half_value : (half : List ℕ) → IsHalf half → from_be_bytes w64 half < 2 ^ 64
half_value half is =
    let b0 = is.bytes 0 in
    let b1 = is.bytes 1 in
    let b2 = is.bytes 2 in
    let b3 = is.bytes 3 in
    let b4 = is.bytes 4 in
    let b5 = is.bytes 5 in
    let b6 = is.bytes 6 in
    let b7 = is.bytes 7 in
    omega (arith, b0, b1, b2, b3, b4, b5, b6, b7)

same_half : (a b : List ℕ) (n : ℕ) → IsHalf a → IsHalf b → added a n ≡ added b n → a ≡ b
same_half a b n ia ib is =
    let v : ℕ = from_be_bytes w64 a in
    let w : ℕ = from_be_bytes w64 b in
    let sums : (v + n) % 2 ^ 64 ≡ (w + n) % 2 ^ 64 = same_value (v + n) (w + n) is in
    let vl : v < 2 ^ 64 = half_value a ia in
    let wl : w < 2 ^ 64 = half_value b ib in
    let value : v ≡ w = omega (arith, sums, vl, wl) in
    sym (be_bytes_8 a v ia.size ia.bytes refl) ∙ ap (to_be_bytes w64) value
    ∙ be_bytes_8 b w ib.size ib.bytes refl

pub mixed_keeps : KeepsDrawn
mixed_keeps first second again more start count fi se ag mo is = (
  same_half first again start fi ag
      (first_half first second again more start count start count is),
  same_half second more count se mo
      (second_half first second again more start count start count is),
)
