-- A record with a changed body, and one of the other direction.
use Rattle.std.proofs.Common.{◌≡◌, refl, sym, ap, ◌∙◌, ℕ, ◌<◌, ◌^◌, List, [], ◌∷◌, ◌++◌, length}
use Rattle.std.proofs.{Common.arith, lemmas.Nat.from_be_bytes-to_be_bytes_2}
use Rattle.std.specs.{Int.w16, Int.from_be_bytes, Int.to_be_bytes, Prelude.slice_index}
use Rattle.sha2.specs.Sha256.{sha256, first_words, schedule, rounds, compress, hash_after}
use Rattle.sha2.specs.Sha256.{digest_bytes}
use Rattle.seal.specs.{Hmac.hmac, Hmac.key_block, Laws.Differs, Laws.IsChanged, Laws.IsNotForged}
use Rattle.seal.specs.Records.{record_of, records, tag}
use Rattle.seal.proofs.Whole.{length-record, length-tag, parted, short}
use Rattle.witnesses.specs.Streams.{WorksStreams, back, came, channel, front, sent}

first_byte : List ℕ → ℕ
first_byte [] = 0
first_byte (x ∷ xs) = x

-- the first bytes of three tags
firsts : (first_byte (tag channel 1 (7 ∷ [])) ≡ 192) × (first_byte (tag channel 1 (8 ∷ [])) ≡ 33)
    × (first_byte (tag back 1 (7 ∷ [])) ≡ 56)
unfolding first_byte tag hmac key_block sha256 first_words schedule rounds compress hash_after
    digest_bytes
firsts = (refl, refl, refl)

-- what came: its length, the other body, and the tag of what was sent
comes_so : came ≡ (0 ∷ 1 ∷ []) ++ ((8 ∷ []) ++ (tag channel 1 sent ++ []))
unfolding record_of
comes_so = refl

two_bytes : (n : ℕ) → length (to_be_bytes w16 n) ≡ 2
two_bytes n = refl

-- a body after its length has that length
counted : (n : ℕ) → n < 2 ^ 16 → 0 ∷ 1 ∷ [] ≡ to_be_bytes w16 n → n ≡ 1
counted n few is =
    sym (from_be_bytes-to_be_bytes_2 n few) ∙ ap (λ (s : List ℕ). from_be_bytes w16 s) (sym is)

not_forged : IsNotForged channel 1 sent came
not_forged body came_tag more good other long is its =
    let front_parts =
    parted (0 ∷ 1 ∷ []) (to_be_bytes w16 (length body)) ((8 ∷ []) ++ (tag channel 1 sent ++ []))
    (body ++ (came_tag ++ more)) (sym (two_bytes (length body))) (sym comes_so ∙ is) in
    let one : length body ≡ 1 = counted (length body) (short 1 body good) front_parts.0 in
    let parts =
    parted (8 ∷ []) body (tag channel 1 sent ++ []) (came_tag ++ more) (sym one) front_parts.1 in
    let tags =
    parted (tag channel 1 sent) came_tag [] more (length-tag channel 1 sent ∙ sym long) parts.1 in
    let all : tag channel 1 sent ≡ tag channel 1 (8 ∷ []) =
    tags.0 ∙ its ∙ ap (λ (b : List ℕ). tag channel 1 b) (sym parts.0) in
    let bytes : 192 ≡ 33 =
    sym firsts.0 ∙ ap (λ (t : List ℕ). first_byte t) all ∙ firsts.1 in
    omega (arith, bytes)

third : List ℕ → ℕ
third [] = 0
third (x ∷ []) = 0
third (x ∷ (y ∷ [])) = 0
third (x ∷ (y ∷ (z ∷ s))) = z

sent_third : (more : List ℕ) → third (record_of channel 1 sent ++ more) ≡ 7
unfolding third record_of
sent_third more = refl

came_third : third came ≡ 8
unfolding third
came_third = ap (λ (s : List ℕ). third s) comes_so

other_record : (more : List ℕ) → came ≡ record_of channel 1 sent ++ more → ⊥
other_record more is =
    let bytes : 8 ≡ 7 = sym came_third ∙ ap (λ (s : List ℕ). third s) is ∙ sent_third more in
    omega (arith, bytes)

at_two : slice_index (record_of channel 1 sent) 2 ≡ 7
unfolding record_of
at_two = refl

changes : IsChanged channel 1 sent 2 8
changes = record {
  within = let long = length-record channel 1 sent in omega (arith, long);
  other = λ is. let bytes : 8 ≡ 7 = is ∙ at_two in omega (arith, bytes);
}

differs : Differs channel front sent (records channel 0 front ++ came)
differs = record {
  good = (((omega arith, omega arith), omega arith), tt);
  rest = came;
  whole = refl;
  other = other_record;
  not_forged = not_forged;
}

pub works : WorksStreams
works = record {
  good = (((omega arith, omega arith), omega arith), tt);
  changes = changes;
  not_forged = not_forged;
  differs = differs;
  elsewhere = λ is.
      let bytes : 56 ≡ 192 = sym firsts.2 ∙ ap (λ (t : List ℕ). first_byte t) is ∙ firsts.0 in
      omega (arith, bytes);
}
