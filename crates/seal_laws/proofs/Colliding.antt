-- Two HMACs are of one key and one text, or two texts have one digest.
use Rattle.std.proofs.Common.{◌≡◌, ◌≢◌, ◌⊎◌, ℕ, ◌+◌, ◌-◌, ◌%◌, ◌<◌, Bool, true, false, List, []}
use Rattle.std.proofs.Common.{◌∷◌, ◌++◌, length, replicate, bit_xor, refl, sym, ap, ◌∙◌, arith}
use Rattle.std.proofs.{Common.bytes_eq, lemmas.Slice.Eq.bytes_eq-Decides}
use Rattle.std.proofs.lemmas.Bool.{false≢true}
use Rattle.std.{proofs.Common.inl, proofs.Common.inr, specs.Int.bit_at}
use Rattle.std.proofs.lemmas.{List.length-append, List.length-map}
use Rattle.std.proofs.lemmas.Nat.Bits.{bit_at_xor, bit_at-lt, same_from_bits}
use Rattle.sha2.specs.Sha256.{sha256}
use Rattle.seal.specs.declared.channel.{Channel.Channel, Direction.Direction}
use Rattle.seal.specs.declared.channel.Direction.TheVariants.{ToServer, ToClient}
use Rattle.seal.specs.Hmac.{hmac, key_block, short_key, xor_each}
use Rattle.seal.{specs.Laws.HandsOnFront, proofs.Differing.at_other, proofs.Whole.parted}
use Rattle.seal.specs.Records.{key_of, record_of, records, tag, tagged}
use Rattle.sealed.specs.Tunnels.{channel_of}
use Rattle.seal_laws.specs.Collisions.{AreOneConnection, BackIsElsewhere, Collide, KeysTell}
use Rattle.seal_laws.specs.Collisions.{MacsTell, StopsUnlessTheyCollide, inner, outer}
use Rattle.seal_laws.proofs.Telling.{first_and_rest, key_text, tells, tells_sides, text_of}

-- ---- whether two lists are the same

same_or_not : (a b : List ℕ) → (a ≡ b) ⊎ (a ≢ b)
same_or_not a b = step (bytes_eq a b) refl
  where
    step : (t : Bool) → bytes_eq a b ≡ t → (a ≡ b) ⊎ (a ≢ b)
    step true is = inl ((bytes_eq-Decides a b).0 is)
    step false is = inr (λ e. false≢true (sym is ∙ (bytes_eq-Decides a b).1 e))

-- ---- pads

one_bit : (a b p : ℕ) → a < 2 → b < 2 → (a + p) % 2 ≡ (b + p) % 2 → a ≡ b
one_bit a b p h k e = omega arith

one_byte : (x y pad : ℕ) → bit_xor x pad ≡ bit_xor y pad → x ≡ y
one_byte x y pad e = same_from_bits x y (λ i.
    one_bit (bit_at x i) (bit_at y i) (bit_at pad i) (bit_at-lt x i) (bit_at-lt y i)
    (sym (bit_at_xor x pad i) ∙ ap (λ (n : ℕ). bit_at n i) e ∙ bit_at_xor y pad i))

one_block : (a b : List ℕ) (pad : ℕ) → xor_each a pad ≡ xor_each b pad → a ≡ b
one_block [] [] pad e = refl
one_block [] (y ∷ ys) pad e = absurd cc
one_block (x ∷ xs) [] pad e = absurd cc
one_block (x ∷ xs) (y ∷ ys) pad e =
    let both = first_and_rest (bit_xor x pad) (bit_xor y pad) (xor_each xs pad) (xor_each ys pad) e
    in
    let first = one_byte x y pad both.0 in let later = one_block xs ys pad both.1 in cc

short_is : (key : List ℕ) → length key ≡ 32 → short_key key ≡ key
short_is key h = rw h refl

block_is : (key : List ℕ) → length key ≡ 32 → key_block key ≡ key ++ replicate 32 0
unfolding key_block
block_is key h =
    ap (λ (k : List ℕ). k ++ replicate (64 - length k) 0) (short_is key h)
    ∙ ap (λ (n : ℕ). key ++ replicate (64 - n) 0) h

length_pad : (key : List ℕ) (pad : ℕ) → length key ≡ 32 → length (xor_each (key_block key) pad) ≡ 64
length_pad key pad h =
    let zeros : length {A = ℕ} (replicate 32 0) ≡ 32 = refl in
    let whole : length (key ++ replicate 32 0) ≡ 64 =
    omega (arith, h, zeros, length-append key (replicate 32 0)) in
    length-map (key_block key) (λ x. bit_xor x pad)
    ∙ ap (λ (s : List ℕ). length s) (block_is key h) ∙ whole

one_key : (key other : List ℕ) (pad : ℕ) → length key ≡ 32 → length other ≡ 32
    → xor_each (key_block key) pad ≡ xor_each (key_block other) pad → key ≡ other
one_key key other pad h k e =
    (parted key other (replicate 32 0) (replicate 32 0) (h ∙ sym k)
    (sym (block_is key h) ∙ one_block (key_block key) (key_block other) pad e
    ∙ block_is other k)).0

-- ---- HMACs

inner_tells : (key text other another : List ℕ) → length key ≡ 32 → length other ≡ 32
    → sha256 (inner key text) ≡ sha256 (inner other another)
    → (inner key text ≡ inner other another) ⊎ (inner key text ≢ inner other another)
    → ((key ≡ other) × (text ≡ another)) ⊎ Collide key text other another
inner_tells key text other another h k e (inr d) =
    inr (inl (record { others = d; digest = e }))
inner_tells key text other another h k e (inl same) =
    let both = parted (xor_each (key_block key) 0x36) (xor_each (key_block other) 0x36) text another
    (length_pad key 0x36 h ∙ sym (length_pad other 0x36 k)) same in
    inl (one_key key other 0x36 h k both.0, both.1)

outer_tells : (key text other another : List ℕ) → length key ≡ 32 → length other ≡ 32
    → sha256 (outer key text) ≡ sha256 (outer other another)
    → (outer key text ≡ outer other another) ⊎ (outer key text ≢ outer other another)
    → ((key ≡ other) × (text ≡ another)) ⊎ Collide key text other another
outer_tells key text other another h k e (inr d) =
    inr (inr (record { others = d; digest = e }))
outer_tells key text other another h k e (inl same) =
    let both = parted (xor_each (key_block key) 0x5C) (xor_each (key_block other) 0x5C)
    (sha256 (inner key text)) (sha256 (inner other another))
    (length_pad key 0x5C h ∙ sym (length_pad other 0x5C k)) same in
    inner_tells key text other another h k both.1
    (same_or_not (inner key text) (inner other another))

pub macs_tell : MacsTell
unfolding hmac
macs_tell key text other another h k e =
    outer_tells key text other another h k e (same_or_not (outer key text) (outer other another))

-- ---- records

tags_tell : (c d : Channel) (n m : ℕ) (body another : List ℕ) → length c.key ≡ 32
    → length d.key ≡ 32 → tag c n body ≡ tag d m another
    → ((c.key ≡ d.key) × (tagged c n body ≡ tagged d m another))
    ⊎ Collide c.key (tagged c n body) d.key (tagged d m another)
unfolding tag
tags_tell c d n m body another h k e =
    macs_tell c.key (tagged c n body) d.key (tagged d m another) h k e

one_channel : (c d : Channel) → c.key ≡ d.key → c.direction ≡ d.direction → c ≡ d
one_channel c d h k =
    ap (λ (s : List ℕ). channel_of s c.direction) h
    ∙ ap (λ (way : Direction). channel_of d.key way) k

-- a record with the tag that belongs here is here, or two texts have one digest
elsewhere : (c d : Channel) (n m : ℕ) (body : List ℕ) (X : Type 0)
    → ((d.key ≡ c.key) × (tagged d m body ≡ tagged c n body)) ⊎ X
    → ((d.key ≡ c.key) × (tagged d m body ≡ tagged c n body) → ⊥) → X
elsewhere c d n m body X (inl same) no_place = absurd (no_place same)
elsewhere c d n m body X (inr collide) no_place = collide

stops : (c d : Channel) (front : List (List ℕ)) (m : ℕ) (body later : List ℕ) (X : Type 0)
    → (tag d m body ≡ tag c (length front) body) ⊎ (tag d m body ≢ tag c (length front) body)
    → (tag d m body ≡ tag c (length front) body → X) → (tag d m body ≢ tag c (length front) body
    → HandsOnFront c front (records c 0 front ++ (record_of d m body ++ later)))
    → HandsOnFront c front (records c 0 front ++ (record_of d m body ++ later)) ⊎ X
stops c d front m body later X (inl e) same other = inr (same e)
stops c d front m body later X (inr e) same other = inl (other e)

pub stops_unless : StopsUnlessTheyCollide
unfolding text_of
stops_unless c d front m body later each there here is =
    let n = length front in
    stops c d front m body later (Collide d.key (tagged d m body) c.key (tagged c n body))
    (same_or_not (tag d m body) (tag c n body)) (λ e.
    elsewhere c d n m body (Collide d.key (tagged d m body) c.key (tagged c n body))
    (tags_tell d c m n body body is.other_key is.key e) (λ same.
    let one = tells d.direction c.direction m n body body there here same.1 in
    is.elsewhere (one_channel d c same.0 one.same_way, one.same_number)))
    (λ e. at_other c front d m body later each there.sized e)

pub back_is : BackIsElsewhere
back_is key h = record {
  key = h;
  other_key = h;
  elsewhere =
      λ same. let way : ToClient ≡ ToServer = ap (λ (c : Channel). c.direction) same.0 in cc;
}

-- ---- keys

keys_tell_by : (key client server other its another : List ℕ) (X : Type 0)
    → ((key ≡ other) × (key_text client server ≡ key_text its another)) ⊎ X
    → (key_text client server ≡ key_text its another → (client ≡ its) × (server ≡ another))
    → AreOneConnection key client server other its another ⊎ X
keys_tell_by key client server other its another X (inl same) sides =
    let both = sides same.1 in
    inl (record { same_key = same.0; same_client = both.0; same_server = both.1 })
keys_tell_by key client server other its another X (inr collide) sides = inr collide

pub keys_tell : KeysTell
unfolding key_of key_text
keys_tell key client server other its another h k one two e =
    keys_tell_by key client server other its another
    (Collide key (key_text client server) other (key_text its another))
    (macs_tell key (key_text client server) other (key_text its another) h k e)
    (tells_sides client server its another one two)
