-- What the texts of tags and keys tell.
use Rattle.std.proofs.Common.{◌≡◌, ℕ, ◌^◌, ◌<◌, List, [], ◌∷◌, ◌++◌, length, codes, refl, sym, ap}
use Rattle.std.proofs.Common.{◌∙◌, arith}
use Rattle.std.specs.Int.{w16, w64, to_be_bytes, from_be_bytes}
use Rattle.std.proofs.lemmas.{List.append_cancel_left, Nat.from_be_bytes-to_be_bytes_8}
use Rattle.seal.{specs.declared.channel.Direction.Direction, proofs.Whole.parted}
use Rattle.seal.specs.declared.channel.Direction.TheVariants.{ToServer, ToClient}
use Rattle.seal.specs.Records.{direction_byte, tagged}
use Rattle.seal_laws.specs.{Tags.TellsRecords, Keys.TellsSides}

one_way : (way back : Direction) → direction_byte way ≡ direction_byte back → way ≡ back
one_way ToServer ToServer e = refl
one_way ToServer ToClient e = absurd (omega (arith, e))
one_way ToClient ToServer e = absurd (omega (arith, e))
one_way ToClient ToClient e = refl

-- lists that begin alike go on alike
pub first_and_rest : (a b : ℕ) (x y : List ℕ) → a ∷ x ≡ b ∷ y → (a ≡ b) × (x ≡ y)
first_and_rest a b x y e = (cc, cc)

one_number : (n m : ℕ) → n < 2 ^ 64 → m < 2 ^ 64 → to_be_bytes w64 n ≡ to_be_bytes w64 m → n ≡ m
one_number n m h k e =
    sym (from_be_bytes-to_be_bytes_8 n h) ∙ ap (λ (s : List ℕ). from_be_bytes w64 s) e
    ∙ from_be_bytes-to_be_bytes_8 m k

-- the text of a record's tag
unfoldable pub text_of : Direction → ℕ → List ℕ → List ℕ
text_of way number body = tagged (record { key = []; direction = way }) number body

pub tells : TellsRecords text_of
unfolding text_of
tells way back number other body another one two e =
    let first = first_and_rest (direction_byte way) (direction_byte back)
    (to_be_bytes w64 number ++ (to_be_bytes w16 (length body) ++ body))
    (to_be_bytes w64 other ++ (to_be_bytes w16 (length another) ++ another)) e in
    let counted = parted (to_be_bytes w64 number) (to_be_bytes w64 other)
    (to_be_bytes w16 (length body) ++ body) (to_be_bytes w16 (length another) ++ another) refl
    first.1 in
    let bodies = parted (to_be_bytes w16 (length body)) (to_be_bytes w16 (length another))
    body another refl counted.1 in
    record {
      same_way = one_way way back first.0;
      same_number = one_number number other one.counted two.counted counted.0;
      same_body = bodies.1;
    }

-- the text of a connection's key
unfoldable pub key_text : List ℕ → List ℕ → List ℕ
key_text client server = codes "DSK1 connection key" ++ (client ++ server)

pub tells_sides : TellsSides key_text
unfolding key_text
tells_sides client server other another one two e =
    parted client other server another (one.of_client ∙ sym two.of_client)
    (append_cancel_left (codes "DSK1 connection key") (client ++ server) (other ++ another) e)
