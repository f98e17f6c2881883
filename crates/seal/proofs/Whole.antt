-- Records as bytes: their length, their first two bytes, and that none begins another.
use Rattle.std.proofs.Common.{◌≡◌, ℕ, suc, ◌+◌, ◌-◌, ◌^◌, ◌<◌, ◌≤◌, List, [], ◌∷◌, ◌++◌, length}
use Rattle.std.proofs.Common.{take, drop, refl, sym, ap, subst, ◌∙◌, append_assoc, arith}
use Rattle.std.specs.Int.{w16, to_be_bytes, from_be_bytes}
use Rattle.std.proofs.lemmas.List.{length-append, take_at, append_cancel_left, take-append-le}
use Rattle.std.proofs.lemmas.Nat.{from_be_bytes-to_be_bytes_2}
use Rattle.sha2.{proofs.Facts256.length-sha256, specs.Sha256.sha256}
use Rattle.seal.specs.{declared.channel.Channel.Channel, Streams.length_at, Streams.BeginsRecord}
use Rattle.seal.specs.Hmac.{hmac, key_block, xor_each}
use Rattle.seal.specs.Records.{IsLength, IsBody, tag, tagged, record_of}

pub length-hmac : (key text : List ℕ) → length (hmac key text) ≡ 32
unfolding hmac
length-hmac key text = length-sha256 _

pub length-tag : (c : Channel) (n : ℕ) (body : List ℕ) → length (tag c n body) ≡ 32
unfolding tag
length-tag c n body = length-hmac c.key (tagged c n body)

pub length-record : (c : Channel) (n : ℕ) (body : List ℕ)
    → length (record_of c n body) ≡ length body + 34
unfolding record_of
length-record c n body =
    let t = length-tag c n body in
    let a = length-append body (tag c n body) in
    let b = length-append (to_be_bytes w16 (length body)) (body ++ tag c n body) in
    let two : length (to_be_bytes w16 (length body)) ≡ 2 = refl in omega (arith, t, a, b, two)

-- equal lists that begin with parts of one length
pub parted : (a b x y : List ℕ) → length a ≡ length b → a ++ x ≡ b ++ y → (a ≡ b) × (x ≡ y)
parted a b x y l e =
    let front : a ≡ b = sym (take_at a x (length a) refl) ∙ ap (λ (s : List ℕ). take (length a) s) e
    ∙ take_at b y (length a) (sym l) in
    (front, append_cancel_left a x y (e ∙ ap (λ (s : List ℕ). s ++ y) (sym front)))

pub length_at-record : (c : Channel) (n : ℕ) (body more : List ℕ) → length body < 2 ^ 16
    → length_at (record_of c n body ++ more) ≡ length body
unfolding record_of
length_at-record c n body more h =
    ap (λ (s : List ℕ). from_be_bytes w16 s)
    (ap (λ (s : List ℕ). take 2 s)
    (append_assoc (to_be_bytes w16 (length body)) (body ++ tag c n body) more)
    ∙ take_at (to_be_bytes w16 (length body)) ((body ++ tag c n body) ++ more) 2 refl)
    ∙ from_be_bytes-to_be_bytes_2 (length body) h

pub short : (n : ℕ) (body : List ℕ) → IsBody n body → length body < 2 ^ 16
short n body h = omega (arith, h.0.1)

-- a record that begins another has its body and its tag
pub same_parts : (c d : Channel) (n m : ℕ) (a b x y : List ℕ) → length a < 2 ^ 16
    → length b < 2 ^ 16 → record_of c n a ++ x ≡ record_of d m b ++ y
    → (a ≡ b) × (tag c n a ≡ tag d m b) × (x ≡ y)
unfolding record_of
same_parts c d n m a b x y g h e =
    let same : length a ≡ length b = sym (length_at-record c n a x g)
    ∙ ap (λ (s : List ℕ). length_at s) e ∙ length_at-record d m b y h in
    let e1 : to_be_bytes w16 (length a) ++ ((a ++ tag c n a) ++ x)
    ≡ to_be_bytes w16 (length b) ++ ((b ++ tag d m b) ++ y) =
    sym (append_assoc (to_be_bytes w16 (length a)) (a ++ tag c n a) x) ∙ e
    ∙ append_assoc (to_be_bytes w16 (length b)) (b ++ tag d m b) y in
    let e2 = (parted (to_be_bytes w16 (length a)) (to_be_bytes w16 (length b))
    ((a ++ tag c n a) ++ x) ((b ++ tag d m b) ++ y) refl e1).1 in
    let e3 = parted a b (tag c n a ++ x) (tag d m b ++ y) same
    (sym (append_assoc a (tag c n a) x) ∙ e2 ∙ append_assoc b (tag d m b) y) in
    let long : length (tag c n a) ≡ length (tag d m b) =
    length-tag c n a ∙ sym (length-tag d m b) in
    let e4 = parted (tag c n a) (tag d m b) x y long e3.1 in (e3.0, e4.0, e4.1)

-- no record begins another with the same number, but itself
pub one_record : (c : Channel) (n : ℕ) (a b x y : List ℕ) → IsBody n a → IsBody n b
    → record_of c n a ++ x ≡ record_of c n b ++ y → (a ≡ b) × (x ≡ y)
one_record c n a b x y g h e =
    let parts = same_parts c c n n a b x y (short n a g) (short n b h) e in (parts.0, parts.2)

-- where a record is at the front, its length and all its bytes are there
pub begun_length : (c : Channel) (n : ℕ) (bytes : List ℕ) → (begun : BeginsRecord c n bytes)
    → length_at bytes ≡ length begun.0
begun_length c n bytes begun = ap (λ (s : List ℕ). length_at s) begun.3
    ∙ length_at-record c n begun.0 begun.1 (short n begun.0 begun.2)

pub begun_whole : (c : Channel) (n : ℕ) (bytes : List ℕ) → (begun : BeginsRecord c n bytes)
    → length begun.0 + 34 + length begun.1 ≡ length bytes
begun_whole c n bytes begun =
    let a = length-record c n begun.0 in
    let b = length-append (record_of c n begun.0) begun.1 in
    let e = ap (λ (s : List ℕ). length s) begun.3 in omega (arith, a, b, e)

pub length_at-more : (bytes more : List ℕ) → 2 ≤ length bytes
    → length_at (bytes ++ more) ≡ length_at bytes
length_at-more bytes more h =
    ap (λ (s : List ℕ). from_be_bytes w16 s) (take-append-le 2 bytes more h)
