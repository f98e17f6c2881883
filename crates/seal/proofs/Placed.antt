-- A whole record: its body is after its length, and its tag after its body.
use Rattle.std.proofs.Common.{◌≡◌, ℕ, ◌+◌, ◌-◌, ◌^◌, ◌<◌, ◌≤◌, List, [], ◌∷◌, ◌++◌, length, take}
use Rattle.std.proofs.Common.{drop, refl, sym, ap, subst, ◌∙◌, append_assoc, arith, get_or}
use Rattle.std.proofs.Common.{slice_range, zero, suc, inl, inr}
use Rattle.std.specs.Int.{w16, to_be_bytes, from_be_bytes}
use Rattle.std.proofs.lemmas.List.{length-append, take_at, drop_at, take-append-drop, drop-drop}
use Rattle.std.proofs.lemmas.List.{length-take, length-drop, append-nil, get_or-take}
use Rattle.std.proofs.lemmas.{List.nil_from_length, List.Folds.drop_split, Nat.be_bytes_2}
use Rattle.seal.specs.{declared.channel.Channel.Channel, model.Steps.IsBegun, model.Steps.IsRecord}
use Rattle.seal.specs.Records.{IsLength, IsBody, tag, record_of}
use Rattle.seal.specs.Streams.{length_at, IsWhole, BeginsRecord}
use Rattle.seal.proofs.Whole.{length-record, length-tag, begun_length, begun_whole}

-- the body and the tag of a record in their places
pub body_in : (c : Channel) (n : ℕ) (body : List ℕ)
    → slice_range (record_of c n body) 2 (length (record_of c n body) - 32) ≡ body
unfolding record_of
body_in c n body =
    let long = length-record c n body in
    let k : length (record_of c n body) - 32 - 2 ≡ length body = omega (arith, long) in
    ap (λ (m : ℕ). take m (drop 2 (record_of c n body))) k
    ∙ ap (λ (s : List ℕ). take (length body) s)
    (drop_at (to_be_bytes w16 (length body)) (body ++ tag c n body) 2 refl)
    ∙ take_at body (tag c n body) (length body) refl

pub tag_in : (c : Channel) (n : ℕ) (body : List ℕ)
    → drop (length (record_of c n body) - 32) (record_of c n body) ≡ tag c n body
unfolding record_of
tag_in c n body =
    let long = length-record c n body in
    let two : length (to_be_bytes w16 (length body)) ≡ 2 = refl in
    let front = length-append (to_be_bytes w16 (length body)) body in
    ap (λ (s : List ℕ). drop (length (record_of c n body) - 32) s)
    (sym (append_assoc (to_be_bytes w16 (length body)) body (tag c n body)))
    ∙ drop_at (to_be_bytes w16 (length body) ++ body) (tag c n body)
    (length (record_of c n body) - 32) (omega (arith, long, two, front))

-- the tag in its place is that of the body in its place
pub tag_there : (c : Channel) (n : ℕ) (bytes : List ℕ) → IsRecord c n bytes
    → drop (length bytes - 32) bytes ≡ tag c n (slice_range bytes 2 (length bytes - 32))
tag_there c n bytes is = let body = slice_range bytes 2 (length bytes - 32) in
    ap (λ (s : List ℕ). drop (length s - 32) s) is.sealed ∙ tag_in c n body

small_taken : (bytes : List ℕ) → ((i : ℕ) → get_or bytes i 0 < 256) → (i : ℕ)
    → get_or (take 2 bytes) i 0 < 256
small_taken [] small i = small i
small_taken (x ∷ []) small i = small i
small_taken (x ∷ y ∷ bytes) small zero = small 0
small_taken (x ∷ y ∷ bytes) small (suc zero) = small 1
small_taken (x ∷ y ∷ bytes) small (suc (suc i)) = omega arith

two_bytes : (bytes : List ℕ) → ((i : ℕ) → get_or bytes i 0 < 256) → 2 ≤ length bytes
    → to_be_bytes w16 (length_at bytes) ≡ take 2 bytes
two_bytes bytes small long =
    let two : length (take 2 bytes) ≡ 2 = omega (arith, length-take 2 bytes) in
    be_bytes_2 (take 2 bytes) (length_at bytes) two (small_taken bytes small) refl

-- bytes with the tag of their body in its place are a record
pub record_made : (c : Channel) (n : ℕ) (bytes : List ℕ) → ((i : ℕ) → get_or bytes i 0 < 256)
    → IsWhole bytes → length bytes ≡ length_at bytes + 34 → n < 2 ^ 64 - 1
    → tag c n (slice_range bytes 2 (length bytes - 32)) ≡ drop (length bytes - 32) bytes
    → IsRecord c n bytes
unfolding record_of
record_made c n bytes small whole exact low fits =
    let end = length bytes - 32 in let body = slice_range bytes 2 end in
    let long : length body ≡ length_at bytes =
    omega (arith, exact, length-take (end - 2) (drop 2 bytes), length-drop 2 bytes) in
    let there : 2 ≤ length bytes = omega (arith, exact) in
    let order : 2 ≤ end = omega (arith, exact) in
    let parts : bytes ≡ take 2 bytes ++ (body ++ drop end bytes) =
    sym (take-append-drop 2 bytes)
    ∙ ap (λ (s : List ℕ). take 2 bytes ++ s) (drop_split bytes 2 end order) in
    let counted : to_be_bytes w16 (length body) ≡ take 2 bytes =
    ap (λ (m : ℕ). to_be_bytes w16 m) long ∙ two_bytes bytes small there in
    let sealed : bytes ≡ to_be_bytes w16 (length body) ++ (body ++ tag c n body) =
    parts ∙ ap (λ (s : List ℕ). s ++ (body ++ drop end bytes)) (sym counted)
    ∙ ap (λ (s : List ℕ). to_be_bytes w16 (length body) ++ (body ++ s)) (sym fits) in
    let good : IsLength (length body) =
    subst (λ (m : ℕ). IsLength m) (sym long) whole.counted in
    record { whole = omega (arith, exact); good = (good, low); sealed = sealed }

record_itself : (c : Channel) (n : ℕ) (body : List ℕ) → IsBody n body
    → IsRecord c n (record_of c n body)
record_itself c n body good =
    let e = body_in c n body in
    let long = length-record c n body in
    record {
      whole = omega (arith, long);
      good = subst (λ (s : List ℕ). IsBody n s) (sym e) good;
      sealed = ap (λ (s : List ℕ). record_of c n s) (sym e);
    }

-- a record at the front of bytes that go no further is all of them
pub record_here : (c : Channel) (n : ℕ) (bytes : List ℕ) → length bytes ≡ length_at bytes + 34
    → BeginsRecord c n bytes → IsRecord c n bytes
record_here c n bytes exact begun =
    let body = begun.0 in
    let long = begun_length c n bytes begun in
    let whole = begun_whole c n bytes begun in
    let none : begun.1 ≡ [] = nil_from_length begun.1 (omega (arith, exact, long, whole)) in
    let is : bytes ≡ record_of c n body =
    begun.3 ∙ ap (λ (s : List ℕ). record_of c n body ++ s) none ∙ append-nil (record_of c n body) in
    let P : List ℕ → Type 0 = λ s. IsRecord c n s in
    subst P (sym is) (record_itself c n body begun.2)

-- bytes that go no further than a record, and have all of it
pub front_exact : (bytes : List ℕ) → IsBegun bytes → length_at bytes + 34 ≤ length bytes
    → IsWhole bytes × (length bytes ≡ length_at bytes + 34)
front_exact bytes (inl h) long = absurd (omega arith)
front_exact bytes (inr h) long =
    (record { counted = h.0; there = long }, omega (arith, h.1))
