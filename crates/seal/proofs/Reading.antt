-- What an opener has read, one piece after the other.
use Rattle.std.proofs.Common.{◌≡◌, ℕ, suc, ◌+◌, ◌<◌, ◌≤◌, List, [], ◌∷◌, ◌++◌, length, Option, Some}
use Rattle.std.proofs.Common.{None, refl, sym, ap, subst, ◌∙◌, append_assoc, arith, inl}
use Rattle.std.proofs.lemmas.{List.length-append, List.append-nil, Grind.flat_map-append}
use Rattle.seal.specs.declared.{channel.Channel.Channel, fault.StreamFault.StreamFault}
use Rattle.seal.specs.Records.{IsBody, AreBodies, record_of, records}
use Rattle.seal.specs.Streams.{Waits, Ends, joined, Opens, HandsOn, HandsOnOnly, Opening, held_of}
use Rattle.seal.specs.Streams.{Reads}
use Rattle.seal.proofs.Ending.{not_begun, ends_more, held_none, one_end, one_reading}

pub records-append : (c : Channel) (n : ℕ) (xs ys : List (List ℕ))
    → records c n (xs ++ ys) ≡ records c n xs ++ records c (n + length xs) ys
records-append c n [] ys =
    let zero : n ≡ n + length {A = List ℕ} [] = omega arith in
    ap (λ (m : ℕ). records c m ys) zero
records-append c n (x ∷ xs) ys =
    let next : suc n + length xs ≡ n + length (x ∷ xs) = omega arith in
    ap (λ (s : List ℕ). record_of c n x ++ s)
    (records-append c (suc n) xs ys
    ∙ ap (λ (m : ℕ). records c (suc n) xs ++ records c m ys) next)
    ∙ sym (append_assoc (record_of c n x) (records c (suc n) xs)
    (records c (n + length (x ∷ xs)) ys))

pub bodies-append : (n : ℕ) (xs ys : List (List ℕ)) → AreBodies n xs
    → AreBodies (n + length xs) ys → AreBodies n (xs ++ ys)
bodies-append n [] ys a b =
    let zero : n + length {A = List ℕ} [] ≡ n = omega arith in
    subst (λ (m : ℕ). AreBodies m ys) zero b
bodies-append n (x ∷ xs) ys a b =
    let next : n + length (x ∷ xs) ≡ suc n + length xs = omega arith in
    (a.0, bodies-append (suc n) xs ys a.1 (subst (λ (m : ℕ). AreBodies m ys) next b))

-- one more piece
pub reads_more : (c : Channel) (n : ℕ) (s x piece y : List ℕ) (old new : Opening)
    → Reads c n s x old
    → old.fault ≡ None → Reads old.channel old.number (old.held ++ piece) y new
    → Reads c n (s ++ piece) (x ++ y) new
reads_more c n s x piece y old new a none r0 =
    let m = n + length a.bodies in
    let held : old.held ≡ a.rest = a.held ∙ ap
    (λ (f : Option StreamFault). held_of f a.rest) none in
    let r1 = subst (λ (d : Channel). Reads d old.number (old.held ++ piece) y new)
    a.channel_kept r0 in
    let r2 = subst (λ (k : ℕ). Reads c k (old.held ++ piece) y new) a.counted r1 in
    let b = subst (λ (h : List ℕ). Reads c m (h ++ piece) y new) held r2 in
    let before = records c n a.bodies in
    let long : m + length b.bodies ≡ n + length (a.bodies ++ b.bodies) =
    omega (arith, length-append a.bodies b.bodies) in
    record {
      bodies = a.bodies ++ b.bodies;
      rest = b.rest;
      whole =
          ap (λ (t : List ℕ). t ++ piece) a.whole ∙ append_assoc before a.rest piece
          ∙ ap (λ (t : List ℕ). before ++ t) b.whole
          ∙ sym (append_assoc before (records c m b.bodies) b.rest)
          ∙ ap (λ (t : List ℕ). t ++ b.rest) (sym (records-append c n a.bodies b.bodies));
      each = bodies-append n a.bodies b.bodies a.each b.each;
      gives =
          ap (λ (t : List ℕ). t ++ y) a.gives ∙ ap (λ (t : List ℕ). joined a.bodies ++ t) b.gives
          ∙ sym (flat_map-append (λ (body : List ℕ). body) a.bodies b.bodies);
      channel_kept = b.channel_kept;
      counted = b.counted ∙ long;
      ends = subst (λ (k : ℕ). Ends c k new.fault b.rest) long b.ends;
      held = b.held;
    }

-- a piece after a fault
pub reads_after : (c : Channel) (n : ℕ) (s x piece : List ℕ) (old : Opening) → Reads c n s x old
    → ¬ (old.fault ≡ None) → Reads c n (s ++ piece) x old
reads_after c n s x piece old a broken =
    record {
      bodies = a.bodies;
      rest = a.rest ++ piece;
      whole =
          ap (λ (t : List ℕ). t ++ piece) a.whole
          ∙ append_assoc (records c n a.bodies) a.rest piece;
      each = a.each;
      gives = a.gives;
      channel_kept = a.channel_kept;
      counted = a.counted;
      ends = ends_more c (n + length a.bodies) old.fault a.rest piece broken a.ends;
      held = a.held ∙ held_none old.fault a.rest (a.rest ++ piece) broken;
    }

-- nothing is whole, or no record: what came is the rest
pub reads_none : (c : Channel) (n : ℕ) (bytes : List ℕ) (new : Opening) → new.channel ≡ c
    → new.number ≡ n → Ends c n new.fault bytes → new.held ≡ held_of new.fault bytes
    → Reads c n bytes [] new
reads_none c n bytes new kept counted ends held =
    let zero : n ≡ n + length {A = List ℕ} [] = omega arith in
    record {
      bodies = [];
      rest = bytes;
      whole = refl;
      each = tt;
      gives = refl;
      channel_kept = kept;
      counted = counted ∙ zero;
      ends = subst (λ (k : ℕ). Ends c k new.fault bytes) zero ends;
      held = held;
    }

waits_none : (c : Channel) (n : ℕ) (f : Option StreamFault) → f ≡ None → Ends c n f []
waits_none c n f e = subst (λ (g : Option StreamFault). Ends c n g []) (sym e) (inl (omega arith))

held_nothing : (f : Option StreamFault) → [] ≡ held_of f []
held_nothing None = refl
held_nothing (Some e) = refl

-- what came is one record
pub reads_one : (c : Channel) (n : ℕ) (bytes body : List ℕ) (new : Opening) → IsBody n body
    → bytes ≡ record_of c n body → new.channel ≡ c → new.number ≡ n + 1 → new.fault ≡ None
    → new.held ≡ [] → Reads c n bytes body new
reads_one c n bytes body new good is kept counted none held =
    record {
      bodies = body ∷ [];
      rest = [];
      whole =
          is ∙ sym (append-nil (record_of c n body))
          ∙ sym (append-nil (record_of c n body ++ []));
      each = (good, tt);
      gives = sym (append-nil body);
      channel_kept = kept;
      counted = counted;
      ends = waits_none c (n + length (body ∷ [])) new.fault none;
      held = held ∙ held_nothing new.fault;
    }

-- all of the stream was read
pub reads_all : (c : Channel) (s x : List ℕ) (o : Opening) (f : Option StreamFault)
    → Reads c 0 s x o → f ≡ o.fault → HandsOn c s x f
reads_all c s x o f r e =
    let zero : 0 + length r.bodies ≡ length r.bodies = omega arith in
    let ends = subst (λ (k : ℕ). Ends c k o.fault r.rest) zero r.ends in
    let end = subst (λ (g : Option StreamFault). Ends c (length r.bodies) g r.rest) (sym e) ends in (
      r.bodies,
      record { rest = r.rest; whole = r.whole; each = r.each; ends = end },
      r.gives,
    )

pub from_zero : (c : Channel) (n : ℕ) (f : Option StreamFault) (rest : List ℕ) → Ends c n f rest
    → Ends c (0 + n) f rest
from_zero c n f rest ends = let zero : n ≡ 0 + n = omega arith in
    subst (λ (k : ℕ). Ends c k f rest) zero ends

-- and it can be read in no other way
pub reads_only : (c : Channel) (s x : List ℕ) (f : Option StreamFault) → HandsOn c s x f
    → HandsOnOnly c s x f
reads_only c s x f a y g b =
    let p = from_zero c (length a.0) f a.1.rest a.1.ends in
    let q = from_zero c (length b.0) g b.1.rest b.1.ends in
    let one = one_reading c 0 a.0 b.0 a.1.rest b.1.rest a.1.each b.1.each
    (not_begun c (0 + length a.0) f a.1.rest p) (not_begun c (0 + length b.0) g b.1.rest q)
    (sym a.1.whole ∙ b.1.whole) in
    let moved = subst (λ (zs : List (List ℕ)). Ends c (length zs) g b.1.rest)
    (sym one.0) b.1.ends in
    let here = subst (λ (t : List ℕ). Ends c (length a.0) g t) (sym one.1) moved in (
      a.2 ∙ ap (λ (zs : List (List ℕ)). joined zs) one.0 ∙ sym b.2,
      one_end c (length a.0) f g a.1.rest a.1.ends here,
    )
