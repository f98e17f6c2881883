-- The fields of a Standing: what is read is spelled so and in its ranges, and what is spelled so is
-- read.
use Rattle.std.proofs.Common.{◌≡◌, ℕ, zero, suc, ◌+◌, ◌*◌, ◌^◌, ◌<◌, ◌≤◌, Bool, true, false, cond}
use Rattle.std.proofs.Common.{eqb, leb, ◌&&◌, List, [], ◌∷◌, ◌++◌, length, get_or, take, Option}
use Rattle.std.proofs.Common.{Some, None, refl, sym, ap, subst, ◌∙◌, append_assoc, arith}
use Rattle.std.specs.{Int.w32, List.flat_map}
use Rattle.std.proofs.lemmas.{Bool.eqb-true, Bool.leb-true, List.length-append}
use Rattle.acceptor.specs.declared.ballot.Ballot.{Ballot}
use Rattle.wire.specs.declared.standing.{Difference.Difference, Lengths.Lengths}
use Rattle.wire.specs.declared.standing.Difference.TheVariants.{OtherEntry, Shorter}
use Rattle.wire.specs.declared.standing.Lengths.TheVariants.{OfThree, OfFive}
use Rattle.wire.specs.declared.{standing.DeskStatus.DeskStatus, values.DeskRole.DeskRole}
use Rattle.wire.specs.declared.values.Version.{Version, TheVariants.Five}
use Rattle.wire.specs.Fields.{Read, ◌>>=◌, number_at, byte_at, two, many}
use Rattle.wire.specs.{Numbers.roles, Numbers.role_number, Ranges.IsDifference, Ranges.IsDiffering}
use Rattle.wire.specs.Ranges.{IsLogLength, IsPromised, AreLengths, IsStanding, IsDesk, IsPosition}
use Rattle.wire.specs.Reading.{between, is_ballot, log_length_at, promised_at, three_at, five_at}
use Rattle.wire.specs.Reading.{lengths_at, member_at, position_at, desk_at, difference_at}
use Rattle.wire.{specs.Reading.differs_at, proofs.Runs.put_one_more}
use Rattle.wire.specs.Spelling.{ballot_bytes, promised_bytes, lengths_of, lengths_bytes}
use Rattle.wire.specs.Spelling.{standing_bytes, difference_bytes, differs_bytes}
use Rattle.wire.proofs.Taking.{IsBytes, bind_some, passed, some_is, Takes, Takes-then, byte_takes}
use Rattle.wire.proofs.FieldLaws.{and_true, between_is, between_holds, a_ballot, u32, any_field}
use Rattle.wire.proofs.FieldLaws.{log_length_field, byte_field, position_field}
use Rattle.wire.proofs.Sequences.{IsField, two_fields, narrowed, alone, tagged, AreMany, many_field}
use Rattle.wire.proofs.Bodies.{role_field}

-- ---- the promised ballot

-- a number and a desk were read
promised_made : (round desk : ℕ) (bytes rest : List ℕ) (x : Option Ballot × List ℕ)
    → Takes bytes (u32 round ++ desk ∷ []) rest → round < 2 ^ 32
    → cond (eqb round 0 && eqb desk 0) (Some (None, rest))
    (cond (is_ballot round desk) (Some (Some (record { number = round; desk = desk }), rest)) None)
    ≡ Some x → Takes bytes (promised_bytes x.0) x.1 × IsPromised x.0
promised_made round desk bytes rest x t small e = go (eqb round 0 && eqb desk 0) refl e where
  go : (b : Bool) → (eqb round 0 && eqb desk 0) ≡ b → cond b (Some (None, rest))
      (cond (is_ballot round desk) (Some (Some (record { number = round; desk = desk }), rest))
      None) ≡ Some x → Takes bytes (promised_bytes x.0) x.1 × IsPromised x.0
  go true is h =
      let z = and_true (eqb round 0) (eqb desk 0) is in
      let nothing : Option Ballot × List ℕ = (None, rest) in
      let first : Takes bytes (u32 0 ++ desk ∷ []) rest =
      subst (λ (r : ℕ). Takes bytes (u32 r ++ desk ∷ []) rest) (eqb-true _ _ z.0) t in
      let both : Takes bytes (u32 0 ++ 0 ∷ []) rest =
      subst (λ (d : ℕ). Takes bytes (u32 0 ++ d ∷ []) rest) (eqb-true _ _ z.1) first in
      subst (λ (y : Option Ballot × List ℕ). Takes bytes (promised_bytes y.0) y.1 × IsPromised y.0)
      (some_is nothing x h) (both, tt)
  go false is h =
      let ballot : Option Ballot × List ℕ = (Some (record { number = round; desk = desk }), rest) in
      let c = passed (is_ballot round desk) ballot x h in
      let k = and_true (leb 1 round) (between 1 5 desk) c.0 in
      subst (λ (y : Option Ballot × List ℕ). Takes bytes (promised_bytes y.0) y.1 × IsPromised y.0)
      c.1 (t, (leb-true _ _ k.0, small, between_is 1 5 desk k.1))

promised_takes : (bytes : List ℕ) (x : Option Ballot × List ℕ) → IsBytes bytes
    → promised_at bytes ≡ Some x → Takes bytes (promised_bytes x.0) x.1 × IsPromised x.0
unfolding promised_at
promised_takes bytes x fits e =
    let a = bind_some (number_at w32 bytes) _ x e in
    let b = bind_some (byte_at a.0.1) _ x a.2 in
    let t0 = any_field.takes bytes a.0 fits a.1 in
    let t1 = byte_takes a.0.1 b.0 t0.0.are_bytes b.1 in
    let t = Takes-then bytes (u32 a.0.0) a.0.1 (b.0.0 ∷ []) b.0.1 t0.0 t1.0 in
    promised_made a.0.0 b.0.0 bytes b.0.1 x t t0.1 b.2

not_zero : (n : ℕ) → 1 ≤ n → eqb n 0 ≡ false
not_zero n some = go (eqb n 0) refl where
  go : (b : Bool) → eqb n 0 ≡ b → b ≡ false
  go true e = absurd (omega (arith, some, eqb-true _ _ e))
  go false e = refl

not_both : (a b : Bool) → a ≡ false → (a && b) ≡ false
not_both true b e = absurd cc
not_both false b e = refl

promised_again : (x : Option Ballot) (rest : List ℕ) → IsPromised x
    → promised_at (promised_bytes x ++ rest) ≡ Some (x, rest)
unfolding promised_at byte_at
promised_again None rest fits =
    let zeros : promised_bytes None ++ rest ≡ u32 0 ++ (0 ∷ rest) = refl in
    ap promised_at zeros ∙ rw (any_field.again 0 (0 ∷ rest) (omega arith)) refl
promised_again (Some b) rest fits =
    let regrouped : ballot_bytes b ++ rest ≡ u32 b.number ++ (b.desk ∷ rest) =
    append_assoc (u32 b.number) (b.desk ∷ []) rest in
    let real : (eqb b.number 0 && eqb b.desk 0) ≡ false =
    not_both (eqb b.number 0) (eqb b.desk 0) (not_zero b.number fits.0) in
    ap promised_at regrouped
    ∙ rw (any_field.again b.number (b.desk ∷ rest) fits.1, real, a_ballot b fits) refl

promised_field : IsField promised_bytes IsPromised promised_at
promised_field = record { takes = promised_takes; again = promised_again }

-- ---- the lengths of the hall's logs

numbers_field : (n : ℕ) → IsField (flat_map u32) (AreMany IsLogLength n) (many log_length_at n)
numbers_field n = many_field log_length_field n

-- a byte for the number of desks, and this many lengths
counted : (desks n : ℕ) (bytes rest more ns : List ℕ) → Takes bytes (desks ∷ []) rest
    → Takes rest (flat_map u32 ns) more → desks ≡ n → length ns ≡ n
    → Takes bytes (length ns ∷ flat_map u32 ns) more
counted desks n bytes rest more ns t u is so_many =
    subst (λ (d : ℕ). Takes bytes (d ∷ flat_map u32 ns) more) (is ∙ sym so_many)
    (Takes-then bytes (desks ∷ []) rest (flat_map u32 ns) more t u)

abbrev Told : List ℕ → Lengths × List ℕ → Type 0
Told bytes x = Takes bytes (lengths_bytes x.0) x.1 × AreLengths x.0

told : (n : ℕ) (make : List ℕ → Lengths) → ((ns : List ℕ) → AreMany IsLogLength n ns
    → (ns ≡ lengths_of (make ns)) × AreLengths (make ns))
    → (desks : ℕ) (bytes rest : List ℕ) (x : Lengths × List ℕ) → Takes bytes (desks ∷ []) rest
    → desks ≡ n → (many log_length_at n rest >>= λ y. Some (make y.0, y.1)) ≡ Some x → Told bytes x
told n make holds desks bytes rest x t is e =
    let c = bind_some (many log_length_at n rest) (λ y. Some (make y.0, y.1)) x e in
    let u = (numbers_field n).takes rest c.0 t.are_bytes c.1 in
    let h = holds c.0.0 u.1 in
    let made : Lengths × List ℕ = (make c.0.0, c.0.1) in
    subst (λ (y : Lengths × List ℕ). Told bytes y) (some_is made x c.2) (
      subst (λ (ns : List ℕ). Takes bytes (length ns ∷ flat_map u32 ns) c.0.1) h.0
          (counted desks n bytes rest c.0.1 c.0.0 t u.0 is u.1.0),
      h.1,
    )

five_picked : (desks : ℕ) (bytes rest : List ℕ) (x : Lengths × List ℕ)
    → Takes bytes (desks ∷ []) rest → (b : Bool) → eqb desks 5 ≡ b
    → cond b (five_at rest) None ≡ Some x → Told bytes x
five_picked desks bytes rest x t true is e =
    told 5 (λ ns. OfFive ns) (λ ns h. (refl, h)) desks bytes rest x t (eqb-true _ _ is) e
five_picked desks bytes rest x t false is e = absurd cc

picked : (desks : ℕ) (bytes rest : List ℕ) (x : Lengths × List ℕ)
    → Takes bytes (desks ∷ []) rest → (b : Bool) → eqb desks 3 ≡ b
    → cond b (three_at rest) (cond (eqb desks 5) (five_at rest) None) ≡ Some x → Told bytes x
picked desks bytes rest x t true is e =
    told 3 (λ ns. OfThree ns) (λ ns h. (refl, h)) desks bytes rest x t (eqb-true _ _ is) e
picked desks bytes rest x t false is e =
    five_picked desks bytes rest x t (eqb desks 5) refl e

lengths_takes : (bytes : List ℕ) (x : Lengths × List ℕ) → IsBytes bytes
    → lengths_at bytes ≡ Some x → Told bytes x
unfolding lengths_at
lengths_takes bytes x fits e =
    let a = bind_some (byte_at bytes) _ x e in
    let t = byte_takes bytes a.0 fits a.1 in
    picked a.0.0 bytes a.0.1 x t.0 (eqb a.0.0 3) refl a.2

lengths_again : (x : Lengths) (rest : List ℕ) → AreLengths x
    → lengths_at (lengths_bytes x ++ rest) ≡ Some (x, rest)
unfolding lengths_at byte_at
lengths_again (OfThree ns) rest fits = rw (fits.0, (numbers_field 3).again ns rest fits) refl
lengths_again (OfFive ns) rest fits = rw (fits.0, (numbers_field 5).again ns rest fits) refl

lengths_field : IsField lengths_bytes AreLengths lengths_at
lengths_field = record { takes = lengths_takes; again = lengths_again }

-- ---- how a desk differs

desk_field : IsField (λ (b : ℕ). b ∷ []) IsDesk desk_at
unfolding desk_at
desk_field = narrowed byte_field (λ n. between 1 5 n) IsDesk (λ n lt is. between_is 1 5 n is)
    (λ n fits. (omega (arith, fits.1), between_holds 1 5 n fits.0 fits.1))

place_field : IsField (λ (p : ℕ × ℕ). (p.0 ∷ []) ++ u32 p.1)
    (λ (p : ℕ × ℕ). IsDesk p.0 × IsPosition p.1) (two desk_at position_at)
place_field = two_fields desk_field position_field

difference_takes : (bytes : List ℕ) (x : Option Difference × List ℕ) → IsBytes bytes
    → difference_at bytes ≡ Some x → Takes bytes (difference_bytes x.0) x.1 × IsDifference x.0
unfolding difference_at
difference_takes [] x fits e = absurd cc
difference_takes (zero ∷ rest) x fits e =
    alone difference_bytes IsDifference None 0 rest x refl tt fits e
difference_takes (suc zero ∷ rest) x fits e =
    tagged place_field (λ p. Some (OtherEntry p.0 p.1)) difference_bytes IsDifference 1
    (λ p h. (refl, h)) rest x fits e
difference_takes (suc (suc zero) ∷ rest) x fits e =
    tagged place_field (λ p. Some (Shorter p.0 p.1)) difference_bytes IsDifference 2
    (λ p h. (refl, h)) rest x fits e
difference_takes (suc (suc (suc k)) ∷ rest) x fits e = absurd cc

difference_again : (x : Option Difference) (rest : List ℕ) → IsDifference x
    → difference_at (difference_bytes x ++ rest) ≡ Some (x, rest)
unfolding difference_at
difference_again None rest fits = refl
difference_again (Some (OtherEntry desk position)) rest fits =
    rw (place_field.again (desk, position) rest fits) refl
difference_again (Some (Shorter desk len)) rest fits =
    rw (place_field.again (desk, len) rest fits) refl

-- which the versions before 5 do not say
unsaid : (bytes : List ℕ) (x : Option Difference × List ℕ) → IsBytes bytes
    → Some (None, bytes) ≡ Some x → Takes bytes [] x.1 × (x.0 ≡ None)
unsaid bytes x fits e =
    subst (λ (y : Option Difference × List ℕ). Takes bytes [] y.1 × (y.0 ≡ None))
    (some_is (None, bytes) x e) (record { parts = refl; are_bytes = fits }, refl)

differs_takes : (v : Version) (bytes : List ℕ) (x : Option Difference × List ℕ) → IsBytes bytes
    → differs_at v bytes ≡ Some x → Takes bytes (differs_bytes v x.0) x.1 × IsDiffering v x.0
unfolding differs_at
differs_takes Five bytes x fits e = difference_takes bytes x fits e
differs_takes _ bytes x fits e = unsaid bytes x fits e

differs_again : (v : Version) (x : Option Difference) (rest : List ℕ) → IsDiffering v x
    → differs_at v (differs_bytes v x ++ rest) ≡ Some (x, rest)
unfolding differs_at
differs_again Five x rest fits = difference_again x rest fits
differs_again _ x rest fits = ap (λ (y : Option Difference). Some (y, rest)) (sym fits)

differs_field : (v : Version) → IsField (differs_bytes v) (IsDiffering v) (differs_at v)
differs_field v = record { takes = differs_takes v; again = differs_again v }

-- ---- all of them

abbrev role_byte : DeskRole → List ℕ
role_byte role = role_number role ∷ []

abbrev role_at : List ℕ → Read DeskRole
role_at bytes = member_at role_number roles bytes

abbrev one : ℕ → List ℕ
one b = b ∷ []

-- the fields of a Standing, one after the other
abbrev pub Parts : Type 0
Parts = ℕ × (ℕ × (DeskRole × (Option Ballot × (Lengths × Option Difference))))

abbrev pub standing_from : Parts → DeskStatus
standing_from p = record {
  length = p.0;
  waiting = p.1.0;
  role = p.1.1.0;
  promised = p.1.1.1.0;
  told = p.1.1.1.1.0;
  differs = p.1.1.1.1.1;
}

pub parts_field : (v : Version) → IsField (λ (p : Parts). u32 p.0 ++ (one p.1.0 ++
    (role_byte p.1.1.0 ++ (promised_bytes p.1.1.1.0 ++
    (lengths_bytes p.1.1.1.1.0 ++ differs_bytes v p.1.1.1.1.1)))))
    (λ (p : Parts). IsLogLength p.0 × ((p.1.0 < 256) × (Unit {0} × (IsPromised p.1.1.1.0
    × (AreLengths p.1.1.1.1.0 × IsDiffering v p.1.1.1.1.1))))) (two log_length_at
    (two byte_at (two role_at (two promised_at (two lengths_at (differs_at v))))))
parts_field v =
    two_fields log_length_field (two_fields byte_field (two_fields role_field
    (two_fields promised_field (two_fields lengths_field (differs_field v)))))

-- ---- lengths

promised_short : (x : Option Ballot) → length (promised_bytes x) ≤ 5
promised_short None = omega arith
promised_short (Some b) = omega arith

numbers_length : (ns : List ℕ) → length (flat_map u32 ns) ≡ 4 * length ns
numbers_length [] = refl
numbers_length (n ∷ ns) =
    omega (arith, length-append (u32 n) (flat_map u32 ns), numbers_length ns)

lengths_short : (x : Lengths) → AreLengths x → length (lengths_bytes x) ≤ 21
lengths_short (OfThree ns) fits = omega (arith, numbers_length ns, fits.0)
lengths_short (OfFive ns) fits = omega (arith, numbers_length ns, fits.0)

difference_short : (x : Option Difference) → length (difference_bytes x) ≤ 6
difference_short None = omega arith
difference_short (Some (OtherEntry desk position)) = omega arith
difference_short (Some (Shorter desk len)) = omega arith

differs_short : (v : Version) (x : Option Difference) → length (differs_bytes v x) ≤ 6
differs_short Five x = difference_short x
differs_short _ x = omega arith

pub standing_short : (v : Version) (s : DeskStatus) → IsStanding v s
    → length (standing_bytes v s) ≤ 299992
standing_short v s fits =
    omega (
      arith,
      promised_short s.promised,
      lengths_short s.told fits.told,
      differs_short v s.differs,
      length-append (promised_bytes s.promised ++ lengths_bytes s.told)
          (differs_bytes v s.differs),
      length-append (promised_bytes s.promised) (lengths_bytes s.told),
    )

-- how a desk is, with the fields one in the other as they are read
abbrev pub nested_bytes : Version → DeskStatus → List ℕ
nested_bytes v s =
    u32 s.length
    ++ (one s.waiting
    ++ (role_byte s.role
    ++ (promised_bytes s.promised ++ (lengths_bytes s.told ++ differs_bytes v s.differs))))

pub joined_bytes : (v : Version) (s : DeskStatus) → nested_bytes v s ≡ standing_bytes v s
joined_bytes v s =
    ap (λ z. u32 s.length ++ (one s.waiting ++ (role_byte s.role ++ z)))
    (sym (append_assoc (promised_bytes s.promised) (lengths_bytes s.told)
    (differs_bytes v s.differs)))

-- ---- putting lengths, one after the other

-- one more was put
pub put_number_more : (ns : List ℕ) (i n : ℕ) (out : List ℕ) → i < length ns → n ≡ get_or ns i n
    → (out ++ flat_map u32 (take i ns)) ++ u32 n ≡ out ++ flat_map u32 (take (i + 1) ns)
put_number_more ns i n out lt is = put_one_more u32 ns i n out lt is
