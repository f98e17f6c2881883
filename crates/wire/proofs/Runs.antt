-- The fields of a Decided: what is read is spelled so and in its ranges, and what is spelled so is
-- read.
use Rattle.std.proofs.Common.{◌≡◌, ℕ, ◌+◌, ◌*◌, ◌<◌, ◌≤◌, leb, List, [], ◌∷◌, ◌++◌, length}
use Rattle.std.proofs.Common.{get_or, take, Some, Result, Ok, Err, OnOk, refl, sym, ap, subst}
use Rattle.std.proofs.Common.{◌∙◌, append_assoc, arith}
use Rattle.std.{specs.List.flat_map, specs.List.AllByRecursion, proofs.lemmas.Bool.le-leb}
use Rattle.std.proofs.lemmas.{Bool.leb-true, List.length-append, List.take_more, List.flat_map_more}
use Rattle.acceptor.specs.declared.entry.Entry.{Entry}
use Rattle.wire.specs.declared.frame.FrameBody.{FrameBody, TheVariants.Decided}
use Rattle.wire.specs.declared.values.Version.{Version, TheVariants.One}
use Rattle.wire.specs.Ranges.{IsEntry, IsPosition, IsCount, AreDecided}
use Rattle.wire.specs.Reading.{between, told_count_at, count_at, entries_at, decided_of}
use Rattle.wire.specs.Spelling.{entry_bytes, count_bytes, decided_bytes}
use Rattle.wire.proofs.Taking.{IsBytes, bind_some, passed, some_is, Takes}
use Rattle.wire.proofs.FieldLaws.{between_is, between_holds}
use Rattle.wire.proofs.Sequences.{IsField, AreMany, narrowed, many_field, all_takes, all_again}
use Rattle.wire.proofs.FieldLaws.{u32, position_field, byte_field, entry_field}

-- ---- the count

told_field : IsField (λ (b : ℕ). b ∷ []) (λ (n : ℕ). (1 ≤ n) × (n ≤ 16)) told_count_at
told_field = narrowed byte_field (λ n. between 1 16 n) (λ (n : ℕ). (1 ≤ n) × (n ≤ 16))
    (λ n lt is. between_is 1 16 n is)
    (λ n fits. (omega (arith, fits.1), between_holds 1 16 n fits.0 fits.1))

count_takes : (v : Version) (bytes : List ℕ) (x : ℕ × List ℕ) → IsBytes bytes
    → count_at v bytes ≡ Some x → Takes bytes (count_bytes v x.0) x.1 × IsCount v x.0
unfolding count_at
count_takes One bytes x fits e =
    subst (λ (y : ℕ × List ℕ). Takes bytes (count_bytes One y.0) y.1 × IsCount One y.0)
    (some_is (1, bytes) x e) (record { parts = refl; are_bytes = fits }, refl)
count_takes _ bytes x fits e = told_field.takes bytes x fits e

count_again : (v : Version) (n : ℕ) (rest : List ℕ) → IsCount v n
    → count_at v (count_bytes v n ++ rest) ≡ Some (n, rest)
unfolding count_at
count_again One n rest fits = ap (λ (k : ℕ). Some (k, rest)) (sym fits)
count_again _ n rest fits = told_field.again n rest fits

-- this many entries, one after the other
pub entries_field : (n : ℕ) → IsField (flat_map entry_bytes) (AreMany IsEntry n) (entries_at n)
entries_field n = many_field entry_field n

-- ---- the whole

pub record IsRun (v : Version) (bytes : List ℕ) (w : FrameBody) : Type 0 where
  pub pos : ℕ
  pub entries : List Entry
  pub is : w ≡ Decided pos entries
  pub spelled : bytes ≡ decided_bytes v pos entries
  pub fits : AreDecided v pos entries

-- position, count and entries, in a row
joined : (v : Version) (pos n : ℕ) (bytes x y : List ℕ) (es : List Entry) → bytes ≡ u32 pos ++ x
    → x ≡ count_bytes v n ++ y → y ≡ flat_map entry_bytes es → length es ≡ n
    → bytes ≡ decided_bytes v pos es
joined v pos n bytes x y es e f g so_many = rw (e, f, g, so_many) refl

pub run_takes : (v : Version) (bytes : List ℕ) (w : FrameBody) → IsBytes bytes
    → decided_of v bytes ≡ Some w → IsRun v bytes w
run_takes v bytes w fits e =
    let a = bind_some _ _ w e in
    let b = bind_some _ _ w a.2 in
    let c = bind_some _ _ w b.2 in
    let d = passed (leb (a.0.0 + b.0.0) 65536) (Decided a.0.0 c.0) w c.2 in
    let t0 = position_field.takes bytes a.0 fits a.1 in
    let t1 = count_takes v a.0.1 b.0 t0.0.are_bytes b.1 in
    let t2 = all_takes (entries_field b.0.0) b.0.1 c.0 t1.0.are_bytes c.1 in
    let so_many : length c.0 ≡ b.0.0 = t2.1.0 in
    record {
      pos = a.0.0;
      entries = c.0;
      is = sym {a = Decided a.0.0 c.0} d.1;
      spelled = joined v a.0.0 b.0.0 bytes a.0.1 b.0.1 c.0 t0.0.parts t1.0.parts t2.0 so_many;
      fits = (
        subst (λ (k : ℕ). IsCount v k) (sym {a = length c.0} so_many) t1.1,
        subst (λ (k : ℕ). a.0.0 + k ≤ 65536) (sym {a = length c.0} so_many) (leb-true _ _ d.0),
        t2.1.1,
      );
    }

counted : (v : Version) (n : ℕ) → IsCount v n → 1 ≤ n
counted One n fits = omega (arith, fits)
counted _ n fits = fits.0

pub run_again : (v : Version) (pos : ℕ) (entries : List Entry) → AreDecided v pos entries
    → decided_of v (decided_bytes v pos entries) ≡ Some (Decided pos entries)
run_again v pos entries fits =
    let some : 1 ≤ length entries = counted v (length entries) fits.0 in
    let most : pos + length entries ≤ 65536 = fits.1 in
    let low : IsPosition pos = omega (arith, some, most) in
    rw (
      position_field.again pos (count_bytes v (length entries) ++ flat_map entry_bytes entries) low,
      count_again v (length entries) (flat_map entry_bytes entries) fits.0,
      all_again (entries_field (length entries)) entries (refl, fits.2),
      le-leb _ _ most,
    ) refl

-- ---- lengths

pub entries_short : (es : List Entry) → AllByRecursion IsEntry es
    → length (flat_map entry_bytes es) ≤ 610 * length es
entries_short [] fits = omega arith
entries_short (e ∷ es) fits =
    let others : length (flat_map entry_bytes es) ≤ 610 * length es = entries_short es fits.1 in
    let here : length e.text ≤ 600 = fits.0.1 in
    omega (arith, length-append (entry_bytes e) (flat_map entry_bytes es), others, here)

count_most : (v : Version) (n : ℕ) → IsCount v n → (n ≤ 16) × (length (count_bytes v n) ≤ 1)
count_most One n fits = (omega (arith, fits), omega arith)
count_most _ n fits = (fits.1, omega arith)

pub run_short : (v : Version) (pos : ℕ) (entries : List Entry) → AreDecided v pos entries
    → length (decided_bytes v pos entries) ≤ 299992
run_short v pos entries fits =
    let c = count_most v (length entries) fits.0 in
    let es = entries_short entries fits.2 in
    omega (
      arith,
      length-append (u32 pos) (count_bytes v (length entries) ++ flat_map entry_bytes entries),
      length-append (count_bytes v (length entries)) (flat_map entry_bytes entries),
      c.0,
      c.1,
      es,
    )

-- ---- putting entries, one after the other

-- one more of a sort was put
pub put_one_more : {A : Type 0} (s : A → List ℕ) (xs : List A) (i : ℕ) (x : A) (out : List ℕ)
    → i < length xs → x ≡ get_or xs i x
    → (out ++ flat_map s (take i xs)) ++ s x ≡ out ++ flat_map s (take (i + 1) xs)
put_one_more {A} s xs i x out lt is =
    let more : take (i + 1) xs ≡ take i xs ++ x ∷ [] =
    take_more xs i x lt ∙ ap (λ (y : A). take i xs ++ y ∷ []) (sym is) in
    flat_map_more s out (take i xs) x
    ∙ ap (λ (ys : List A). out ++ flat_map s ys) (sym more)

-- one more entry was put
pub put_more : (es : List Entry) (i : ℕ) (e : Entry) (out : List ℕ) → i < length es
    → e ≡ get_or es i e → (out ++ flat_map entry_bytes (take i es)) ++ entry_bytes e
    ≡ out ++ flat_map entry_bytes (take (i + 1) es)
put_more es i e out lt is = put_one_more entry_bytes es i e out lt is

-- a ballot and a position were put, and then what is after them
placed : (out b p e : List ℕ) → (out ++ (b ++ p)) ++ e ≡ out ++ (b ++ (p ++ e))
placed out b p e = append_assoc out (b ++ p) e ∙ ap (λ (x : List ℕ). out ++ x) (append_assoc b p e)

pub put_behind : {T E : Type 0} (r : Result T E) (new mid old b p e : List ℕ)
    → mid ≡ old ++ (b ++ p) → OnOk r (new ≡ mid ++ e) → OnOk r (new ≡ old ++ (b ++ (p ++ e)))
put_behind (Ok x) new mid old b p e is h =
    h ∙ ap (λ (z : List ℕ). z ++ e) is ∙ placed old b p e
put_behind (Err x) new mid old b p e is h = tt
