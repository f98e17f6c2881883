-- The fields of an Entries: what is read is spelled so and in its ranges, and what is spelled so is
-- read.
use Rattle.std.proofs.Common.{◌≡◌, ◌⊎◌, ℕ, ◌+◌, ◌*◌, ◌^◌, ◌≤◌, eqb, leb, refl, sym, inl, inr}
use Rattle.std.proofs.Common.{Bool, true, false, ◌||◌, List, ◌++◌, length, Some, subst, arith}
use Rattle.std.specs.{Int.w16, Int.to_be_bytes, List.flat_map}
use Rattle.std.proofs.lemmas.Bool.{eqb-true, leb-true, le-leb, or_left, or_right}
use Rattle.acceptor.specs.declared.entry.Entry.{Entry}
use Rattle.wire.specs.declared.frame.FrameBody.{FrameBody, TheVariants.Entries}
use Rattle.wire.specs.{Ranges.AreOfLog, Spelling.entry_bytes, Spelling.log_bytes}
use Rattle.wire.specs.Reading.{log_count_at, entries_of}
use Rattle.wire.proofs.Taking.{IsBytes, bind_some, passed, wide16}
use Rattle.wire.proofs.{FieldLaws.u32, Runs.entries_field, Runs.entries_short}
use Rattle.wire.proofs.Sequences.{IsField, narrowed, all_takes, all_again}
use Rattle.wire.proofs.FieldLaws.{number_field, log_length_field}

abbrev u16 : ℕ → List ℕ
u16 n = to_be_bytes w16 n

-- ---- the count

count_field : IsField u16 (λ n. n ≤ 400) log_count_at
unfolding log_count_at
count_field =
    narrowed (number_field w16 (2 ^ 16) wide16) (λ n. leb n 400) (λ n. n ≤ 400)
    (λ n lt is. leb-true _ _ is) (λ n le. (omega (arith, le), le-leb _ _ le))

-- ---- none, or they end within the log

either : (a b : Bool) → (a || b) ≡ true → (a ≡ true) ⊎ (b ≡ true)
either true b e = inl refl
either false b e = inr e

within_is : (position len n : ℕ) → (eqb n 0 || leb (position + n) len) ≡ true
    → (n ≡ 0) ⊎ (position + n ≤ len)
within_is position len n e = go (either (eqb n 0) (leb (position + n) len) e) where
  go : (eqb n 0 ≡ true) ⊎ (leb (position + n) len ≡ true) → (n ≡ 0) ⊎ (position + n ≤ len)
  go (inl zero) = inl (eqb-true _ _ zero)
  go (inr le) = inr (leb-true _ _ le)

is_zero : (n : ℕ) → n ≡ 0 → eqb n 0 ≡ true
is_zero n e = rw e refl

within_holds : (position len n : ℕ) → (n ≡ 0) ⊎ (position + n ≤ len)
    → (eqb n 0 || leb (position + n) len) ≡ true
within_holds position len n (inl zero) =
    or_left (eqb n 0) (leb (position + n) len) (is_zero n zero)
within_holds position len n (inr le) =
    or_right (eqb n 0) (leb (position + n) len) (le-leb _ _ le)

-- ---- the whole

pub record IsLog (bytes : List ℕ) (w : FrameBody) : Type 0 where
  pub position : ℕ
  pub len : ℕ
  pub entries : List Entry
  pub is : w ≡ Entries position len entries
  pub spelled : bytes ≡ log_bytes position len entries
  pub fits : AreOfLog position len entries

-- position, length, count and entries, in a row
joined : (position len n : ℕ) (bytes x y z : List ℕ) (es : List Entry) → bytes ≡ u32 position ++ x
    → x ≡ u32 len ++ y → y ≡ u16 n ++ z → z ≡ flat_map entry_bytes es → length es ≡ n
    → bytes ≡ log_bytes position len es
joined position len n bytes x y z es e f g h so_many = rw (e, f, g, h, so_many) refl

pub log_takes : (bytes : List ℕ) (w : FrameBody) → IsBytes bytes → entries_of bytes ≡ Some w
    → IsLog bytes w
log_takes bytes w fits e =
    let a = bind_some _ _ w e in
    let b = bind_some _ _ w a.2 in
    let c = bind_some _ _ w b.2 in
    let d = bind_some _ _ w c.2 in
    let g = passed (eqb c.0.0 0 || leb (a.0.0 + c.0.0) b.0.0) (Entries a.0.0 b.0.0 d.0) w d.2 in
    let t0 = log_length_field.takes bytes a.0 fits a.1 in
    let t1 = log_length_field.takes a.0.1 b.0 t0.0.are_bytes b.1 in
    let t2 = count_field.takes b.0.1 c.0 t1.0.are_bytes c.1 in
    let t3 = all_takes (entries_field c.0.0) c.0.1 d.0 t2.0.are_bytes d.1 in
    let so_many : length d.0 ≡ c.0.0 = t3.1.0 in
    record {
      position = a.0.0;
      len = b.0.0;
      entries = d.0;
      is = sym {a = Entries a.0.0 b.0.0 d.0} g.1;
      spelled = joined a.0.0 b.0.0 c.0.0 bytes a.0.1 b.0.1 c.0.1 d.0 t0.0.parts t1.0.parts
          t2.0.parts t3.0 so_many;
      fits = record {
        from = t0.1;
        log = t1.1;
        most = subst (λ (k : ℕ). k ≤ 400) (sym so_many) t2.1;
        within = subst (λ (k : ℕ). (k ≡ 0) ⊎ (a.0.0 + k ≤ b.0.0)) (sym so_many)
            (within_is a.0.0 b.0.0 c.0.0 g.0);
        each = t3.1.1;
      };
    }

pub log_again : (position len : ℕ) (entries : List Entry) → AreOfLog position len entries
    → entries_of (log_bytes position len entries) ≡ Some (Entries position len entries)
log_again position len entries fits =
    let counted : List ℕ = u16 (length entries) ++ flat_map entry_bytes entries in
    rw (
      log_length_field.again position (u32 len ++ counted) fits.from,
      log_length_field.again len counted fits.log,
      count_field.again (length entries) (flat_map entry_bytes entries) fits.most,
      all_again (entries_field (length entries)) entries (refl, fits.each),
      within_holds position len (length entries) fits.within,
    ) refl

pub log_short : (position len : ℕ) (entries : List Entry) → AreOfLog position len entries
    → length (log_bytes position len entries) ≤ 299992
log_short position len entries fits =
    let es : length (flat_map entry_bytes entries) ≤ 610 * length entries =
    entries_short entries fits.each in
    omega (arith, fits.most, es)
