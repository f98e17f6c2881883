-- Each field: what is read is spelled so and in its range, and what is spelled so is read.
use Rattle.std.proofs.Common.{◌≡◌, ℕ, zero, suc, ◌^◌, ◌<◌, ◌≤◌, Bool, true, false, leb, ◌&&◌}
use Rattle.std.proofs.Common.{List, [], ◌∷◌, ◌++◌, length, take, drop, Option, Some, None, refl}
use Rattle.std.proofs.Common.{sym, ap, subst, ◌∙◌, append_assoc, arith}
use Rattle.std.specs.Int.{Width, w16, w32, w64, to_be_bytes}
use Rattle.std.proofs.lemmas.Bool.{leb-true, le-leb}
use Rattle.std.proofs.lemmas.List.{take_at, drop_at, take-append-drop, length-append, length-take}
use Rattle.acceptor.specs.declared.{ballot.Ballot.Ballot, entry.Entry.Entry, message.Report.Report}
use Rattle.wire.specs.Fields.{number_at, byte_at}
use Rattle.wire.specs.Reading.{between, is_ballot, ballot_at, limited_at, position_at, id_at, text_at}
use Rattle.wire.specs.Reading.{entry_at, report_at, log_length_at}
use Rattle.wire.specs.Spelling.{ballot_bytes, text_bytes, entry_bytes, report_bytes}
use Rattle.wire.specs.Ranges.{IsBallot, IsPosition, IsId, IsEntry, IsReport, IsLogLength}
use Rattle.wire.proofs.Taking.{IsBytes, IsBytes-drop, IsBytes-rest, bind_some, passed, some_is}
use Rattle.wire.proofs.Taking.{Takes, Takes-then, IsWide, wide16, wide32, wide64, number_takes}
use Rattle.wire.proofs.{Taking.number_again, Taking.byte_takes, Sequences.IsField}
use Rattle.wire.proofs.Sequences.{narrowed, alone}

-- ---- tests of ranges

pub and_true : (a b : Bool) → (a && b) ≡ true → (a ≡ true) × (b ≡ true)
and_true true b e = (refl, e)
and_true false b e = absurd cc

pub both_true : (a b : Bool) → a ≡ true → b ≡ true → (a && b) ≡ true
both_true true b e f = f
both_true false b e f = absurd cc

pub between_is : (low high n : ℕ) → between low high n ≡ true → (low ≤ n) × (n ≤ high)
between_is low high n e = let h = and_true (leb low n) (leb n high) e in
    (leb-true _ _ h.0, leb-true _ _ h.1)

pub between_holds : (low high n : ℕ) → low ≤ n → n ≤ high → between low high n ≡ true
between_holds low high n l h = both_true (leb low n) (leb n high) (le-leb _ _ l) (le-leb _ _ h)

pub a_ballot : (b : Ballot) → IsBallot b → is_ballot b.number b.desk ≡ true
a_ballot b fits = both_true (leb 1 b.number) (between 1 5 b.desk) (le-leb _ _ fits.0)
    (between_holds 1 5 b.desk fits.2.0 fits.2.1)

-- ---- numbers, bytes, ids

abbrev pub u32 : ℕ → List ℕ
u32 n = to_be_bytes w32 n

abbrev pub u64 : ℕ → List ℕ
u64 n = to_be_bytes w64 n

pub number_field : (w : Width) (limit : ℕ) → IsWide w limit
    → IsField (to_be_bytes w) (λ n. n < limit) (number_at w)
number_field w limit wide = record {
  takes = number_takes w limit wide;
  again = number_again w limit wide;
}

pub any_field : IsField u32 (λ n. n < 2 ^ 32) (number_at w32)
any_field = number_field w32 (2 ^ 32) wide32

pub limited_field : (limit : ℕ) → limit < 2 ^ 32 → IsField u32 (λ n. n ≤ limit) (limited_at limit)
unfolding limited_at
limited_field limit small =
    narrowed any_field (λ n. leb n limit) (λ n. n ≤ limit) (λ n lt is. leb-true _ _ is)
    (λ n le. (omega arith, le-leb _ _ le))

pub position_field : IsField u32 IsPosition position_at
position_field = limited_field 65535 (omega arith)

pub log_length_field : IsField u32 IsLogLength log_length_at
log_length_field = limited_field 65536 (omega arith)

pub byte_field : IsField (λ (b : ℕ). b ∷ []) (λ (b : ℕ). b < 256) byte_at
unfolding byte_at
byte_field = record { takes = byte_takes; again = λ b rest lt. refl }

pub id_field : IsField u64 IsId id_at
unfolding id_at
id_field =
    narrowed (number_field w64 (2 ^ 64) wide64) (λ n. between 1 9223372036854775807 n) IsId
    (λ n lt is. let h = between_is 1 9223372036854775807 n is in (h.0, omega (arith, h.1)))
    (λ n fits.
    let high : n < 2 ^ 63 = fits.1 in
    (omega arith, between_holds 1 9223372036854775807 n fits.0 (omega arith)))

-- ---- ballots

pub ballot_field : IsField ballot_bytes IsBallot ballot_at
unfolding ballot_at byte_at
ballot_field = record {
  takes = λ bytes x fits e.
      let a = bind_some (number_at w32 bytes) _ x e in
      let b = bind_some (byte_at a.0.1) _ x a.2 in
      let made : Ballot × List ℕ = (record { number = a.0.0; desk = b.0.0 }, b.0.1) in
      let c = passed (is_ballot a.0.0 b.0.0) made x b.2 in
      let t0 = any_field.takes bytes a.0 fits a.1 in
      let t1 = byte_takes a.0.1 b.0 t0.0.are_bytes b.1 in
      let h = and_true (leb 1 a.0.0) (between 1 5 b.0.0) c.0 in
      subst (λ (y : Ballot × List ℕ). Takes bytes (ballot_bytes y.0) y.1 × IsBallot y.0) c.1 (
        Takes-then bytes (u32 a.0.0) a.0.1 (b.0.0 ∷ []) b.0.1 t0.0 t1.0,
        (leb-true _ _ h.0, t0.1, between_is 1 5 b.0.0 h.1),
      );
  again = λ b rest fits.
      let regrouped : ballot_bytes b ++ rest ≡ u32 b.number ++ (b.desk ∷ rest) =
      append_assoc (u32 b.number) (b.desk ∷ []) rest in
      ap ballot_at regrouped
      ∙ rw (any_field.again b.number (b.desk ∷ rest) fits.1, a_ballot b fits) refl;
}

-- ---- texts, entries

text_field : IsField text_bytes (λ (t : List ℕ). length t ≤ 600) text_at
unfolding text_at
text_field = record {
  takes = λ bytes x fits e.
      let a = bind_some (number_at w16 bytes) _ x e in
      let n = a.0 in
      let c = passed (leb n.0 600 && leb n.0 (length n.1)) (take n.0 n.1, drop n.0 n.1) x a.2 in
      let h = and_true (leb n.0 600) (leb n.0 (length n.1)) c.0 in
      let short : n.0 ≤ 600 = leb-true _ _ h.0 in
      let there : n.0 ≤ length n.1 = leb-true _ _ h.1 in
      let t = number_takes w16 (2 ^ 16) wide16 bytes n fits a.1 in
      let len : length (take n.0 n.1) ≡ n.0 = omega (arith, length-take n.0 n.1) in
      let second : Takes n.1 (take n.0 n.1) (drop n.0 n.1) = record {
        parts = sym (take-append-drop n.0 n.1);
        are_bytes = IsBytes-drop n.0 n.1 t.0.are_bytes;
      } in
      let whole : Takes bytes (text_bytes (take n.0 n.1)) (drop n.0 n.1) =
      subst (λ (k : ℕ). Takes bytes (to_be_bytes w16 k ++ take n.0 n.1) (drop n.0 n.1)) (sym len)
      (Takes-then bytes (to_be_bytes w16 n.0) n.1 (take n.0 n.1) (drop n.0 n.1) t.0 second) in
      subst (λ (y : List ℕ × List ℕ). Takes bytes (text_bytes y.0) y.1 × (length y.0 ≤ 600)) c.1
      (whole, omega arith);
  again = λ t rest le.
      let regrouped : text_bytes t ++ rest ≡ to_be_bytes w16 (length t) ++ (t ++ rest) =
      append_assoc (to_be_bytes w16 (length t)) t rest in
      let test : (leb (length t) 600 && leb (length t) (length (t ++ rest))) ≡ true =
      both_true _ _ (le-leb _ _ le) (le-leb _ _ (omega (arith, length-append t rest))) in
      ap text_at regrouped ∙ rw (
        number_again w16 (2 ^ 16) wide16 (length t) (t ++ rest) (omega arith),
        test,
        take_at t rest (length t) refl,
        drop_at t rest (length t) refl,
      ) refl;
}

pub entry_field : IsField entry_bytes IsEntry entry_at
unfolding entry_at
entry_field = record {
  takes = λ bytes x fits e.
      let a = bind_some (id_at bytes) _ x e in
      let b = bind_some (text_at a.0.1) _ x a.2 in
      let made : Entry × List ℕ = (record { id = a.0.0; text = b.0.0 }, b.0.1) in
      let t0 = id_field.takes bytes a.0 fits a.1 in
      let t1 = text_field.takes a.0.1 b.0 t0.0.are_bytes b.1 in
      subst (λ (y : Entry × List ℕ). Takes bytes (entry_bytes y.0) y.1 × IsEntry y.0)
      (some_is made x b.2)
      (Takes-then bytes (u64 a.0.0) a.0.1 (text_bytes b.0.0) b.0.1 t0.0 t1.0, (t0.1, t1.1));
  again = λ x rest fits.
      let regrouped : entry_bytes x ++ rest ≡ u64 x.id ++ (text_bytes x.text ++ rest) =
      append_assoc (u64 x.id) (text_bytes x.text) rest in
      ap entry_at regrouped ∙ rw (
        id_field.again x.id (text_bytes x.text ++ rest) fits.0,
        text_field.again x.text rest fits.1,
      ) refl;
}

-- ---- reported votes

report_takes : (bytes : List ℕ) (x : Option Report × List ℕ) → IsBytes bytes
    → report_at bytes ≡ Some x → Takes bytes (report_bytes x.0) x.1 × IsReport x.0
unfolding report_at
report_takes [] x fits e = absurd cc
report_takes (zero ∷ rest) x fits e =
    alone report_bytes IsReport None 0 rest x refl tt fits e
report_takes (suc zero ∷ rest) x fits e =
    let a = bind_some (ballot_at rest) _ x e in
    let b = bind_some (entry_at a.0.1) _ x a.2 in
    let made : Option Report × List ℕ = (Some (record { ballot = a.0.0; entry = b.0.0 }), b.0.1) in
    let t0 = ballot_field.takes rest a.0 (IsBytes-rest 1 rest fits) a.1 in
    let t1 = entry_field.takes a.0.1 b.0 t0.0.are_bytes b.1 in
    let t = Takes-then rest (ballot_bytes a.0.0) a.0.1 (entry_bytes b.0.0) b.0.1 t0.0 t1.0 in
    subst (λ (y : Option Report × List ℕ). Takes (1 ∷ rest) (report_bytes y.0) y.1 × IsReport y.0)
    (some_is made x b.2)
    (record { parts = ap (λ (w : List ℕ). 1 ∷ w) t.parts; are_bytes = t.are_bytes }, (t0.1, t1.1))
report_takes (suc (suc k) ∷ rest) x fits e = absurd cc

report_again : (x : Option Report) (rest : List ℕ) → IsReport x
    → report_at (report_bytes x ++ rest) ≡ Some (x, rest)
unfolding report_at
report_again None rest fits = refl
report_again (Some r) rest fits =
    let regrouped : report_bytes (Some r) ++ rest ≡ 1 ∷
    (ballot_bytes r.ballot ++ (entry_bytes r.entry ++ rest)) =
    ap (λ (w : List ℕ). 1 ∷ w) (append_assoc (ballot_bytes r.ballot) (entry_bytes r.entry) rest) in
    ap report_at regrouped ∙ rw (
      ballot_field.again r.ballot (entry_bytes r.entry ++ rest) fits.0,
      entry_field.again r.entry rest fits.1,
    ) refl

pub report_field : IsField report_bytes IsReport report_at
report_field = record { takes = report_takes; again = report_again }
