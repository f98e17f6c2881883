-- The mark of a file, and the log of its use.
use Rattle.std.proofs.Common.{◌≡◌, ◌≢◌, ◌⊎◌, inl, inr, ℕ, ◌+◌, ◌/◌, ◌%◌, ◌^◌, ◌<◌, ◌≤◌, List, []}
use Rattle.std.proofs.Common.{◌∷◌, ◌*◌, length, refl, slice_index, sym, ◌∙◌, ap, subst, arith}
use Rattle.std.proofs.Common.{Result, Ok, Err, Bool, IsTrue, OnOk, false, true}
use Rattle.std.proofs.lemmas.Bool.{false≢true}
use Rattle.sqlite_disk.specs.Disk.{Holds, Mixed, Torn}
use Rattle.sqlite_wal.specs.{Format.IsSigned, Format.be32, Recovery.IsIgnored, Recovery.header}
use Rattle.sqlite_wal.{specs.Format.part, proofs.PartLemmas.part_held, proofs.PartLemmas.same_be32}
use Rattle.desk_file.specs.Marks.{CountsInBytes, HasFrame, IsEmptied, IsLog, IsMarked, IsOfUse}
use Rattle.desk_file.specs.Marks.{IsShut, Stands, StandsBeside, number_of, uses_of}
use Rattle.desk_file.specs.declared.mark.FilesState.{FilesState}
use Rattle.desk_file.specs.declared.mark.FilesState.TheVariants as standing

-- ---- what was read of the front of a log, and of the number in a file

pub record Front (front log : List ℕ) : Type 0 where
  pub size : be32 front 8 ≡ be32 log 8
  pub round : be32 front 12 ≡ be32 log 12
  pub salt : be32 front 16 ≡ be32 log 16
  pub zero : slice_index front 0 ≡ slice_index log 0
  pub first : slice_index front 16 ≡ slice_index log 16
  pub gate : slice_index front 40 ≡ slice_index log 40
  pub head : part front 0 32 ≡ header log

pub front_read : (log front : List ℕ) → Holds log 0 front → length front ≡ 41 → Front front log
front_read log front holds long = record {
  size = number 8 (omega arith);
  round = number 12 (omega arith);
  salt = number 16 (omega arith);
  zero = byte 0 (omega arith);
  first = byte 16 (omega arith);
  gate = byte 40 (omega arith);
  head = sym (part_held log front 0 0 32 holds (omega arith));
}
  where
    byte : (i : ℕ) → i < length front → slice_index front i ≡ slice_index log i
    byte i low =
        let at : 0 + i ≡ i = omega arith in
        sym (holds.each i low) ∙ ap (slice_index log) at

    number : (at : ℕ) → at + 4 ≤ length front → be32 front at ≡ be32 log at
    number at low = same_be32 front log at at (λ i h. byte (at + i) (omega arith))

pub field_read : (db field : List ℕ) → Holds db 60 field → 4 ≤ length field
    → be32 field 0 ≡ number_of db
field_read db field holds four =
    same_be32 field db 0 60 (λ i low. let at : 0 + i ≡ i = omega arith in
    ap (slice_index field) at ∙ sym (holds.each i (omega arith)))

pub told_twice : (b : Bool) (P : Type 0) → (IsTrue b → P) × (P → IsTrue b) → ¬ (¬ P) → IsTrue b
told_twice true P is twice = refl
told_twice false P is twice = absurd (twice (λ p. false≢true (is.1 p)))

-- ---- what there is of a log

pub unnamed : (n : ℕ) (log : List ℕ) → (be32 log 12 + n) % 2 ^ 32 ≢ be32 log 16
    → StandsBeside standing.LogLost n log
unnamed n log isnt = (λ (l : IsLog n log). isnt l.0.1, λ (e : IsEmptied n log). isnt e.0.1)

pub too_short : (n : ℕ) (log : List ℕ) → length log < 41 → StandsBeside standing.LogLost n log
too_short n log short = (
  λ (l : IsLog n log). let h = l.0.0 in absurd (omega arith),
  λ (e : IsEmptied n log). let h = e.0.0 in absurd (omega arith),
)

pub unsigned : (n : ℕ) (log : List ℕ) → slice_index log 0 ≢ 0 → ¬ IsSigned (header log)
    → StandsBeside standing.LogLost n log
unsigned n log first isnt = (
  λ (l : IsLog n log). l.1 (inr isnt),
  λ (e : IsEmptied n log). elim e.1 [ inl zero ↦ first zero | inr s ↦ isnt s.1 ],
)

pub unframed : (n : ℕ) (log : List ℕ) → slice_index log 0 ≢ 0
    → slice_index log 40 ≡ slice_index log 16 → ¬ HasFrame log → StandsBeside standing.LogLost n log
unframed n log first same none = (
  λ (l : IsLog n log). elim l.2 [ inl shut ↦ shut same | inr whole ↦ none (l.1, same, whole) ],
  λ (e : IsEmptied n log). elim e.1 [ inl zero ↦ first zero | inr s ↦ s.2 same ],
)

pub is_log : (n : ℕ) (log : List ℕ) → IsOfUse n log → 56 ≤ length log → IsSigned (header log)
    → IsShut log ⊎ (be32 log 8 + 56 ≤ length log) → IsLog n log
is_log n log of_use long signed whole = (of_use, taken, whole)
  where
    taken : ¬ IsIgnored log
    taken (inl short) = absurd (omega arith)
    taken (inr isnt) = isnt signed

-- ---- the four bytes of a number

-- the file has these four, where its number is
pub record Field (db : List ℕ) (w x y z : ℕ) : Type 0 where
  pub within : 64 ≤ length db
  pub first : slice_index db 60 ≡ w
  pub high : slice_index db 61 ≡ x
  pub middle : slice_index db 62 ≡ y
  pub low : slice_index db 63 ≡ z

pub field_of : (d : List ℕ) → 64 ≤ length d
    → Field d (slice_index d 60) (slice_index d 61) (slice_index d 62) (slice_index d 63)
field_of d long = record { within = long; first = refl; high = refl; middle = refl; low = refl }

pub at_first : {d c : List ℕ} {w x y z : ℕ} (b : ℕ) → Field d w x y z → Torn 60 1 d c
    → slice_index c 60 ≡ b → Field c b x y z
at_first b f t is =
    let within = f.within in
    let longer = t.no_shorter in
    record {
      within = omega arith;
      first = is;
      high = t.above 61 (omega arith) (omega arith) ∙ f.high;
      middle = t.above 62 (omega arith) (omega arith) ∙ f.middle;
      low = t.above 63 (omega arith) (omega arith) ∙ f.low;
    }

pub at_high : {d c : List ℕ} {w x y z : ℕ} (b : ℕ) → Field d w x y z → Torn 61 1 d c
    → slice_index c 61 ≡ b → Field c w b y z
at_high b f t is =
    let within = f.within in
    let longer = t.no_shorter in
    record {
      within = omega arith;
      first = t.below 60 (omega arith) (omega arith) ∙ f.first;
      high = is;
      middle = t.above 62 (omega arith) (omega arith) ∙ f.middle;
      low = t.above 63 (omega arith) (omega arith) ∙ f.low;
    }

pub at_middle : {d c : List ℕ} {w x y z : ℕ} (b : ℕ) → Field d w x y z → Torn 62 1 d c
    → slice_index c 62 ≡ b → Field c w x b z
at_middle b f t is =
    let within = f.within in
    let longer = t.no_shorter in
    record {
      within = omega arith;
      first = t.below 60 (omega arith) (omega arith) ∙ f.first;
      high = t.below 61 (omega arith) (omega arith) ∙ f.high;
      middle = is;
      low = t.above 63 (omega arith) (omega arith) ∙ f.low;
    }

pub at_low : {d c : List ℕ} {w x y z : ℕ} (b : ℕ) → Field d w x y z → Torn 63 1 d c
    → slice_index c 63 ≡ b → Field c w x y b
at_low b f t is =
    let within = f.within in
    let longer = t.no_shorter in
    record {
      within = omega arith;
      first = t.below 60 (omega arith) (omega arith) ∙ f.first;
      high = t.below 61 (omega arith) (omega arith) ∙ f.high;
      middle = t.below 62 (omega arith) (omega arith) ∙ f.middle;
      low = is;
    }

-- what a cut of the power leaves while one of the four is written
pub cut_first : {d c : List ℕ} {w x y z : ℕ} (b : ℕ) → Field d w x y z → Mixed 60 (b ∷ []) d c
    → Field c w x y z ⊎ Field c b x y z
cut_first b f m =
    let within = f.within in
    elim (m.each 0 (omega arith) (omega arith)) [
      | inl same ↦ inl (at_first _ f m.torn (same ∙ f.first))
      | inr is ↦ inr (at_first b f m.torn is)
    ]

pub cut_high : {d c : List ℕ} {w x y z : ℕ} (b : ℕ) → Field d w x y z → Mixed 61 (b ∷ []) d c
    → Field c w x y z ⊎ Field c w b y z
cut_high b f m =
    let within = f.within in
    elim (m.each 0 (omega arith) (omega arith)) [
      | inl same ↦ inl (at_high _ f m.torn (same ∙ f.high))
      | inr is ↦ inr (at_high b f m.torn is)
    ]

pub cut_middle : {d c : List ℕ} {w x y z : ℕ} (b : ℕ) → Field d w x y z → Mixed 62 (b ∷ []) d c
    → Field c w x y z ⊎ Field c w x b z
cut_middle b f m =
    let within = f.within in
    elim (m.each 0 (omega arith) (omega arith)) [
      | inl same ↦ inl (at_middle _ f m.torn (same ∙ f.middle))
      | inr is ↦ inr (at_middle b f m.torn is)
    ]

pub cut_low : {d c : List ℕ} {w x y z : ℕ} (b : ℕ) → Field d w x y z → Mixed 63 (b ∷ []) d c
    → Field c w x y z ⊎ Field c w x y b
cut_low b f m =
    let within = f.within in
    elim (m.each 0 (omega arith) (omega arith)) [
      | inl same ↦ inl (at_low _ f m.torn (same ∙ f.low))
      | inr is ↦ inr (at_low b f m.torn is)
    ]

-- the four, each written after the other, the first last
pub written : {p q r t : List ℕ} {a b d f : ℕ} → Holds p 61 (a ∷ []) → Torn 62 1 p q
    → Holds q 62 (b ∷ []) → Torn 63 1 q r → Holds r 63 (d ∷ []) → Torn 60 1 r t
    → Holds t 60 (f ∷ []) → Field t f a b d
written {p} {q} {r} {t} high two middle three low four first =
    let in_p : 62 ≤ length p = high.within in
    let in_q : 63 ≤ length q = middle.within in
    let in_r : 64 ≤ length r = low.within in
    let longer_q = two.no_shorter in
    let longer_r = three.no_shorter in
    let longer_t = four.no_shorter in
    record {
      within = omega arith;
      first = first.each 0 (omega arith);
      high = four.above 61 (omega arith) (omega arith) ∙ three.below 61 (omega arith) (omega arith)
          ∙ two.below 61 (omega arith) (omega arith) ∙ high.each 0 (omega arith);
      middle = four.above 62 (omega arith) (omega arith)
          ∙ three.below 62 (omega arith) (omega arith) ∙ middle.each 0 (omega arith);
      low = four.above 63 (omega arith) (omega arith) ∙ low.each 0 (omega arith);
    }

-- ---- what is written in the field alone

pub unmoved : (s : List ℕ) → Torn 60 4 s s
unmoved s = record {
  no_shorter = omega arith;
  no_longer = omega arith;
  below = λ i within low. refl;
  above = λ i within high. refl;
}

pub in_field : {s t : List ℕ} (at : ℕ) → 60 ≤ at → at < 64 → Torn at 1 s t → Torn 60 4 s t
in_field at from to torn =
    let most = torn.no_longer in
    record {
      no_shorter = torn.no_shorter;
      no_longer = omega arith;
      below = λ i within low. torn.below i within (omega arith);
      above = λ i within high. torn.above i within (omega arith);
    }

pub also : {s t u : List ℕ} → Torn 60 4 s t → Torn 60 4 t u → Torn 60 4 s u
also one two =
    let longer = one.no_shorter in
    let longest = two.no_shorter in
    let most = one.no_longer in
    let more = two.no_longer in
    record {
      no_shorter = omega arith;
      no_longer = omega arith;
      below = λ i within low. two.below i (omega arith) low ∙ one.below i within low;
      above = λ i within high. two.above i (omega arith) high ∙ one.above i within high;
    }

-- ---- the number that they make

pub named : {d : List ℕ} {w x y z : ℕ} → Field d w x y z
    → number_of d ≡ w * 0x100_0000 + x * 0x1_0000 + y * 0x100 + z
unfolding be32
named f =
    let first = f.first in
    let high = f.high in
    let middle = f.middle in
    let low = f.low in
    omega arith

pub is_named : {d : List ℕ} {w x y z : ℕ} (n : ℕ) → Field d w x y z → w ≡ n / 0x100_0000
    → x ≡ n / 0x1_0000 % 0x100 → y ≡ n / 0x100 % 0x100 → z ≡ n % 0x100 → number_of d ≡ n
is_named n f is_w is_x is_y is_z = named f ∙ omega arith

pub is_marked : {d : List ℕ} {w x y z : ℕ} → Field d w x y z → w ≢ 0 → IsMarked d
is_marked f some = (f.within, λ zero. some (sym f.first ∙ zero))

pub is_unmarked : {d : List ℕ} {w x y z : ℕ} → Field d w x y z → ¬ (w ≢ 0) → ¬ IsMarked d
is_unmarked f none marked = none (λ zero. marked.1 (f.first ∙ zero))

pub both_unmarked : {c : List ℕ} {w x y z s t u : ℕ} → Field c w x y z ⊎ Field c w s t u
    → ¬ (w ≢ 0) → ¬ IsMarked c
both_unmarked (inl f) none = is_unmarked f none
both_unmarked (inr f) none = is_unmarked f none

pub first_of : (n : ℕ) → 0x100_0000 ≤ n → n / 0x100_0000 ≢ 0
first_of n big zero = absurd (omega arith)

-- what a cut of the power leaves while the first byte is written, once the others are
pub cut_last : {c : List ℕ} {v w x y z : ℕ} (n : ℕ) → 0x100_0000 ≤ n → ¬ (v ≢ 0)
    → Field c v x y z ⊎ Field c w x y z → w ≡ n / 0x100_0000
    → x ≡ n / 0x1_0000 % 0x100 → y ≡ n / 0x100 % 0x100 → z ≡ n % 0x100
    → (¬ IsMarked c) ⊎ (IsMarked c × (number_of c ≡ n))
cut_last n big none (inl f) is_w is_x is_y is_z = inl (is_unmarked f none)
cut_last n big none (inr f) is_w is_x is_y is_z =
    inr (is_marked f (λ zero. first_of n big (sym is_w ∙ zero)), is_named n f is_w is_x is_y is_z)

-- what is once all four are written
pub marked_ok : {E : Type 0} (o : Result (Unit {0}) E) {p q r t : List ℕ} {a b d f : ℕ} (n : ℕ)
    → 0x100_0000 ≤ n → f ≡ n / 0x100_0000
    → Holds p 61 (a ∷ []) → Torn 62 1 p q → Holds q 62 (b ∷ []) → Torn 63 1 q r
    → Holds r 63 (d ∷ []) → Torn 60 1 r t → OnOk o (Holds t 60 (f ∷ [])) → OnOk o (IsMarked t)
marked_ok (Ok _) n big is high two middle three low four first =
    is_marked (written high two middle three low four first)
    (λ zero. first_of n big (sym is ∙ zero))
marked_ok (Err _) n big is high two middle three low four first = tt

pub number_ok : {E : Type 0} (o : Result (Unit {0}) E) {p q r t : List ℕ} {a b d f : ℕ} (n : ℕ)
    → f ≡ n / 0x100_0000 → a ≡ n / 0x1_0000 % 0x100 → b ≡ n / 0x100 % 0x100 → d ≡ n % 0x100
    → Holds p 61 (a ∷ []) → Torn 62 1 p q → Holds q 62 (b ∷ []) → Torn 63 1 q r
    → Holds r 63 (d ∷ []) → Torn 60 1 r t → OnOk o (Holds t 60 (f ∷ [])) → OnOk o (number_of t ≡ n)
number_ok (Ok _) n is_f is_a is_b is_d high two middle three low four first =
    is_named n (written high two middle three low four first) is_f is_a is_b is_d
number_ok (Err _) n is_f is_a is_b is_d high two middle three low four first = tt

pub freed_ok : {E : Type 0} (o : Result (Unit {0}) E) (t : List ℕ) → OnOk o (Holds t 60 (0 ∷ []))
    → OnOk o (¬ IsMarked t)
freed_ok (Ok _) t first = λ marked. marked.1 (first.each 0 (omega arith))
freed_ok (Err _) t first = tt

-- ---- the count in it

pub counts : {d : List ℕ} {w x y z : ℕ} → Field d w x y z → x < 256 → y < 256 → z < 256
    → uses_of d ≡ x * 0x1_0000 + y * 0x100 + z
counts f high middle low = ap (λ n. n % 0x100_0000) (named f) ∙ omega arith

-- the first byte counts nothing
pub same_count : (s t : List ℕ) → 64 ≤ length s → Torn 60 1 s t → uses_of t ≡ uses_of s
same_count s t long torn =
    let is = named (field_of s long) in
    let anew = named (at_first _ (field_of s long) torn refl) in
    omega arith

pub same_bytes : (s t : List ℕ) → 64 ≤ length s → Torn 60 1 s t → CountsInBytes s → CountsInBytes t
same_bytes s t long torn bytes =
    let f = at_first _ (field_of s long) torn refl in
    let high = f.high in
    let middle = f.middle in
    let low = f.low in
    let one = bytes.0 in
    let two = bytes.1 in
    let three = bytes.2 in
    (omega arith, omega arith, omega arith)

-- each byte from the highest on in place of the old one leaves no smaller count
module _ (s : List ℕ) (n : ℕ) (long : 64 ≤ length s) (b : CountsInBytes s)
    (most : uses_of s ≤ n % 2 ^ 24) where
  old : uses_of s ≡ slice_index s 61 * 0x1_0000 + slice_index s 62 * 0x100 + slice_index s 63
  old = counts (field_of s long) b.0 b.1 b.2

  pub rise_none : {c : List ℕ} {w : ℕ}
      → Field c w (slice_index s 61) (slice_index s 62) (slice_index s 63)
      → (64 ≤ length c) × (uses_of s ≤ uses_of c)
  rise_none f =
      let new = counts f b.0 b.1 b.2 in
      let was = old in
      (f.within, omega arith)

  pub rise_high : {c : List ℕ} {w x : ℕ} → Field c w x (slice_index s 62) (slice_index s 63)
      → x ≡ n / 0x1_0000 % 0x100 → (64 ≤ length c) × (uses_of s ≤ uses_of c)
  rise_high f is_x =
      let one = b.0 in
      let two = b.1 in
      let three = b.2 in
      let new = counts f (omega arith) two three in
      let was = old in
      (f.within, omega arith)

  pub rise_middle : {c : List ℕ} {w x y : ℕ} → Field c w x y (slice_index s 63)
      → x ≡ n / 0x1_0000 % 0x100 → y ≡ n / 0x100 % 0x100 → (64 ≤ length c) × (uses_of s ≤ uses_of c)
  rise_middle f is_x is_y =
      let one = b.0 in
      let two = b.1 in
      let three = b.2 in
      let new = counts f (omega arith) (omega arith) three in
      let was = old in
      (f.within, omega arith)

  pub rise_low : {c : List ℕ} {w x y z : ℕ} → Field c w x y z → x ≡ n / 0x1_0000 % 0x100
      → y ≡ n / 0x100 % 0x100 → z ≡ n % 0x100 → (64 ≤ length c) × (uses_of s ≤ uses_of c)
  rise_low f is_x is_y is_z =
      let new = counts f (omega arith) (omega arith) (omega arith) in
      let was = old in
      (f.within, omega arith)

-- ---- a use that begins

pub stands_in_use : {E : Type 0} (r : Result (Unit {0}) E) (n : ℕ) (log db : List ℕ)
    → OnOk r (IsMarked db) → OnOk r (number_of db ≡ n) → IsLog n log
    → OnOk r (Stands standing.InUse log db)
stands_in_use (Ok _) n log db marked is l = (marked, subst (λ k. IsLog k log) (sym is) l)
stands_in_use (Err _) n log db marked is l = tt

pub both_ok : {E : Type 0} (r : Result (Unit {0}) E) (A B : Type 0) → A → OnOk r B → OnOk r (A × B)
both_ok (Ok _) A B a b = (a, b)
both_ok (Err _) A B a b = tt

pub stands_by : (it : FilesState) (n : ℕ) (log db : List ℕ) → IsMarked db → n ≡ number_of db
    → StandsBeside it n log → Stands it log db
stands_by standing.Free n log db marked is isnt = absurd isnt
stands_by standing.StrangeLog n log db marked is isnt = absurd isnt
stands_by standing.InUse n log db marked is l = (marked, subst (λ k. IsLog k log) is l)
stands_by standing.Emptied n log db marked is l = (marked, subst (λ k. IsEmptied k log) is l)
stands_by standing.LogLost n log db marked is l =
    (marked, subst (λ k. (¬ IsLog k log) × (¬ IsEmptied k log)) is l)
