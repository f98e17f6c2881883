-- What a crash leaves of the file is read.
use Rattle.std.proofs.Common.{◌≡◌, ℕ, zero, suc, ◌+◌, ◌-◌, ◌^◌, ◌<◌, ◌≤◌, ◌==◌, ◌⊎◌, inl, inr, Bool}
use Rattle.std.proofs.Common.{true, false, List, [], ◌∷◌, ◌++◌, length, map, take, All, is_some}
use Rattle.std.proofs.Common.{Some, None, Ok, Err, refl, sym, ap, ◌∙◌, cond, subst, arith, nat_le}
use Rattle.std.specs.Prelude.{bytes_eq}
use Rattle.std.proofs.lemmas.{Bool.Decides.nat_tests, Slice.Eq.bytes_eq-Decides}
use Rattle.std.proofs.Math.Seq.{take-append-add, take-length}
use Rattle.std.proofs.lemmas.List.{append-nil, length-take-le, take-append-le, take_all}
use Rattle.std.proofs.lemmas.List.{length-append, Elements.All-take, Splits.slice_split_none}
use Rattle.acceptor.specs.declared.entry.Entry.{Entry}
use Rattle.texts.specs.Fields.{cut}
use Rattle.outbox.specs.Items.{ItemsOf, all_kept, is_full, item_in, no_items, queued, taken_at}
use Rattle.outbox.specs.{Items.taken_back, Journals.read_lines, Journals.with_item}
use Rattle.outbox.specs.{Items.with_answer, Lines.said, Lines.whole_lines, Lines.with_end}
use Rattle.outbox.specs.Journals.{after_lines, fault_of_first, followed_if, go_on, read_back}
use Rattle.outbox.specs.Lines.{HallOf, all_but_last, answered_line, cut_line, hall_line, item_line}
use Rattle.outbox.proofs.Alike.{with_answered, Fit, fit_more, fit_too, key_of, keys, keys_more}
use Rattle.outbox.proofs.{Alike.same_full, Alike.same_known, Pieces.IsNoEnd, Pieces.whole_after}
use Rattle.outbox.proofs.Additions.{whole_more, whole_one}
use Rattle.outbox.proofs.Spelled.{IsFit, answered_no_end, item_no_end, said_answered, said_item}

-- ---- what is left of a line that was cut

whole_none : (cut : List ℕ) → All IsNoEnd cut → whole_lines cut ≡ []
whole_none cut free = ap all_but_last (slice_split_none (λ b. b == 10) cut free)

-- of a line, none is whole, or it is
cut_of_line : (line : List ℕ) (m : ℕ) → All IsNoEnd line
    → (whole_lines (take m (with_end line)) ≡ []) ⊎ (take m (with_end line) ≡ with_end line)
cut_of_line line m free = go (nat_le m (length line)) refl
  where
    go : (b : Bool) → nat_le m (length line) ≡ b → (whole_lines (take m (with_end line)) ≡ [])
        ⊎ (take m (with_end line) ≡ with_end line)
    go true is =
        let few : m ≤ length line = grind (arith, nat_tests) in
        inl (ap whole_lines (take-append-le m line (10 ∷ []) few)
        ∙ whole_none (take m line) (All-take IsNoEnd m line free))
    go false is =
        let many : length line < m = grind (arith, nat_tests) in
        let len = length-append line (10 ∷ []) in
        inr (take_all m (with_end line) (omega (arith, many, len)))

-- of lines and one more, those, or those and the one, or what is left of those
pub data CutMore (lines line : List ℕ) (got : List (List ℕ)) : Type 0 where
  Fewer : (count : ℕ) → got ≡ whole_lines (take count lines) → CutMore lines line got
  Those : got ≡ whole_lines lines → CutMore lines line got
  All_of : got ≡ whole_lines lines ++ line ∷ [] → CutMore lines line got

cut_more : (lines line : List ℕ) (count : ℕ) → cut_line lines ≡ [] → All IsNoEnd line
    → CutMore lines line (whole_lines (take count (lines ++ with_end line)))
cut_more lines line count ends free = go (nat_le count (length lines)) refl
  where
    rest : (m : ℕ) → count ≡ length lines + m
        → CutMore lines line (whole_lines (take count (lines ++ with_end line)))
    rest m is =
        let parts : whole_lines (take count (lines ++ with_end line))
        ≡ whole_lines lines ++ whole_lines (take m (with_end line)) =
        ap (λ n. whole_lines (take n (lines ++ with_end line))) is
        ∙ ap whole_lines (take-append-add lines (with_end line) m)
        ∙ whole_after lines (take m (with_end line)) ends in
        elim (cut_of_line line m free) [
          | inl none ↦
              Those (parts ∙ ap (λ x. whole_lines lines ++ x) none ∙ append-nil (whole_lines lines))
          | inr all ↦
              All_of
              (parts ∙ ap (λ x. whole_lines lines ++ whole_lines x) all
              ∙ ap (λ x. whole_lines lines ++ x) (whole_one line free))
        ]

    go : (b : Bool) → nat_le count (length lines) ≡ b
        → CutMore lines line (whole_lines (take count (lines ++ with_end line)))
    go true is =
        let few : count ≤ length lines = grind (arith, nat_tests) in
        Fewer count (ap whole_lines (take-append-le count lines (with_end line) few))
    go false is =
        let many : length lines < count = grind (arith, nat_tests) in
        rest (count - length lines) (omega (arith, many))

-- ---- the lines that are to be put into the file fit after it, however many of their bytes are

pub record InStep (tail : List (List ℕ)) (q : ItemsOf) : Type 0 where
  pub file : Fit no_items 0 2 tail (map key_of (take q.kept q.items))
  pub all : Fit file.left 0 0 (whole_lines q.lines) (keys q)
  pub part : (count : ℕ) → (ids : List ℕ) × Fit file.left 0 0 (whole_lines (take count q.lines)) ids

-- one more line fits
module _ (tail : List (List ℕ)) (q next : ItemsOf) (line : List ℕ) (s : InStep tail q)
    (ends : cut_line q.lines ≡ []) (free : All IsNoEnd line)
    (lines : next.lines ≡ q.lines ++ with_end line)
    (front : map key_of (take next.kept next.items) ≡ map key_of (take q.kept q.items))
    (fits : (x : ItemsOf) → keys x ≡ keys q → (y : ItemsOf) × (followed_if x 0 (said line) ≡ Some y)
    × (keys y ≡ keys next)) where
  one_more : Fit s.file.left 0 0 (whole_lines q.lines ++ line ∷ []) (keys next)
  one_more =
      let f = fits s.all.left s.all.ids_are in
      let single : after_lines s.all.left 0 0 (line ∷ []) ≡ Ok f.0 =
      ap (λ o. go_on o 0 (λ n. after_lines n 0 1 [])) f.1 in
      subst (Fit s.file.left 0 0 (whole_lines q.lines ++ line ∷ [])) f.2
      (fit_more s.file.left s.all.left f.0 0 0 0 0 (whole_lines q.lines) (line ∷ []) s.all.reads
      single)

  part_more : (count : ℕ) (got : List (List ℕ)) → CutMore q.lines line got
      → (ids : List ℕ) × Fit s.file.left 0 0 got ids
  part_more count got (Fewer n is) =
      let p = s.part n in (p.0, subst (λ g. Fit s.file.left 0 0 g p.0) (sym is) p.1)
  part_more count got (Those is) =
      (keys q, subst (λ g. Fit s.file.left 0 0 g (keys q)) (sym is) s.all)
  part_more count got (All_of is) =
      (keys next, subst (λ g. Fit s.file.left 0 0 g (keys next)) (sym is) one_more)

  pub in_step_more : InStep tail next
  in_step_more = record {
    file = record {
      left = s.file.left;
      reads = s.file.reads;
      ids_are = s.file.ids_are ∙ sym front;
    };
    all =
        subst (λ l. Fit s.file.left 0 0 l (keys next))
        (sym (ap whole_lines lines ∙ whole_more q.lines line ends free)) one_more;
    part =
        λ count.
        part_more count (whole_lines (take count next.lines))
        (subst (λ l. CutMore q.lines line (whole_lines (take count l))) (sym lines)
        (cut_more q.lines line count ends free));
  }

-- ---- calls

pub step_queued : (tail : List (List ℕ)) (q : ItemsOf) (entry : Entry) (now : ℕ) → IsFit entry
    → q.kept ≤ length q.items → cut_line q.lines ≡ [] → item_in q entry.id ≡ None
    → is_full q ≡ false → InStep tail q → InStep tail (queued q entry now)
step_queued tail q entry now fit within ends new room s =
    in_step_more tail q (queued q entry now) (item_line entry) s ends (item_no_end entry fit) refl
    (ap (map key_of) (take-append-le q.kept q.items ((entry.id, taken_at entry now) ∷ []) within))
    (λ x e.
    let known : is_some (item_in x entry.id) ≡ false =
    same_known x q entry.id e ∙ ap is_some new in
    let full : is_full x ≡ false = same_full x q e ∙ room in (
      with_item x entry 0,
      ap (followed_if x 0) (said_item entry fit) ∙ rw known (rw full refl),
      keys_more x.items entry 0 ∙ ap (λ ids. ids ++ entry.id ∷ []) e
          ∙ sym (keys_more q.items entry now),
    ))

pub step_answered : (tail : List (List ℕ)) (q : ItemsOf) (id : ℕ) → 1 ≤ id → id < 2 ^ 63
    → cut_line q.lines ≡ [] → is_some (item_in q id) ≡ true → InStep tail q
    → InStep tail (with_answer q id)
step_answered tail q id first last ends known s =
    in_step_more tail q (with_answer q id) (answered_line id) s ends (answered_no_end id last) refl
    refl (λ x e.
    let there : is_some (item_in x id) ≡ true = same_known x q id e ∙ known in (
      with_answered x id,
      ap (followed_if x 0) (said_answered id first last) ∙ rw there refl,
      e,
    ))

nothing_due : (tail : List (List ℕ)) (q : ItemsOf) → q.lines ≡ []
    → map key_of (take q.kept q.items) ≡ keys q → Fit no_items 0 2 tail (keys q) → InStep tail q
nothing_due tail q none front f =
    let file : Fit no_items 0 2 tail (map key_of (take q.kept q.items)) =
    record { left = f.left; reads = f.reads; ids_are = f.ids_are ∙ sym front } in
    let empty : Fit f.left 0 0 [] (keys q) =
    record { left = f.left; reads = refl; ids_are = f.ids_are } in
    record {
      file = file;
      all = subst (λ l. Fit f.left 0 0 (whole_lines l) (keys q)) (sym none) empty;
      part =
          λ count. (
            keys q,
            subst (λ l. Fit f.left 0 0 (whole_lines (take count l)) (keys q)) (sym none)
                (subst (λ l. Fit f.left 0 0 (whole_lines l) (keys q)) (sym (take_none count))
                empty),
          );
    }
  where
    take_none : (n : ℕ) → take {A = ℕ} n [] ≡ []
    take_none zero = refl
    take_none (suc n) = refl

pub step_kept : (tail : List (List ℕ)) (q : ItemsOf) → InStep tail q
    → InStep (tail ++ whole_lines q.lines) (all_kept q)
step_kept tail q s =
    nothing_due (tail ++ whole_lines q.lines) (all_kept q) refl
    (ap (map key_of) (take-length q.items))
    (subst (Fit no_items 0 2 (tail ++ whole_lines q.lines)) s.all.ids_are
    (fit_more no_items s.file.left s.all.left 0 0 2 0 tail (whole_lines q.lines) s.file.reads
    s.all.reads))

pub step_back : (tail : List (List ℕ)) (q : ItemsOf) → q.kept ≤ length q.items → InStep tail q
    → InStep tail (taken_back q)
step_back tail q within s =
    let len : length (take q.kept q.items) ≡ q.kept = length-take-le q.kept q.items within in
    nothing_due tail (taken_back q) refl (ap (map key_of)
    (ap (λ n. take n (take q.kept q.items)) (sym len) ∙ take-length (take q.kept q.items))) s.file

pub step_read : (now : ℕ) (tail : List (List ℕ)) (q : ItemsOf)
    → after_lines no_items now 2 tail ≡ Ok q → q.kept ≡ length q.items → q.lines ≡ []
    → InStep tail q
step_read now tail q reads kept none =
    nothing_due tail q none
    (ap (λ n. map key_of (take n q.items)) kept ∙ ap (map key_of) (take-length q.items))
    (fit_too no_items no_items q now 0 2 2 tail refl reads)

-- ---- what a crash leaves

same_bytes : (bytes : List ℕ) → bytes_eq bytes bytes ≡ true
same_bytes bytes = (bytes_eq-Decides bytes bytes).1 refl

pub reads_part : (hall : HallOf) (now count : ℕ) (file : List ℕ) (tail : List (List ℕ))
    (q : ItemsOf) → whole_lines file ≡ hall_line hall ∷ tail → cut_line file ≡ [] → InStep tail q
    → (r : ItemsOf) × (read_back hall now (file ++ take count q.lines) ≡ Ok r)
reads_part hall now count file tail q named ends s =
    let more = whole_lines (take count q.lines) in
    let p = s.part count in
    let zero =
    fit_more no_items s.file.left p.1.left 0 0 2 0 tail more s.file.reads p.1.reads in
    let f = fit_too no_items no_items zero.left 0 now 2 2 (tail ++ more) refl zero.reads in
    let lines : whole_lines (file ++ take count q.lines) ≡ hall_line hall ∷ (tail ++ more) =
    whole_after file (take count q.lines) ends ∙ ap (λ front. front ++ more) named in (
      f.left,
      ap (read_lines hall now) lines
          ∙ ap
          (λ b. cond b (after_lines no_items now 2 (tail ++ more))
          (Err (fault_of_first (cut 32 (hall_line hall)).0))) (same_bytes (hall_line hall))
          ∙ f.reads,
    )
