-- What reading a journal's lines does.
use Rattle.std.proofs.Common.{◌≡◌, ℕ, ◌+◌, ◌^◌, ◌<◌, ◌≤◌, ◌⊎◌, inl, inr, false, List, [], ◌∷◌, ◌++◌}
use Rattle.std.proofs.Common.{length, is_some, Option, Some, None, Ok, refl, sym, ap, ◌∙◌, arith}
use Rattle.std.proofs.Common.{subst, length-append}
use Rattle.std.specs.{Prelude.Contains, Prelude.nat_eq, List.AllByRecursion, Map.lookup}
use Rattle.acceptor.specs.declared.entry.Entry.{Entry}
use Rattle.outbox.specs.declared.{item.Item.Item, journal_lines.JournalLine.JournalLine}
use Rattle.outbox.specs.Items.{ItemsOf, item_in, no_items, taken_at}
use Rattle.outbox.specs.Journals.{after_lines, answered_again, followed_if, restored, with_item}
use Rattle.outbox.specs.Lines.{item_line, said}
use Rattle.outbox.proofs.Alike.{answered_so, first_fits, restored_so}
use Rattle.outbox.proofs.Lists.{all_append, contains_cases, found_front, found_last}
use Rattle.outbox.proofs.Spelled.{IsSpelled, ReadsBack, item_spelled}
use Rattle.outbox.specs.declared.journal_lines.JournalLine.TheVariants as line

-- what a line that fits does to the items: it puts one more there, or none
pub record AddsItem (bytes : List ℕ) (now : ℕ) (q next : ItemsOf) : Type 0 where
  pub entry : Entry
  pub spelled : IsSpelled bytes entry
  pub read : ReadsBack entry
  pub new : item_in q entry.id ≡ None
  pub becomes : next ≡ with_item q entry now

pub record AddsNone (q next : ItemsOf) : Type 0 where
  pub items : next.items ≡ q.items
  pub kept : next.kept ≡ q.kept
  pub lines : next.lines ≡ q.lines

abbrev pub Adds : List ℕ → ℕ → ItemsOf → ItemsOf → Type 0
Adds bytes now q next = AddsItem bytes now q next ⊎ AddsNone q next

none_of : (o : Option Item) → is_some o ≡ false → o ≡ None
none_of None h = refl
none_of (Some item) h = absurd cc

adds_item : (bytes : List ℕ) (now : ℕ) (q next : ItemsOf) (entry : Entry)
    → said bytes ≡ Some (line.Item entry) → restored q entry now ≡ Some next → Adds bytes now q next
adds_item bytes now q next entry is h =
    let so = restored_so q next entry now h in
    inl (record {
      entry = entry;
      spelled = item_spelled bytes entry is;
      read = ap said (sym (item_spelled bytes entry is).is) ∙ is;
      new = none_of (item_in q entry.id) so.0;
      becomes = sym so.2;
    })

adds_answer : (bytes : List ℕ) (now : ℕ) (q next : ItemsOf) (id : ℕ)
    → answered_again q id ≡ Some next → Adds bytes now q next
adds_answer bytes now q next id h =
    let same = (answered_so q next id h).1 in
    inr (record {
      items = ap (λ (x : ItemsOf). x.items) (sym same);
      kept = ap (λ (x : ItemsOf). x.kept) (sym same);
      lines = ap (λ (x : ItemsOf). x.lines) (sym same);
    })

adds_said : (bytes : List ℕ) (now : ℕ) (q next : ItemsOf) (o : Option JournalLine) → said bytes ≡ o
    → followed_if q now o ≡ Some next → Adds bytes now q next
adds_said bytes now q next None is h = absurd cc
adds_said bytes now q next (Some (line.Item entry)) is h = adds_item bytes now q next entry is h
adds_said bytes now q next (Some (line.Answered id)) is h = adds_answer bytes now q next id h

pub adds : (bytes : List ℕ) (now : ℕ) (q next : ItemsOf)
    → followed_if q now (said bytes) ≡ Some next → Adds bytes now q next
adds bytes now q next h = adds_said bytes now q next (said bytes) refl h

-- ---- what stays over all lines

module _ (P : ItemsOf → Type 0) (now : ℕ) (all : List (List ℕ))
    (steps : (bytes : List ℕ) (q next : ItemsOf) → Contains all bytes → Adds bytes now q next → P q
    → P next) where
  pub over_lines : (q r : ItemsOf) (number : ℕ) (lines : List (List ℕ))
      → AllByRecursion (Contains all) lines → P q → after_lines q now number lines ≡ Ok r → P r
  over_lines q r number [] c p e = let same : q ≡ r = cc in subst P same p
  over_lines q r number (bytes ∷ lines) c p e =
      let first = first_fits q r now number bytes lines e in
      over_lines first.next r (number + 1) lines c.1
      (steps bytes q first.next c.0 (adds bytes now q first.next first.is) p) first.reads

-- ---- what is read

-- an entry of a program is under its id
pub record IsKeyed (pair : ℕ × Item) : Type 0 where
  pub is : pair.0 ≡ pair.1.entry.id
  pub first : 1 ≤ pair.1.entry.id
  pub last : pair.1.entry.id < 2 ^ 63
  pub read : ReadsBack pair.1.entry

abbrev pub HasLine : List (List ℕ) → ℕ × Item → Type 0
HasLine lines pair = Contains lines (item_line pair.1.entry)

-- what was read
pub record IsRead (all : List (List ℕ)) (q : ItemsOf) : Type 0 where
  pub keyed : AllByRecursion IsKeyed q.items
  pub lines : AllByRecursion (HasLine all) q.items
  pub kept : q.kept ≡ length q.items
  pub none : q.lines ≡ []

module _ (now : ℕ) (all : List (List ℕ)) where
  read_item : (bytes : List ℕ) (q next : ItemsOf) → Contains all bytes → AddsItem bytes now q next
      → IsRead all q → IsRead all next
  read_item bytes q next c a r =
      let one : ℕ × Item = (a.entry.id, taken_at a.entry now) in
      subst (IsRead all) (sym a.becomes) (record {
        keyed =
            all_append IsKeyed q.items (one ∷ []) r.keyed (
              record {
                is = refl;
                first = a.spelled.first;
                last = a.spelled.last;
                read = a.read;
              },
              tt,
            );
        lines =
            all_append (HasLine all) q.items (one ∷ []) r.lines
            (subst (Contains all) a.spelled.is c, tt);
        kept = omega (arith, r.kept, length-append q.items (one ∷ []));
        none = r.none;
      })

  read_none : (q next : ItemsOf) → AddsNone q next → IsRead all q → IsRead all next
  read_none q next a r = record {
    keyed = subst (AllByRecursion IsKeyed) (sym a.items) r.keyed;
    lines = subst (AllByRecursion (HasLine all)) (sym a.items) r.lines;
    kept = a.kept ∙ r.kept ∙ ap length (sym a.items);
    none = a.lines ∙ r.none;
  }

  read_steps : (bytes : List ℕ) (q next : ItemsOf) → Contains all bytes → Adds bytes now q next
      → IsRead all q → IsRead all next
  read_steps bytes q next c (inl a) r = read_item bytes q next c a r
  read_steps bytes q next c (inr a) r = read_none q next a r

  pub is_read : (q : ItemsOf) (number : ℕ) → AllByRecursion (Contains all) all
      → after_lines no_items now number all ≡ Ok q → IsRead all q
  is_read q number c e =
      over_lines (IsRead all) now all read_steps no_items q number all c
      (record { keyed = tt; lines = tt; kept = refl; none = refl }) e

-- ---- an item whose line is read

pub record IsIn (items : List (ℕ × Item)) (entry : Entry) : Type 0 where
  pub item : Item
  pub found : lookup (nat_eq entry.id) items ≡ Some item
  pub is : item.entry ≡ entry

pub in_front : (xs ys : List (ℕ × Item)) (entry : Entry) → IsIn xs entry → IsIn (xs ++ ys) entry
in_front xs ys entry i = record {
  item = i.item;
  found = found_front entry.id xs ys i.item i.found;
  is = i.is;
}

pub in_last : (xs : List (ℕ × Item)) (entry : Entry) (now : ℕ) → lookup (nat_eq entry.id) xs ≡ None
    → IsIn (xs ++ (entry.id, taken_at entry now) ∷ []) entry
in_last xs entry now none = record {
  item = taken_at entry now;
  found = found_last entry.id xs (taken_at entry now) none;
  is = refl;
}

module _ (now : ℕ) (entry : Entry) where
  stays : (bytes : List ℕ) (q next : ItemsOf) → Adds bytes now q next → IsIn q.items entry
      → IsIn next.items entry
  stays bytes q next (inl a) i =
      subst (λ (x : ItemsOf). IsIn x.items entry) (sym a.becomes)
      (in_front q.items ((a.entry.id, taken_at a.entry now) ∷ []) entry i)
  stays bytes q next (inr a) i = subst (λ items. IsIn items entry) (sym a.items) i

  comes : ReadsBack entry → (q next : ItemsOf)
      → followed_if q now (said (item_line entry)) ≡ Some next → IsIn next.items entry
  comes read q next h =
      let so = restored_so q next entry now (sym (ap (followed_if q now) read) ∙ h) in
      subst (λ (x : ItemsOf). IsIn x.items entry) so.2
      (in_last q.items entry now (none_of (item_in q entry.id) so.0))

  pub line_read : ReadsBack entry → (q r : ItemsOf) (number : ℕ) (lines : List (List ℕ))
      → after_lines q now number lines ≡ Ok r
      → IsIn q.items entry ⊎ Contains lines (item_line entry) → IsIn r.items entry
  line_read read q r number [] e (inl i) = let same : q ≡ r = cc in
      subst (λ (x : ItemsOf). IsIn x.items entry) same i
  line_read read q r number [] e (inr (k, less, is)) = absurd (omega (arith, less))
  line_read read q r number (bytes ∷ lines) e known =
      let first = first_fits q r now number bytes lines e in
      line_read read first.next r (number + 1) lines first.reads (on first.next first.is known)
    where
      on : (next : ItemsOf) → followed_if q now (said bytes) ≡ Some next
          → IsIn q.items entry ⊎ Contains (bytes ∷ lines) (item_line entry)
          → IsIn next.items entry ⊎ Contains lines (item_line entry)
      on next is (inl i) = inl (stays bytes q next (adds bytes now q next is) i)
      on next is (inr c) =
          elim (contains_cases bytes lines (item_line entry) c) [
            | inl same ↦
                inl (comes read q next
                (subst (λ (b : List ℕ). followed_if q now (said b) ≡ Some next) same is))
            | inr later ↦ inr later
          ]
