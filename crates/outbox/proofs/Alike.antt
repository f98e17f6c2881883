-- Whether lines fit depends on the ids of the items so far alone.
use Rattle.std.proofs.Common.{◌≡◌, ℕ, ◌+◌, [], ◌∷◌, map, Some, None, Ok, refl, sym, ap, ◌∙◌, cond}
use Rattle.std.proofs.Common.{◌||◌, Bool, true, false, List, ◌++◌, length, is_some, nat_le, Option}
use Rattle.std.specs.{Prelude.nat_eq, List.list_any, Map.lookup}
use Rattle.std.proofs.lemmas.List.{length-map, map-append}
use Rattle.indexmap.specs.IndexSet.{insert_key}
use Rattle.acceptor.specs.declared.entry.Entry.{Entry}
use Rattle.outbox.specs.declared.{item.Item.Item, journal_lines.JournalLine.JournalLine}
use Rattle.outbox.specs.Items.{ItemsOf, is_full, item_in, items_of, taken_at}
use Rattle.outbox.specs.Journals.{after_lines, answered_again, followed_if, go_on, restored}
use Rattle.outbox.specs.{Journals.with_item, Lines.said}
use Rattle.outbox.specs.declared.journal_lines.JournalLine.TheVariants as line

abbrev pub key_of : ℕ × Item → ℕ
key_of pair = pair.0

abbrev pub keys : ItemsOf → List ℕ
keys q = map key_of q.items

known_keys : (id : ℕ) (items : List (ℕ × Item))
    → is_some (lookup (nat_eq id) items) ≡ list_any (nat_eq id) (map key_of items)
known_keys id [] = refl
known_keys id (x ∷ items) = go (nat_eq id x.0) (known_keys id items)
  where
    go : (b : Bool) → is_some (lookup (nat_eq id) items) ≡ list_any (nat_eq id) (map key_of items)
        → is_some (cond b (Some x.1) (lookup (nat_eq id) items))
        ≡ (b || list_any (nat_eq id) (map key_of items))
    go true h = refl
    go false h = h

pub same_known : (q r : ItemsOf) (id : ℕ) → keys q ≡ keys r
    → is_some (item_in q id) ≡ is_some (item_in r id)
same_known q r id e =
    known_keys id q.items ∙ ap (list_any (nat_eq id)) e ∙ sym (known_keys id r.items)

pub same_full : (q r : ItemsOf) → keys q ≡ keys r → is_full q ≡ is_full r
same_full q r e =
    ap (nat_le 65536) (sym (length-map q.items key_of) ∙ ap length e ∙ length-map r.items key_of)

pub keys_more : (items : List (ℕ × Item)) (entry : Entry) (now : ℕ)
    → map key_of (items ++ (entry.id, taken_at entry now) ∷ []) ≡ map key_of items ++ entry.id ∷ []
keys_more items entry now = map-append key_of items ((entry.id, taken_at entry now) ∷ [])

-- an item that fits is new, and there is room for it
pub restored_so : (q next : ItemsOf) (entry : Entry) (now : ℕ) → restored q entry now ≡ Some next
    → (is_some (item_in q entry.id) ≡ false) × (is_full q ≡ false) × (with_item q entry now ≡ next)
restored_so q next entry now h = go (is_some (item_in q entry.id)) (is_full q) refl refl h
  where
    go : (known full : Bool) → is_some (item_in q entry.id) ≡ known → is_full q ≡ full
        → cond known None (cond full None (Some (with_item q entry now))) ≡ Some next
        → (is_some (item_in q entry.id) ≡ false) × (is_full q ≡ false)
        × (with_item q entry now ≡ next)
    go true full k f s = absurd cc
    go false true k f s = absurd cc
    go false false k f s = let same : with_item q entry now ≡ next = cc in (k, f, same)

abbrev pub with_answered : ItemsOf → ℕ → ItemsOf
with_answered q id = items_of q.items q.kept q.lines (insert_key nat_eq q.answered id)

-- an answer that fits is one of an item
pub answered_so : (q next : ItemsOf) (id : ℕ) → answered_again q id ≡ Some next
    → (is_some (item_in q id) ≡ true) × (with_answered q id ≡ next)
answered_so q next id h = go (is_some (item_in q id)) refl h
  where
    go : (known : Bool) → is_some (item_in q id) ≡ known
        → cond known (Some (with_answered q id)) None ≡ Some next
        → (is_some (item_in q id) ≡ true) × (with_answered q id ≡ next)
    go false k s = absurd cc
    go true k s = let same : with_answered q id ≡ next = cc in (k, same)

-- the first line fits, and the others after it
pub record FitsFirst (q : ItemsOf) (now number : ℕ) (bytes : List ℕ) (lines : List (List ℕ))
    (r : ItemsOf) : Type 0 where
  pub next : ItemsOf
  pub is : followed_if q now (said bytes) ≡ Some next
  pub reads : after_lines next now (number + 1) lines ≡ Ok r

pub first_fits : (q r : ItemsOf) (now number : ℕ) (bytes : List ℕ) (lines : List (List ℕ))
    → after_lines q now number (bytes ∷ lines) ≡ Ok r → FitsFirst q now number bytes lines r
first_fits q r now number bytes lines h = go (followed_if q now (said bytes)) refl h
  where
    go : (o : Option ItemsOf) → followed_if q now (said bytes) ≡ o
        → go_on o number (λ next. after_lines next now (number + 1) lines) ≡ Ok r
        → FitsFirst q now number bytes lines r
    go None is s = absurd cc
    go (Some next) is s = record { next = next; is = is; reads = s }

-- the items of a list that has the same ids fit as well, and the ids stay the same
pub record FitsToo (r : ItemsOf) (now : ℕ) (o : Option JournalLine) (x : ItemsOf) : Type 0 where
  pub next : ItemsOf
  pub fits : followed_if r now o ≡ Some next
  pub same : keys x ≡ keys next

item_too : (q r x : ItemsOf) (now later : ℕ) (entry : Entry) → keys q ≡ keys r
    → restored q entry now ≡ Some x → FitsToo r later (Some (line.Item entry)) x
item_too q r x now later entry e h =
    let so = restored_so q x entry now h in
    let known : is_some (item_in r entry.id) ≡ false = sym (same_known q r entry.id e) ∙ so.0 in
    let room : is_full r ≡ false = sym (same_full q r e) ∙ so.1 in
    record {
      next = with_item r entry later;
      fits = rw known (rw room refl);
      same =
          ap keys (sym so.2) ∙ keys_more q.items entry now
          ∙ ap (λ ids. ids ++ entry.id ∷ []) e ∙ sym (keys_more r.items entry later);
    }

answer_too : (q r x : ItemsOf) (later id : ℕ) → keys q ≡ keys r → answered_again q id ≡ Some x
    → FitsToo r later (Some (line.Answered id)) x
answer_too q r x later id e h =
    let so = answered_so q x id h in
    let known : is_some (item_in r id) ≡ true = sym (same_known q r id e) ∙ so.0 in
    record { next = with_answered r id; fits = rw known refl; same = ap keys (sym so.1) ∙ e }

fits_too : (q r x : ItemsOf) (now later : ℕ) (o : Option JournalLine) → keys q ≡ keys r
    → followed_if q now o ≡ Some x → FitsToo r later o x
fits_too q r x now later None e h = absurd cc
fits_too q r x now later (Some (line.Item entry)) e h = item_too q r x now later entry e h
fits_too q r x now later (Some (line.Answered id)) e h = answer_too q r x later id e h

-- lines fit after items, whenever and whatever their numbers are, and leave these ids
pub record Fit (q : ItemsOf) (now number : ℕ) (lines : List (List ℕ)) (ids : List ℕ) : Type 0 where
  pub left : ItemsOf
  pub reads : after_lines q now number lines ≡ Ok left
  pub ids_are : keys left ≡ ids

pub fit_too : (q r x : ItemsOf) (now later number other : ℕ) (lines : List (List ℕ))
    → keys q ≡ keys r → after_lines q now number lines ≡ Ok x → Fit r later other lines (keys x)
fit_too q r x now later number other [] e h =
    let same : q ≡ x = cc in
    record { left = r; reads = refl; ids_are = sym e ∙ ap keys same }
fit_too q r x now later number other (bytes ∷ lines) e h =
    let first = first_fits q x now number bytes lines h in
    let too = fits_too q r first.next now later (said bytes) e first.is in
    let rest =
    fit_too first.next too.next x now later (number + 1) (other + 1) lines too.same first.reads in
    record {
      left = rest.left;
      reads =
          ap (λ o. go_on o other (λ n. after_lines n later (other + 1) lines)) too.fits
          ∙ rest.reads;
      ids_are = rest.ids_are;
    }

-- more lines that fit after these
pub fit_more : (q r x : ItemsOf) (now then number other : ℕ) (lines more : List (List ℕ))
    → after_lines q now number lines ≡ Ok r → after_lines r then other more ≡ Ok x
    → Fit q now number (lines ++ more) (keys x)
fit_more q r x now then number other [] more h g =
    let same : q ≡ r = cc in
    fit_too r q x then now other number more (ap keys (sym same)) g
fit_more q r x now then number other (bytes ∷ lines) more h g =
    let first = first_fits q r now number bytes lines h in
    let rest = fit_more first.next r x now then (number + 1) other lines more first.reads g in
    record {
      left = rest.left;
      reads =
          ap (λ o. go_on o number (λ n. after_lines n now (number + 1) (lines ++ more))) first.is
          ∙ rest.reads;
      ids_are = rest.ids_are;
    }
