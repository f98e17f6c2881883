-- A new item is put after the others.
use Rattle.std.proofs.Common.{◌≡◌, ℕ, ◌+◌, ◌≤◌, Bool, true, false, List, [], ◌∷◌, ◌++◌, Option, Bor}
use Rattle.std.proofs.Common.{Some, None, length, is_some, refl, sym, ap, ◌∙◌, cond, arith, nat_le}
use Rattle.std.proofs.{Common.length-append, Common.subst, lemmas.Bool.Decides.nat_tests}
use Rattle.std.specs.{Option.option_copied, Prelude.nat_eq, List.AllByRecursion, Map.lookup}
use Rattle.indexmap.specs.IndexMap.{insert_entry}
use Rattle.acceptor.specs.declared.entry.Entry.{Entry}
use Rattle.outbox.specs.{declared.item.Item.Item, Items.queued, Items.taken_at}
use Rattle.outbox.specs.Items.{IsInBounds, IsUnderItsId, ItemsOf, is_full, item_in, items_of}
use Rattle.outbox.specs.{Lines.item_line, Lines.with_end, Journals.restored, Journals.with_item}
use Rattle.outbox.proofs.Lists.{all_append}

-- where no item has the key, a new one goes last
put_last : (id : ℕ) (item : Item) (items : List (ℕ × Item)) → lookup (nat_eq id) items ≡ None
    → insert_entry nat_eq items id item ≡ items ++ (id, item) ∷ []
put_last id item [] h = refl
put_last id item (x ∷ items) h = go (nat_eq id x.0) h (put_last id item items)
  where
    go : (b : Bool) → cond b (Some x.1) (lookup (nat_eq id) items) ≡ None
        → (lookup (nat_eq id) items ≡ None
        → insert_entry nat_eq items id item ≡ items ++ (id, item) ∷ [])
        → cond b ((x.0, item) ∷ items) (x ∷ insert_entry nat_eq items id item)
        ≡ x ∷ (items ++ (id, item) ∷ [])
    go true e rest = absurd cc
    go false e rest = ap (λ xs. x ∷ xs) (rest e)

pub put_is : (items new : List (ℕ × Item)) (id other : ℕ) (item : Item)
    → new ≡ insert_entry nat_eq items other item → other ≡ id → lookup (nat_eq id) items ≡ None
    → new ≡ items ++ (id, item) ∷ []
put_is items new id other item put same none =
    put ∙ ap (λ (n : ℕ). insert_entry nat_eq items n item) same ∙ put_last id item items none

not_full : (n : ℕ) → nat_le 65536 n ≡ false → n + 1 ≤ 65536
not_full n h = grind (arith, nat_tests)

-- the bounds hold with one more item
pub bounds_more : (items more : List (ℕ × Item)) (kept kept' : ℕ) (lines lines' answered : List ℕ)
    (entry : Entry) (now : ℕ) → IsInBounds (items_of items kept lines answered)
    → nat_le 65536 (length items) ≡ false → more ≡ items ++ (entry.id, taken_at entry now) ∷ []
    → kept' ≤ kept + 1 → IsInBounds (items_of more kept' lines' answered)
bounds_more items more kept kept' lines lines' answered entry now b room is k =
    let one : ℕ × Item = (entry.id, taken_at entry now) in
    let len : length more ≡ length items + 1 = ap length is ∙ length-append items (one ∷ []) in
    record {
      few = omega (arith, len, not_full (length items) room);
      kept = let inside = b.kept in omega (arith, len, inside, k);
      ids =
          subst (AllByRecursion IsUnderItsId) (sym is)
          (all_append IsUnderItsId items (one ∷ []) b.ids (refl, tt));
    }

pub restored_is : (q : ItemsOf) (entry : Entry) (now : ℕ) → is_some (item_in q entry.id) ≡ false
    → is_full q ≡ false → restored q entry now ≡ Some (with_item q entry now)
restored_is q entry now new room = rw new (rw room refl)

-- one more item and its line
pub queued_is : (q : ItemsOf) (entry : Entry) (now : ℕ) (items more : List (ℕ × Item)) (kept : ℕ)
    (lines longer answered : List ℕ) → items_of items kept lines answered ≡ q
    → more ≡ items ++ (entry.id, taken_at entry now) ∷ []
    → longer ≡ lines ++ with_end (item_line entry)
    → items_of more kept longer answered ≡ queued q entry now
queued_is q entry now items more kept lines longer answered e is line =
    (λ k. items_of (is k) kept (line k) answered) ∙ ap (λ (p : ItemsOf). queued p entry now) e

-- no item has the id, by what was looked up
pub none_known : (q : ItemsOf) (id : ℕ) (found : Option (Bor Item))
    → option_copied found ≡ item_in q id → is_some found ≡ false → item_in q id ≡ None
none_known q id None e h = sym e
none_known q id (Some item) e h = absurd cc

-- one more item that is in the journal
pub restored_more : (q : ItemsOf) (entry : Entry) (now : ℕ) (items more : List (ℕ × Item))
    (kept : ℕ) (lines answered : List ℕ) → items_of items kept lines answered ≡ q
    → item_in q entry.id ≡ None
    → is_full q ≡ false → more ≡ items ++ (entry.id, taken_at entry now) ∷ []
    → restored q entry now ≡ Some (items_of more (kept + 1) lines answered)
restored_more q entry now items more kept lines answered e new room is =
    restored_is q entry now (ap is_some new) room
    ∙ ap (λ x. Some x) (ap (λ (p : ItemsOf). with_item p entry now) (sym e)
    ∙ ap (λ m. items_of m (kept + 1) lines answered) (sym is))
