-- What a JSON text is read as: a value, in which texts stay and whole numbers are numbers.
use Rattle.std.proofs.Common.{◌≡◌, refl, ap, ◌∙◌, ℕ, suc, ◌<◌, ◌≤◌, ◌^◌, max, arith, true, List, []}
use Rattle.std.proofs.Common.{◌∷◌, ◌++◌, map, decimal, Some, option_map, option_and_then, Ordering}
use Rattle.std.proofs.Common.{Less, Equal, Greater}
use Rattle.std.specs.{List.AllByRecursion, Str.IsUtf8, Cmp.Lexicographic.slice_cmp}
use Rattle.std.specs.Ordering.{nat_cmp, match_ordering}
use Rattle.std.proofs.lemmas.{Fmt.IsAscii-decimal, Str.IsUtf8-from_ascii}
use Rattle.json.specs.{Print.token_text, Token.Token, Value.items_of}
use Rattle.json.proofs.Printed.Decimals.{IsNumber-decimal}
use Rattle.json.proofs.Printed.Utf8.{are_ascii, IsUtf8-are_ascii, IsUtf8-key, IsUtf8-quoted}
use Rattle.serde_json.specs.Data.{Data, null, number, string, array, object, Items, no_items, item}
use Rattle.serde_json.specs.Data.{Members, no_members, member, put, unsigned, depth, items_depth}
use Rattle.serde_json.{specs.Data.members_depth, proofs.Numbers.number_of-decimal}
use Rattle.serde_json.specs.Read.{of_json, of_items, of_members}
use Rattle.json.specs.Json as json
use Rattle.json.specs.Tree as tree

pub both_within : (a b n : ℕ) → a ≤ n → b ≤ n → max a b ≤ n
both_within a b n h k = omega arith

abbrev pub HasText : Token → Type 0
HasText t = IsUtf8 (token_text t)

pub all_append : {A : Type 0} (P : A → Type 0) (xs ys : List A) → AllByRecursion P xs
    → AllByRecursion P ys → AllByRecursion P (xs ++ ys)
all_append P [] ys h k = k
all_append P (x ∷ xs) ys h k = (h.0, all_append P xs ys h.1 k)

-- a JSON value, what it is read as, and how deep both nest at most
pub record Spells (j : json.Json) (d : Data) (n : ℕ) : Type 0 where
  pub reads : of_json j ≡ Some d
  pub numbers : tree.HasNumbers j
  pub texts : AllByRecursion HasText (tree.json_tokens j)
  pub shallow : tree.depth j ≤ n
  pub as_shallow : depth d ≤ n

pub record SpellsItems (js : json.Items) (ds : Items) (n : ℕ) : Type 0 where
  pub reads : of_items js ≡ Some ds
  pub numbers : tree.ItemsHaveNumbers js
  pub texts : AllByRecursion HasText (tree.items_tokens js)
  pub shallow : tree.items_depth js ≤ n
  pub as_shallow : items_depth ds ≤ n

-- members, and what is read once some were
pub record SpellsMembers (ms : json.Members) (before after : Members) (n : ℕ) : Type 0 where
  pub reads : of_members ms before ≡ Some after
  pub numbers : tree.MembersHaveNumbers ms
  pub texts : AllByRecursion HasText (tree.members_tokens ms)
  pub shallow : tree.members_depth ms ≤ n
  pub as_shallow : members_depth before ≤ n → members_depth after ≤ n

pub spells_null : {n : ℕ} → Spells json.null null n
spells_null = record {
  reads = refl;
  numbers = tt;
  texts = (IsUtf8-are_ascii _ refl, tt);
  shallow = omega arith;
  as_shallow = omega arith;
}

pub spells_string : {n : ℕ} {s : List ℕ} → IsUtf8 s → Spells (json.string s) (string s) n
spells_string {n} {s} text = record {
  reads = refl;
  numbers = tt;
  texts = (IsUtf8-quoted s text, tt);
  shallow = omega arith;
  as_shallow = omega arith;
}

pub spells_whole : {n : ℕ} (k : ℕ) → k < 2 ^ 64
    → Spells (json.number (decimal k)) (number (unsigned k)) n
spells_whole k small = record {
  reads = ap (option_map number) (number_of-decimal k small);
  numbers = IsNumber-decimal k small;
  texts = (IsUtf8-from_ascii (decimal k) (IsAscii-decimal k small), tt);
  shallow = omega arith;
  as_shallow = omega arith;
}

-- Lists

abbrev pub data_items : List Data → Items
data_items [] = no_items
data_items (d ∷ ds) = item d (data_items ds)

pub no_more_items : {n : ℕ} → SpellsItems json.no_items no_items n
no_more_items = record {
  reads = refl;
  numbers = tt;
  texts = (IsUtf8-are_ascii _ refl, tt);
  shallow = omega arith;
  as_shallow = omega arith;
}

pub one_item : {j : json.Json} {js : json.Items} {d : Data} {ds : Items} {n : ℕ} → Spells j d n
    → SpellsItems js ds n → SpellsItems (json.item j js) (item d ds) n
one_item {j} {js} {d} {ds} {n} first rest = record {
  reads = rw (first.reads, rest.reads) refl;
  numbers = (first.numbers, rest.numbers);
  texts = all_append HasText (tree.json_tokens j) (tree.items_tokens js) first.texts rest.texts;
  shallow = both_within (tree.depth j) (tree.items_depth js) n first.shallow rest.shallow;
  as_shallow = both_within (depth d) (items_depth ds) n first.as_shallow rest.as_shallow;
}

pub spells_list : {js : json.Items} {ds : Items} (n : ℕ) → SpellsItems js ds n
    → Spells (json.array js) (array ds) (suc n)
spells_list n items = record {
  reads = ap (option_map array) items.reads;
  numbers = items.numbers;
  texts = (IsUtf8-are_ascii _ refl, items.texts);
  shallow = let h = items.shallow in omega (arith, h);
  as_shallow = let h = items.as_shallow in omega (arith, h);
}

pub each_item : {A : Type 0} (f : A → json.Json) (g : A → Data) (P : A → Type 0) (n : ℕ)
    → ((x : A) → P x → Spells (f x) (g x) n) → (xs : List A) → AllByRecursion P xs
    → SpellsItems (items_of (map f xs)) (data_items (map g xs)) n
each_item f g P n each [] h = no_more_items
each_item f g P n each (x ∷ xs) h = one_item (each x h.0) (each_item f g P n each xs h.1)

-- Objects

put_depth : (k : List ℕ) (d : Data) (ms : Members) (n : ℕ) → depth d ≤ n → members_depth ms ≤ n
    → members_depth (put k d ms) ≤ n
put_depth k d no_members n h most = both_within (depth d) 0 n h most
put_depth k d (member l e ms) n h most =
    step (slice_cmp nat_cmp k l) (put_depth k d ms n h (omega (arith, most)))
  where
    step : (o : Ordering) → members_depth (put k d ms) ≤ n → members_depth
        (match_ordering o (member k d (member l e ms)) (member l d ms) (member l e (put k d ms)))
        ≤ n
    step Less later = omega (arith, h, most)
    step Equal later = omega (arith, h, most)
    step Greater later = omega (arith, h, most, later)

pub no_more_members : {before : Members} {n : ℕ} → SpellsMembers json.no_members before before n
no_more_members = record {
  reads = refl;
  numbers = tt;
  texts = (IsUtf8-are_ascii _ refl, tt);
  shallow = omega arith;
  as_shallow = λ h. h;
}

pub one_member : {k : List ℕ} {j : json.Json} {ms : json.Members} {d : Data}
    {before after : Members} {n : ℕ} → are_ascii k ≡ true → Spells j d n
    → SpellsMembers ms (put k d before) after n → SpellsMembers (json.member k j ms) before after n
one_member {k} {j} {ms} {d} {before} {after} {n} name value rest = record {
  reads =
      ap (option_and_then (λ e. of_members ms (put k e before))) value.reads ∙ rest.reads;
  numbers = (value.numbers, rest.numbers);
  texts = (
    IsUtf8-key k (IsUtf8-are_ascii k name),
    all_append HasText (tree.json_tokens j) (tree.members_tokens ms) value.texts rest.texts,
  );
  shallow = both_within (tree.depth j) (tree.members_depth ms) n value.shallow rest.shallow;
  as_shallow = λ h. rest.as_shallow (put_depth k d before n value.as_shallow h);
}

pub spells_object : {ms : json.Members} {after : Members} (n : ℕ)
    → SpellsMembers ms no_members after n → Spells (json.object ms) (object after) (suc n)
spells_object {ms} {after} n members = record {
  reads = ap (option_map object) members.reads;
  numbers = members.numbers;
  texts = (IsUtf8-are_ascii _ refl, members.texts);
  shallow = let h = members.shallow in omega (arith, h);
  as_shallow =
      let h : members_depth after ≤ n = members.as_shallow (omega arith) in omega (arith, h);
}
