-- What a writer of JSON is given, one part after the other: what is left of a list, an item at a
-- time, and that what is written of a value reads back as the value.
use Rattle.std.proofs.Common.{◌≡◌, refl, sym, ap, ◌∙◌, List, [], ◌∷◌, ◌++◌, append_assoc}
use Rattle.std.proofs.Common.{append-nil, Result, Ok, Err, OnOk, ℕ, ◌+◌, ◌<◌, cond, length, drop}
use Rattle.std.proofs.Common.{get_or, map, bytes_eq, subst, flat_map, ◌≤◌, Some, option_and_then}
use Rattle.json.specs.{Token.Token, Token.key, declared.value.Value.Value, Lex.tokens, Print.print}
use Rattle.json.{specs.Token.end_array, proofs.Printed.Trees.value-json_tokens}
use Rattle.json.specs.{Written.Written, Written.Writes, Tree.MembersHaveNumbers, Tree.depth}
use Rattle.wcif_results.specs.{Written.Adds, Filled.items_with, Filled.members_with, Files.IsTextOf}
use Rattle.std.proofs.lemmas.List.{drop_more, drop_all}
use Rattle.std.specs.{Borrow.Bor, Str.IsUtf8}
use Rattle.json.specs.Json.{Json, document, if_last, max_depth, value}
use Rattle.json.specs.Tree.{json_tokens, items_tokens, members_tokens, HasNumbers, ItemsHaveNumbers}
use Rattle.json.specs.Value.{items_of, value_view, items_view, members_view}

-- one part and then another
pub then : {a b c : Written} {ts us : List Token} → Adds a b ts → Adds b c us → Adds a c (ts ++ us)
then {a} {b} {c} {ts} {us} h k =
    record {
      tokens = k.tokens ∙ ap (λ xs. xs ++ us) h.tokens ∙ append_assoc a.tokens ts us;
      before = k.before ∙ h.before;
    }

-- a token was written
pub wrote : {E : Type 0} {u : Unit {0}} {a b : Written} {t : Token} → Writes {E = E} (Ok u) a b t
    → Adds a b (t ∷ [])
wrote h = record { tokens = h.ok; before = h.room.0 }

-- where the last call succeeds
pub on_ok : {T E : Type 0} {P Q : Type 0} (r : Result T E) → (P → Q) → OnOk r P → OnOk r Q
on_ok (Ok x) f h = f h
on_ok (Err e) f h = h

-- the last token
pub wrote_last : {E : Type 0} {a b : Written} {t : Token} (r : Result (Unit {0}) E)
    → Writes r a b t → OnOk r (Adds a b (t ∷ []))
wrote_last (Ok u) h = wrote h
wrote_last (Err e) h = tt

-- Loops: what was written so far, and what is left of all that is to be written.

pub record Leads (start now : Written) (left all : List Token) : Type 0 where
  pub tokens : now.tokens ++ left ≡ start.tokens ++ all
  pub before : now.before ≡ start.before

-- the first part of what is left is written
pub one_more : {s a b : Written} {left all : List Token} (x rest : List Token)
    → left ≡ x ++ rest → Leads s a left all → Adds a b x → Leads s b rest all
one_more {s} {a} {b} {left} {all} x rest is h k =
    record {
      tokens = rw k.tokens (append_assoc a.tokens x rest ∙ rw (sym is) h.tokens);
      before = k.before ∙ h.before;
    }

-- all that is left is written
pub whole : {s a b : Written} {left all : List Token} (ts : List Token) → left ≡ ts
    → Leads s a left all → Adds a b ts → Adds s b all
whole {s} {a} {b} {left} {all} ts is h k =
    record {
      tokens = k.tokens ∙ ap (λ xs. a.tokens ++ xs) (sym is) ∙ h.tokens;
      before = k.before ∙ h.before;
    }

pub same : {a b : Written} {ts us : List Token} → ts ≡ us → Adds a b ts → Adds a b us
same {a} {b} {ts} {us} is h =
    record { tokens = h.tokens ∙ ap (λ xs. a.tokens ++ xs) is; before = h.before }

-- the item at a place, read with whatever default
pub drop_at : {X : Type 0} (xs : List X) (i : ℕ) (x d : X) → i < length xs → x ≡ get_or xs i d
    → drop i xs ≡ x ∷ drop (i + 1) xs
drop_at xs i x d within is = drop_more xs i d within ∙ ap (λ y. y ∷ drop (i + 1) xs) (sym is)

-- items made of a list
pub items_left : {X : Type 0} (f : X → Json) (xs : List X) (i : ℕ) (x d : X) → i < length xs
    → x ≡ get_or xs i d → items_tokens (items_of (map f (drop i xs)))
    ≡ json_tokens (f x) ++ items_tokens (items_of (map f (drop (i + 1) xs)))
items_left f xs i x d within is = rw (drop_at xs i x d within is) refl

-- items with f of each
pub each_left : {A : Type 0} (f : Json → Json) (xs : List (Value A)) (i : ℕ) (x d : Value A)
    → i < length xs → x ≡ get_or xs i d → items_tokens (items_with f (items_view (drop i xs)))
    ≡ json_tokens (f (value_view x)) ++ items_tokens (items_with f (items_view (drop (i + 1) xs)))
each_left f xs i x d within is = rw (drop_at xs i x d within is) refl

pub item_numbers : {A : Type 0} (xs : List (Value A)) (i : ℕ) (x d : Value A)
    → i < length xs → x ≡ get_or xs i d → ItemsHaveNumbers (items_view (drop i xs))
    → HasNumbers (value_view x) × ItemsHaveNumbers (items_view (drop (i + 1) xs))
item_numbers {A} xs i x d within is h =
    let P : List (Value A) → Type 0 = λ ys. ItemsHaveNumbers (items_view ys) in
    subst P (drop_at xs i x d within is) h

-- members with f of the values under a name
pub members_left : {A : Type 0} (name : List ℕ) (f : Json → Json)
    (xs : List (Bor (List ℕ) × Value A)) (i : ℕ) (x d : Bor (List ℕ) × Value A) → i < length xs
    → x ≡ get_or xs i d
    → members_tokens (members_with name f (members_view (drop i xs))) ≡ (key x.0.now ∷ json_tokens
    (cond (bytes_eq x.0.now name) (f (value_view x.1)) (value_view x.1))) ++ members_tokens
    (members_with name f (members_view (drop (i + 1) xs)))
members_left name f xs i x d within is = rw (drop_at xs i x d within is) refl

pub member_numbers : {A : Type 0} (xs : List (Bor (List ℕ) × Value A)) (i : ℕ)
    (x d : Bor (List ℕ) × Value A) → i < length xs → x ≡ get_or xs i d
    → MembersHaveNumbers (members_view (drop i xs))
    → HasNumbers (value_view x.1) × MembersHaveNumbers (members_view (drop (i + 1) xs))
member_numbers {A} xs i x d within is h =
    let P : List (Bor (List ℕ) × Value A) → Type 0 = λ ys. MembersHaveNumbers (members_view ys) in
    subst P (drop_at xs i x d within is) h

-- items made of the lists of a list
pub items_tokens-append : (xs ys : List Json)
    → items_tokens (items_of (xs ++ ys)) ≡ flat_map json_tokens xs ++ items_tokens (items_of ys)
items_tokens-append [] ys = refl
items_tokens-append (x ∷ xs) ys =
    ap (λ ts. json_tokens x ++ ts) (items_tokens-append xs ys)
    ∙ sym (append_assoc (json_tokens x) (flat_map json_tokens xs) (items_tokens (items_of ys)))

pub lists_left : {X : Type 0} (f : X → List Json) (xs : List X) (i : ℕ) (x d : X) → i < length xs
    → x ≡ get_or xs i d → items_tokens (items_of (flat_map f (drop i xs)))
    ≡ flat_map json_tokens (f x) ++ items_tokens (items_of (flat_map f (drop (i + 1) xs)))
lists_left f xs i x d within is =
    rw (drop_at xs i x d within is) (items_tokens-append (f x) (flat_map f (drop (i + 1) xs)))

-- one more list is added of those that are left
pub lists_of : {X Y : Type 0} (old new all : List Y) (f : X → List Y) (xs : List X) (i : ℕ)
    (x d : X) → i < length xs → x ≡ get_or xs i d → old ++ flat_map f (drop i xs) ≡ all
    → new ≡ old ++ f x → new ++ flat_map f (drop (i + 1) xs) ≡ all
lists_of old new all f xs i x d within is h added =
    rw added (append_assoc old (f x) (flat_map f (drop (i + 1) xs))
    ∙ rw (sym (ap (flat_map f) (drop_at xs i x d within is))) h)

-- no list is left
pub lists_done : {X Y : Type 0} (old all : List Y) (f : X → List Y) (xs : List X) (i : ℕ)
    → length xs ≤ i → old ++ flat_map f (drop i xs) ≡ all → old ≡ all
lists_done old all f xs i past h =
    sym (ap (λ ys. old ++ flat_map f ys) (drop_all i xs past) ∙ append-nil old) ∙ h

pub none_left : {X : Type 0} (f : X → List Json) (xs : List X) (i : ℕ) → length xs ≤ i
    → items_tokens (items_of (flat_map f (drop i xs))) ≡ end_array ∷ []
none_left f xs i past = ap (λ ys. items_tokens (items_of (flat_map f ys))) (drop_all i xs past)

pub reads_back : (d : Json) → tokens (print (json_tokens d)) ≡ json_tokens d → depth d ≤ max_depth
    → document (print (json_tokens d)) ≡ Some d
reads_back d found shallow =
    ap (option_and_then (λ p. if_last p.0 p.1)) (ap (value max_depth)
    (found ∙ sym (append-nil (json_tokens d))) ∙ value-json_tokens d max_depth [] shallow)

-- a writer that had nothing was given the tokens of a value, and this is its text
pub text_of_value : (start end : Written) (text : List ℕ) (d : Json)
    → start.before ≡ [] → start.tokens ≡ [] → Adds start end (json_tokens d)
    → text ≡ end.before ++ print end.tokens → tokens (print end.tokens) ≡ end.tokens
    → IsUtf8 (print end.tokens) → depth d ≤ max_depth → IsTextOf text d
text_of_value start end text d empty none added is found utf8 shallow =
    let all : end.tokens ≡ json_tokens d = added.tokens ∙ ap (λ ts. ts ++ json_tokens d) none in
    let written : text ≡ print (json_tokens d) =
    is ∙ ap (λ b. b ++ print end.tokens) (added.before ∙ empty) ∙ ap print all in
    let same : tokens (print (json_tokens d)) ≡ json_tokens d =
    sym (ap (λ ts. tokens (print ts)) all) ∙ found ∙ all in
    let P : List ℕ → Type 0 = IsUtf8 in
    record {
      printed = written;
      reads_back = ap document written ∙ reads_back d same shallow;
      utf8 = subst P (ap print all ∙ sym written) utf8;
    }
