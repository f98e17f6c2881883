-- Where an id is first, after one more entry.
use Rattle.std.proofs.Common.{◌≡◌, ℕ, ◌+◌, Bool, true, false, if◌then◌else◌, ◌==◌, List, [], ◌∷◌}
use Rattle.std.proofs.Common.{◌++◌, Option, Some, None, is_some, length, refl, sym, ap, ◌∙◌, subst}
use Rattle.std.{proofs.Common.arith, proofs.lemmas.Bool.Decides.nat_tests, specs.List.position_from}
use Rattle.acceptor.specs.declared.entry.Entry.{Entry}
use Rattle.learner.specs.Logs.{position_of}

-- the first of two places, where there is one
abbrev pub first_of_both : Option ℕ → Option ℕ → Option ℕ
first_of_both (Some i) other = Some i
first_of_both None other = other

position_more : (t : Entry → Bool) (i : ℕ) (xs : List Entry) (e : Entry)
    → position_from t i (xs ++ e ∷ [])
    ≡ first_of_both (position_from t i xs) (if t e then Some (i + length xs) else None)
position_more t i [] e =
    let same : i ≡ i + 0 = omega arith in go (t e) same
  where
    go : (b : Bool) → i ≡ i + 0 → (if b then Some i else None) ≡ (if b then Some (i + 0) else None)
    go true same = ap (λ k. Some k) same
    go false same = refl
position_more t i (x ∷ xs) e = go (t x) (position_more t (i + 1) xs e)
  where
    more : i + 1 + length xs ≡ i + length (x ∷ xs)
    more = omega arith

    go : (b : Bool) → position_from t (i + 1) (xs ++ e ∷ [])
        ≡ first_of_both (position_from t (i + 1) xs)
        (if t e then Some (i + 1 + length xs) else None)
        → (if b then Some i else position_from t (i + 1) (xs ++ e ∷ []))
        ≡ first_of_both (if b then Some i else position_from t (i + 1) xs)
        (if t e then Some (i + length (x ∷ xs)) else None)
    go true same = refl
    go false same =
        same
        ∙ ap (λ k. first_of_both (position_from t (i + 1) xs) (if t e then Some k else None)) more

pub position_of-append : (entries : List Entry) (e : Entry) (id : ℕ)
    → position_of (entries ++ e ∷ []) id
    ≡ first_of_both (position_of entries id) (if e.id == id then Some (length entries) else None)
position_of-append entries e id =
    position_more (λ x. x.id == id) 0 entries e
    ∙ ap (λ k. first_of_both (position_of entries id) (if e.id == id then Some k else None))
    (omega arith)

-- an id that the entries had keeps its position
pub indexed_again : (entries : List Entry) (e : Entry) (old : ℕ → Option ℕ)
    → ((id : ℕ) → old id ≡ position_of entries id) → is_some (old e.id) ≡ true
    → (id : ℕ) → old id ≡ position_of (entries ++ e ∷ []) id
indexed_again entries e old indexed there id =
    go (e.id == id) refl (position_of entries id) (indexed id)
    ∙ sym (position_of-append entries e id)
  where
    go : (b : Bool) → (e.id == id) ≡ b → (o : Option ℕ) → old id ≡ o
        → old id ≡ first_of_both o (if b then Some (length entries) else None)
    go b t (Some i) h = h
    go false t None h = h
    go true t None h =
        let same : e.id ≡ id = grind (arith, nat_tests) in
        let none : is_some (old id) ≡ false = ap is_some h in
        let some : is_some (old id) ≡ true = subst (λ k. is_some (old k) ≡ true) same there in
        absurd cc

-- an id that the entries did not have is first at their length
pub indexed_new : (entries : List Entry) (e : Entry) (old new : ℕ → Option ℕ)
    → ((id : ℕ) → old id ≡ position_of entries id) → is_some (old e.id) ≡ false
    → ((id : ℕ) → new id ≡ (if e.id == id then Some (length entries) else old id)) → (id : ℕ)
    → new id ≡ position_of (entries ++ e ∷ []) id
indexed_new entries e old new indexed absent put id =
    put id ∙ go (e.id == id) refl (position_of entries id) (indexed id)
    ∙ sym (position_of-append entries e id)
  where
    go : (b : Bool) → (e.id == id) ≡ b → (o : Option ℕ) → old id ≡ o
        → (if b then Some (length entries) else old id)
        ≡ first_of_both o (if b then Some (length entries) else None)
    go false t (Some i) h = h
    go false t None h = h
    go true t None h = refl
    go true t (Some i) h =
        let same : e.id ≡ id = grind (arith, nat_tests) in
        let some : is_some (old id) ≡ true = ap is_some h in
        let none : is_some (old id) ≡ false = subst (λ k. is_some (old k) ≡ false) same absent in
        absurd cc
