-- Fields of one sort, one after the other: those that were read, and those that are left.
use Rattle.std.proofs.Common.{◌≡◌, ℕ, zero, suc, List, [], ◌∷◌, ◌++◌, Some, None, refl, sym, ap}
use Rattle.std.proofs.Common.{subst, ◌∙◌, append_assoc}
use Rattle.std.{specs.Option.option_map, proofs.lemmas.List.append-nil}
use Rattle.acceptor.specs.declared.entry.Entry.{Entry}
use Rattle.wire.specs.{declared.fault.WireFault.WireFault, Reading.entry_at, Reading.entries_at}
use Rattle.wire.specs.declared.fault.WireFault.TheVariants.{BadBody, NoMemory}
use Rattle.wire.specs.Fields.{Read, ◌>>=◌, many}
use Rattle.wire.specs.model.Gives.{Lacks, LacksEntries}

-- these are before the others
abbrev pub put_before : {A : Type 0} → List A → List A × List ℕ → Read (List A)
put_before xs z = Some (xs ++ z.0, z.1)

-- of n fields these were read, this many are left, and these bytes are after those that were read
abbrev pub GoesOn : {A : Type 0} → (List ℕ → Read A) → ℕ → List ℕ → ℕ → List A → List ℕ → Type 0
GoesOn read n bytes left xs rest =
    many read n bytes ≡ (many read left rest >>= put_before xs)

nothing_before : {A : Type 0} (o : Read A) → o ≡ (o >>= λ z. Some (z.0, z.1))
nothing_before None = refl
nothing_before (Some z) = refl

pub begun : {A : Type 0} (read : List ℕ → Read A) (n : ℕ) (bytes : List ℕ) (left : ℕ) → left ≡ n
    → GoesOn read n bytes left [] bytes
begun read n bytes left is =
    subst (λ (k : ℕ). GoesOn read n bytes k [] bytes) (sym is) (nothing_before (many read n bytes))

-- the first of the fields that are left
first_of_many : {A : Type 0} (read : List ℕ → Read A) (n : ℕ) (bytes after : List ℕ) (x : A)
    → read bytes ≡ Some (x, after)
    → many read (suc n) bytes ≡ (many read n after >>= put_before (x ∷ []))
unfolding many
first_of_many read n bytes after x e = rw e refl

no_first : {A : Type 0} (read : List ℕ → Read A) (n : ℕ) (bytes : List ℕ) → read bytes ≡ None
    → many read (suc n) bytes ≡ None
unfolding many
no_first read n bytes e = rw e refl

regrouped : {A : Type 0} (o : Read (List A)) (xs : List A) (x : A)
    → ((o >>= put_before (x ∷ [])) >>= put_before xs) ≡ (o >>= put_before (xs ++ x ∷ []))
regrouped None xs x = refl
regrouped {A} (Some z) xs x =
    ap (λ (ys : List A). Some (ys, z.1)) (sym (append_assoc xs (x ∷ []) z.0))

pub went_on : {A : Type 0} (read : List ℕ → Read A) (n : ℕ) (bytes : List ℕ) (k left : ℕ)
    (xs : List A) (rest after : List ℕ) (x : A) → k ≡ suc left → GoesOn read n bytes k xs rest
    → read rest ≡ Some (x, after) → GoesOn read n bytes left (xs ++ x ∷ []) after
went_on {A} read n bytes k left xs rest after x is so_far e =
    let here : GoesOn read n bytes (suc left) xs rest =
    subst (λ (m : ℕ). GoesOn read n bytes m xs rest) is so_far in
    here ∙ ap (λ (o : Read (List A)). o >>= put_before xs) (first_of_many read left rest after x e)
    ∙ regrouped (many read left after) xs x

pub stopped : {A : Type 0} (read : List ℕ → Read A) (n : ℕ) (bytes : List ℕ) (k left : ℕ)
    (xs : List A) (rest : List ℕ) → k ≡ suc left → GoesOn read n bytes k xs rest
    → read rest ≡ None → many read n bytes ≡ None
stopped {A} read n bytes k left xs rest is so_far e =
    let here : GoesOn read n bytes (suc left) xs rest =
    subst (λ (m : ℕ). GoesOn read n bytes m xs rest) is so_far in
    here ∙ ap (λ (o : Read (List A)). o >>= put_before xs) (no_first read left rest e)

none_left : {A : Type 0} (read : List ℕ → Read A) (rest : List ℕ)
    → many read zero rest ≡ Some ([], rest)
unfolding many
none_left read rest = refl

pub all_read : {A : Type 0} (read : List ℕ → Read A) (n : ℕ) (bytes : List ℕ) (k : ℕ)
    (xs : List A) (rest : List ℕ) → k ≡ 0 → GoesOn read n bytes k xs rest
    → many read n bytes ≡ Some (xs, rest)
all_read {A} read n bytes k xs rest is so_far =
    let here : GoesOn read n bytes zero xs rest =
    subst (λ (m : ℕ). GoesOn read n bytes m xs rest) is so_far in
    here ∙ ap (λ (o : Read (List A)). o >>= put_before xs) (none_left read rest)
    ∙ ap (λ (ys : List A). Some (ys, rest)) (append-nil xs)

-- ---- entries

pub not_passed : (e : WireFault) (n : ℕ) (bytes : List ℕ) (k left : ℕ) (xs : List Entry)
    (rest : List ℕ) → k ≡ suc left → GoesOn entry_at n bytes k xs rest
    → Lacks e (entry_at rest) → Lacks e (option_map (λ x. x.1) (entries_at n bytes))
not_passed BadBody n bytes k left xs rest is so_far lacks =
    ap (λ (o : Read (List Entry)). option_map (λ x. x.1) o)
    (stopped entry_at n bytes k left xs rest is so_far lacks)
not_passed _ n bytes k left xs rest is so_far lacks = lacks

pub not_pushed : (e : WireFault) (n : ℕ) (bytes : List ℕ) (k left : ℕ) (xs : List Entry)
    (rest : List ℕ) → k ≡ suc left → GoesOn entry_at n bytes k xs rest
    → Lacks e (entry_at rest) → LacksEntries e (entries_at n bytes)
not_pushed BadBody n bytes k left xs rest is so_far lacks =
    stopped entry_at n bytes k left xs rest is so_far lacks
not_pushed NoMemory n bytes k left xs rest is so_far lacks = absurd lacks
not_pushed _ n bytes k left xs rest is so_far lacks = lacks
