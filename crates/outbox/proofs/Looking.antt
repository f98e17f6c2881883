-- The log is looked through, entry by entry.
use Rattle.std.proofs.Common.{◌≡◌, ℕ, zero, suc, ◌+◌, ◌<◌, ◌≤◌, max, List, [], ◌∷◌, ◌++◌, length}
use Rattle.std.proofs.Common.{take, drop, slice_get, Some, refl, sym, ap, ◌∙◌, arith, add-one}
use Rattle.std.proofs.lemmas.{List.drop-append-le, List.length-take-le, Option.slice_get_within}
use Rattle.std.specs.Prelude.{nat_eq}
use Rattle.indexmap.specs.IndexSet.{insert_key}
use Rattle.acceptor.specs.declared.entry.Entry.{Entry}
use Rattle.outbox.specs.Outboxes.{OutboxOf, looked, looked_at, noted_all, outbox}

pub noted_append : (keys : List ℕ) (xs ys : List Entry)
    → noted_all keys (xs ++ ys) ≡ noted_all (noted_all keys xs) ys
noted_append keys [] ys = refl
noted_append keys (x ∷ xs) ys = noted_append (insert_key nat_eq keys x.id) xs ys

pub take_more : (xs : List Entry) (n : ℕ) (e : Entry) → slice_get xs n ≡ Some e
    → take (suc n) xs ≡ take n xs ++ e ∷ []
take_more [] n e h = absurd cc
take_more (x ∷ xs) zero e h = let same : x ≡ e = cc in ap (λ y. y ∷ []) same
take_more (x ∷ xs) (suc n) e h = ap (λ ys. x ∷ ys) (take_more xs n e h)

with_seen : (o : OutboxOf) (seen seen' : ℕ) (decided decided' : List ℕ) → seen ≡ seen'
    → decided ≡ decided' → outbox o.list seen decided o.hall o.desk o.aim o.line o.next o.refusal
    ≡ outbox o.list seen' decided' o.hall o.desk o.aim o.line o.next o.refusal
with_seen o seen seen' decided decided' s d =
    λ k. outbox o.list (s k) (d k) o.hall o.desk o.aim o.line o.next o.refusal

-- one more entry is looked at
pub looked_next : (o : OutboxOf) (log : List Entry) (p : ℕ) (e : Entry) → o.seen ≤ p
    → slice_get log p ≡ Some e → looked_at (looked o (take p log)) e p ≡ looked o (take (p + 1) log)
looked_next o log p e least there =
    let within : p < length log = slice_get_within log p e there in
    let len : length (take p log) ≡ p = length-take-le p log (omega (arith, within)) in
    let more : take (p + 1) log ≡ take p log ++ e ∷ [] =
    ap (λ n. take n log) (add-one p) ∙ take_more log p e there in
    let len' : length (take (p + 1) log) ≡ p + 1 =
    length-take-le (p + 1) log (omega (arith, within)) in
    with_seen o (p + 1) (max o.seen (length (take (p + 1) log)))
    (insert_key nat_eq (noted_all o.decided (drop o.seen (take p log))) e.id)
    (noted_all o.decided (drop o.seen (take (p + 1) log)))
    (sym (ap (max o.seen) len' ∙ greater o.seen (p + 1) (omega (arith, least)))) (sym
    (ap (λ xs. noted_all o.decided (drop o.seen xs)) more
    ∙ ap (noted_all o.decided)
    (drop-append-le o.seen (take p log) (e ∷ []) (omega (arith, len, least)))
    ∙ noted_append o.decided (drop o.seen (take p log)) (e ∷ [])))
  where
    greater : (m n : ℕ) → m ≤ n → max m n ≡ n
    greater m n h = grind arith
