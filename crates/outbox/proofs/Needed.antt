-- The next item that needs to be submitted.
use Rattle.std.proofs.Common.{◌≡◌, zero, Bool, true, false, List, slice_get, Option, arith, add-one}
use Rattle.std.proofs.Common.{ℕ, suc, ◌+◌, ◌<◌, [], ◌∷◌, take, drop, Some, None, refl, sym, ap, ◌∙◌}
use Rattle.std.specs.List.{prefix_len}
use Rattle.outbox.specs.Items.{ItemsOf}
use Rattle.outbox.specs.Outboxes.{is_decided, is_decided_at, kept_from}

module _ {X : Type 0} (P : X → Bool) where
  none : (n : ℕ) → prefix_len P (drop n []) ≡ 0
  none zero = refl
  none (suc n) = refl

  pub stops : (xs : List X) (k n : ℕ) → n < k → (o : Option X) → slice_get xs n ≡ o
      → (test : Option X → Bool) → test None ≡ false → ((x : X) → test (Some x) ≡ P x)
      → test o ≡ false → prefix_len P (drop n (take k xs)) ≡ 0
  stops [] zero n less o is test low high h = absurd (omega (arith, less))
  stops [] (suc k) n less o is test low high h = none n
  stops (x ∷ xs) zero n less o is test low high h = absurd (omega (arith, less))
  stops (x ∷ xs) (suc k) zero less o is test low high h =
      let not : P x ≡ false = sym (high x) ∙ ap test is ∙ h in rw not refl
  stops (x ∷ xs) (suc k) (suc n) less o is test low high h =
      stops xs k n (omega (arith, less)) o is test low high h

  pub goes : (xs : List X) (k n : ℕ) → n < k → (o : Option X) → slice_get xs n ≡ o
      → (test : Option X → Bool) → test None ≡ false → ((x : X) → test (Some x) ≡ P x)
      → test o ≡ true
      → prefix_len P (drop n (take k xs)) ≡ 1 + prefix_len P (drop (suc n) (take k xs))
  goes [] k n less o is test low high h =
      absurd (let e : None ≡ o = is in let f = sym low ∙ ap test e ∙ h in cc)
  goes (x ∷ xs) zero n less o is test low high h = absurd (omega (arith, less))
  goes (x ∷ xs) (suc k) zero less o is test low high h =
      let yes : P x ≡ true = sym (high x) ∙ ap test is ∙ h in rw yes refl
  goes (x ∷ xs) (suc k) (suc n) less o is test low high h =
      goes xs k n (omega (arith, less)) o is test low high h

  pub ends : (xs : List X) (k : ℕ) → prefix_len P (drop k (take k xs)) ≡ 0
  ends xs zero = refl
  ends [] (suc k) = refl
  ends (x ∷ xs) (suc k) = ends xs k

module _ (q : ItemsOf) (decided : List ℕ) where
  pub needed_here : (place : ℕ) → place < q.kept
      → is_decided_at q decided (slice_get q.items place) ≡ false
      → prefix_len (is_decided q decided) (kept_from q place) ≡ 0
  needed_here place less h =
      stops (is_decided q decided) q.items q.kept place less (slice_get q.items place) refl
      (is_decided_at q decided) refl (λ x. refl) h

  pub passed_over : (place : ℕ) → place < q.kept
      → is_decided_at q decided (slice_get q.items place) ≡ true
      → prefix_len (is_decided q decided) (kept_from q place)
      ≡ 1 + prefix_len (is_decided q decided) (kept_from q (place + 1))
  passed_over place less h =
      goes (is_decided q decided) q.items q.kept place less (slice_get q.items place) refl
      (is_decided_at q decided) refl (λ x. refl) h
      ∙ ap (λ n. 1 + prefix_len (is_decided q decided) (kept_from q n)) (sym (add-one place))

  pub none_needed : prefix_len (is_decided q decided) (kept_from q q.kept) ≡ 0
  none_needed = ends (is_decided q decided) q.items q.kept
