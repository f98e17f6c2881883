-- Those who were taken in so far are the first of those who wait.
use Rattle.std.proofs.Common.{◌≡◌, ◌∙◌, ℕ, zero, suc, ◌+◌, Bool, true, false, cond, List, [], ◌∷◌}
use Rattle.std.proofs.Common.{◌++◌, take, drop, count_by, slice_get, option_to_list, None, refl}
use Rattle.std.proofs.Common.{sym, ap, arith, add-one}
use Rattle.std.proofs.lemmas.List.Sums.{sum_by-append, sum_by-cons}
use Rattle.formats.specs.declared.events.Event.{Event}
use Rattle.texts.specs.declared.command.Command.{Command, TheVariants.Withdraw}
use Rattle.advancement.{specs.Waiting.next_of, proofs.Turns.in_turn}
use Rattle.commands.specs.Accepted.{is_of, is_withdrawal}
use Rattle.edition_laws.specs.NextInTurn.{taken_by, taken_in, TakesWhoIsNext}

-- the one at an index, and as many behind it, are one more from there on
one_more : (ns : List ℕ) (i k : ℕ)
    → option_to_list (slice_get ns i) ++ take k (drop (suc i) ns) ≡ take (suc k) (drop i ns)
one_more [] zero zero = refl
one_more [] zero (suc k) = refl
one_more [] (suc i) zero = refl
one_more [] (suc i) (suc k) = refl
one_more (n ∷ ns) zero k = refl
one_more (n ∷ ns) (suc i) k = one_more ns i k

-- one more at the end is counted, or not
counted : (p : Command → Bool) (cs : List Command) (c : Command)
    → count_by p (cs ++ c ∷ []) ≡ count_by p cs + cond (p c) 1 0
counted p cs c =
    sum_by-append (λ x. cond (p x) 1 0) cs (c ∷ [])
    ∙ ap (λ (k : ℕ). count_by p cs + k)
    (sum_by-cons (λ x. cond (p x) 1 0) c [] ∙ alone (cond (p c) 1 0))
  where
    alone : (k : ℕ) → k + 0 ≡ k
    alone k = omega arith

-- whom a command takes in, by whether it is a withdrawal from the round
taken_once : (e : Event) (r : ℕ) (ns : List ℕ) (earlier : List Command) (c : Command)
    → taken_by e r ns earlier c ≡ cond (is_withdrawal e r c)
    (option_to_list (slice_get ns (count_by (is_withdrawal e r) earlier))) []
taken_once e r ns earlier (Withdraw id n) = step (is_of e r id)
  where
    step : (b : Bool) → option_to_list
        (cond b (slice_get ns (count_by (is_withdrawal e r) earlier)) None)
        ≡ cond b (option_to_list (slice_get ns (count_by (is_withdrawal e r) earlier))) []
    step true = refl
    step false = refl
taken_once e r ns earlier _ = refl

-- of those who wait as many are taken in as withdraw, from the first of them on that is left
taken_are : (e : Event) (r : ℕ) (ns : List ℕ) (earlier cs : List Command)
    → taken_in e r ns earlier cs
    ≡ take (count_by (is_withdrawal e r) cs) (drop (count_by (is_withdrawal e r) earlier) ns)
taken_are e r ns earlier [] = refl
taken_are e r ns earlier (c ∷ cs) =
    rw (
      taken_once e r ns earlier c,
      taken_are e r ns (earlier ++ c ∷ []) cs,
      counted (is_withdrawal e r) earlier c,
      sum_by-cons (λ x. cond (is_withdrawal e r x) 1 0) c cs,
    )
    (step (is_withdrawal e r c))
  where
    so_far : ℕ
    so_far = count_by (is_withdrawal e r) earlier

    behind : ℕ
    behind = count_by (is_withdrawal e r) cs

    still : so_far + 0 ≡ so_far
    still = omega arith

    one_more_is : suc behind ≡ 1 + behind
    one_more_is = omega arith

    none_more : behind ≡ 0 + behind
    none_more = omega arith

    step : (b : Bool) → cond b (option_to_list (slice_get ns so_far)) []
        ++ take behind (drop (so_far + cond b 1 0) ns) ≡ take (cond b 1 0 + behind) (drop so_far ns)
    step true =
        rw (add-one so_far) (one_more ns so_far behind
        ∙ ap (λ (k : ℕ). take k (drop so_far ns)) one_more_is)
    step false =
        ap (λ (k : ℕ). take behind (drop k ns)) still
        ∙ ap (λ (k : ℕ). take k (drop so_far ns)) none_more

pub takes_who_is_next : TakesWhoIsNext
takes_who_is_next e r id n ns since here once =
    ap (λ (b : Bool). cond b (slice_get ns (count_by (is_withdrawal e r) since)) None) here
    ∙ sym (in_turn ns once (count_by (is_withdrawal e r) since))
    ∙ sym (ap (next_of ns) (taken_are e r ns [] since))
