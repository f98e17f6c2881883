-- What a mirror makes of entries of two logs.
use Rattle.std.proofs.Common.{◌≡◌, ◌⊎◌, inl, inr, refl, sym, subst, ℕ, zero, suc, List, [], Some}
use Rattle.std.proofs.Common.{slice_get, arith, take, drop}
use Rattle.std.proofs.lemmas.List.{append-nil}
use Rattle.acceptor.specs.declared.entry.Entry.{Entry}
use Rattle.learner.specs.Laws.{IsPrefix}
use Rattle.mirror.specs.{Fronts.LogsOfAgree, Fronts.TakesAll, Fronts.Telling, Mirrors.AreHeldBelow}
use Rattle.witnesses.specs.Told.{WorksMirror, first_told, fourth_told, long_log, second_told}
use Rattle.witnesses.specs.Told.{short_log, tellings, third_told}

of_log : (t one : Telling) (log : List Entry) → Some t ≡ Some one → t.log ≡ log → one.log ≡ log
of_log t one log is its =
    let same : t ≡ one = cc in subst (λ (u : Telling). u.log ≡ log) same its

log_at : (i : ℕ) (one : Telling) → slice_get tellings i ≡ Some one
    → (one.log ≡ short_log) ⊎ (one.log ≡ long_log)
log_at zero one is = inl (of_log first_told one short_log is refl)
log_at (suc zero) one is = inr (of_log second_told one long_log is refl)
log_at (suc (suc zero)) one is = inl (of_log third_told one short_log is refl)
log_at (suc (suc (suc zero))) one is = inr (of_log fourth_told one long_log is refl)
log_at (suc (suc (suc (suc i)))) one is = absurd cc

begins : IsPrefix short_log long_log
begins = (drop 2 long_log, refl)

itself : (xs : List Entry) → IsPrefix xs xs
itself xs = ([], append-nil xs)

either : (xs ys : List Entry) → (xs ≡ short_log) ⊎ (xs ≡ long_log)
    → (ys ≡ short_log) ⊎ (ys ≡ long_log) → IsPrefix xs ys ⊎ IsPrefix ys xs
either xs ys (inl a) (inl b) =
    inl (subst (λ z. IsPrefix z ys) (sym a) (subst (λ z. IsPrefix short_log z) (sym b)
    (itself short_log)))
either xs ys (inl a) (inr b) =
    inl (subst (λ z. IsPrefix z ys) (sym a) (subst (λ z. IsPrefix short_log z) (sym b) begins))
either xs ys (inr a) (inl b) =
    inr (subst (λ z. IsPrefix ys z) (sym a) (subst (λ z. IsPrefix z long_log) (sym b) begins))
either xs ys (inr a) (inr b) =
    inl (subst (λ z. IsPrefix z ys) (sym a) (subst (λ z. IsPrefix long_log z) (sym b)
    (itself long_log)))

agree : LogsOfAgree tellings
agree i j one other here there =
    either one.log other.log (log_at i one here) (log_at j other there)

-- at each position that is held the same was reported
first_held : AreHeldBelow 0 [] 0 (take 1 short_log)
first_held place mine its below holds tells = absurd (omega (arith, below))

second_held : AreHeldBelow 1 (take 1 short_log) 0 long_log
second_held zero mine its below holds tells = cc
second_held (suc place) mine its below holds tells = absurd (omega (arith, below))

third_held : AreHeldBelow 3 long_log 1 (take 1 (drop 1 short_log))
third_held zero mine its below holds tells = cc
third_held (suc place) mine its below holds tells = absurd cc

takes : TakesAll [] tellings long_log
takes = (
  take 1 short_log,
  ((omega arith, first_held), omega arith, refl),
  (
    long_log,
    ((omega arith, second_held), omega arith, refl),
    (
      long_log,
      ((omega arith, third_held), omega arith, refl),
      (long_log, (omega arith, refl), refl),
    ),
  ),
)

pub works : WorksMirror
works = record { agree = agree; takes = takes }
