-- A mirror that is given what desks of a hall answer.
use Rattle.std.proofs.Common.{◌≡◌, ◌⊎◌, inl, inr, refl, sym, ap, subst, ℕ, zero, suc, List, [], ◌∷◌}
use Rattle.std.proofs.Common.{Some, slice_get}
use Rattle.acceptor.specs.declared.entry.Entry.{Entry}
use Rattle.learner.{proofs.Evolves.prefix_trans, specs.Laws.IsPrefix, specs.Steps.IsDesk}
use Rattle.store.specs.declared.keeper.Keeper.{Ghosts}
use Rattle.mirror.specs.Fronts.{Telling, TakesAll, LogsOfAgree, BeginsOne, NoneDiffers}
use Rattle.mirror.specs.Fronts.{MirrorsHoldFronts, FrontsPrintAlike}
use Rattle.hall_laws.{specs.Copying.HallCopiesAreOfLogs, proofs.HallCopies.fronts_agree}
use Rattle.hall_laws.specs.HallRuns.{Hall, HallStep, IsHallRun, hall_log, HallLogsAgree}
use Rattle.hall_laws.specs.mirrors.HallMirrors.{Mirrored, MirrorsHall, BeginsMirrored}
use Rattle.hall_laws.specs.mirrors.HallMirrors.{HallMirrorsHoldFronts, HallMirrorsPrintAlike}

-- an answer, as entries of the log of the desk that gave it
abbrev as_telling : {K : Type 0} → Hall K → List (HallStep K) → Mirrored → Telling
as_telling h ss one = record {
  log = hall_log h ss one.given.at one.given.desk;
  position = one.given.copy.position;
  count = 400;
  outcome = one.outcome;
}

abbrev as_tellings : {K : Type 0} → Hall K → List (HallStep K) → List Mirrored → List Telling
as_tellings h ss [] = []
as_tellings h ss (one ∷ more) = as_telling h ss one ∷ as_tellings h ss more

takes_all : {K : Type 0} (k : Ghosts K) → HallCopiesAreOfLogs k → (n : ℕ) (h : Hall K)
    (ss : List (HallStep K)) (held : List Entry) (all : List Mirrored) (after : List Entry)
    → MirrorsHall k n h ss held all after → TakesAll held (as_tellings h ss all) after
takes_all k copies n h ss held [] after is = is
takes_all k copies n h ss held (one ∷ more) after is =
    let copy = copies h ss one.given.at one.given.desk one.given.copy is.2 in
    (is.0, rw copy.1 at is.3, takes_all k copies n h ss is.0 more after is.4)

-- each of the answers is of a desk of the hall
record IsOne {K : Type 0} (n : ℕ) (h : Hall K) (ss : List (HallStep K)) (all : List Mirrored)
    (place : ℕ) (t : Telling) : Type 0 where
  pub one : Mirrored
  pub here : slice_get all place ≡ Some one
  pub is : as_telling h ss one ≡ t
  pub ours : IsDesk n one.given.desk

some_of : (a b : Telling) → Some a ≡ Some b → a ≡ b
some_of a b s = cc

one_told : {K : Type 0} (k : Ghosts K) (n : ℕ) (h : Hall K) (ss : List (HallStep K))
    (held : List Entry) (all : List Mirrored) (after : List Entry)
    → MirrorsHall k n h ss held all after → (place : ℕ) (t : Telling)
    → slice_get (as_tellings h ss all) place ≡ Some t → IsOne n h ss all place t
one_told k n h ss held [] after is place t here = absurd cc
one_told k n h ss held (one ∷ more) after is zero t here =
    record {
      one = one;
      here = refl;
      is = some_of (as_telling h ss one) t here;
      ours = is.1;
    }
one_told k n h ss held (one ∷ more) after is (suc place) t here =
    let rest = one_told k n h ss is.0 more after is.4 place t here in
    record { one = rest.one; here = rest.here; is = rest.is; ours = rest.ours }

told_one : {K : Type 0} (h : Hall K) (ss : List (HallStep K)) (all : List Mirrored) (place : ℕ)
    (one : Mirrored) → slice_get all place ≡ Some one
    → slice_get (as_tellings h ss all) place ≡ Some (as_telling h ss one)
told_one h ss [] place one here = absurd cc
told_one h ss (first ∷ more) zero one here =
    let same : first ≡ one = cc in ap (λ (m : Mirrored). Some (as_telling h ss m)) same
told_one h ss (first ∷ more) (suc place) one here = told_one h ss more place one here

tellings_agree : {K : Type 0} (k : Ghosts K) → HallLogsAgree k → (n : ℕ) (h : Hall K)
    (ss : List (HallStep K)) (all : List Mirrored) (after : List Entry) → IsHallRun k n h ss
    → MirrorsHall k n h ss [] all after → LogsOfAgree (as_tellings h ss all)
tellings_agree k agree n h ss all after run is i j one other here there =
    let a = one_told k n h ss [] all after is i one here in
    let b = one_told k n h ss [] all after is j other there in
    subst (λ (t : Telling). IsPrefix t.log other.log ⊎ IsPrefix other.log t.log) a.is (subst
    (λ (t : Telling).
    IsPrefix (as_telling h ss a.one).log t.log ⊎ IsPrefix t.log (as_telling h ss a.one).log) b.is
    (agree n h ss a.one.given.at b.one.given.at a.one.given.desk b.one.given.desk run a.ours
    b.ours))

-- the mirror's list begins the log of a desk of the hall
record BeginsOurs {K : Type 0} (n : ℕ) (h : Hall K) (ss : List (HallStep K)) (all : List Mirrored)
    (after : List Entry) : Type 0 where
  pub begins : BeginsMirrored h ss all after
  pub ours : IsDesk n begins.one.given.desk

begins_ours : {K : Type 0} (k : Ghosts K) (n : ℕ) (h : Hall K) (ss : List (HallStep K))
    (all : List Mirrored) (after : List Entry) → MirrorsHall k n h ss [] all after
    → BeginsOne (as_tellings h ss all) after → BeginsOurs n h ss all after
begins_ours k n h ss all after is b =
    let a = one_told k n h ss [] all after is b.place b.one b.here in
    record {
      begins = record {
        place = b.place;
        one = a.one;
        here = a.here;
        begins = subst (λ (t : Telling). IsPrefix after t.log) (sym a.is) b.begins;
      };
      ours = a.ours;
    }

-- what the mirror holds, and that none was found to differ
both : {K : Type 0} (k : Ghosts K) → HallCopiesAreOfLogs k → HallLogsAgree k → MirrorsHoldFronts
    → (n : ℕ) (h : Hall K) (ss : List (HallStep K)) (all : List Mirrored) (after : List Entry)
    → IsHallRun k n h ss → MirrorsHall k n h ss [] all after → NoneDiffers (as_tellings h ss all)
    × ((after ≡ []) ⊎ BeginsOne (as_tellings h ss all) after)
both k copies agree fronts n h ss all after run is =
    fronts (as_tellings h ss all) after (tellings_agree k agree n h ss all after run is)
    (takes_all k copies n h ss [] all after is)

pub hall_mirrors_hold_fronts : {K : Type 0} (k : Ghosts K) → HallCopiesAreOfLogs k
    → HallLogsAgree k → MirrorsHoldFronts → HallMirrorsHoldFronts k
hall_mirrors_hold_fronts k copies agree fronts n h ss all after run is =
    let two = both k copies agree fronts n h ss all after run is in (
      λ place one at here differs.
          two.0 place (as_telling h ss one) at (told_one h ss all place one here) differs,
      elim two.1 [
        | inl none ↦ inl none
        | inr b ↦ inr (begins_ours k n h ss all after is b).begins
      ],
    )

-- ---- what it prints

-- what begins one log, and another log
agree_with : (after mine its : List Entry) → IsPrefix after mine
    → IsPrefix mine its ⊎ IsPrefix its mine → IsPrefix after its ⊎ IsPrefix its after
agree_with after mine its p (inl q) = inl (prefix_trans after mine its p q)
agree_with after mine its p (inr q) = fronts_agree after its mine p q

pub hall_mirrors_print_alike : {K : Type 0} (k : Ghosts K) → HallCopiesAreOfLogs k
    → HallLogsAgree k → MirrorsHoldFronts → FrontsPrintAlike → HallMirrorsPrintAlike k
hall_mirrors_print_alike k copies agree fronts alike n h ss all after i d style position event round
    run is ours here there =
    let its : List Entry = hall_log h ss i d in
    alike style after its position event round
    (elim (both k copies agree fronts n h ss all after run is).1 [
      | inl none ↦
          inl (subst (λ (es : List Entry). IsPrefix es its) (sym none) (its, refl))
      | inr b ↦
          let mine = begins_ours k n h ss all after is b in
          agree_with after (hall_log h ss mine.begins.one.given.at mine.begins.one.given.desk) its
          mine.begins.begins
          (agree n h ss mine.begins.one.given.at i mine.begins.one.given.desk d run mine.ours ours)
    ]) here there
