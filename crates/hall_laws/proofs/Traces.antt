-- Whatever follows the world step by step: its moments, and what was submitted in it.
use Rattle.std.proofs.Common.{◌≡◌, ◌⊎◌, inl, inr, refl, sym, ap, subst, ◌∙◌, ℕ, zero, suc, List, []}
use Rattle.std.proofs.Common.{◌∷◌, ◌++◌, length, take, None, Some, slice_get}
use Rattle.std.proofs.Math.Seq.{take-length}
use Rattle.acceptor.specs.declared.entry.Entry.{Entry}
use Rattle.learner.specs.{Laws.IsPrefix, Steps.IsDesk, Worlds.World, Worlds.new_world}
use Rattle.learner.specs.declared.event.WorldEvent.TheVariants.{Submit as SubmitAt}
use Rattle.hall_laws.specs.Stops.{AreMoments, AreTaken, Answered, Happening, RealLogsAgree}
use Rattle.hall_laws.specs.Stops.{RealEntriesAreSubmitted, real_log, real_run, state_after}
use Rattle.hall_laws.proofs.Running.{HasSubmit, run_both, submit_in}

-- all happenings, one after the other
abbrev pub all_of : List (List Happening) → List Happening
all_of [] = []
all_of (hs ∷ each) = hs ++ all_of each

-- ---- a run

-- happenings lead to what a step leads to, and what they submit is entered
pub record Comes {S : Type 0} (fits : S → World → Type 0) (enters : Entry → Type 0) (n : ℕ) (g : S)
    (w : World) : Type 0 where
  pub hs : List Happening
  pub so : fits g (real_run n w hs)
  pub entered : (e : Entry) → HasSubmit e hs → enters e

-- so it is for each step
pub record AllCome {S Step : Type 0} (after : Step → S) (is : S → World → Type 0)
    (enters : Step → Entry → Type 0) (n : ℕ) (h : S) (w : World) (ss : List Step) : Type 0 where
  pub each : List (List Happening)
  pub happens : AreMoments after is n h w ss each
  pub entered : (e : Entry) → HasSubmit e (all_of each)
      → (at : ℕ) × (s : Step) × (slice_get ss at ≡ Some s) × enters s e

-- Several desks that follow the world of n step by step: which steps are taken, what an entry is
-- taken by, and each desk's log.
pub record Traced (S Step : Type 0) : Type 1 where
  pub n : ℕ
  pub after : Step → S
  pub is : S → World → Type 0
  pub fits : S → World → Type 0
  pub goes : S → Step → Type 0
  pub enters : Step → Entry → Type 0
  pub log : S → ℕ → List Entry
  pub known : (h : S) (w : World) → fits h w → is h w
  pub logged : (h : S) (w : World) (d : ℕ) → IsDesk n d → is h w → log h d ≡ (w.desks d).log
  pub comes : (h : S) (w : World) (s : Step) → fits h w → goes h s
      → Comes fits (enters s) n (after s) w

module _ {S Step : Type 0} (f : Traced S Step) where
  pub all_come : (h : S) (w : World) (ss : List Step) → f.fits h w → AreTaken f.after f.goes h ss
      → AllCome f.after f.is f.enters f.n h w ss
  all_come h w [] m steps =
      record { each = []; happens = f.known h w m; entered = λ e none. absurd none }
  all_come h w (s ∷ ss) m steps =
      let one = f.comes h w s m steps.0 in
      let rest = all_come (f.after s) (real_run f.n w one.hs) ss one.so steps.1 in
      record {
        each = one.hs ∷ rest.each;
        happens = (f.known h w m, rest.happens);
        entered = λ e has.
            go e one.hs (all_of rest.each) (one.entered e) (rest.entered e)
            (submit_in e one.hs (all_of rest.each) has);
      }
    where
      go : (e : Entry) (hs ks : List Happening) → (HasSubmit e hs → f.enters s e)
          → (HasSubmit e ks → (at : ℕ) × (t : Step) × (slice_get ss at ≡ Some t) × f.enters t e)
          → HasSubmit e hs ⊎ HasSubmit e ks
          → (at : ℕ) × (t : Step) × (slice_get (s ∷ ss) at ≡ Some t) × f.enters t e
      go e hs ks first later (inl has) = (0, s, refl, first has)
      go e hs ks first later (inr has) =
          let was = later has in (suc was.0, was.1, was.2, was.3)

  -- where one of the steps begins
  pub before_step : (h : S) (w : World) (ss : List Step) → f.fits h w
      → AreTaken f.after f.goes h ss → (at : ℕ) (s : Step) → slice_get ss at ≡ Some s
      → (v : World) × f.fits (state_after f.after h (take at ss)) v
      × f.goes (state_after f.after h (take at ss)) s
  before_step h w [] m steps at s here = absurd cc
  before_step h w (t ∷ ss) m steps zero s here =
      let same : t ≡ s = cc in (w, m, subst (λ (u : Step). f.goes h u) same steps.0)
  before_step h w (t ∷ ss) m steps (suc at) s here =
      let one = f.comes h w t m steps.0 in
      before_step (f.after t) (real_run f.n w one.hs) ss one.so steps.1 at s here

taken_so_far : {S Step : Type 0} (after : Step → S) (goes : S → Step → Type 0) (h : S)
    (ss : List Step) (i : ℕ) → AreTaken after goes h ss → AreTaken after goes h (take i ss)
taken_so_far after goes h [] zero is = is
taken_so_far after goes h [] (suc i) is = is
taken_so_far after goes h (s ∷ ss) zero is = tt
taken_so_far after goes h (s ∷ ss) (suc i) is = (is.0, taken_so_far after goes (after s) ss i is.1)

-- ---- moments

-- these, and this many more
past : List Happening → ℕ → ℕ
past [] m = m
past (x ∷ xs) m = suc (past xs m)

take_past : (xs ys : List Happening) (m : ℕ) → take (past xs m) (xs ++ ys) ≡ xs ++ take m ys
unfolding past
take_past [] ys m = refl
take_past (x ∷ xs) ys m = ap (λ (zs : List Happening). x ∷ zs) (take_past xs ys m)

-- each moment is one of the happenings
pub moments_of : {S Step : Type 0} (after : Step → S) (is : S → World → Type 0) (n : ℕ) (h : S)
    (w : World) (ss : List Step) (each : List (List Happening)) → AreMoments after is n h w ss each
    → (i : ℕ) → (m : ℕ) × is (state_after after h (take i ss)) (real_run n w (take m (all_of each)))
moments_of after is n h w [] [] so zero = (0, so)
moments_of after is n h w [] [] so (suc i) = (0, so)
moments_of after is n h w [] (hs ∷ each) so i = absurd so
moments_of after is n h w (s ∷ ss) [] so i = absurd so
moments_of after is n h w (s ∷ ss) (hs ∷ each) so zero = (0, so.0)
moments_of after is n h w (s ∷ ss) (hs ∷ each) so (suc i) =
    let later = moments_of after is n (after s) (real_run n w hs) ss each so.1 i in
    let same : real_run n w (take (past hs later.0) (hs ++ all_of each))
    ≡ real_run n (real_run n w hs) (take later.0 (all_of each)) =
    ap (λ (ks : List Happening). real_run n w ks) (take_past hs (all_of each) later.0)
    ∙ run_both n w hs (take later.0 (all_of each)) in (
      past hs later.0,
      subst (λ (v : World). is (state_after after (after s) (take i ss)) v) (sym same) later.1,
    )

-- ---- logs

-- what is among the first of these happenings is among them all
got_submit : (e : Entry) (j m at : ℕ) (hs : List Happening)
    → slice_get (take m hs) at ≡ Some (Answered (SubmitAt j e)) → HasSubmit e hs
got_submit e j zero at [] is = absurd (let none : None ≡ Some (Answered (SubmitAt j e)) = is in cc)
got_submit e j zero at (x ∷ hs) is =
    absurd (let none : None ≡ Some (Answered (SubmitAt j e)) = is in cc)
got_submit e j (suc m) at [] is =
    absurd (let none : None ≡ Some (Answered (SubmitAt j e)) = is in cc)
got_submit e j (suc m) zero (x ∷ hs) is =
    inl (j, let same : x ≡ Answered (SubmitAt j e) = cc in same)
got_submit e j (suc m) (suc at) (x ∷ hs) is = inr (got_submit e j m at hs is)

-- where each desk has its log of the world
module _ {S Step : Type 0} (f : Traced S Step) (h : S) (ss : List Step) (fit : f.fits h new_world)
    (steps : AreTaken f.after f.goes h ss) where
  -- what desk d has after the first i steps
  abbrev log_at : ℕ → ℕ → List Entry
  log_at i d = f.log (state_after f.after h (take i ss)) d

  -- each is that of the world at one of its moments
  log_of : (i d : ℕ) → IsDesk f.n d → (m : ℕ)
      × (log_at i d ≡ real_log f.n (all_of (all_come f h new_world ss fit steps).each) m d)
  log_of i d ours =
      let all = all_come f h new_world ss fit steps in
      let one = moments_of f.after f.is f.n h new_world ss all.each all.happens i in (
        one.0,
        f.logged (state_after f.after h (take i ss))
            (real_run f.n new_world (take one.0 (all_of all.each))) d ours one.1,
      )

  pub logs_agree : RealLogsAgree → (i j d e : ℕ) → IsDesk f.n d → IsDesk f.n e
      → IsPrefix (log_at i d) (log_at j e) ⊎ IsPrefix (log_at j e) (log_at i d)
  logs_agree agree i j d e ours others =
      let one = log_of i d ours in
      let two = log_of j e others in
      let both = agree f.n (all_of (all_come f h new_world ss fit steps).each) one.0 two.0 d e in
      rw (one.1, two.1) both

-- an entry of a log was taken in one of the steps before
pub entered_in : {S Step : Type 0} (f : Traced S Step) (h : S) (ss : List Step)
    → f.fits h new_world → AreTaken f.after f.goes h ss → RealEntriesAreSubmitted
    → (i d pos : ℕ) (e : Entry) → IsDesk f.n d
    → slice_get (f.log (state_after f.after h (take i ss)) d) pos ≡ Some e
    → (at : ℕ) × (s : Step) × (slice_get (take i ss) at ≡ Some s) × f.enters s e
entered_in {S} {Step} f h ss fit steps submitted i d pos e ours has =
    let before = taken_so_far f.after f.goes h ss i steps in
    let all = all_come f h new_world (take i ss) fit before in
    let one = log_of f h (take i ss) fit before (length (take i ss)) d ours in
    let same : f.log (state_after f.after h (take i ss)) d
    ≡ real_log f.n (all_of all.each) one.0 d =
    subst (λ (zs : List Step). f.log (state_after f.after h zs) d
    ≡ real_log f.n (all_of all.each) one.0 d) (take-length (take i ss)) one.1 in
    let was = submitted f.n (all_of all.each) one.0 d pos e
    (subst (λ (xs : List Entry). slice_get xs pos ≡ Some e) same has) in
    all.entered e (got_submit e was.desk one.0 was.at (all_of all.each) was.call)
