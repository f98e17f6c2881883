-- Runs of a hall, in the world.
use Rattle.std.proofs.Common.{◌≡◌, ap, ℕ, List, take, Some, slice_get}
use Rattle.learner.specs.{Desks.Desk, Worlds.World, Worlds.new_world}
use Rattle.store.specs.declared.keeper.Keeper.{Ghosts}
use Rattle.hall_laws.specs.HallRuns.{AreHappenings, Enters, Hall, HallEntriesAreSubmitted, HallGoes}
use Rattle.hall_laws.specs.HallRuns.{HallLogsAgree, HallMessagesAreNamed, HallStep, HallsAreRuns}
use Rattle.hall_laws.specs.HallRuns.{IsHallRun, IsWorld, hall_after, nodes_of}
use Rattle.hall_laws.specs.Stops.{CallsAreHappenings, Happening, RealEntriesAreSubmitted}
use Rattle.hall_laws.specs.Stops.{RealLogsAgree, real_run}
use Rattle.hall_laws.proofs.{HallNodes.first_match, HallNodes.in_world, HallSteps.Matches}
use Rattle.hall_laws.proofs.{HallSteps.step_comes, Traces.AllCome, Traces.Traced, Traces.all_come}
use Rattle.hall_laws.proofs.Traces.{all_of, before_step, entered_in, logs_agree, moments_of}

-- ---- the whole run

abbrev hall_traced : {K : Type 0} → (k : Ghosts K) → CallsAreHappenings k → ℕ
    → Traced (Hall K) (HallStep K)
hall_traced {K} k law n = record {
  n = n;
  after = λ s. s.after;
  is = λ g v. IsWorld n g v;
  fits = λ g v. Matches k n g v;
  goes = λ g s. HallGoes k n s.event g s.after;
  enters = λ s e. Enters s.event e;
  log = λ g d. (g.desks d).node.desk.log;
  known = λ g v m. in_world k n (nodes_of g) v m.nodes;
  logged = λ g v d ours so. ap (λ (x : Desk). x.log) (so.desks d ours);
  comes = λ g v s m goes.
      let one = step_comes k law n s.event g s.after v m goes in
      record { hs = one.hs; so = one.matches; entered = one.entered };
}

pub first_matches : {K : Type 0} (k : Ghosts K) (n : ℕ) (h : Hall K) (ss : List (HallStep K))
    → IsHallRun k n h ss → Matches k n h new_world
first_matches k n h ss is = record {
  nodes = first_match k n (nodes_of h) (λ d ours. (is.first d ours).node) is.unsent;
  talks = λ d ours j. ap (λ z. z.home) ((is.first d ours).talks j);
}

pub hall_comes : {K : Type 0} (k : Ghosts K) → CallsAreHappenings k → (n : ℕ) (h : Hall K)
    (ss : List (HallStep K)) → IsHallRun k n h ss
    → AllCome (λ (s : HallStep K). s.after) (λ g v. IsWorld n g v) (λ s e. Enters s.event e) n h
    new_world ss
hall_comes k law n h ss is =
    all_come (hall_traced k law n) h new_world ss (first_matches k n h ss is) is.taken

-- the hall before one of its steps
pub hall_before : {K : Type 0} (k : Ghosts K) → CallsAreHappenings k → (n : ℕ) (h : Hall K)
    (ss : List (HallStep K)) → IsHallRun k n h ss → (at : ℕ) (s : HallStep K)
    → slice_get ss at ≡ Some s → (v : World) × Matches k n (hall_after h (take at ss)) v
    × HallGoes k n s.event (hall_after h (take at ss)) s.after
hall_before k law n h ss is =
    before_step (hall_traced k law n) h new_world ss (first_matches k n h ss is) is.taken

pub halls_are_runs : {K : Type 0} (k : Ghosts K) → CallsAreHappenings k → HallsAreRuns k
halls_are_runs k law n h ss is =
    let all = hall_comes k law n h ss is in (all.each, all.happens)

pub hall_messages_are_named : {K : Type 0} (k : Ghosts K) → CallsAreHappenings k
    → HallMessagesAreNamed k
hall_messages_are_named k law n h ss at step is here =
    let found = hall_before k law n h ss is at step here in
    (step_comes k law n step.event (hall_after h (take at ss)) step.after found.0 found.1
    found.2).named

-- ---- moments

-- each moment of the hall is one of its happenings
pub moments : {K : Type 0} (n : ℕ) (h : Hall K) (w : World) (ss : List (HallStep K))
    (each : List (List Happening)) → AreHappenings n h w ss each → (i : ℕ)
    → (m : ℕ) × IsWorld n (hall_after h (take i ss)) (real_run n w (take m (all_of each)))
moments {K} n h w ss each is i =
    moments_of (λ (s : HallStep K). s.after) (λ g v. IsWorld n g v) n h w ss each is i

pub hall_logs_agree : {K : Type 0} (k : Ghosts K) → CallsAreHappenings k → RealLogsAgree
    → HallLogsAgree k
hall_logs_agree k law agree n h ss i j d f is =
    logs_agree (hall_traced k law n) h ss (first_matches k n h ss is) is.taken agree i j d f

pub hall_entries_are_submitted : {K : Type 0} (k : Ghosts K) → CallsAreHappenings k
    → RealEntriesAreSubmitted → HallEntriesAreSubmitted k
hall_entries_are_submitted k law submitted n h ss i d pos e is =
    entered_in (hall_traced k law n) h ss (first_matches k n h ss is) is.taken submitted i d pos e
