-- Runs of desks that serve by the loop, in the world.
use Rattle.std.proofs.Common.{ap, ℕ}
use Rattle.learner.specs.Desks.{Desk}
use Rattle.store.specs.declared.keeper.Keeper.{Ghosts}
use Rattle.hall_laws.specs.{HallRuns.AreWorld, HallRuns.Nodes, Stops.CallsAreHappenings}
use Rattle.hall_laws.specs.Stops.{RealEntriesAreSubmitted, RealLogsAgree}
use Rattle.hall_laws.proofs.HallNodes.{NodesMatch, first_match, in_world}
use Rattle.hall_laws.proofs.Traces.{Traced, all_come, entered_in, logs_agree}
use Rattle.learner.specs.Worlds.{new_world}
use Rattle.desk_laws.specs.LoopRuns.{LoopEntriesAreSubmitted, LoopGoes, LoopLogsAgree, LoopStep}
use Rattle.desk_laws.{specs.LoopRuns.LoopsAreRuns, specs.LoopRuns.TakesIn}
use Rattle.desk_laws.proofs.LoopSteps.{step_comes}

abbrev loops_traced : {K : Type 0} → (k : Ghosts K) → CallsAreHappenings k → ℕ
    → Traced (Nodes K) (LoopStep K)
loops_traced {K} k law n = record {
  n = n;
  after = λ s. s.after;
  is = λ a v. AreWorld n a v;
  fits = λ a v. NodesMatch k n a v;
  goes = λ a s. LoopGoes k n s.event a s.after;
  enters = λ s e. TakesIn s.event e;
  log = λ a d. (a.node d).desk.log;
  known = λ a v m. in_world k n a v m;
  logged = λ a v d ours so. ap (λ (x : Desk). x.log) (so.desks d ours);
  comes = λ a v s m goes. step_comes k law n s.event a s.after v m goes;
}

pub loops_are_runs : {K : Type 0} (k : Ghosts K) → CallsAreHappenings k → LoopsAreRuns k
loops_are_runs k law n a ss is =
    let all =
    all_come (loops_traced k law n) a new_world ss (first_match k n a is.first is.unsent) is.taken
    in (all.each, all.happens)

pub loop_logs_agree : {K : Type 0} (k : Ghosts K) → CallsAreHappenings k → RealLogsAgree
    → LoopLogsAgree k
loop_logs_agree k law agree n a ss i j d f is =
    logs_agree (loops_traced k law n) a ss (first_match k n a is.first is.unsent) is.taken agree i j
    d f

pub loop_entries_are_submitted : {K : Type 0} (k : Ghosts K) → CallsAreHappenings k
    → RealEntriesAreSubmitted → LoopEntriesAreSubmitted k
loop_entries_are_submitted k law submitted n a ss i d pos e is =
    entered_in (loops_traced k law n) a ss (first_match k n a is.first is.unsent) is.taken submitted
    i d pos e
