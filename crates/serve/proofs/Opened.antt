-- The desk that is opened on its files.
use Rattle.std.proofs.Common.{◌≡◌, ◌⊎◌, inl, inr, ◌∙◌, length, Result, OnOk, IfErr}
use Rattle.std.proofs.lemmas.Result.{IfErr-weaker, on_ok_weaker}
use Rattle.std.specs.Io.KnownBytes.{Keeps as KeepsBytes}
use Rattle.sqlite.specs.Recovery.{Image}
use Rattle.replica.specs.{Handles.Handles, Settles.Settles, Nodes.NodeValue, Opens.Opens}
use Rattle.serving.specs.Making.{speaking}
use Rattle.connections.specs.Connections.{Point}
use Rattle.sealed.specs.declared.callers.Access.{Access}
use Rattle.store.specs.declared.{home.Home.Home, keeper.Keeper.Ghosts as KeeperOf}
use Rattle.serve.{proofs.Over.by_listener, specs.Files.IsOpenedOn, specs.Files.KeepsFor}
use Rattle.serve.specs.{Keys.AreDoors, declared.fault.ServeFault.ServeFault}
use Rattle.serve.specs.Printing.{IsAllowed, IsOfListener, Output, home_of}
use Rattle.serve.specs.Serves.{FailsDesk, FailsKept, FailsServing, IsRun, RunsDesk, RunsKept}
use Rattle.serve.specs.Serves.{Serves, Turn, resting, turn_of}
use Rattle.hall_file.specs.declared.service.{StoreOrigin.StoreOrigin, Service.Service}

-- what the desk has that is opened over a keeper is what this one kept
opened_on : {K : Type 0} (k : KeeperOf K) (how : StoreOrigin) (files : Image) (home : Home)
    (keeper : K) (node : NodeValue K) → KeepsFor k how files home keeper → Opens k keeper node
    → IsOpenedOn k how files home node
opened_on k how files home keeper node kept n = record {
  up = n.up;
  idle = n.first;
  place = n.home ∙ kept.place;
  held =
      λ honest.
      let h = kept.held (n.honest honest) in
      let is = n.same honest h.0 h.1 h.2 in
      rw (is.0, is.1) h.3;
}

-- ---- and serves

run_of : {K : Type 0} (k : KeeperOf K) (files : Image) (s : Service) (d : Access) (o : Output)
    (first last : NodeValue K)
    (Does : Turn → Point (speaking (Handles k) (Settles k) s.options.wire)
    → Point (speaking (Handles k) (Settles k) s.options.wire) → Type 0)
    → AreDoors s d → IsOpenedOn k s.options.making files (home_of s) first
    → Does (turn_of s d (k.home_of first.keeper) (length first.desk.log) o)
    (resting k s.options.wire first) (resting k s.options.wire last) → IsRun k files s o Does
run_of k files s d o first last Does keyed opened does = record {
  first = first;
  last = last;
  doors = d;
  keyed = keyed;
  opened = opened;
  served = rw opened.place at does;
}

pub runs : {K : Type 0} (k : KeeperOf K) (s : Service) (d : Access) (o : Output) (keeper : K)
    (first last : NodeValue K) (r : Result (Unit {0}) ServeFault)
    → Opens k keeper first → AreDoors s d
    → OnOk r (Serves (turn_of s d (k.home_of first.keeper) (length first.desk.log) o)
    (resting k s.options.wire first) (resting k s.options.wire last))
    → OnOk r (RunsKept k keeper s o)
runs k s d o keeper first last r opens keyed h =
    on_ok_weaker r (λ does files kept. run_of k files s d o first last Serves keyed
    (opened_on k s.options.making files (home_of s) keeper first kept opens) does) h

pub runs_ill : {K : Type 0} (k : KeeperOf K) (s : Service) (d : Access) (o : Output) (keeper : K)
    (first last : NodeValue K) (r : Result (Unit {0}) ServeFault)
    → Opens k keeper first → AreDoors s d → IsAllowed s
    → IfErr r (λ f. (IsOfListener f × KeepsBytes o.old o.new)
    ⊎ FailsServing f (turn_of s d (k.home_of first.keeper) (length first.desk.log) o)
    (resting k s.options.wire first) (resting k s.options.wire last))
    → IfErr r (FailsKept k keeper s o)
runs_ill k s d o keeper first last r opens keyed allowed h =
    IfErr-weaker r _ _ (λ f. how f) h
  where
    how : (f : ServeFault) → (IsOfListener f × KeepsBytes o.old o.new) ⊎ FailsServing f
        (turn_of s d (k.home_of first.keeper) (length first.desk.log) o)
        (resting k s.options.wire first) (resting k s.options.wire last) → FailsKept k keeper s o f
    how f (inl e) files kept = inl (record { cause = by_listener f s e.0 allowed; silent = e.1 })
    how f (inr e) files kept =
        inr (run_of k files s d o first last (FailsServing f) keyed
        (opened_on k s.options.making files (home_of s) keeper first kept opens) e)

-- ---- the files that a keeper was opened on, for the desk that was asked for

pub runs_on : {K : Type 0} (k : KeeperOf K) (files : Image) (home : Home) (keeper : K)
    (s : Service) (o : Output) (r : Result (Unit {0}) ServeFault)
    → home ≡ home_of s → KeepsFor k s.options.making files home keeper
    → OnOk r (RunsKept k keeper s o) → OnOk r (RunsDesk k files s o)
runs_on k files home keeper s o r is kept h = on_ok_weaker r (λ runs. runs files (rw is at kept)) h

pub fails_on : {K : Type 0} (k : KeeperOf K) (files : Image) (home : Home) (keeper : K)
    (s : Service) (o : Output) (r : Result (Unit {0}) ServeFault)
    → home ≡ home_of s → KeepsFor k s.options.making files home keeper
    → IfErr r (FailsKept k keeper s o) → IfErr r (FailsDesk k files s o)
fails_on k files home keeper s o r is kept h =
    IfErr-weaker r _ _ (λ f fails. fails files (rw is at kept)) h
