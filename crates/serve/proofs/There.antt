-- A desk that serves at its address, on the terms that its arguments say.
use Rattle.std.proofs.Common.{◌≡◌, ℕ, Option, inr, subst, length, Result, IfErr}
use Rattle.std.{proofs.lemmas.Result.IfErr-weaker, specs.declared.io.Write.Ghosts as WriteOf}
use Rattle.multiplex.specs.declared.table.ServingOptions.{ServingOptions}
use Rattle.replica.specs.Nodes.{NodeValue}
use Rattle.sealed.specs.declared.callers.Access.{Access}
use Rattle.store.specs.declared.keeper.Keeper.{Ghosts as KeeperOf}
use Rattle.serve.specs.{Printing.output, Serves.unheard, declared.fault.ServeFault.ServeFault}
use Rattle.serve.specs.Serves.{FailsServing, FailsThere, period_of, resting, terms_of, turn}
use Rattle.hall_file.specs.declared.service.Service.{Service}

abbrev FailsOn : {K X : Type 0} → KeeperOf K → WriteOf X → ServingOptions → Option ℕ → NodeValue K
    → NodeValue K → (before after : X) → ServeFault → Type 0
FailsOn k w t period first last before after f =
    FailsServing f (turn (k.home_of first.keeper) t period (length first.desk.log)
    (output (w.contents before) (w.contents after)) unheard)
    (resting k t.wire first) (resting k t.wire last)

pub failed_there : {K X : Type 0} (k : KeeperOf K) (w : WriteOf X) (s : Service) (d : Access)
    (t : ServingOptions) (p : Option ℕ) (first last : NodeValue K) (before after : X)
    (r : Result (Unit {0}) ServeFault) → t ≡ terms_of s d → p ≡ period_of s.options.tick
    → IfErr r (λ f. FailsOn k w t p first last before after f)
    → IfErr r (λ f. FailsThere k w s d first last before after f)
failed_there k w s d t p first last before after r is same h =
    IfErr-weaker r
    (λ f. FailsOn k w (terms_of s d) (period_of s.options.tick) first last before after f)
    (λ f. FailsThere k w s d first last before after f) (λ f ends. inr ends)
    (subst (λ q. IfErr r (λ f. FailsOn k w (terms_of s d) q first last before after f)) same
    (subst (λ z. IfErr r (λ f. FailsOn k w z p first last before after f)) is h))
