-- A statement or a query that was refused, told as what was run.
use Rattle.std.proofs.Common.{inr, ℕ, List, Ok, Err, Result, IfOk, IfErr}
use Rattle.std.specs.Global.{Vec}
use Rattle.sqlite.specs.{Order.Row, declared.error.Error.Error}
use Rattle.sqlite.specs.State.{State, FailsToQuery, Shown}
use Rattle.store.specs.Refusals.{IsAsked}

pub asked : (sql : List ℕ) (params : Row) (old new : State) (r : Result (Vec Row) Error)
    → IfOk r (λ rows. Shown sql params old new rows.items)
    → IfErr r (FailsToQuery sql params old new) → IsAsked old new r
asked sql params old new (Ok rows) given fails = (sql, params, rows.items, given)
asked sql params old new (Err e) given fails = (sql, params, inr fails)
