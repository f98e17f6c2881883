use Rattle.std.proofs.Common.{◌<◌, ◌-◌, refl, sym, subst, ◌∙◌, arith}
use Rattle.guarded.specs.LockedConnections.{begun}
use Rattle.multiplex.specs.Silence.{waited_for}
use Rattle.multiplex.proofs.Asked.{asks_some, keeps_woken, none_silent}
use Rattle.multiplex.proofs.Shutting.{alters_both, shut_fewer, shut_keeps, shuts, silent_cause}
use Rattle.multiplex.specs.declared.ends.EndReason.TheVariants as why
use Rattle.multiplex.proofs.steps.let_go.Goals as goal

pub returns-in-Some-shut-clause-alters : goal.returns-in-Some-shut-clause-alters
returns-in-Some-shut-clause-alters g c home t same =
    let table = c.loop-place.table in
    alters_both _ home t _ _ _ _ _ _ _ (c.loop-place.invariant.alters home t same)
    (shuts _ home t why.Silent c.in-Some.place _ _ _ _ _ (λ before after gone len found. (
      refl,
      subst (λ p. waited_for p (begun gone.talk) < table.time - gone.ready) (sym same)
          (silent_cause c.args.patience table.time table.guests.items before gone after
          c.in-Some.place len found (sym c.place_of_silent.ensures ∙ c.in-Some.is)),
    ))
    c.in-Some-shut.ensures.shut)

pub returns-in-Some-shut-clause-kept : goal.returns-in-Some-shut-clause-kept
returns-in-Some-shut-clause-kept g c home wire h =
    shut_keeps g.C.Sockets.happened c.in-Some.place c.shut.result c.loop-place.table
    c.shut.new.table c.loop-place.clients c.shut.new.clients c.shut.ensures.shut home wire
    (c.loop-place.invariant.kept home wire h)

pub returns-in-Some-shut-clause-woken : goal.returns-in-Some-shut-clause-woken
returns-in-Some-shut-clause-woken g c home x time asked h =
    keeps_woken c.loop-place.table.guests.items c.shut.ensures.shut.0 c.shut.ensures.shut.2
    c.shut.ensures.shut.1 c.shut.new.table.guests.items c.shut.ensures.shut.4.found
    c.shut.ensures.shut.4.left home x time asked (c.loop-place.invariant.woken home x time asked h)

pub loop-place-preserved : goal.loop-place-preserved
loop-place-preserved g c =
    let table = c.loop-place.table in
    record {
      alters =
          λ home t same.
          alters_both _ home t _ _ _ _ _ _ _ (c.loop-place.invariant.alters home t same)
          (shuts _ home t why.Silent c.in-Some.place _ _ _ _ _ (λ before after gone len found. (
            refl,
            subst (λ p. waited_for p (begun gone.talk) < table.time - gone.ready) (sym same)
                (silent_cause c.args.patience table.time table.guests.items before gone after
                c.in-Some.place len found (sym c.place_of_silent.ensures ∙ c.in-Some.is)),
          ))
          c.in_default-shut.ensures.shut);
      kept =
          λ home wire h. shut_keeps g.C.Sockets.happened c.in-Some.place c.shut.result table
          c.shut.new.table c.loop-place.clients c.shut.new.clients c.shut.ensures.shut home wire
          (c.loop-place.invariant.kept home wire h);
      woken =
          λ home x time asked h. keeps_woken table.guests.items c.shut.ensures.shut.0
          c.shut.ensures.shut.2 c.shut.ensures.shut.1 c.shut.new.table.guests.items
          c.shut.ensures.shut.4.found c.shut.ensures.shut.4.left home x time asked
          (c.loop-place.invariant.woken home x time asked h);
      fewer =
          omega (
            arith,
            shut_fewer g.C.Sockets.happened c.in-Some.place c.shut.result table c.shut.new.table
                c.loop-place.clients c.shut.new.clients c.shut.ensures.shut,
            c.loop-place.invariant.fewer,
          );
      time = c.shut.ensures.shut.4.time ∙ c.loop-place.invariant.time;
      asks =
          asks_some g.C.Sockets.requests c.args.clients.now c.loop-place.clients c.shut.new.clients
          c.shut.ensures.asks.0 c.loop-place.invariant.asks c.shut.ensures.asks.1;
    }

pub returns-in-Some-shut-clause-time : goal.returns-in-Some-shut-clause-time
returns-in-Some-shut-clause-time g c =
    c.shut.ensures.shut.4.time ∙ c.loop-place.invariant.time

pub returns-in-Some-shut-clause-asks : goal.returns-in-Some-shut-clause-asks
returns-in-Some-shut-clause-asks g c =
    asks_some g.C.Sockets.requests c.args.clients.now c.loop-place.clients c.shut.new.clients
    c.shut.ensures.asks.0 c.loop-place.invariant.asks c.shut.ensures.asks.1

pub returns-clause-silent : goal.returns-clause-silent
returns-clause-silent g c none =
    none_silent c.args.patience c.loop-place.table (sym c.place_of_silent.ensures ∙ c.in_default.is)

pub returns-clause-time : goal.returns-clause-time
returns-clause-time g c = c.loop-place.invariant.time

pub returns-clause-asks : goal.returns-clause-asks
returns-clause-asks g c = c.loop-place.invariant.asks

pub returns-clause-woken : goal.returns-clause-woken
returns-clause-woken g c = c.loop-place.invariant.woken
