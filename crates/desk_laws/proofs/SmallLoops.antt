-- A small run of desks that serve by the loop.
use Rattle.std.proofs.Common.{◌≡◌, refl, sym, subst, ◌∙◌, ℕ, [], ◌∷◌, ◌++◌}
use Rattle.std.proofs.lemmas.List.{append-nil}
use Rattle.replica.specs.{Handles.Handles, Nodes.NodeValue}
use Rattle.serving.specs.{Connection.serve_frame, Making.Lead, Making.calls_of}
use Rattle.store.specs.declared.{home.Home.Home, keeper.Keeper.Ghosts}
use Rattle.hall_laws.specs.HallExample.{third_home, three_desks}
use Rattle.hall_laws.specs.HallRuns.{FrameWasSent, Nodes, nodes_of, seen_of}
use Rattle.hall_laws.{specs.OwnMessages.sent_after, proofs.HallExample.two_of_three}
use Rattle.hall_laws.proofs.HallExample.{first_node, first_three, hears_so, one_of_three}
use Rattle.hall_laws.proofs.HallExample.{says_handled, tick_handled, ticks_so}
use Rattle.desk_laws.specs.{Example.LoopsWork, Example.hears, Example.ticks}
use Rattle.desk_laws.specs.LoopRuns.{Does, DoesAt, Doing, IsDone}

-- a desk whose node stays does this, where that is all
done_so : {K : Type 0} (k : Ghosts K) (x : NodeValue K) (home : Home) (doing : Doing)
    → k.home_of x.keeper ≡ home → doing.acts ≡ (serve_frame home (seen_of x) doing.one).acts
    → Lead (Handles k) x (calls_of doing.acts) x → IsDone k (k.home_of x.keeper) doing x x
done_so k x home doing is all lead = record {
  seen = seen_of x;
  rest = [];
  parts =
      subst (λ (u : Home). (serve_frame u (seen_of x) doing.one).acts ≡ doing.acts ++ []) (sym is)
      (sym all ∙ sym (append-nil doing.acts));
  calls = lead;
}

abbrev at_first : {K : Type 0} → (ℕ → K) → Nodes K
at_first keeper = nodes_of (three_desks keeper)

abbrev ticked : {K : Type 0} → (ℕ → K) → Nodes K
ticked keeper = record { node = (at_first keeper).node; sent = sent_after [] ticks.acts }

abbrev heard : {K : Type 0} → (ℕ → K) → Nodes K
heard keeper = record {
  node = (at_first keeper).node;
  sent = sent_after (ticked keeper).sent hears.acts;
}

pub loops_work : {K : Type 0} (k : Ghosts K) → LoopsWork k
loops_work {K} k keeper own = (
  record { event = DoesAt 1 ticks; after = ticked keeper }
      ∷ record { event = DoesAt 2 hears; after = heard keeper } ∷ [],
  refl,
  record {
    first = first_three k keeper own;
    unsent = refl;
    taken = (first_step, (second_step, tt));
  },
)
  where
    first_step : Does k 3 1 ticks (at_first keeper) (ticked keeper)
    first_step = record {
      ours = one_of_three;
      does =
          done_so k (first_node (keeper 1)) (third_home 1) ticks (own 1 one_of_three).0 ticks_so
          (first_node (keeper 1), tick_handled k keeper own, refl);
      brings =
          subst (λ (u : Home). FrameWasSent u [] ticks.one) (sym (own 1 one_of_three).0) tt;
      only = record { others = λ j other. refl; sent = refl };
    }

    second_step : Does k 3 2 hears (ticked keeper) (heard keeper)
    second_step = record {
      ours = two_of_three;
      does =
          done_so k (first_node (keeper 2)) (third_home 2) hears (own 2 two_of_three).0 hears_so
          (first_node (keeper 2), says_handled k keeper own, refl);
      brings =
          subst (λ (u : Home). FrameWasSent u (ticked keeper).sent hears.one)
          (sym (own 2 two_of_three).0) ((1, refl, refl), tt);
      only = record { others = λ j other. refl; sent = refl };
    }
