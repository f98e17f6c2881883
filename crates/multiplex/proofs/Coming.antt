-- No more clients come than are asked for.
use Rattle.std.proofs.Common.{sym, subst, ◌≤◌, ℕ, ◌∷◌, List, Option, None, Some, arith, [], ap}
use Rattle.store.specs.declared.home.Home.{Home}
use Rattle.serving.specs.Making.{Way}
use Rattle.polled.specs.Happenings.{Happened}
use Rattle.multiplex.specs.Passing.{Change, Changed, Changes, Comes, IsServedEach, Lobby, NoSocket}
use Rattle.multiplex.specs.Passing.{Pass, Room, Shut, Step, Stops, Stray, Takes, TakesLast, Visit}
use Rattle.multiplex.specs.{Passing.TurnedAway, declared.ends.ServingsOutcome.ServingsOutcome}
use Rattle.multiplex.specs.{Passing.Unwatched, declared.table.ServingOptions.ServingOptions}

abbrev HasFew : ServingOptions → Lobby → Type 0
HasFew t l = l.next ≤ t.most

few_changed : (home : Home) (t : ServingOptions) (c : Change) (a b : Lobby)
    → Changes home t c a b → HasFew t a → HasFew t b
few_changed home t (Comes k random) a b h few =
    subst (λ l. HasFew t l) (sym h.1.enters) (omega (arith, h.1.wanted))
few_changed home t (TurnedAway k random) a b h few =
    subst (λ l. HasFew t l) (sym h.enters) (omega (arith, h.wanted))
few_changed home t NoSocket a b h few = subst (λ l. HasFew t l) (sym h.1) few
few_changed home t (Unwatched k) a b h few = subst (λ l. HasFew t l) (sym h.1) few
few_changed home t (Stray k) a b h few = subst (λ l. HasFew t l) (sym h.2) few
few_changed home t (TakesLast k None) a b h few = subst (λ l. HasFew t l) (sym h.1) few
few_changed home t (TakesLast k (Some bytes)) a b h few =
    subst (λ l. HasFew t l) (sym h.4.left) few
few_changed home t (Shut k w) a b h few = subst (λ l. HasFew t l) (sym h.3.left) few
few_changed home t (Stops e) a b h few = subst (λ l. HasFew t l) (sym h.2) few

few_taken : {V : Type 0} {way : Way V} (home : Home) (t : ServingOptions) (s : Step)
    (a b : Room way) → Takes home t s a b → HasFew t a.lobby → HasFew t b.lobby
few_taken home t (Changed c) a b h few = few_changed home t c a.lobby b.lobby h.0 few
few_taken home t (Visit k turns fate) a b h few =
    subst (λ l. HasFew t l) (sym h.4.left) few
few_taken home t _ a b h few = subst (λ l. HasFew t l) (sym h.left) few

few_passed : {V : Type 0} {way : Way V} (home : Home) (t : ServingOptions) (steps : List Step)
    (a b : Room way) → Pass home t a steps b → HasFew t a.lobby → HasFew t b.lobby
few_passed home t [] a b h few = subst (λ l. HasFew t l) (ap (λ z. z.lobby) h) few
few_passed home t (s ∷ ss) a b h few =
    few_passed home t ss h.0 b h.2 (few_taken home t s a h.0 h.1 few)

pub few_come : {V : Type 0} {way : Way V} (served : ServingsOutcome) (home : Home)
    (t : ServingOptions)
    (period : Option ℕ) (a b : Room way) (before after : Option (List Happened)) (steps : List Step)
    → IsServedEach served home t period a b before after steps → served.connections ≤ t.most
few_come served home t period a b before after steps h =
    subst (λ n. n ≤ t.most) (sym h.counted)
    (few_passed home t steps a b h.pass (subst (λ l. HasFew t l) (sym h.first) (omega arith)))
