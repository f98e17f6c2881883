-- Without a period there is no ticker, and so no Tick.
use Rattle.std.proofs.Common.{◌≡◌, refl, ap, ◌∙◌, List, [], ◌∷◌, Option, None, Some, Bool, false}
use Rattle.std.specs.Prelude.{IsTrue}
use Rattle.answers.specs.declared.desk.Desk.{Ghosts as DeskOf}
use Rattle.serving.specs.Making.{Way}
use Rattle.store.specs.declared.home.Home.{Home}
use Rattle.ticking.specs.Ticking.{Look, Ticking}
use Rattle.multiplex.specs.EachClient.{TicksNeedAPeriod, ticks_of}
use Rattle.multiplex.specs.Passing.{Change, Changed, Changes, Clock, Comes, Lobby, NoSocket, Pass}
use Rattle.multiplex.specs.Passing.{Room, Shut, Step, Stops, Stray, TakesLast, Ticked, TurnedAway}
use Rattle.multiplex.specs.Passing.{Settles, Unwatched, Visit, look_in, looked, ticks_after}
use Rattle.multiplex.specs.{Passing.ticks_at, declared.own_ticks.OwnTicks.OwnTicks}
use Rattle.multiplex.specs.declared.table.ServingOptions.{ServingOptions}

abbrev HasNone : Lobby → Type 0
HasNone l = l.own.ticker ≡ None

after_change : (home : Home) (t : ServingOptions) (c : Change) (a b : Lobby) → Changes home t c a b
    → b.own ≡ a.own
after_change home t (Comes k random) a b h = ap (λ (l : Lobby). l.own) h.1.enters
after_change home t (TurnedAway k random) a b h = ap (λ (l : Lobby). l.own) h.enters
after_change home t NoSocket a b h = ap (λ (l : Lobby). l.own) h.1
after_change home t (Unwatched k) a b h = ap (λ (l : Lobby). l.own) h.1
after_change home t (Stray k) a b h = ap (λ (l : Lobby). l.own) h.2
after_change home t (TakesLast k None) a b h = ap (λ (l : Lobby). l.own) h.1
after_change home t (TakesLast k (Some bytes)) a b h = ap (λ (l : Lobby). l.own) h.4.left
after_change home t (Shut k w) a b h = ap (λ (l : Lobby). l.own) h.3.left
after_change home t (Stops e) a b h = ap (λ (l : Lobby). l.own) h.2

not_due : (ticker : Option Ticking) (l : Look) → ticker ≡ None → IsTrue (ticks_at ticker l) → ⊥
not_due None l none due = absurd cc
not_due (Some t) l none due = absurd cc

still_none : (own : OwnTicks) (l : Look) (starved : Bool) → own.ticker ≡ None
    → (ticks_after own l starved).ticker ≡ None
still_none own l starved none = ap (λ z. looked z l) none

pub no_ticks : {V : Type 0} {way : Way V} (home : Home) (t : ServingOptions) (ss : List Step)
    (a b : Room way) → HasNone a.lobby → Pass home t a ss b → ticks_of ss ≡ []
no_ticks home t [] a b none h = refl
no_ticks home t (Changed c ∷ ss) a b none h =
    no_ticks home t ss h.0 b
    (ap (λ (w : OwnTicks). w.ticker) (after_change home t c a.lobby h.0.lobby h.1.0) ∙ none) h.2
no_ticks home t (Clock now ∷ ss) a b none h =
    no_ticks home t ss h.0 b (ap (λ (l : Lobby). l.own.ticker) h.1.left
    ∙ still_none a.lobby.own (look_in a now) false none) h.2
no_ticks home t (Ticked now starved ∷ ss) a b none h =
    absurd (not_due a.lobby.own.ticker (look_in a now) none h.1.due)
no_ticks home t (Visit k turns fate ∷ ss) a b none h =
    no_ticks home t ss h.0 b (ap (λ (l : Lobby). l.own.ticker) h.1.4.left ∙ none) h.2
no_ticks home t (Settles heard ok ∷ ss) a b none h =
    no_ticks home t ss h.0 b (ap (λ (l : Lobby). l.own.ticker) h.1.left ∙ none) h.2

pub ticks_need_a_period : {V : Type 0} (d : DeskOf V) → TicksNeedAPeriod d
ticks_need_a_period d result home t a b before after steps h =
    no_ticks home t steps a b (ap (λ (l : Lobby). l.own.ticker) h.first) h.pass
