-- What a call came to, from what `handle` says of it.
use Rattle.std.proofs.Common.{◌≡◌, refl, sym, ap, subst, ◌∙◌, ◌↔◌, ℕ, Bool, true, false, List, []}
use Rattle.std.proofs.Common.{◌∷◌, ◌++◌, Result, Ok, Err}
use Rattle.acceptor.specs.declared.message.Message.{Message}
use Rattle.proposer.specs.declared.fault.Refusal.{Refusal}
use Rattle.learner.specs.{declared.event.DeskEvent.DeskEvent, Desks.Desk, Ranges.AreInRange}
use Rattle.learner.specs.Steps.{Done, step}
use Rattle.serving.specs.{Making.Handling, declared.calls.NodeAnswer.NodeAnswer}
use Rattle.serving.specs.model.Calling.{Calls, IsCall, LosesMessages}
use Rattle.serving.specs.{Answering.answer_of, Serving.waiting_after}
use Rattle.store.specs.declared.home.Home.{Home}
use Rattle.replica.specs.{declared.roles.fault.NodeFault.NodeFault, roles.Faults.refused_as}
use Rattle.replica.specs.declared.roles.fault.NodeFault.TheVariants.{Busy, LogFull, BallotsSpent}
use Rattle.replica.specs.declared.roles.fault.NodeFault.TheVariants.{NoMemory, Down}
use Rattle.replica.specs.{Handles.Takes, Lengths.told_by, Lengths.told_after}
use Rattle.answers.specs.Seen.{Seen}
use Rattle.serving.specs.Nodes.{Fate, Goes, Starves, Breaks, by_step, reply}
use Rattle.proposer.specs.declared.fault.Refusal.TheVariants as refusal

abbrev at : Desk → Bool → List ℕ → Seen
at x b t = record { desk = x; is_down = b; told = t }

abbrev failed : NodeFault → Result (List Message) NodeFault
failed fault = Err fault

abbrev ok : List Message → Result (List Message) NodeFault
ok ms = Ok ms

pub AreInRange-append : (n d : ℕ) (xs ys : List Message) → AreInRange n d xs → AreInRange n d ys
    → AreInRange n d (xs ++ ys)
AreInRange-append n d [] ys h k = k
AreInRange-append n d (x ∷ xs) ys h k = (h.0, AreInRange-append n d xs ys h.1 k)

pub messages_in_range : (s : Result Done Refusal) (n d : ℕ) (x y : Desk) (b : Bool)
    (ms : List Message) (u v : Seen)
    → (b ≡ false → Takes s n d x y (Ok ms)) → (b ≡ true → (ok ms ≡ failed Down) × (u ≡ v))
    → AreInRange n d ms
messages_in_range s n d x y false ms u v h k = (h refl).range
messages_in_range s n d x y true ms u v h k =
    absurd (let e : ok ms ≡ failed Down = (k refl).0 in cc)

-- the call came to this fate: it has its answer, and the node is what it leaves
record Comes (home : Home) (event : DeskEvent) (fate : Fate) (x y : Seen)
    (r : Result (List Message) NodeFault) : Type 0 where
  pub answer : r ≡ (reply home x event fate).result
  pub seen : y ≡ (reply home x event fate).seen

ComesSome : Home → DeskEvent → Seen → Seen → Result (List Message) NodeFault → Type 0
ComesSome home event x y r = (fate : Fate) × Comes home event fate x y r

-- a step of the protocol
comes_ok : (home : Home) (x y : Desk) (t : List ℕ) (event : DeskEvent) (ms : List Message)
    → step home.desks home.desk x event ≡ Ok (record { desk = y; messages = ms })
    → Comes home event Goes (at x false t) (at y false (told_by home event t)) (Ok ms)
comes_ok home x y t event ms s = record {
  answer = ap (λ r. (by_step home event (at x false t) r).result) (sym s);
  seen = ap (λ r. (by_step home event (at x false t) r).seen) (sym s);
}

-- a refusal of the protocol
comes_refused : (home : Home) (x : Desk) (t : List ℕ) (event : DeskEvent) (why : Refusal)
    → step home.desks home.desk x event ≡ Err why
    → Comes home event Goes (at x false t) (at x false t) (failed (refused_as why))
comes_refused home x t event why s = record {
  answer = ap (λ r. (by_step home event (at x false t) r).result) (sym s);
  seen = ap (λ r. (by_step home event (at x false t) r).seen) (sym s);
}

-- a refusal other than Down at a node that is not down
comes_up : (home : Home) (x : Desk) (told : List ℕ) (event : DeskEvent) (fault : NodeFault)
    → (fault ≡ Down → ⊥)
    → Takes (step home.desks home.desk x event) home.desks home.desk x x (Err fault)
    → ComesSome home event (at x false told) (at x false told) (failed fault)
unfolding ComesSome
comes_up home x told event Busy up t =
    (Goes, comes_refused home x told event refusal.Busy ((t.refused refusal.Busy).0 refl))
comes_up home x told event LogFull up t =
    (Goes, comes_refused home x told event refusal.LogFull ((t.refused refusal.LogFull).0 refl))
comes_up home x told event BallotsSpent up t = (
  Goes,
  comes_refused home x told event refusal.BallotsSpent
      ((t.refused refusal.BallotsSpent).0 refl),
)
comes_up home x told event NoMemory up t = (Starves, record { answer = refl; seen = refl })
comes_up home x told event Down up t = absurd (up refl)

-- what is known of a call of `handle`
record Known (home : Home) (event : DeskEvent) (x y : Desk) (a b : Bool) (t u : List ℕ)
    (r : Result (List Message) NodeFault) : Type 0 where
  pub takes : a ≡ false → Takes (step home.desks home.desk x event) home.desks home.desk x y r
  pub ended : a ≡ true → (r ≡ failed Down) × (at y b u ≡ at x a t)
  pub told : u ≡ told_after home event r t
  pub down : (r ≡ failed Down) ↔ (b ≡ true)

comes_err : (home : Home) (x y : Desk) (told : List ℕ) (event : DeskEvent) (fault : NodeFault)
    → (fault ≡ Down → ⊥)
    → Takes (step home.desks home.desk x event) home.desks home.desk x y (Err fault)
    → ComesSome home event (at x false told) (at y false told) (failed fault)
comes_err home x y told event fault up t =
    subst (λ z. ComesSome home event (at x false told) (at z false told) (failed fault)) (sym t.err)
    (comes_up home x told event fault up
    (subst (λ z. Takes (step home.desks home.desk x event) home.desks home.desk x z (Err fault))
    t.err t))

comes_down : (home : Home) (x y : Desk) (told : List ℕ) (event : DeskEvent)
    → Takes (step home.desks home.desk x event) home.desks home.desk x y (Err Down)
    → ComesSome home event (at x false told) (at y true told) (failed Down)
unfolding ComesSome
comes_down home x y told event t =
    (Breaks, record { answer = refl; seen = ap (λ z. at z true told) t.err })

-- what was told after it is what the answer says
comes_told : (home : Home) (event : DeskEvent) (x y : Desk) (a b : Bool) (t u v : List ℕ)
    (r : Result (List Message) NodeFault) → u ≡ v → ComesSome home event (at x a t) (at y b v) r
    → ComesSome home event (at x a t) (at y b u) r
comes_told home event x y a b t u v r is h =
    subst (λ z. ComesSome home event (at x a t) (at y b z) r) (sym is) h

comes_either : (home : Home) (event : DeskEvent) (x y : Desk) (a b : Bool) (t u : List ℕ)
    (r : Result (List Message) NodeFault)
    → Known home event x y a b t u r → ComesSome home event (at x a t) (at y b u) r
unfolding ComesSome
comes_either home event x y true b t u r k =
    (Goes, record { answer = (k.ended refl).0; seen = (k.ended refl).1 })
comes_either home event x y false false t u (Ok ms) k =
    comes_told home event x y false false t u (told_by home event t) (Ok ms) k.told
    (Goes, comes_ok home x y t event ms (k.takes refl).ok)
comes_either home event x y false true t u (Ok ms) k =
    absurd (let e : ok ms ≡ failed Down = k.down.1 refl in cc)
comes_either home event x y false true t u (Err Down) k =
    comes_told home event x y false true t u t (Err Down) k.told
    (comes_down home x y t event (k.takes refl))
comes_either home event x y false false t u (Err Down) k =
    absurd (let e : false ≡ true = k.down.0 refl in cc)
comes_either home event x y false false t u (Err fault) k =
    comes_told home event x y false false t u t (Err fault) k.told
    (comes_err home x y t event fault (λ e. cc) (k.takes refl))
comes_either home event x y false true t u (Err fault) k =
    absurd (let e : failed fault ≡ failed Down = k.down.1 refl in cc)

comes : (home : Home) (x y : Seen) (event : DeskEvent) (r : Result (List Message) NodeFault)
    → (x.is_down ≡ false
    → Takes (step home.desks home.desk x.desk event) home.desks home.desk x.desk y.desk r)
    → (x.is_down ≡ true → (r ≡ failed Down) × (y ≡ x)) → y.told ≡ told_after home event r x.told
    → (r ≡ failed Down) ↔ (y.is_down ≡ true) → (fate : Fate) × Comes home event fate x y r
unfolding ComesSome
comes home x y event r t e told d =
    comes_either home event x.desk y.desk x.is_down y.is_down x.told y.told r
    (record { takes = t; ended = e; told = told; down = d })

-- the call, with the messages that wait
pub calls_so : {V : Type 0} (way : Handling V) (home : Home) (x y : Seen) (event : DeskEvent)
    (r : Result (List Message) NodeFault) (ms more : List Message) (answer : NodeAnswer) (u v : V)
    → (x.is_down ≡ false
    → Takes (step home.desks home.desk x.desk event) home.desks home.desk x.desk y.desk r)
    → (x.is_down ≡ true → (r ≡ failed Down) × (y ≡ x)) → y.told ≡ told_after home event r x.told
    → (r ≡ failed Down) ↔ (y.is_down ≡ true)
    → way u event r v → answer ≡ answer_of r → more ≡ waiting_after ms r
    → (fate : Fate) × Calls home event fate x y ms more answer × IsCall way home event fate x u v
calls_so way home x y event r ms more answer u v t e told d made is waits =
    let f = comes home x y event r t e told d in (
      f.0,
      record {
        answer_is = is ∙ ap answer_of f.1.answer;
        seen = f.1.seen;
        waits = waits ∙ ap (waiting_after ms) f.1.answer;
      },
      subst (λ z. way u event z v) f.1.answer made,
    )

-- the call, whose messages were lost
pub loses_so : {V : Type 0} (way : Handling V) (home : Home) (x y : Seen) (event : DeskEvent)
    (r : Result (List Message) NodeFault) (u v : V) → (x.is_down ≡ false
    → Takes (step home.desks home.desk x.desk event) home.desks home.desk x.desk y.desk r)
    → (x.is_down ≡ true → (r ≡ failed Down) × (y ≡ x)) → y.told ≡ told_after home event r x.told
    → (r ≡ failed Down) ↔ (y.is_down ≡ true) → way u event r v
    → (fate : Fate) × LosesMessages home event fate x y × IsCall way home event fate x u v
loses_so way home x y event r u v t e told d made =
    let f = comes home x y event r t e told d in
    (f.0, record { seen = f.1.seen }, subst (λ z. way u event z v) f.1.answer made)

-- a refusal other than Down leaves the messages that wait
pub keeps_waiting : (ms : List Message) (why : NodeFault) → (why ≡ Down → ⊥)
    → ms ≡ waiting_after ms (Err why)
keeps_waiting ms Down other = absurd (other refl)
keeps_waiting ms _ other = refl
