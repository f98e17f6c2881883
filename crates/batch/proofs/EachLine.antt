-- What is asked for one line.
use Rattle.std.proofs.Common.{◌≡◌, inl, inr, ◌++◌, ℕ, List, Bool, true, Option, Result, Ok, Err}
use Rattle.std.proofs.Common.{IfOk, IfErr, ◌⊎◌, refl, sym, ap, append-nil, subst, ◌∙◌}
use Rattle.wire.specs.declared.frame.{Frame.Frame, FrameBody.FrameBody}
use Rattle.batch.specs.Asking.{Asked, Asks, EndsWaiting, IsAnswer, IsAwaited, IsDecided, IsOfAsking}
use Rattle.batch.specs.Asking.{IsTaken, IsTakenOf, IsTurnedOff, ask_of, submit_of}
use Rattle.batch.specs.Confirming.{Confirms, IsAnother, IsUnconfirmed}
use Rattle.batch.specs.Dialing.{Dialed, Grows, LetsGo, Place, Standing, closed}
use Rattle.batch.specs.Entering.{EnteredBy, Hinders, IsEntered, StopsAsking, StopsTaking}
use Rattle.batch.specs.{Logs.AddsSo, Watching.Notice, Watching.Telling, Watching.Watched}
use Rattle.batch.specs.declared.{asking.Receiver.Receiver, fault.BatchFault.BatchFault}
use Rattle.batch.proofs.Going.{adds_by, goes_more, grows_more}
use Rattle.batch.proofs.Trying.{between, telling_as}

-- the request that enters the text was turned off
pub if_asks_text : (here : Place) (r : Receiver) (id : ℕ) (text : List ℕ) (submit : Frame)
    (a b : Standing) (v : Watched) (result : Result FrameBody BatchFault)
    → submit ≡ submit_of r id text
    → IfErr result (λ f. Asks here a b (Telling v (IsTurnedOff f r submit)))
    → IfErr result (λ f. Asks here a b (Telling v (StopsTaking f r id text)))
if_asks_text here r id text submit a b v (Ok answer) is h = tt
if_asks_text here r id text submit a b v (Err f) is h =
    telling_as a b v (IsTurnedOff f r (submit_of r id text)) (StopsTaking f r id text)
    (λ asked told k. inr k)
    (subst (λ (s : Frame). Asks here a b (Telling v (IsTurnedOff f r s))) is h)

-- and so it is where the text was taken
pub if_takes_text : (here : Place) (r : Receiver) (id : ℕ) (text : List ℕ) (submit : Frame)
    (a b : Standing) (v : Watched) (result : Result FrameBody BatchFault)
    → submit ≡ submit_of r id text
    → IfOk result (λ answer. Asks here a b (Telling v (IsTakenOf r submit answer)))
    → IfOk result (λ answer. Asks here a b (Telling v (IsTaken r id text answer)))
if_takes_text here r id text submit a b v result is h =
    subst (λ (s : Frame). IfOk result (λ answer. Asks here a b (Telling v (IsTakenOf r s answer))))
    is h

-- the text was not taken
pub asks_text : {here : Place} (f : BatchFault) (r : Receiver) (id : ℕ) (text : List ℕ)
    (a b : Standing) (v : Watched) → Asks here a b (Telling v (StopsTaking f r id text))
    → Asks here a b (Telling v (StopsAsking f r id text))
asks_text f r id text a b v h =
    telling_as a b v (StopsTaking f r id text) (StopsAsking f r id text) (λ asked told k. inl k) h

-- it was taken, and then not waited for to the end
pub not_awaited : {here : Place} (f : BatchFault) (r : Receiver) (id : ℕ) (text : List ℕ)
    (taken : FrameBody) (a b c : Standing) (x y z : Option (List Notice))
    → Asks here a b (Telling (between x y) (IsTaken r id text taken))
    → Asks here b c (Telling (between y z) (EndsWaiting f r id))
    → Asks here a c (Telling (between x z) (StopsAsking f r id text))
not_awaited f r id text taken a b c x y z h k = (
  h.0 ++ k.0,
  goes_more _ a b c h.0 k.0 h.1 k.1,
  (
    h.2.0 ++ k.2.0,
    inr (inl (taken, h.0, k.0, h.2.0, k.2.0, h.2.1, k.2.1, refl, refl)),
    grows_more x y z h.2.0 k.2.0 h.2.2 k.2.2,
  ),
)

-- it was taken and decided, and the entry in the log is this one
pub confirmed : {here : Place} (waits : Bool) (r : Receiver) (id : ℕ) (text : List ℕ)
    (taken last : FrameBody) (a b c d : Standing) (x y z u : Option (List Notice)) → waits ≡ true
    → Asks here a b (Telling (between x y) (IsTaken r id text taken))
    → Asks here b c (Telling (between y z) (IsAwaited r id last))
    → Asks here c d (Telling (between z u) (Confirms r id text last))
    → Asks here a d (Telling (between x u) (EnteredBy waits r id text last))
confirmed {here} waits r id text taken last a b c d x y z u is h k m =
    let told = h.2.0 ++ k.2.0 in
    subst (λ w. Asks here a d (Telling (between x u) (EnteredBy w r id text last))) (sym is) (
      (h.0 ++ k.0) ++ m.0,
      goes_more _ a c d (h.0 ++ k.0) m.0 (goes_more _ a b c h.0 k.0 h.1 k.1) m.1,
      (
        told,
        (taken, h.0, k.0, m.0, h.2.0, k.2.0, h.2.1, k.2.1, m.2.1.0, refl, refl),
        subst (Grows x u) (ap (λ l. told ++ l) m.2.1.1 ∙ append-nil told)
            (grows_more x z u told m.2.0 (grows_more x y z h.2.0 k.2.0 h.2.2 k.2.2) m.2.2),
      ),
    )

-- so the text was entered
pub is_entered : {here : Place} (waits : Bool) (r : Receiver) (id : ℕ) (text : List ℕ)
    (taken last : FrameBody) (a b : Standing) (v : Watched) → waits ≡ true
    → IsAnswer (submit_of r id text) taken → IsAnswer (ask_of r id) last × IsDecided last
    → Asks here a b (Telling v (Confirms r id text last)) → IsEntered waits r id text last
is_entered waits r id text taken last a b v is t answer m =
    let own = m.2.1.0 in
    subst (λ w. IsEntered w r id text last) (sym is) (
      taken,
      t,
      (answer.0, answer.1, (own.pos, own.stands, own.answer, own.own)),
    )

-- it was taken and decided, and the entry in the log was not seen to be this one
pub not_confirmed : {here : Place} (f : BatchFault) (r : Receiver) (id : ℕ) (text : List ℕ)
    (taken last : FrameBody) (a b c d : Standing) (x y z u : Option (List Notice))
    → Asks here a b (Telling (between x y) (IsTaken r id text taken))
    → Asks here b c (Telling (between y z) (IsAwaited r id last))
    → Asks here c d (Telling (between z u) (IsUnconfirmed f r id text last))
    → Asks here a d (Telling (between x u) (StopsAsking f r id text))
not_confirmed f r id text taken last a b c d x y z u h k m = (
  (h.0 ++ k.0) ++ m.0,
  goes_more _ a c d (h.0 ++ k.0) m.0 (goes_more _ a b c h.0 k.0 h.1 k.1) m.1,
  (
    (h.2.0 ++ k.2.0) ++ m.2.0,
    inr (inr (
      taken,
      last,
      h.0,
      k.0,
      m.0,
      h.2.0,
      k.2.0,
      m.2.0,
      h.2.1,
      k.2.1,
      m.2.1,
      refl,
      refl,
    )),
    grows_more x z u (h.2.0 ++ k.2.0) m.2.0 (grows_more x y z h.2.0 k.2.0 h.2.2 k.2.2) m.2.2,
  ),
)

-- a command that was decided is not this one, where that was waited for
pub not_own : (f : BatchFault) (waits : Bool) (r : Receiver) (id : ℕ) (text : List ℕ)
    (taken told : FrameBody) → waits ≡ true → IsAnswer (submit_of r id text) taken
    → IsAnswer (ask_of r id) told → IsOfAsking f ⊎ IsAnother f r id text told
    → IsOfAsking f ⊎ Hinders f waits r id text
not_own f waits r id text taken told is t answer (inl h) = inl h
not_own f waits r id text taken told is t answer (inr h) =
    inr (subst (λ x. Hinders x waits r id text) (sym h.0) (
      is,
      taken,
      t,
      told,
      answer,
      (refl, h.1, h.2, h.3, h.4, h.5, h.6),
    ))

-- ---- where no connection is kept before and afterwards

pub if_adds_ok : (here : Place) (a : Option (List Dialed)) (b : Standing)
    (c : Option (List Dialed)) (result : Result FrameBody BatchFault)
    (Is : FrameBody → List Asked → Type 0)
    → IfOk result (λ last. Asks here (closed a) b (Is last)) → LetsGo b c
    → IfOk result (λ last. AddsSo (record { place = here; old = a; new = c }) (Is last))
if_adds_ok here a b c (Ok last) Is h k = (h.0, adds_by here a b c h.0 h.1 k, h.2)
if_adds_ok here a b c (Err f) Is h k = tt

pub if_adds_err : (here : Place) (a : Option (List Dialed)) (b : Standing)
    (c : Option (List Dialed)) (result : Result FrameBody BatchFault)
    (Is : BatchFault → List Asked → Type 0)
    → IfErr result (λ f. Asks here (closed a) b (Is f)) → LetsGo b c
    → IfErr result (λ f. AddsSo (record { place = here; old = a; new = c }) (Is f))
if_adds_err here a b c (Ok last) Is h k = tt
if_adds_err here a b c (Err f) Is h k = (h.0, adds_by here a b c h.0 h.1 k, h.2)
