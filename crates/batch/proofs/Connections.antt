-- One request over one connection.
use Rattle.std.proofs.Common.{◌≡◌, ◌⊎◌, ◌<◌, ◌≤◌, ◌+◌, ◌++◌, ◌∷◌, [], inl, inr, ℕ, List, Option}
use Rattle.std.proofs.Common.{Bool, true, false, if◌then◌else◌, Result, Ok, Err, IfOk, ap, refl}
use Rattle.std.proofs.Common.{subst, sym, ◌∙◌}
use Rattle.client.specs.{Answers.judged, declared.fault.ClientFault.ClientFault}
use Rattle.wire.specs.Ranges.{IsFrame}
use Rattle.wire.specs.declared.frame.{Frame.Frame, FrameBody.FrameBody}
use Rattle.batch.specs.{Asking.IsAnswer, declared.fault.BatchFault.BatchFault}
use Rattle.batch.specs.Dialing.{Asked, Came, Dialed, Dials, Ended, Failed, Goes, IsExchanged}
use Rattle.batch.specs.Dialing.{Opened, Place, Standing, answer_of, asked_so, ended_so, exchanged}
use Rattle.batch.specs.Dialing.{is_answered, is_hung_up, made_after}
use Rattle.batch.specs.model.Keeping.{Cuts, Hears, MakesAnew, MakesKept, Uses}
use Rattle.batch.specs.declared.dialing.ConnectionLoss.{ConnectionLoss, TheVariants.Own}
use Rattle.batch.proofs.Going.{goes_by, grows_more}
use Rattle.batch.specs.declared.fault.BatchFault.TheVariants as fault

-- a frame that is judged to be an answer is one to the request
pub heard_answers : (request given : Frame) (ended : Result FrameBody ClientFault)
    → ended ≡ judged request given → IsFrame given → IfOk ended (IsAnswer request)
heard_answers request given (Ok answer) is spelled = (given, spelled, sym is)
heard_answers request given (Err e) is spelled = tt

answered_by : (request : Frame) (ended : Result FrameBody ClientFault) (ending : ConnectionLoss)
    → IfOk ended (IsAnswer request) → IfOk (answer_of ended ending) (IsAnswer request)
answered_by request (Ok answer) ending h = h
answered_by request (Err e) ending h = tt

-- what came of the request is an answer to it where what was heard is
pub if_answered : (request : Frame) (ended : Result FrameBody ClientFault) (ending : ConnectionLoss)
    (answer : Result FrameBody BatchFault) → answer ≡ answer_of ended ending
    → IfOk ended (IsAnswer request) → IfOk answer (IsAnswer request)
if_answered request ended ending answer is h =
    subst (λ (r : Result FrameBody BatchFault). IfOk r (IsAnswer request)) (sym is)
    (answered_by request ended ending h)

-- the desk answered, and the connection is kept
pub uses_kept : (request : Frame) (ended : Result FrameBody ClientFault)
    (old new : Option (List Dialed)) → is_answered ended ≡ true → Hears request ended old new
    → Uses request ended Own old new
uses_kept request ended old new is h = record {
  came = h.came;
  told =
      subst (λ (b : Bool). Dials old new (Came request h.came ∷ (if b then [] else Ended Own ∷ [])))
      (sym is) h.told;
  heard = h.heard;
}

-- it did not, and the connection was ended
pub uses_ended : (request : Frame) (ended : Result FrameBody ClientFault) (ending : ConnectionLoss)
    (old mid new : Option (List Dialed)) → is_answered ended ≡ false → Hears request ended old mid
    → Dials mid new (Ended ending ∷ []) → Uses request ended ending old new
uses_ended request ended ending old mid new is h k = record {
  came = h.came;
  told =
      subst
      (λ (b : Bool). Dials old new (Came request h.came ∷ (if b then [] else Ended ending ∷ [])))
      (sym is) (grows_more old mid new (Came request h.came ∷ []) (Ended ending ∷ []) h.told k);
  heard = h.heard;
}

pub made_kept : (ended : Result FrameBody ClientFault) (made : ℕ) → is_answered ended ≡ true
    → made + 1 ≡ made_after ended made
made_kept ended made is = ap (λ (b : Bool). if b then made + 1 else 0) (sym is)

pub made_none : (ended : Result FrameBody ClientFault) (made : ℕ) → is_answered ended ≡ false
    → 0 ≡ made_after ended made
made_none ended made is = ap (λ (b : Bool). if b then made + 1 else 0) (sym is)

-- what became of a connection over which the request was made
exchanges : (request : Frame) (ended : Result FrameBody ClientFault) (ending : ConnectionLoss)
    (answer : Result FrameBody BatchFault) (made after : ℕ) (a c : Option (List Dialed))
    → (u : Uses request ended ending a c) → after ≡ made_after ended made
    → answer ≡ answer_of ended ending
    → IsExchanged made (asked_so request answer) u.came ending after
    (Came request u.came ∷ ended_so ended ending)
exchanges request ended ending answer made after a c u kept is = record {
  answer = is ∙ ap (λ r. answer_of r ending) u.heard;
  kept = kept ∙ ap (λ r. made_after r made) u.heard;
  told = ap (λ r. Came request u.came ∷ ended_so r ending) u.heard;
}

-- the request was made over a new connection
pub anew : (here : Place) (request : Frame) (ended : Result FrameBody ClientFault)
    (ending : ConnectionLoss) (answer : Result FrameBody BatchFault) (after : ℕ)
    (a b c : Option (List Dialed)) → Dials a b (Opened here ∷ [])
    → Uses request ended ending b c → after ≡ made_after ended 0
    → answer ≡ answer_of ended ending → MakesAnew here a c (asked_so request answer) after
anew here request ended ending answer after a b c opened u kept is =
    let rest = Came request u.came ∷ ended_so ended ending in (
      Opened here ∷ rest,
      grows_more a b c (Opened here ∷ []) rest opened u.told,
      inr (
        u.came,
        ending,
        rest,
        exchanges request ended ending answer 0 after b c u kept is,
        refl,
      ),
    )

-- none could be opened
pub unreached : (here : Place) (request : Frame) (f : BatchFault) (after : ℕ)
    (a b : Option (List Dialed)) → Dials a b (Failed here ∷ [])
    → (f ≡ fault.CannotConnect) ⊎ (f ≡ fault.NoMemory) → after ≡ 0
    → MakesAnew here a b (asked_so request (Err f)) after
unreached here request f after a b failed (inl is) none =
    (Failed here ∷ [], failed, inl (inl (ap Err is), none, refl))
unreached here request f after a b failed (inr is) none =
    (Failed here ∷ [], failed, inl (inr (ap Err is), none, refl))

-- it was made over the one that was kept
pub over_kept : (request : Frame) (ended : Result FrameBody ClientFault) (ending : ConnectionLoss)
    (answer : Result FrameBody BatchFault) (made after : ℕ) (a c : Option (List Dialed))
    → 0 < made → made < 64 → Uses request ended ending a c → is_hung_up ended ending ≡ false
    → after ≡ made_after ended made → answer ≡ answer_of ended ending
    → MakesKept made a c (asked_so request answer) after
over_kept request ended ending answer made after a c some few u stands kept is = (
  Came request u.came ∷ ended_so ended ending,
  u.told,
  record {
    some = some;
    few = few;
    came = u.came;
    ending = ending;
    over = exchanges request ended ending answer made after a c u kept is;
    stands = sym (ap (λ r. is_hung_up r ending) u.heard) ∙ stands;
  },
)

-- the one that was kept was cut off
pub cuts : (request : Frame) (ended : Result FrameBody ClientFault) (ending : ConnectionLoss)
    (a c : Option (List Dialed)) → Uses request ended ending a c
    → is_hung_up ended ending ≡ true → Cuts request a c
cuts request ended ending a c u cut = record {
  came = u.came;
  ending = ending;
  cut = sym (ap (λ r. is_hung_up r ending) u.heard) ∙ cut;
  told = subst (λ r. Dials a c (Came request u.came ∷ ended_so r ending)) u.heard u.told;
}

-- ---- what a request comes to

abbrev pub at : Option (List Dialed) → ℕ → Standing
at dialed made = record { dialed = dialed; made = made }

pub goes_anew : (here : Place) (made after : ℕ) (a c : Option (List Dialed)) (one : Asked)
    → made ≡ 0 → MakesAnew here a c one after → Goes here (at a made) (at c after) (one ∷ [])
goes_anew here made after a c one none m =
    goes_by here (at a made) (at c after) one m.0 m.1 (inl (none, m.2))

pub goes_kept : (here : Place) (made after : ℕ) (a c : Option (List Dialed)) (one : Asked)
    → MakesKept made a c one after → Goes here (at a made) (at c after) (one ∷ [])
goes_kept here made after a c one m =
    goes_by here (at a made) (at c after) one m.0 m.1 (inr (inl m.2))

-- it was made once more, over a new one
pub goes_again : (here : Place) (made after : ℕ) (a b c : Option (List Dialed)) (request : Frame)
    (answer : Result FrameBody BatchFault) → 0 < made → made < 64 → Cuts request a b
    → MakesAnew here b c (asked_so request answer) after
    → Goes here (at a made) (at c after) (asked_so request answer ∷ [])
goes_again here made after a b c request answer some few cut m =
    let first = exchanged request cut.came cut.ending in
    goes_by here (at a made) (at c after) (asked_so request answer) (first ++ m.0)
    (grows_more a b c first m.0 cut.told m.1) (inr (inr (inl (record {
      some = some;
      few = few;
      came = cut.came;
      ending = cut.ending;
      cut = cut.cut;
      rest = m.0;
      again = m.2;
      parts = refl;
    }))))

-- the one that was kept was used up: it was ended, and the request was made over a new one
pub goes_afresh : (here : Place) (made after : ℕ) (ending : ConnectionLoss)
    (a b c : Option (List Dialed)) (one : Asked) → 64 ≤ made → Dials a b (Ended ending ∷ [])
    → MakesAnew here b c one after → Goes here (at a made) (at c after) (one ∷ [])
goes_afresh here made after ending a b c one full h m =
    goes_by here (at a made) (at c after) one (Ended ending ∷ m.0)
    (grows_more a b c (Ended ending ∷ []) m.0 h m.1) (inr (inr (inr (record {
      full = full;
      ending = ending;
      rest = m.0;
      anew = m.2;
      parts = refl;
    }))))
