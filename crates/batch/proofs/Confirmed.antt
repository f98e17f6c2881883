-- What an answer says of a command that was decided, and of the entry at its position.
use Rattle.std.proofs.Common.{◌≡◌, ◌∷◌, [], ℕ, List, Result, Ok, refl, subst}
use Rattle.acceptor.specs.declared.entry.Entry.{Entry}
use Rattle.wire.specs.declared.frame.{Frame.Frame, FrameBody.FrameBody}
use Rattle.batch.specs.{Asking.IsAnswer, Asking.log_of, Confirming.entry_of}
use Rattle.batch.specs.Confirming.{Confirms, HasFirst, IsDecidedAt, IsNotOwn, IsUnconfirmed}
use Rattle.batch.specs.Dialing.{Asks, Goes, Place, Standing, asked_so}
use Rattle.batch.specs.Watching.{Notice, Telling, Tells, Watched}
use Rattle.batch.specs.declared.{asking.Receiver.Receiver, fault.BatchFault.BatchFault}

-- the entry at the position is this one
pub confirms : {here : Place} (r : Receiver) (id : ℕ) (text : List ℕ) (told answer : FrameBody)
    (pos : ℕ) (request : Frame) (entry : Entry) (a b : Standing) (v : Watched) → Tells v []
    → request ≡ log_of r pos → IsDecidedAt pos told
    → Goes here a b (asked_so request (Ok answer) ∷ []) → IsAnswer request answer
    → HasFirst answer entry → entry ≡ entry_of id text
    → Asks here a b (Telling v (Confirms r id text told))
confirms {here} r id text told answer pos request entry a b v none is at goes comes first own = (
  asked_so (log_of r pos) (Ok answer) ∷ [],
  subst (λ q. Goes here a b (asked_so q (Ok answer) ∷ [])) is goes,
  (
    [],
    (
      record {
        pos = pos;
        answer = answer;
        stands = at;
        own = (
          subst (λ q. IsAnswer q answer) is comes,
          subst (HasFirst answer) own first,
        );
        parts = refl;
      },
      refl,
    ),
    none,
  ),
)

-- it was not seen to be this one
pub unconfirmed : {here : Place} (f : BatchFault) (r : Receiver) (id : ℕ) (text : List ℕ)
    (told : FrameBody) (result : Result FrameBody BatchFault) (pos : ℕ) (request : Frame)
    (a b : Standing) (v : Watched) (heard : List Notice) → Tells v heard
    → request ≡ log_of r pos → IsDecidedAt pos told → Goes here a b (asked_so request result ∷ [])
    → IsNotOwn f r pos (entry_of id text) result heard
    → Asks here a b (Telling v (IsUnconfirmed f r id text told))
unconfirmed {here} f r id text told result pos request a b v heard found is at goes why = (
  asked_so (log_of r pos) result ∷ [],
  subst (λ q. Goes here a b (asked_so q result ∷ [])) is goes,
  (
    heard,
    record { pos = pos; result = result; stands = at; why = why; parts = refl },
    found,
  ),
)
