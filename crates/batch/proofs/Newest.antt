-- A request for how a desk is, and one for a sheet after it.
use Rattle.std.proofs.Common.{◌≡◌, ◌∷◌, [], true, false, ap, inr, refl, subst, Result, Ok, Err}
use Rattle.std.proofs.Common.{IfErr, IfOk, None, Some, ◌==◌, ◌∙◌}
use Rattle.client.specs.Answers.{answers, fits, is_standing}
use Rattle.wire.specs.declared.frame.{Frame.Frame, FrameBody.FrameBody}
use Rattle.batch.specs.{Asking.IsAnswer, Newest.standing_said, declared.fault.BatchFault.BatchFault}
use Rattle.batch.specs.Dialing.{Asks, Goes, Place, Standing, asked_so}
use Rattle.batch.specs.Newest.{FailsNewest, GivesNewest, said, sheet_at, standing_asked}
use Rattle.batch.specs.declared.{asking.Receiver.Receiver, newest_asked.RoundSheet.RoundSheet}
use Rattle.batch.proofs.{Going.goes_more, Parts.judged_is, Parts.last_of}
use Rattle.wire.specs.declared.frame.FrameBody.TheVariants as what
use Rattle.wire.specs.declared.standing.DeskStatus as stood

is_so : (w : FrameBody) → is_standing w ≡ true → (s : stood.DeskStatus) × (w ≡ what.Standing s)
is_so (what.Standing s) h = (s, refl)
is_so w h = absurd (let k : false ≡ true = h in cc)

-- no other frame is the answer to a Status
only_standing : (r : Receiver) (answer : FrameBody) → IsAnswer (standing_asked r) answer
    → (s : stood.DeskStatus) × (answer ≡ what.Standing s)
only_standing r answer h =
    let given = h.0 in
    let is = judged_is given.what answer (answers (standing_asked r) given) h.2 in
    let fitting : is_standing given.what ≡ true =
    last_of (given.hall == r.hall) (given.from == r.desk) (fits what.Status given.what) is.1 in
    is_so answer (subst (λ w. is_standing w ≡ true) is.0 fitting)

-- so it says how the desk is
pub not_none : (r : Receiver) (answer : FrameBody) → IsAnswer (standing_asked r) answer
    → None ≡ standing_said answer → ⊥
not_none r answer h none =
    let is = only_standing r answer h in
    let bad : None ≡ Some is.0 = none ∙ ap standing_said is.1 in cc

pub is_said : (answer : FrameBody) (s : stood.DeskStatus) → Some s ≡ standing_said answer
    → answer ≡ what.Standing s
is_said (what.Standing t) s h = let same : t ≡ s = cc in ap (λ x. what.Standing x) same
is_said w s h = absurd (let bad : Some s ≡ None = h in cc)

-- both requests as they are said
two : (p : Place) (a b c : Standing) (r : Receiver) (s : RoundSheet) (t : stood.DeskStatus)
    (first second : Frame) (answer : FrameBody) (result : Result FrameBody BatchFault)
    → first ≡ standing_asked r → answer ≡ what.Standing t → second ≡ sheet_at r s t.length
    → Goes p a b (asked_so first (Ok answer) ∷ []) → Goes p b c (asked_so second result ∷ [])
    → Goes p a c (said r t ∷ asked_so (sheet_at r s t.length) result ∷ [])
two p a b c r s t first second answer result is_first is_answer is_second one other =
    goes_more p a b c (said r t ∷ []) (asked_so (sheet_at r s t.length) result ∷ [])
    (subst (λ w. Goes p a b (asked_so (standing_asked r) (Ok w) ∷ [])) is_answer
    (subst (λ q. Goes p a b (asked_so q (Ok answer) ∷ [])) is_first one))
    (subst (λ q. Goes p b c (asked_so q result ∷ [])) is_second other)

told_so : (r : Receiver) (t : stood.DeskStatus) (first : Frame) (answer : FrameBody)
    → first ≡ standing_asked r → answer ≡ what.Standing t → IsAnswer first answer
    → IsAnswer (standing_asked r) (what.Standing t)
told_so r t first answer is_first is_answer comes =
    subst (λ w. IsAnswer (standing_asked r) w) is_answer
    (subst (λ q. IsAnswer q answer) is_first comes)

-- the second request was answered
pub both_answered : (p : Place) (a b c : Standing) (r : Receiver) (s : RoundSheet)
    (t : stood.DeskStatus) (first second : Frame) (answer : FrameBody)
    (result : Result FrameBody BatchFault)
    → first ≡ standing_asked r → answer ≡ what.Standing t → second ≡ sheet_at r s t.length
    → Goes p a b (asked_so first (Ok answer) ∷ []) → Goes p b c (asked_so second result ∷ [])
    → IsAnswer first answer → IfOk result (IsAnswer second)
    → IfOk result (λ w. Asks p a c (GivesNewest r s w))
both_answered p a b c r s t first second answer (Ok w) is_first is_answer is_second one other comes
    gives = (
      said r t ∷ asked_so (sheet_at r s t.length) (Ok w) ∷ [],
      two p a b c r s t first second answer (Ok w) is_first is_answer is_second one other,
      record {
        standing = t;
        stands = told_so r t first answer is_first is_answer comes;
        answers = subst (λ q. IsAnswer q w) is_second gives;
        both = refl;
      },
    )
both_answered p a b c r s t first second answer (Err f) is_first is_answer is_second one other comes
    gives = tt

-- it failed
pub second_fails : (p : Place) (a b c : Standing) (r : Receiver) (s : RoundSheet)
    (t : stood.DeskStatus) (first second : Frame) (answer : FrameBody)
    (result : Result FrameBody BatchFault)
    → first ≡ standing_asked r → answer ≡ what.Standing t → second ≡ sheet_at r s t.length
    → Goes p a b (asked_so first (Ok answer) ∷ []) → Goes p b c (asked_so second result ∷ [])
    → IsAnswer first answer → IfErr result (λ f. Asks p a c (FailsNewest f r s))
second_fails p a b c r s t first second answer (Ok w) is_first is_answer is_second one other comes =
    tt
second_fails p a b c r s t first second answer (Err f) is_first is_answer is_second one other
    comes = (
      said r t ∷ asked_so (sheet_at r s t.length) (Err f) ∷ [],
      two p a b c r s t first second answer (Err f) is_first is_answer is_second one other,
      inr (record {
        standing = t;
        stands = told_so r t first answer is_first is_answer comes;
        both = refl;
      }),
    )
