-- Requests that are made again and again, and what an observer is told of them.
use Rattle.std.proofs.Common.{◌≡◌, inl, inr, ◌∷◌, [], ℕ, true, Ok, Err, IfOk, ◌+◌, ◌<◌, refl, sym}
use Rattle.std.proofs.Common.{◌++◌, List, Option, Bool, false, Result, IfErr, length, subst, arith}
use Rattle.std.specs.{Prelude.IsOkAnd, List.AllByRecursion}
use Rattle.std.proofs.lemmas.List.FromFn.{map-range_with_len_more}
use Rattle.wire.specs.declared.frame.{Frame.Frame, FrameBody.FrameBody}
use Rattle.client.specs.declared.fault.ClientFault.TheVariants.{Refused}
use Rattle.wire.specs.declared.values.ClientRefusal.TheVariants.{Busy}
use Rattle.batch.specs.Asking.{AreTries, Asked, Asks, Counts, EndsTries, EndsWaiting, Goes, tick_of}
use Rattle.batch.specs.Asking.{IsAnswer, IsAwaited, IsDecided, IsFull, IsPending, IsTakenOf}
use Rattle.batch.specs.Asking.{IsTicked, IsTurnedOff, IsUnknown, IsWaiting, TickFails, ask_of}
use Rattle.batch.specs.{Asking.most_asked, Asking.ticks_in, declared.asking.Receiver.Receiver}
use Rattle.batch.specs.Dialing.{Grows, Place, Standing, asked_so}
use Rattle.batch.specs.Watching.{Notice, Telling, Tells, Waits, Watched, waits_of}
use Rattle.batch.specs.declared.fault.BatchFault.{BatchFault, TheVariants.Asking}
use Rattle.batch.specs.model.Trying.{AreTicks, IsUndecided}
use Rattle.batch.proofs.Going.{goes_more, goes_none, grows_more}
use Rattle.batch.specs.declared.fault.BatchFault.TheVariants as fault

-- what holds of its fault holds of a result that is one
pub fails_by : {T E : Type 0} (P : E → Type 0) (r : Result T E) (e : E) → r ≡ Err e → P e
    → IfErr r P
fails_by P r e is p = subst (λ x. IfErr x P) (sym is) p

pub told_of : {here : Place} (a b : Standing) (x y : Frame) (r : Result FrameBody BatchFault)
    → x ≡ y → Goes here a b (asked_so x r ∷ []) → Goes here a b (asked_so y r ∷ [])
told_of {here} a b x y r = subst (λ z. Goes here a b (asked_so z r ∷ []))

-- what an observer was told before a call and after it
abbrev pub between : (x y : Option (List Notice)) → Watched
between x y = record { old = x; new = y }

-- more is said of the requests, and of what is told of them
pub telling_as : {here : Place} (a b : Standing) (v : Watched)
    (Is Js : List Asked → List Notice → Type 0)
    → ((asked : List Asked) (told : List Notice) → Is asked told → Js asked told)
    → Asks here a b (Telling v Is) → Asks here a b (Telling v Js)
telling_as a b v Is Js f h = (h.0, h.1, (h.2.0, f h.0 h.2.0 h.2.1, h.2.2))

-- ---- how often

pub counts_more : (P Q : Asked → Type 0) (m n k l i j : ℕ) (xs ys : List Asked) → m + k ≡ i
    → n + l ≡ j → Counts P Q m n xs → Counts P Q k l ys → Counts P Q i j (xs ++ ys)
counts_more P Q m n k l i j [] ys a b h g =
    let e : k ≡ i = omega (arith, h.0, a) in
    let d : l ≡ j = omega (arith, h.1, b) in
    subst (λ x. Counts P Q x j ys) e (subst (λ y. Counts P Q k y ys) d g)
counts_more P Q m n k l i j (x ∷ xs) ys a b (inl h) g =
    let e : i ≡ h.1 + k + 1 = omega (arith, h.2, a) in
    inl (h.0, h.1 + k, e, counts_more P Q h.1 n k l (h.1 + k) j xs ys refl b h.3 g)
counts_more P Q m n k l i j (x ∷ xs) ys a b (inr h) g =
    let e : j ≡ h.1 + l + 1 = omega (arith, h.2, b) in
    inr (h.0, h.1 + l, e, counts_more P Q m h.1 k l i (h.1 + l) xs ys a refl h.3 g)

counts_of : (P Q : Asked → Type 0) (xs : List Asked) → AllByRecursion Q xs
    → Counts P Q 0 (length xs) xs
counts_of P Q [] h = (refl, refl)
counts_of P Q (x ∷ xs) h =
    let e : length (x ∷ xs) ≡ length xs + 1 = omega arith in
    inr (h.0, length xs, e, counts_of P Q xs h.1)

-- of some there is one
pub one_of : (P Q : Asked → Type 0) (m n : ℕ) (xs : List Asked) → Counts P Q m n xs → 0 < m
    → (a : Asked) × P a
one_of P Q m n [] h some = absurd (omega (arith, h.0, some))
one_of P Q m n (x ∷ xs) (inl h) some = (x, h.0)
one_of P Q m n (x ∷ xs) (inr h) some = one_of P Q m h.1 xs h.3 some

-- one more try
one_counted : {here : Place} (P Q : Asked → Type 0) (m n : ℕ) (a b c : Standing) (one : Asked)
    → Asks here a b (Counts P Q m n) → Goes here b c (one ∷ []) → P one → Asks here a c
    (Counts P Q (m + 1) n)
one_counted P Q m n a b c one h add is =
    let e : n + 0 ≡ n = omega arith in (
      h.0 ++ one ∷ [],
      goes_more _ a b c h.0 (one ∷ []) h.1 add,
      counts_more P Q m n 1 0 (m + 1) n h.0 (one ∷ []) refl e h.2 (inl (is, 0, refl, (refl, refl))),
    )

-- ---- tries

ticks_none : (waits : Bool) → ticks_in waits 0 ≡ 0
ticks_none true = refl
ticks_none false = refl

-- none was made yet
pub none_tried : (here : Place) (P : Asked → Type 0) (r : Receiver) (waits : Bool) (a : Standing)
    → Asks here a a (AreTries P r waits 0)
none_tried here P r waits a = ([], goes_none here a, (refl, ticks_none waits))

-- one more, and then its ticks
pub tries_on : {here : Place} (P : Asked → Type 0) (r : Receiver) (waits : Bool) (tries : ℕ)
    (a b c d : Standing) (one : Asked)
    → Asks here a b (AreTries P r waits tries) → Goes here b c (one ∷ []) → P one
    → Asks here c d (AreTicks r waits tries) → Asks here a d (AreTries P r waits (tries + 1))
tries_on P r waits tries a b c d one h add is t =
    let e : tries + 1 + 0 ≡ tries + 1 = omega arith in
    let k = one_counted P (IsTicked r) tries (ticks_in waits tries) a b c one h add is in (
      k.0 ++ t.0,
      goes_more _ a c d k.0 t.0 k.1 t.1,
      counts_more P (IsTicked r) (tries + 1) (ticks_in waits tries) 0 (length t.0) (tries + 1)
          (ticks_in waits (tries + 1)) k.0 t.0 e t.2.1 k.2 (counts_of P (IsTicked r) t.0 t.2.0),
    )

pub waits_more : (a b c : Option (List Notice)) (tries : ℕ) → Grows a b (waits_of tries)
    → Grows b c (Waits tries ∷ []) → Grows a c (waits_of (tries + 1))
waits_more a b c tries h k =
    let next : 0 + tries ≡ tries = omega arith in
    subst (Grows a c) (sym (map-range_with_len_more Waits 0 tries tries next))
    (grows_more a b c (waits_of tries) (Waits tries ∷ []) h k)

-- one more, which was the last
tries_end : {here : Place} (P : Asked → Type 0) (r : Receiver) (waits : Bool) (tries : ℕ)
    (request : Frame) (answer : Result FrameBody BatchFault) (a b c : Standing) (v : Watched)
    → Asks here a b (AreTries P r waits tries) → Goes here b c (asked_so request answer ∷ [])
    → Tells v (waits_of tries)
    → Asks here a c (Telling v (EndsTries P r waits request answer tries))
tries_end P r waits tries request answer a b c v h add heard = (
  h.0 ++ asked_so request answer ∷ [],
  goes_more _ a b c h.0 (asked_so request answer ∷ []) h.1 add,
  (waits_of tries, record { front = h.0; each = h.2; parts = refl; heard = refl }, heard),
)

-- one more, and then a tick that failed
tick_fails : {here : Place} (P : Asked → Type 0) (r : Receiver) (waits : Bool) (tries : ℕ)
    (a b c d : Standing) (v : Watched) (one : Asked) (f : BatchFault)
    → Asks here a b (AreTries P r waits tries) → Goes here b c (one ∷ []) → P one
    → Goes here c d (asked_so (tick_of r) (Err f) ∷ []) → Tells v (waits_of (tries + 1))
    → Asks here a d (Telling v (TickFails P r waits f))
tick_fails P r waits tries a b c d v one f h add is tick heard =
    let last = asked_so (tick_of r) (Err f) ∷ [] in (
      (h.0 ++ one ∷ []) ++ last,
      goes_more _ a c d (h.0 ++ one ∷ []) last (goes_more _ a b c h.0 (one ∷ []) h.1 add) tick,
      (
        waits_of (tries + 1),
        record {
          tries = tries;
          front = h.0;
          last = one;
          each = h.2;
          is = is;
          parts = refl;
          heard = refl;
        },
        heard,
      ),
    )

-- ---- of a request that enters a text

pub taken_told : {here : Place} (r : Receiver) (submit : Frame) (answer : FrameBody) (tries : ℕ)
    (a b c : Standing) (v : Watched) → Asks here a b (AreTries (IsFull submit) r false tries)
    → Goes here b c (asked_so submit (Ok answer) ∷ []) → Tells v (waits_of tries)
    → Asks here a c (Telling v (IsTakenOf r submit answer))
taken_told r submit answer tries a b c v h add heard =
    telling_as a c v (EndsTries (IsFull submit) r false submit (Ok answer) tries)
    (IsTakenOf r submit answer) (λ asked told k. (tries, k))
    (tries_end (IsFull submit) r false tries submit (Ok answer) a b c v h add heard)

pub turned_off_told : {here : Place} (r : Receiver) (submit : Frame) (f : BatchFault) (tries : ℕ)
    (a b c : Standing) (v : Watched) → (f ≡ Asking (Refused Busy) → tries ≡ 10000)
    → Asks here a b (AreTries (IsFull submit) r false tries)
    → Goes here b c (asked_so submit (Err f) ∷ []) → Tells v (waits_of tries)
    → Asks here a c (Telling v (IsTurnedOff f r submit))
turned_off_told r submit f tries a b c v enough h add heard =
    telling_as a c v (EndsTries (IsFull submit) r false submit (Err f) tries)
    (IsTurnedOff f r submit) (λ asked told k. inl (tries, k, enough))
    (tries_end (IsFull submit) r false tries submit (Err f) a b c v h add heard)

pub tick_off_told : {here : Place} (r : Receiver) (submit : Frame) (tries : ℕ)
    (a b c d : Standing) (v : Watched) (one : Asked) (f : BatchFault)
    → Asks here a b (AreTries (IsFull submit) r false tries) → Goes here b c (one ∷ [])
    → IsFull submit one → Goes here c d (asked_so (tick_of r) (Err f) ∷ [])
    → Tells v (waits_of (tries + 1)) → Asks here a d (Telling v (IsTurnedOff f r submit))
tick_off_told r submit tries a b c d v one f h add is tick heard =
    telling_as a d v (TickFails (IsFull submit) r false f) (IsTurnedOff f r submit)
    (λ asked told k. inr k)
    (tick_fails (IsFull submit) r false tries a b c d v one f h add is tick heard)

-- the last try
pub if_taken_told : {here : Place} (r : Receiver) (submit : Frame) (tries : ℕ) (a b c : Standing)
    (v : Watched) (result : Result FrameBody BatchFault)
    → Asks here a b (AreTries (IsFull submit) r false tries)
    → Goes here b c (asked_so submit result ∷ []) → Tells v (waits_of tries)
    → IfOk result (λ answer. Asks here a c (Telling v (IsTakenOf r submit answer)))
if_taken_told r submit tries a b c v (Ok answer) h add heard =
    taken_told r submit answer tries a b c v h add heard
if_taken_told r submit tries a b c v (Err f) h add heard = tt

pub if_turned_off_told : {here : Place} (r : Receiver) (submit : Frame) (tries : ℕ)
    (a b c : Standing) (v : Watched) (result : Result FrameBody BatchFault) → tries ≡ 10000
    → Asks here a b (AreTries (IsFull submit) r false tries)
    → Goes here b c (asked_so submit result ∷ []) → Tells v (waits_of tries)
    → IfErr result (λ f. Asks here a c (Telling v (IsTurnedOff f r submit)))
if_turned_off_told r submit tries a b c v (Ok answer) all h add heard = tt
if_turned_off_told r submit tries a b c v (Err f) all h add heard =
    turned_off_told r submit f tries a b c v (λ busy. all) h add heard

-- ---- of a question for an id

pub awaits_told : {here : Place} (r : Receiver) (id tries : ℕ) (a b c : Standing) (v : Watched)
    (last : FrameBody) → Asks here a b (AreTries (IsWaiting (ask_of r id)) r r.awaits tries)
    → Goes here b c (asked_so (ask_of r id) (Ok last) ∷ []) → IsDecided last
    → Tells v (waits_of tries) → Asks here a c (Telling v (IsAwaited r id last))
awaits_told r id tries a b c v last h add done heard =
    let ask = ask_of r id in
    telling_as a c v (EndsTries (IsWaiting ask) r r.awaits ask (Ok last) tries)
    (IsAwaited r id last) (λ asked told k. ((tries, k), done))
    (tries_end (IsWaiting ask) r r.awaits tries ask (Ok last) a b c v h add heard)

pub failed_told : {here : Place} (r : Receiver) (id : ℕ) (f : BatchFault) (tries : ℕ)
    (a b c : Standing) (v : Watched)
    → Asks here a b (AreTries (IsWaiting (ask_of r id)) r r.awaits tries)
    → Goes here b c (asked_so (ask_of r id) (Err f) ∷ []) → Tells v (waits_of tries)
    → Asks here a c (Telling v (EndsWaiting f r id))
failed_told r id f tries a b c v h add heard =
    let ask = ask_of r id in
    telling_as a c v (EndsTries (IsWaiting ask) r r.awaits ask (Err f) tries) (EndsWaiting f r id)
    (λ asked told k. inl (tries, k))
    (tries_end (IsWaiting ask) r r.awaits tries ask (Err f) a b c v h add heard)

pub lost_told : {here : Place} (r : Receiver) (id tries : ℕ) (a b c : Standing) (v : Watched)
    (last : FrameBody) → IsUnknown last
    → Asks here a b (AreTries (IsWaiting (ask_of r id)) r r.awaits tries)
    → Goes here b c (asked_so (ask_of r id) (Ok last) ∷ []) → Tells v (waits_of tries)
    → Asks here a c (Telling v (EndsWaiting fault.Lost r id))
lost_told r id tries a b c v last unknown h add heard =
    let ask = ask_of r id in
    telling_as a c v (EndsTries (IsWaiting ask) r r.awaits ask (Ok last) tries)
    (EndsWaiting fault.Lost r id)
    (λ asked told k. inr (inr (inr (refl, last, unknown, (tries, k)))))
    (tries_end (IsWaiting ask) r r.awaits tries ask (Ok last) a b c v h add heard)

pub tick_waits_told : {here : Place} (r : Receiver) (id tries : ℕ) (a b c d : Standing)
    (v : Watched) (one : Asked) (f : BatchFault)
    → Asks here a b (AreTries (IsWaiting (ask_of r id)) r r.awaits tries)
    → Goes here b c (one ∷ []) → IsWaiting (ask_of r id) one
    → Goes here c d (asked_so (tick_of r) (Err f) ∷ []) → Tells v (waits_of (tries + 1))
    → Asks here a d (Telling v (EndsWaiting f r id))
tick_waits_told r id tries a b c d v one f h add is tick heard =
    telling_as a d v (TickFails (IsWaiting (ask_of r id)) r r.awaits f) (EndsWaiting f r id)
    (λ asked told k. inr (inl k))
    (tick_fails (IsWaiting (ask_of r id)) r r.awaits tries a b c d v one f h add is tick heard)

-- it was asked as often as that is done
pub waits_on_told : {here : Place} (r : Receiver) (id tries : ℕ) (a b : Standing) (v : Watched)
    → tries ≡ most_asked r.awaits
    → Asks here a b (AreTries (IsWaiting (ask_of r id)) r r.awaits tries) → Tells v (waits_of tries)
    → Asks here a b (Telling v (EndsWaiting fault.StillPending r id))
waits_on_told r id tries a b v all h heard = (
  h.0,
  h.1,
  (
    waits_of (most_asked r.awaits),
    inr (inr (inl (
      refl,
      subst (λ n. AreTries (IsWaiting (ask_of r id)) r r.awaits n h.0) all h.2,
      refl,
    ))),
    subst (λ n. Tells v (waits_of n)) all heard,
  ),
)

pub most_some : (waits : Bool) → 0 < most_asked waits
most_some true = omega arith
most_some false = omega arith

if_waiting : (ask : Frame) (result : Result FrameBody BatchFault)
    → IsOkAnd result (λ told. IsAnswer ask told × IsPending told)
    → (told : FrameBody) × IsAnswer ask told × IsPending told
if_waiting ask (Ok told) h = (told, h.0, h.1)
if_waiting ask (Err f) h = absurd h

-- then there is an answer that it isn't decided yet
pub told_once : {here : Place} (r : Receiver) (id m n : ℕ) (a b : Standing) → 0 < m
    → Asks here a b (Counts (IsWaiting (ask_of r id)) (IsTicked r) m n)
    → IsUndecided fault.StillPending r id
told_once r id m n a b some h =
    let one = one_of (IsWaiting (ask_of r id)) (IsTicked r) m n h.0 h.2 some in
    if_waiting (ask_of r id) one.0.answer one.1.1
