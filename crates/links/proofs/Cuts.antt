-- Giving fates: frames that were cut off stay so, and the drops are counted.
use Rattle.std.proofs.Common.{◌≡◌, inl, inr, refl, sym, ap, subst, ◌∙◌, ◌⊎◌, ℕ, ◌+◌, List, [], ◌∷◌}
use Rattle.std.proofs.Common.{◌++◌, drop, arith}
use Rattle.links.specs.Links.{first_of}
use Rattle.links.specs.Histories.{Cause, Unreachable, Fate, SentOn, Dropped, Waits, Told, told}
use Rattle.links.specs.Histories.{if_waits, waiting_of, if_sent_on, sent_on, IsFrontOf, IsCutAt}
use Rattle.links.specs.Histories.{IsCut, if_dropped, dropped_for, OrderAt, AreInOrder}
use Rattle.links.proofs.Fates.{first_here, settle_first, second_here, settle_second, fate_in_all}
use Rattle.links.proofs.Fates.{settle_all, same_first, same_second, same_all, sent_more}

-- ---- a frame that was cut off

cut_first_here : (n : ℕ) (part : List ℕ) (f fate : Fate) (frame : List ℕ) (ts done : List Told)
    → sent_on n done ≡ sent_on n ts → (IsCut n part ts → IsCut n part done)
    → (IsCutAt part fate frame × (sent_on n ts ≡ [])) ⊎ IsCut n part ts
    → IsCut n part (first_here f fate frame ts done)
cut_first_here n part f (SentOn m) frame ts done same h (inl e) = inl (e.0, same ∙ e.1)
cut_first_here n part f (SentOn m) frame ts done same h (inr e) = inr (h e)
cut_first_here n part f (Dropped cause) frame ts done same h (inl e) = inl (e.0, same ∙ e.1)
cut_first_here n part f (Dropped cause) frame ts done same h (inr e) = inr (h e)
cut_first_here n part f Waits frame ts done same h (inl e) = absurd e.0
cut_first_here n part f Waits frame ts done same h (inr e) = inr e

pub cut_first : (n : ℕ) (part : List ℕ) (f : Fate) (ts : List Told)
    → ((x : List ℕ) → if_sent_on n f x ≡ []) → IsCut n part ts → IsCut n part (settle_first f ts)
cut_first n part f [] none h = absurd h
cut_first n part f (t ∷ ts) none h =
    cut_first_here n part f t.fate t.frame ts (settle_first f ts) (same_first n f ts none)
    (cut_first n part f ts none) h

cut_second_here : (n : ℕ) (part : List ℕ) (f fate : Fate) (frame : List ℕ) (ts done : List Told)
    → ((x : List ℕ) → if_sent_on n f x ≡ []) → sent_on n done ≡ sent_on n ts
    → (IsCut n part ts → IsCut n part done)
    → (IsCutAt part fate frame × (sent_on n ts ≡ [])) ⊎ IsCut n part ts
    → IsCut n part (second_here f fate frame ts done)
cut_second_here n part f (SentOn m) frame ts done none same h (inl e) = inl (e.0, same ∙ e.1)
cut_second_here n part f (SentOn m) frame ts done none same h (inr e) = inr (h e)
cut_second_here n part f (Dropped cause) frame ts done none same h (inl e) = inl (e.0, same ∙ e.1)
cut_second_here n part f (Dropped cause) frame ts done none same h (inr e) = inr (h e)
cut_second_here n part f Waits frame ts done none same h (inl e) = absurd e.0
cut_second_here n part f Waits frame ts done none same h (inr e) =
    inr (cut_first n part f ts none e)

pub cut_second : (n : ℕ) (part : List ℕ) (f : Fate) (ts : List Told)
    → ((x : List ℕ) → if_sent_on n f x ≡ []) → IsCut n part ts → IsCut n part (settle_second f ts)
cut_second n part f [] none h = absurd h
cut_second n part f (t ∷ ts) none h =
    cut_second_here n part f t.fate t.frame ts (settle_second f ts) none (same_second n f ts none)
    (cut_second n part f ts none) h

cut_all_here : (part : List ℕ) (f fate : Fate) (frame : List ℕ) → IsCutAt part fate frame
    → IsCutAt part (fate_in_all f fate) frame
cut_all_here part f (SentOn n) frame h = h
cut_all_here part f (Dropped cause) frame h = h
cut_all_here part f Waits frame h = absurd h

pub cut_all : (n : ℕ) (part : List ℕ) (f : Fate) (ts : List Told)
    → ((x : List ℕ) → if_sent_on n f x ≡ []) → IsCut n part ts → IsCut n part (settle_all f ts)
cut_all n part f [] none h = absurd h
cut_all n part f (t ∷ ts) none (inl h) =
    inl (cut_all_here part f t.fate t.frame h.0, same_all n f ts none ∙ h.1)
cut_all n part f (t ∷ ts) none (inr h) = inr (cut_all n part f ts none h)

pub cut_more : (n : ℕ) (part : List ℕ) (ts : List Told) (frame : List ℕ) (f : Fate)
    → if_sent_on n f frame ≡ [] → IsCut n part ts → IsCut n part (ts ++ told frame f ∷ [])
cut_more n part [] frame f none h = absurd h
cut_more n part (t ∷ ts) frame f none (inl h) = inl (h.0, sent_more n ts frame f none ∙ h.1)
cut_more n part (t ∷ ts) frame f none (inr h) = inr (cut_more n part ts frame f none h)

-- the frame of which this part was sent is dropped with all that wait
cut_now_here : (count n : ℕ) (part : List ℕ) (fate : Fate) (frame : List ℕ) (ts : List Told)
    (w : List ℕ) (ws : List (List ℕ)) → IsFrontOf part w → OrderAt count fate ts
    → (waiting_of ts ≡ w ∷ ws → IsCut n part (settle_all (Dropped Unreachable) ts))
    → if_waits fate frame ++ waiting_of ts ≡ w ∷ ws
    → (IsCutAt part (fate_in_all (Dropped Unreachable) fate) frame
    × (sent_on n (settle_all (Dropped Unreachable) ts) ≡ []))
    ⊎ IsCut n part (settle_all (Dropped Unreachable) ts)
cut_now_here count n part (SentOn m) frame ts w ws front order h is = inr (h is)
cut_now_here count n part (Dropped cause) frame ts w ws front order h is = inr (h is)
cut_now_here count n part Waits frame ts w ws front order h is =
    inl (
      subst (λ z. IsFrontOf part z) (sym (ap (λ z. first_of z) is)) front,
      same_all n (Dropped Unreachable) ts (λ x. refl) ∙ order n,
    )

pub cut_now : (count n : ℕ) (part : List ℕ) (ts : List Told) (w : List ℕ) (ws : List (List ℕ))
    → IsFrontOf part w → AreInOrder count ts → waiting_of ts ≡ w ∷ ws
    → IsCut n part (settle_all (Dropped Unreachable) ts)
cut_now count n part [] w ws front order is = cc
cut_now count n part (t ∷ ts) w ws front order is =
    cut_now_here count n part t.fate t.frame ts w ws front order.0
    (cut_now count n part ts w ws front order.1)
    is

-- ---- how many are dropped

count_first_here : (c : Cause) (f fate : Fate) (frame : List ℕ) (ts done : List Told) (w : List ℕ)
    (ws : List (List ℕ))
    → (waiting_of ts ≡ w ∷ ws → dropped_for c done ≡ dropped_for c ts + if_dropped c f)
    → if_waits fate frame ++ waiting_of ts ≡ w ∷ ws
    → dropped_for c (first_here f fate frame ts done)
    ≡ (if_dropped c fate + dropped_for c ts) + if_dropped c f
count_first_here c f (SentOn n) frame ts done w ws h is = let e = h is in omega (arith, e)
count_first_here c f (Dropped cause) frame ts done w ws h is = let e = h is in omega (arith, e)
count_first_here c f Waits frame ts done w ws h is = omega arith

pub count_first : (c : Cause) (f : Fate) (ts : List Told) (w : List ℕ) (ws : List (List ℕ))
    → waiting_of ts ≡ w ∷ ws → dropped_for c (settle_first f ts) ≡ dropped_for c ts + if_dropped c f
count_first c f [] w ws is = cc
count_first c f (t ∷ ts) w ws is =
    count_first_here c f t.fate t.frame ts (settle_first f ts) w ws (count_first c f ts w ws) is

count_second_here : (c : Cause) (f fate : Fate) (frame : List ℕ) (ts done : List Told)
    (v w : List ℕ) (ws : List (List ℕ))
    → (waiting_of ts ≡ v ∷ w ∷ ws → dropped_for c done ≡ dropped_for c ts + if_dropped c f)
    → if_waits fate frame ++ waiting_of ts ≡ v ∷ w ∷ ws
    → dropped_for c (second_here f fate frame ts done)
    ≡ (if_dropped c fate + dropped_for c ts) + if_dropped c f
count_second_here c f (SentOn n) frame ts done v w ws h is = let e = h is in omega (arith, e)
count_second_here c f (Dropped cause) frame ts done v w ws h is = let e = h is in omega (arith, e)
count_second_here c f Waits frame ts done v w ws h is =
    let e = count_first c f ts w ws (ap (λ z. drop 1 z) is) in omega (arith, e)

pub count_second : (c : Cause) (f : Fate) (ts : List Told) (v w : List ℕ) (ws : List (List ℕ))
    → waiting_of ts ≡ v ∷ w ∷ ws
    → dropped_for c (settle_second f ts) ≡ dropped_for c ts + if_dropped c f
count_second c f [] v w ws is = cc
count_second c f (t ∷ ts) v w ws is =
    count_second_here c f t.fate t.frame ts (settle_second f ts) v w ws (count_second c f ts v w ws)
    is

count_all_here : (c : Cause) (f fate : Fate) → if_dropped c f ≡ 0
    → if_dropped c (fate_in_all f fate) ≡ if_dropped c fate
count_all_here c f (SentOn n) none = refl
count_all_here c f (Dropped cause) none = refl
count_all_here c f Waits none = none

pub count_all : (c : Cause) (f : Fate) (ts : List Told) → if_dropped c f ≡ 0
    → dropped_for c (settle_all f ts) ≡ dropped_for c ts
count_all c f [] none = refl
count_all c f (t ∷ ts) none =
    let here = count_all_here c f t.fate none in
    let more = count_all c f ts none in
    omega (arith, here, more)

pub count_more : (c : Cause) (ts : List Told) (frame : List ℕ) (f : Fate)
    → dropped_for c (ts ++ told frame f ∷ []) ≡ dropped_for c ts + if_dropped c f
count_more c [] frame f = omega arith
count_more c (t ∷ ts) frame f = let e = count_more c ts frame f in omega (arith, e)
