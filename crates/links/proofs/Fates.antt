-- Giving fates to frames that wait: the first, the second, or all of them.
use Rattle.std.proofs.Common.{◌≡◌, refl, sym, ap, ◌∙◌, ℕ, List, [], ◌∷◌, ◌++◌, drop}
use Rattle.std.{proofs.lemmas.List.append-nil, proofs.lemmas.List.append_assoc, specs.List.remove}
use Rattle.links.specs.Histories.{Fate, SentOn, Dropped, Waits, Told, told, frames_of, if_waits}
use Rattle.links.specs.Histories.{waiting_of, if_sent_on, sent_on}

-- the first frame that waits gets this fate
abbrev pub first_here : Fate → Fate → List ℕ → List Told → List Told → List Told
first_here f (SentOn n) frame ts done = told frame (SentOn n) ∷ done
first_here f (Dropped cause) frame ts done = told frame (Dropped cause) ∷ done
first_here f Waits frame ts done = told frame f ∷ ts

abbrev pub settle_first : Fate → List Told → List Told
settle_first f [] = []
settle_first f (t ∷ ts) = first_here f t.fate t.frame ts (settle_first f ts)

-- the second frame that waits gets this fate
abbrev pub second_here : Fate → Fate → List ℕ → List Told → List Told → List Told
second_here f (SentOn n) frame ts done = told frame (SentOn n) ∷ done
second_here f (Dropped cause) frame ts done = told frame (Dropped cause) ∷ done
second_here f Waits frame ts done = told frame Waits ∷ settle_first f ts

abbrev pub settle_second : Fate → List Told → List Told
settle_second f [] = []
settle_second f (t ∷ ts) = second_here f t.fate t.frame ts (settle_second f ts)

-- each frame that waits gets this fate
abbrev pub fate_in_all : Fate → Fate → Fate
fate_in_all f (SentOn n) = SentOn n
fate_in_all f (Dropped cause) = Dropped cause
fate_in_all f Waits = f

abbrev pub settle_all : Fate → List Told → List Told
settle_all f [] = []
settle_all f (t ∷ ts) = told t.frame (fate_in_all f t.fate) ∷ settle_all f ts

-- ---- the frames stay

frames_first_here : (f fate : Fate) (frame : List ℕ) (ts done : List Told)
    → frames_of done ≡ frames_of ts
    → frames_of (first_here f fate frame ts done) ≡ frame ∷ frames_of ts
frames_first_here f (SentOn n) frame ts done h = ap (λ z. frame ∷ z) h
frames_first_here f (Dropped cause) frame ts done h = ap (λ z. frame ∷ z) h
frames_first_here f Waits frame ts done h = refl

pub frames_first : (f : Fate) (ts : List Told) → frames_of (settle_first f ts) ≡ frames_of ts
frames_first f [] = refl
frames_first f (t ∷ ts) =
    frames_first_here f t.fate t.frame ts (settle_first f ts) (frames_first f ts)

frames_second_here : (f fate : Fate) (frame : List ℕ) (ts done : List Told)
    → frames_of done ≡ frames_of ts
    → frames_of (second_here f fate frame ts done) ≡ frame ∷ frames_of ts
frames_second_here f (SentOn n) frame ts done h = ap (λ z. frame ∷ z) h
frames_second_here f (Dropped cause) frame ts done h = ap (λ z. frame ∷ z) h
frames_second_here f Waits frame ts done h = ap (λ z. frame ∷ z) (frames_first f ts)

pub frames_second : (f : Fate) (ts : List Told) → frames_of (settle_second f ts) ≡ frames_of ts
frames_second f [] = refl
frames_second f (t ∷ ts) =
    frames_second_here f t.fate t.frame ts (settle_second f ts) (frames_second f ts)

pub frames_all : (f : Fate) (ts : List Told) → frames_of (settle_all f ts) ≡ frames_of ts
frames_all f [] = refl
frames_all f (t ∷ ts) = ap (λ z. t.frame ∷ z) (frames_all f ts)

pub frames_more : (ts : List Told) (frame : List ℕ) (f : Fate)
    → frames_of (ts ++ told frame f ∷ []) ≡ frames_of ts ++ frame ∷ []
frames_more [] frame f = refl
frames_more (t ∷ ts) frame f = ap (λ z. t.frame ∷ z) (frames_more ts frame f)

-- ---- the frames that wait

waiting_first_here : (f fate : Fate) (frame : List ℕ) (ts done : List Told)
    → if_waits f frame ≡ [] → waiting_of done ≡ drop 1 (waiting_of ts)
    → waiting_of (first_here f fate frame ts done) ≡ drop 1 (if_waits fate frame ++ waiting_of ts)
waiting_first_here f (SentOn n) frame ts done none h = h
waiting_first_here f (Dropped cause) frame ts done none h = h
waiting_first_here f Waits frame ts done none h = ap (λ z. z ++ waiting_of ts) none

pub waiting_first : (f : Fate) (ts : List Told) → ((frame : List ℕ) → if_waits f frame ≡ [])
    → waiting_of (settle_first f ts) ≡ drop 1 (waiting_of ts)
waiting_first f [] none = refl
waiting_first f (t ∷ ts) none =
    waiting_first_here f t.fate t.frame ts (settle_first f ts) (none t.frame)
    (waiting_first f ts none)

waiting_second_here : (f fate : Fate) (frame : List ℕ) (ts done : List Told)
    → ((x : List ℕ) → if_waits f x ≡ []) → waiting_of done ≡ remove (waiting_of ts) 1
    → waiting_of (second_here f fate frame ts done)
    ≡ remove (if_waits fate frame ++ waiting_of ts) 1
waiting_second_here f (SentOn n) frame ts done none h = h
waiting_second_here f (Dropped cause) frame ts done none h = h
waiting_second_here f Waits frame ts done none h = ap (λ z. frame ∷ z) (waiting_first f ts none)

pub waiting_second : (f : Fate) (ts : List Told) → ((x : List ℕ) → if_waits f x ≡ [])
    → waiting_of (settle_second f ts) ≡ remove (waiting_of ts) 1
waiting_second f [] none = refl
waiting_second f (t ∷ ts) none =
    waiting_second_here f t.fate t.frame ts (settle_second f ts) none (waiting_second f ts none)

waiting_all_here : (f fate : Fate) (frame : List ℕ) → if_waits f frame ≡ []
    → if_waits (fate_in_all f fate) frame ≡ []
waiting_all_here f (SentOn n) frame none = refl
waiting_all_here f (Dropped cause) frame none = refl
waiting_all_here f Waits frame none = none

pub waiting_all : (f : Fate) (ts : List Told) → ((x : List ℕ) → if_waits f x ≡ [])
    → waiting_of (settle_all f ts) ≡ []
waiting_all f [] none = refl
waiting_all f (t ∷ ts) none =
    ap (λ z. z ++ waiting_of (settle_all f ts)) (waiting_all_here f t.fate t.frame (none t.frame))
    ∙ waiting_all f ts none

pub waiting_more : (ts : List Told) (frame : List ℕ) (f : Fate)
    → waiting_of (ts ++ told frame f ∷ []) ≡ waiting_of ts ++ if_waits f frame
waiting_more [] frame f = append-nil (if_waits f frame)
waiting_more (t ∷ ts) frame f =
    ap (λ z. if_waits t.fate t.frame ++ z) (waiting_more ts frame f)
    ∙ sym (append_assoc (if_waits t.fate t.frame) (waiting_of ts) (if_waits f frame))

-- ---- the frames sent on a connection

same_first_here : (n : ℕ) (f fate : Fate) (frame : List ℕ) (ts done : List Told)
    → if_sent_on n f frame ≡ [] → sent_on n done ≡ sent_on n ts
    → sent_on n (first_here f fate frame ts done) ≡ if_sent_on n fate frame ++ sent_on n ts
same_first_here n f (SentOn m) frame ts done none h = ap (λ z. if_sent_on n (SentOn m) frame ++ z) h
same_first_here n f (Dropped cause) frame ts done none h = h
same_first_here n f Waits frame ts done none h = ap (λ z. z ++ sent_on n ts) none

-- a fate that is no sending changes nothing
pub same_first : (n : ℕ) (f : Fate) (ts : List Told) → ((x : List ℕ) → if_sent_on n f x ≡ [])
    → sent_on n (settle_first f ts) ≡ sent_on n ts
same_first n f [] none = refl
same_first n f (t ∷ ts) none =
    same_first_here n f t.fate t.frame ts (settle_first f ts) (none t.frame)
    (same_first n f ts none)

same_second_here : (n : ℕ) (f fate : Fate) (frame : List ℕ) (ts done : List Told)
    → ((x : List ℕ) → if_sent_on n f x ≡ []) → sent_on n done ≡ sent_on n ts
    → sent_on n (second_here f fate frame ts done) ≡ if_sent_on n fate frame ++ sent_on n ts
same_second_here n f (SentOn m) frame ts done none h =
    ap (λ z. if_sent_on n (SentOn m) frame ++ z) h
same_second_here n f (Dropped cause) frame ts done none h = h
same_second_here n f Waits frame ts done none h = same_first n f ts none

pub same_second : (n : ℕ) (f : Fate) (ts : List Told) → ((x : List ℕ) → if_sent_on n f x ≡ [])
    → sent_on n (settle_second f ts) ≡ sent_on n ts
same_second n f [] none = refl
same_second n f (t ∷ ts) none =
    same_second_here n f t.fate t.frame ts (settle_second f ts) none (same_second n f ts none)

same_all_here : (n : ℕ) (f fate : Fate) (frame : List ℕ) → if_sent_on n f frame ≡ []
    → if_sent_on n (fate_in_all f fate) frame ≡ if_sent_on n fate frame
same_all_here n f (SentOn m) frame none = refl
same_all_here n f (Dropped cause) frame none = refl
same_all_here n f Waits frame none = none

pub same_all : (n : ℕ) (f : Fate) (ts : List Told) → ((x : List ℕ) → if_sent_on n f x ≡ [])
    → sent_on n (settle_all f ts) ≡ sent_on n ts
same_all n f [] none = refl
same_all n f (t ∷ ts) none =
    ap (λ z. z ++ sent_on n (settle_all f ts)) (same_all_here n f t.fate t.frame (none t.frame))
    ∙ ap (λ z. if_sent_on n t.fate t.frame ++ z) (same_all n f ts none)

pub sent_more : (n : ℕ) (ts : List Told) (frame : List ℕ) (f : Fate) → if_sent_on n f frame ≡ []
    → sent_on n (ts ++ told frame f ∷ []) ≡ sent_on n ts
sent_more n [] frame f none = append-nil (if_sent_on n f frame) ∙ none
sent_more n (t ∷ ts) frame f none =
    ap (λ z. if_sent_on n t.fate t.frame ++ z) (sent_more n ts frame f none)
