-- Giving fates: frames are sent in the order of their pushes.
use Rattle.std.proofs.Common.{◌≡◌, sym, ap, ◌∙◌, ℕ, ◌+◌, ◌<◌, List, [], ◌∷◌, ◌++◌, arith}
use Rattle.std.proofs.lemmas.List.{append-nil, append_assoc}
use Rattle.links.specs.Links.{first_of}
use Rattle.links.specs.Histories.{Fate, SentOn, Dropped, Waits, Told, told, if_waits, waiting_of}
use Rattle.links.specs.Histories.{if_sent_on, sent_on, OrderAt, AreInOrder}
use Rattle.links.proofs.Fates.{first_here, settle_first, second_here, settle_second, fate_in_all}
use Rattle.links.proofs.Fates.{settle_all, same_first, same_second, same_all, sent_more}

-- a frame may get this fate where none pushed after it was sent
abbrev pub MayGet : ℕ → Fate → Type 0
MayGet count f = (zs : List Told) → ((n : ℕ) → sent_on n zs ≡ []) → OrderAt count f zs

order_first_here : (count : ℕ) (f fate : Fate) (frame : List ℕ) (ts done : List Told)
    → MayGet count f → ((n : ℕ) → n < count → sent_on n done ≡ sent_on n ts)
    → OrderAt count fate ts → AreInOrder count ts → AreInOrder count done
    → AreInOrder count (first_here f fate frame ts done)
order_first_here count f (SentOn m) frame ts done free same here h d =
    let few = here.0 in
    ((here.0, λ n less. same n (omega (arith, less, few)) ∙ here.1 n less), d)
order_first_here count f (Dropped cause) frame ts done free same here h d = (tt, d)
order_first_here count f Waits frame ts done free same here h d = (free ts here, h)

pub order_first : (count : ℕ) (f : Fate) (ts : List Told) → MayGet count f
    → ((n : ℕ) → n < count → (x : List ℕ) → if_sent_on n f x ≡ []) → AreInOrder count ts
    → AreInOrder count (settle_first f ts)
order_first count f [] free none h = tt
order_first count f (t ∷ ts) free none h =
    order_first_here count f t.fate t.frame ts (settle_first f ts) free
    (λ n less. same_first n f ts (none n less)) h.0 h.1 (order_first count f ts free none h.1)

order_second_here : (count : ℕ) (f fate : Fate) (frame : List ℕ) (ts done : List Told)
    → MayGet count f → ((n : ℕ) (x : List ℕ) → if_sent_on n f x ≡ [])
    → ((n : ℕ) → sent_on n done ≡ sent_on n ts) → OrderAt count fate ts → AreInOrder count ts
    → AreInOrder count done → AreInOrder count (second_here f fate frame ts done)
order_second_here count f (SentOn m) frame ts done free none same here h d =
    ((here.0, λ n less. same n ∙ here.1 n less), d)
order_second_here count f (Dropped cause) frame ts done free none same here h d = (tt, d)
order_second_here count f Waits frame ts done free none same here h d = (
  λ n. same_first n f ts (none n) ∙ here n,
  order_first count f ts free (λ n less. none n) h,
)

pub order_second : (count : ℕ) (f : Fate) (ts : List Told) → MayGet count f
    → ((n : ℕ) (x : List ℕ) → if_sent_on n f x ≡ []) → AreInOrder count ts
    → AreInOrder count (settle_second f ts)
order_second count f [] free none h = tt
order_second count f (t ∷ ts) free none h =
    order_second_here count f t.fate t.frame ts (settle_second f ts) free none
    (λ n. same_second n f ts (none n)) h.0 h.1 (order_second count f ts free none h.1)

order_all_here : (count : ℕ) (f fate : Fate) (ts done : List Told) → MayGet count f
    → ((n : ℕ) → sent_on n done ≡ sent_on n ts) → OrderAt count fate ts
    → OrderAt count (fate_in_all f fate) done
order_all_here count f (SentOn m) ts done free same here =
    (here.0, λ n less. same n ∙ here.1 n less)
order_all_here count f (Dropped cause) ts done free same here = tt
order_all_here count f Waits ts done free same here = free done (λ n. same n ∙ here n)

pub order_all : (count : ℕ) (f : Fate) (ts : List Told) → MayGet count f
    → ((n : ℕ) (x : List ℕ) → if_sent_on n f x ≡ []) → AreInOrder count ts
    → AreInOrder count (settle_all f ts)
order_all count f [] free none h = tt
order_all count f (t ∷ ts) free none h = (
  order_all_here count f t.fate ts (settle_all f ts) free (λ n. same_all n f ts (none n)) h.0,
  order_all count f ts free none h.1,
)

order_more_here : (count : ℕ) (fate : Fate) (ts : List Told) (frame : List ℕ) (f : Fate)
    → ((n : ℕ) → if_sent_on n f frame ≡ []) → OrderAt count fate ts
    → OrderAt count fate (ts ++ told frame f ∷ [])
order_more_here count (SentOn m) ts frame f none h =
    (h.0, λ n less. sent_more n ts frame f (none n) ∙ h.1 n less)
order_more_here count (Dropped cause) ts frame f none h = tt
order_more_here count Waits ts frame f none h = λ n. sent_more n ts frame f (none n) ∙ h n

pub order_more : (count : ℕ) (ts : List Told) (frame : List ℕ) (f : Fate) → OrderAt count f []
    → ((n : ℕ) → if_sent_on n f frame ≡ []) → AreInOrder count ts
    → AreInOrder count (ts ++ told frame f ∷ [])
order_more count [] frame f alone none h = (alone, tt)
order_more count (t ∷ ts) frame f alone none h = (
  order_more_here count t.fate ts frame f none h.0,
  order_more count ts frame f alone none h.1,
)

-- one more connection is begun
order_next_here : (count : ℕ) (fate : Fate) (ts : List Told) → OrderAt count fate ts
    → OrderAt (count + 1) fate ts
order_next_here count (SentOn m) ts h = let few = h.0 in (omega (arith, few), h.1)
order_next_here count (Dropped cause) ts h = tt
order_next_here count Waits ts h = h

pub order_next : (count : ℕ) (ts : List Told) → AreInOrder count ts → AreInOrder (count + 1) ts
order_next count [] h = tt
order_next count (t ∷ ts) h = (order_next_here count t.fate ts h.0, order_next count ts h.1)

-- the first that waits was sent whole: it is the last one sent on its connection
last_first_here : (count n m : ℕ) (fate : Fate) (frame : List ℕ) (ts done : List Told) (w : List ℕ)
    (ws : List (List ℕ)) → OrderAt count fate ts
    → (waiting_of ts ≡ w ∷ ws → sent_on n done ≡ sent_on n ts ++ if_sent_on n (SentOn m) w)
    → if_waits fate frame ++ waiting_of ts ≡ w ∷ ws
    → sent_on n (first_here (SentOn m) fate frame ts done)
    ≡ (if_sent_on n fate frame ++ sent_on n ts) ++ if_sent_on n (SentOn m) w
last_first_here count n m (SentOn k) frame ts done w ws here h is =
    ap (λ z. if_sent_on n (SentOn k) frame ++ z) (h is)
    ∙ sym (append_assoc (if_sent_on n (SentOn k) frame) (sent_on n ts) (if_sent_on n (SentOn m) w))
last_first_here count n m (Dropped cause) frame ts done w ws here h is = h is
last_first_here count n m Waits frame ts done w ws here h is =
    ap (λ z. if_sent_on n (SentOn m) frame ++ z) (here n)
    ∙ append-nil (if_sent_on n (SentOn m) frame)
    ∙ ap (λ z. if_sent_on n (SentOn m) z) (ap (λ z. first_of z) is)
    ∙ sym (ap (λ z. z ++ if_sent_on n (SentOn m) w) (here n))

pub last_first : (count n m : ℕ) (ts : List Told) (w : List ℕ) (ws : List (List ℕ))
    → AreInOrder count ts
    → waiting_of ts ≡ w ∷ ws
    → sent_on n (settle_first (SentOn m) ts) ≡ sent_on n ts ++ if_sent_on n (SentOn m) w
last_first count n m [] w ws h is = cc
last_first count n m (t ∷ ts) w ws h is =
    last_first_here count n m t.fate t.frame ts (settle_first (SentOn m) ts) w ws h.0
    (λ e. last_first count n m ts w ws h.1 e) is
