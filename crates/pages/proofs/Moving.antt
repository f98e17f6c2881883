-- What moves at one browser, one move after the other.
use Rattle.std.proofs.Common.{◌≡◌, ◌≢◌, ℕ, List, [], ◌∷◌, ◌++◌, Option, Bool, true, if◌then◌else◌}
use Rattle.std.proofs.Common.{◌==◌, subst, refl, sym, ap, ◌∙◌, append_assoc, append-nil, length}
use Rattle.std.proofs.Common.{take, ◌≤◌}
use Rattle.std.proofs.lemmas.{Grind.flat_map-append, List.take-take, Bool.ne_eqb, Bool.eq-eqb}
use Rattle.http_server.specs.History.{History}
use Rattle.polled.{specs.Telling.Tells, proofs.Telling.Tells-nil, proofs.Telling.Tells-trans}
use Rattle.pages.specs.Happenings.{gave, took, gave_at, took_at}
use Rattle.polled.specs.Happenings.{Broke, Happened, Gave, Ended, Took}
use Rattle.pages.specs.Turns.{Hears, Moves, Moved}

pub gave-append : (k : ℕ) (xs ys : List Happened) → gave k (xs ++ ys) ≡ gave k xs ++ gave k ys
gave-append k xs ys = flat_map-append (gave_at k) xs ys

pub took-append : (k : ℕ) (xs ys : List Happened) → took k (xs ++ ys) ≡ took k xs ++ took k ys
took-append k xs ys = flat_map-append (took_at k) xs ys

both-empty : (xs ys : List ℕ) → xs ≡ [] → ys ≡ [] → xs ++ ys ≡ []
both-empty xs ys x y = ap (λ (t : List ℕ). t ++ ys) x ∙ y

Moves-none : (k : ℕ) (more : List Happened) (old new : History)
    → ((j : ℕ) → (gave j more ≡ []) × (took j more ≡ [])) → new.received ≡ old.received
    → new.sent ≡ old.sent → Moves k more old new []
Moves-none k more old new quiet received sent = record {
  others = λ j apart. quiet j;
  heard = append-nil new.received ∙ received ∙ sym (append-nil old.received)
      ∙ ap (λ (t : List ℕ). old.received ++ t) (sym (quiet k).0);
  handed = sent ∙ sym (append-nil old.sent)
      ∙ ap (λ (t : List ℕ). old.sent ++ t) (sym (quiet k).1);
}

pub Moves-then : (k : ℕ) (xs ys : List Happened) (a b c : History) (lost : List ℕ)
    → Moves k xs a b [] → Moves k ys b c lost → Moves k (xs ++ ys) a c lost
Moves-then k xs ys a b c lost x y = record {
  others = λ j apart. (
    gave-append j xs ys ∙ both-empty (gave j xs) (gave j ys) (x.others j apart).0
        (y.others j apart).0,
    took-append j xs ys ∙ both-empty (took j xs) (took j ys) (x.others j apart).1
        (y.others j apart).1,
  );
  heard = y.heard
      ∙ ap (λ (t : List ℕ). t ++ gave k ys) (sym (append-nil b.received) ∙ x.heard)
      ∙ append_assoc a.received (gave k xs) (gave k ys)
      ∙ ap (λ (t : List ℕ). a.received ++ t) (sym (gave-append k xs ys));
  handed = y.handed
      ∙ ap (λ (t : List ℕ). t ++ took k ys) x.handed ∙ append_assoc a.sent (took k xs) (took k ys)
      ∙ ap (λ (t : List ℕ). a.sent ++ t) (sym (took-append k xs ys));
}

-- nothing moved
pub Moved-none : (k : ℕ) (goes : Bool) (a b : Option (List Happened)) (old new : History)
    → Tells a b [] → new.received ≡ old.received → new.sent ≡ old.sent → Moved k goes a b old new
Moved-none k goes a b old new told received sent =
    ([], [], told, Moves-none k [] old new (λ j. (refl, refl)) received sent, λ _. refl)

-- a read or a write failed
pub Moved-broke : (k : ℕ) (goes : Bool) (a b : Option (List Happened)) (h : History)
    → Tells a b (Broke k ∷ []) → Moved k goes a b h h
Moved-broke k goes a b h told = (
  Broke k ∷ [],
  [],
  told,
  Moves-none k (Broke k ∷ []) h h (λ j. (refl, refl)) refl refl,
  λ _. refl,
)

pub Moved-same : (k : ℕ) (goes : Bool) (a : Option (List Happened)) (old new : History)
    → new.received ≡ old.received → new.sent ≡ old.sent → Moved k goes a a old new
Moved-same k goes a old new received sent =
    Moved-none k goes a a old new (Tells-nil a) received sent

pub Moved-then : (k : ℕ) (goes : Bool) (a b c : Option (List Happened)) (old mid new : History)
    → Moved k true a b old mid → Moved k goes b c mid new → Moved k goes a c old new
Moved-then k goes a b c old mid new x y =
    let none : x.1 ≡ [] = x.4 refl in
    let first : Moves k x.0 old mid [] = subst (λ (t : List ℕ). Moves k x.0 old mid t) none x.3 in (
      x.0 ++ y.0,
      y.1,
      Tells-trans a b c x.0 y.0 x.2 y.2,
      Moves-then k x.0 y.0 old mid new y.1 first y.3,
      y.4,
    )

-- where it goes on for sure
pub Moved-goes : (k : ℕ) (goes : Bool) (a b : Option (List Happened)) (old new : History)
    → Moved k true a b old new → Moved k goes a b old new
Moved-goes k goes a b old new x = (x.0, x.1, x.2, x.3, λ _. x.4 refl)

gave_at-other : (j k : ℕ) (bytes : List ℕ) → j ≢ k → (if k == j then bytes else []) ≡ []
gave_at-other j k bytes apart =
    ap (λ b. if b then bytes else []) (ne_eqb k j (λ e. apart (sym e)))

gave_at-own : (k : ℕ) (bytes : List ℕ) → (if k == k then bytes else []) ≡ bytes
gave_at-own k bytes = ap (λ b. if b then bytes else []) (eq-eqb k k refl)

-- a write
pub Moved-took : (k : ℕ) (goes : Bool) (a b : Option (List Happened)) (old new : History)
    (bytes : List ℕ) → Tells a b (Took k bytes ∷ []) → new.received ≡ old.received
    → new.sent ≡ old.sent ++ bytes → Moved k goes a b old new
Moved-took k goes a b old new bytes told received sent = (
  Took k bytes ∷ [],
  [],
  told,
  record {
    others = λ j apart. (refl, append-nil _ ∙ gave_at-other j k bytes apart);
    heard = append-nil new.received ∙ received ∙ sym (append-nil old.received);
    handed = sent ∙ ap (λ (t : List ℕ). old.sent ++ t) (sym (append-nil _ ∙ gave_at-own k bytes));
  },
  λ _. refl,
)

-- a read
pub Moved-gave : (k : ℕ) (goes : Bool) (a b : Option (List Happened)) (old new : History)
    (bytes : List ℕ)
    → Tells a b (Gave k bytes ∷ []) → Hears goes bytes old new → Moved k goes a b old new
Moved-gave k goes a b old new bytes told x = (
  Gave k bytes ∷ [],
  x.lost,
  told,
  record {
    others = λ j apart. (append-nil _ ∙ gave_at-other j k bytes apart, refl);
    heard = x.heard
        ∙ ap (λ (t : List ℕ). old.received ++ t) (sym (append-nil _ ∙ gave_at-own k bytes));
    handed = x.sent ∙ sym (append-nil old.sent);
  },
  x.none_lost,
)

-- the end of what it gives
pub Moved-ended : (k : ℕ) (goes : Bool) (a b : Option (List Happened)) (old new : History)
    → Tells a b (Ended k ∷ []) → Hears goes [] old new → Moved k goes a b old new
Moved-ended k goes a b old new told x = (
  Ended k ∷ [],
  x.lost,
  told,
  record {
    others = λ j apart. (refl, refl);
    heard = x.heard;
    handed = x.sent ∙ sym (append-nil old.sent);
  },
  x.none_lost,
)

-- the first of the bytes that are first are the first of all
pub take_of_chunk : (n : ℕ) (xs all : List ℕ) → take (length xs) all ≡ xs → n ≤ length xs
    → take n xs ≡ take n all
take_of_chunk n xs all front few =
    ap (λ (t : List ℕ). take n t) (sym front) ∙ take-take n (length xs) all few
