-- Hands, one after the other.
use Rattle.std.proofs.Common.{sym, ap, ◌∙◌, List, [], ◌++◌, map, Option, None, Some}
use Rattle.std.proofs.lemmas.List.{append-nil, append_assoc, map-append}
use Rattle.serving.specs.Adding.{Push, Hands}

pub Hands-nil : (a : Option (List Push)) → Hands a a []
Hands-nil None = tt
Hands-nil (Some xs) = sym (append-nil xs)

pub Hands-trans : (a b c : Option (List Push)) (xs ys : List Push) → Hands a b xs → Hands b c ys
    → Hands a c (xs ++ ys)
Hands-trans None b None xs ys h k = tt
Hands-trans (Some ks) b None xs ys h k = tt
Hands-trans None None (Some cs) xs ys h k = absurd k
Hands-trans None (Some bs) (Some cs) xs ys h k = absurd h
Hands-trans (Some ks) None (Some cs) xs ys h k = absurd k
Hands-trans (Some ks) (Some bs) (Some cs) xs ys h k =
    k ∙ ap (λ z. z ++ ys) h ∙ append_assoc ks xs ys

pub Hands-map : {X : Type 0} (f : X → Push) (a b c : Option (List Push)) (xs ys : List X)
    → Hands a b (map f xs) → Hands b c (map f ys) → Hands a c (map f (xs ++ ys))
Hands-map f a b c xs ys h k = rw (map-append f xs ys) (Hands-trans a b c (map f xs) (map f ys) h k)
