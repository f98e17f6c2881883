-- What is told, one after the other.
use Rattle.std.proofs.Common.{◌≡◌, sym, ap, subst, ◌∙◌, List, [], ◌++◌, append_assoc, append-nil}
use Rattle.std.proofs.Common.{Option, None, Some}
use Rattle.polled.specs.Telling.{Tells}

pub Tells-nil : {A : Type 0} (a : Option (List A)) → Tells a a []
Tells-nil None = tt
Tells-nil (Some xs) = sym (append-nil xs)

pub Tells-trans : {A : Type 0} (a b c : Option (List A)) (xs ys : List A) → Tells a b xs
    → Tells b c ys → Tells a c (xs ++ ys)
Tells-trans None b None xs ys h k = tt
Tells-trans (Some ks) b None xs ys h k = tt
Tells-trans None None (Some cs) xs ys h k = absurd k
Tells-trans None (Some bs) (Some cs) xs ys h k = absurd h
Tells-trans (Some ks) None (Some cs) xs ys h k = absurd k
Tells-trans {A} (Some ks) (Some bs) (Some cs) xs ys h k =
    k ∙ ap (λ (t : List A). t ++ ys) h ∙ append_assoc ks xs ys

pub Tells-as : {A : Type 0} (a b : Option (List A)) (xs ys : List A) → xs ≡ ys → Tells a b xs
    → Tells a b ys
Tells-as {A} a b xs ys is h = subst (λ (t : List A). Tells a b t) is h
