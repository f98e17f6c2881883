-- Requests that are made one after the other, over connections that are kept.
use Rattle.std.proofs.Common.{ℕ, ◌++◌, ◌∷◌, [], List, Option, None, Some, refl, sym, ap, ◌∙◌}
use Rattle.std.proofs.Common.{append_assoc, append-nil, inl, subst}
use Rattle.batch.specs.Dialing.{Adds, AreMade, Asked, Dialed, Dials, Goes, Grows, IsMade, LetsGo}
use Rattle.batch.specs.Dialing.{Place, Standing, closed}

-- nothing more is told
pub grows_none : {A : Type 0} (a : Option (List A)) → Grows a a []
grows_none None = tt
grows_none (Some xs) = sym (append-nil xs)

pub grows_more : {A : Type 0} (a b c : Option (List A)) (xs ys : List A) → Grows a b xs
    → Grows b c ys → Grows a c (xs ++ ys)
grows_more None None None xs ys h k = tt
grows_more None None (Some z) xs ys h k = absurd k
grows_more None (Some y) c xs ys h k = absurd h
grows_more (Some x) None None xs ys h k = tt
grows_more (Some x) None (Some z) xs ys h k = absurd k
grows_more (Some x) (Some y) None xs ys h k = tt
grows_more (Some x) (Some y) (Some z) xs ys h k =
    k ∙ ap (λ l. l ++ ys) h ∙ append_assoc x xs ys

made_more : (p : Place) (asked more : List Asked) (a b c : ℕ) (xs ys : List Dialed)
    → AreMade p asked a b xs → AreMade p more b c ys → AreMade p (asked ++ more) a c (xs ++ ys)
made_more p [] more a b c xs ys h k =
    subst (λ d. AreMade p more a c (d ++ ys)) (sym h.1)
    (subst (λ l. AreMade p more l c ys) (sym h.0) k)
made_more p (r ∷ asked) more a b c xs ys h k = (
  h.0,
  h.1,
  h.2 ++ ys,
  h.3,
  made_more p asked more h.0 b c h.2 ys h.4 k,
  ap (λ d. d ++ ys) h.5 ∙ append_assoc h.1 h.2 ys,
)

-- nothing was asked
pub goes_none : (here : Place) (a : Standing) → Goes here a a []
goes_none here a = record { dialed = []; told = grows_none a.dialed; each = (refl, refl) }

pub goes_more : (here : Place) (a b c : Standing) (xs ys : List Asked) → Goes here a b xs
    → Goes here b c ys → Goes here a c (xs ++ ys)
goes_more here a b c xs ys h k = record {
  dialed = h.dialed ++ k.dialed;
  told = grows_more a.dialed b.dialed c.dialed h.dialed k.dialed h.told k.told;
  each = made_more here xs ys a.made b.made c.made h.dialed k.dialed h.each k.each;
}

-- one request was made
pub goes_by : (here : Place) (a b : Standing) (one : Asked) (dialed : List Dialed)
    → Dials a.dialed b.dialed dialed → IsMade here a.made one b.made dialed
    → Goes here a b (one ∷ [])
goes_by here a b one dialed h is = record {
  dialed = dialed;
  told = h;
  each = (b.made, dialed, [], is, (refl, refl), sym (append-nil dialed));
}

-- ---- where none is kept before and afterwards

pub adds_none : (here : Place) (a : Option (List Dialed)) → Adds here a a []
adds_none here a = record {
  last = closed a;
  goes = goes_none here (closed a);
  ends = inl (refl, refl);
}

pub adds_by : (here : Place) (a : Option (List Dialed)) (b : Standing) (c : Option (List Dialed))
    (asked : List Asked) → Goes here (closed a) b asked → LetsGo b c → Adds here a c asked
adds_by here a b c asked h k = record { last = b; goes = h; ends = k }
