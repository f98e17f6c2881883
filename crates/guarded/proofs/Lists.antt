-- Lists of turns, one after the other.
use Rattle.std.proofs.Common.{◌≡◌, refl, sym, ap, subst, ◌∙◌, ℕ, List, [], ◌∷◌, ◌++◌, append_assoc}
use Rattle.serving.specs.{Connection.Begun, Making.Way, TurnLaw.received, TurnLaw.taken_in}
use Rattle.serving.specs.TurnLaw.{Turn, Follow, Place, begun_at, begun_in, came_in, handed_out}

pub received-both : (ts us : List Turn) → received (ts ++ us) ≡ received ts ++ received us
received-both [] us = refl
received-both (t ∷ ts) us =
    ap (λ (z : List ℕ). came_in t ++ z) (received-both ts us)
    ∙ sym (append_assoc (came_in t) (received ts) (received us))

pub handed_out-both : (ts us : List Turn) → handed_out (ts ++ us) ≡ handed_out ts ++ handed_out us
handed_out-both [] us = refl
handed_out-both (t ∷ ts) us =
    ap (λ (z : List ℕ). taken_in t ++ z) (handed_out-both ts us)
    ∙ sym (append_assoc (taken_in t) (handed_out ts) (handed_out us))

pub begun_in-both : (ts us : List Turn) → begun_in (ts ++ us) ≡ begun_in ts ++ begun_in us
begun_in-both [] us = refl
begun_in-both (t ∷ ts) us =
    ap (λ (z : List Begun). begun_at t ++ z) (begun_in-both ts us)
    ∙ sym (append_assoc (begun_at t) (begun_in ts) (begun_in us))

pub follow_both : {V : Type 0} {way : Way V} (a m b : Place way) (ts us : List Turn)
    → Follow a ts m → Follow m us b → Follow a (ts ++ us) b
follow_both a m b [] us h k = subst (λ (z : Place _). Follow z us b) (sym h) k
follow_both a m b (t ∷ ts) us h k = (h.0, h.1, follow_both h.0 m b ts us h.2 k)
