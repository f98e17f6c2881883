-- A link that is driven over its connection: one call after the other, and what is told of them.
use Rattle.std.proofs.Common.{◌≡◌, refl, sym, ap, subst, ◌∙◌, List, [], ◌∷◌, ◌++◌, append_assoc}
use Rattle.std.specs.declared.net.SocketAddr.{SocketAddr}
use Rattle.desk_sockets.specs.Wires.{Wired}
use Rattle.links.specs.{Links.LinkState, Histories.Step}
use Rattle.mio_sockets.specs.{Linking.SideOf, Wiring.Goes, Wiring.told, Wiring.told_all}

goes_both : (a b c : LinkState) (ss ts : List Step) → Goes a ss b → Goes b ts c
    → Goes a (ss ++ ts) c
goes_both a b c [] ts h k = subst (λ (x : LinkState). Goes x ts c) (sym h) k
goes_both a b c (s ∷ ss) ts h k = (h.0, h.1, goes_both h.0 b c ss ts h.2 k)

told_both : (address : SocketAddr) (ss ts : List Step)
    → told_all address (ss ++ ts) ≡ told_all address ss ++ told_all address ts
told_both address [] ts = refl
told_both address (s ∷ ss) ts =
    ap (λ z. told address s ++ z) (told_both address ss ts)
    ∙ sym (append_assoc (told address s) (told_all address ss) (told_all address ts))

-- the link to a desk at an address was driven by steps of which this is told
pub record Driven (address : SocketAddr) (a b : SideOf) (events : List Wired) : Type 0 where
  pub steps : List Step
  pub desk : b.desk ≡ a.desk
  pub goes : Goes a.link steps b.link
  pub told : told_all address steps ≡ events

-- one after the other
pub both : {address : SocketAddr} {a b c : SideOf} {es fs : List Wired} → Driven address a b es
    → Driven address b c fs → Driven address a c (es ++ fs)
both {address} {a} {b} {c} {es} {fs} h k = record {
  steps = h.steps ++ k.steps;
  desk = k.desk ∙ h.desk;
  goes = goes_both a.link b.link c.link h.steps k.steps h.goes k.goes;
  told = told_both address h.steps k.steps ∙ ap (λ z. z ++ told_all address k.steps) h.told
      ∙ ap (λ z. es ++ z) k.told;
}
