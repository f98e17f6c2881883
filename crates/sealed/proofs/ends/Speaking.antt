-- What the bytes of a connection are, by what its caller's end keeps.
use Rattle.std.proofs.Common.{ℕ, List, ◌++◌, Option, Some, None, sym, ap, subst, ◌∙◌, inl, inr}
use Rattle.seal.specs.{declared.channel.Channel.Channel, Records.preface_of, Records.records}
use Rattle.sealed.specs.{ClientSeals.ClientSealOf, Tunnels.TunnelOf, ends.ClientStreams.ReadsBy}
use Rattle.sealed.{proofs.Lawful.opens, specs.ends.Given.SentAs, specs.ends.Given.SentBy}
use Rattle.sealed.specs.ends.Laws.{CallsSpeak, IsHanded, IsOf, IsSent}

handed_by : (o : Option ClientSealOf) (key : Option (List ℕ)) (random came handed : List ℕ)
    → IsOf o key random → ReadsBy o came handed → IsHanded key random came handed
handed_by None key random came handed is h =
    subst (λ (k : Option (List ℕ)). IsHanded k random came handed) (sym is) h
handed_by (Some s) key random came handed is h =
    subst (λ (k : Option (List ℕ)). IsHanded k random came handed) (sym is.0)
    (subst (λ (r : List ℕ). IsHanded (Some s.key) r came handed) (sym is.1)
    (opens s.tunnel s came handed h))

sent_as : (o : Option TunnelOf) (s : ClientSealOf) (came given sent : List ℕ)
    → SentAs o s came given sent → IsSent (Some s.key) s.random came given sent
sent_as None s came given sent h = inl h
sent_as (Some t) s came given sent h =
    inr (record {
      server = h.server;
      stream = h.stream;
      prefaced = h.prefaced;
      bodies = h.over.bodies;
      each = h.over.each;
      gives = h.over.gives;
      sealed =
          h.whole
          ∙ ap (λ (x : List ℕ). preface_of s.random ++ x)
          (h.over.sealed ∙ ap (λ (c : Channel). records c 0 h.over.bodies) h.goes);
    })

sent_by : (o : Option ClientSealOf) (key : Option (List ℕ)) (random came given sent : List ℕ)
    → IsOf o key random → SentBy o came given sent → IsSent key random came given sent
sent_by None key random came given sent is h =
    subst (λ (k : Option (List ℕ)). IsSent k random came given sent) (sym is) h
sent_by (Some s) key random came given sent is h =
    subst (λ (k : Option (List ℕ)). IsSent k random came given sent) (sym is.0)
    (subst (λ (r : List ℕ). IsSent (Some s.key) r came given sent) (sym is.1)
    (sent_as s.tunnel s came given sent h))

pub calls_speak : CallsSpeak
calls_speak key random came handed given sent c h = record {
  heard = handed_by c.calling key random came handed h.side h.stands.reads;
  gone = sent_by c.calling key random came given (sent ++ c.output) h.side h.gone;
}
