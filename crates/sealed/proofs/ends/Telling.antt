-- What is wrong is told exactly.
use Rattle.std.proofs.Common.{◌≡◌, ℕ, Bool, true, List, take, Some, None, refl, sym, ◌∙◌, inl, inr}
use Rattle.std.proofs.Common.{◌==◌, ◌&&◌, false, length, Option, ap, subst, if◌then◌else◌, bytes_eq}
use Rattle.std.proofs.lemmas.{Bool.Decides.Decides-eqb, Slice.Eq.bytes_eq-Decides}
use Rattle.seal.specs.declared.{channel.Channel.Channel, fault.StreamFault.StreamFault}
use Rattle.seal.{specs.Records.mark, specs.Streams.HandsOn, proofs.Reading.reads_all}
use Rattle.sealed.specs.ClientSeals.{ClientSealOf, StandsOpen, StandsBy}
use Rattle.sealed.specs.{Tunnels.TunnelOf, declared.ends.trouble.CallTrouble.TheVariants.HasKey}
use Rattle.sealed.specs.ends.ClientStreams.{ReadsBy, sealed_trouble, trouble_by}
use Rattle.sealed.specs.ends.Laws.{IsOf, IsOpenedTo, IsWrong, TellsTrouble}
use Rattle.sealed.specs.ends.Plain.{begins_mark, is_mark}
use Rattle.sealed.specs.ClientSeals as Callings

and_both : (a b : Bool) → (a && b) ≡ true → (a ≡ true) × (b ≡ true)
and_both true b h = (refl, h)
and_both false b h = absurd cc

mark_is : (bytes : List ℕ) → is_mark bytes ≡ true → bytes ≡ mark
mark_is bytes h =
    let both = and_both (length bytes == 4) (begins_mark bytes) h in
    let four = (Decides-eqb (length bytes) 4).0 both.0 in
    (bytes_eq-Decides bytes mark).0
    (ap (λ (n : ℕ). bytes_eq bytes (take n mark)) (sym four) ∙ both.1)

is_the_mark : (bytes : List ℕ) → bytes ≡ mark → is_mark bytes ≡ true
is_the_mark bytes is = ap (λ (s : List ℕ). is_mark s) is

opened_to : (s : ClientSealOf) (t : TunnelOf) (came handed : List ℕ) (fault : Option StreamFault)
    → t.opener.fault ≡ fault → StandsOpen s t came handed
    → IsOpenedTo s.key s.random came handed fault
opened_to s t came handed fault is h = record {
  server = h.server;
  stream = h.stream;
  prefaced = h.prefaced;
  hands =
      subst (λ (c : Channel). HandsOn c h.stream handed fault) h.key
      (reads_all t.opener.channel h.stream handed t.opener fault h.reads (sym is));
}

wrong_fault : (f : Option StreamFault) (s : ClientSealOf) (t : TunnelOf) (came handed : List ℕ)
    → t.opener.fault ≡ f → StandsOpen s t came handed
    → IsWrong (sealed_trouble (Callings.fault_trouble f)) (Some s.key) s.random came handed
wrong_fault None s t came handed is h = inr (opened_to s t came handed None is h)
wrong_fault (Some e) s t came handed is h =
    (s.key, refl, e, opened_to s t came handed (Some e) is h)

wrong_closed : (b : Bool) (s : ClientSealOf) (came handed : List ℕ)
    → Callings.StandsClosed b s came handed
    → IsWrong (sealed_trouble (Callings.unsealed_trouble b)) (Some s.key) s.random came handed
wrong_closed true s came handed h = (λ none. absurd cc, h.0)
wrong_closed false s came handed h = inl h.0

wrong_sealed : (o : Option TunnelOf) (s : ClientSealOf) (came handed : List ℕ)
    → StandsBy o s came handed
    → IsWrong (sealed_trouble (Callings.trouble_by o s.unsealed)) (Some s.key) s.random came handed
wrong_sealed None s came handed h = wrong_closed s.unsealed s came handed h
wrong_sealed (Some t) s came handed h = wrong_fault t.opener.fault s t came handed refl h

wrong_plain : (b : Bool) (random came handed front : List ℕ) → is_mark front ≡ b
    → front ≡ take 4 came → IsWrong (trouble_by None front) None random came handed
wrong_plain true random came handed front is first =
    subst (λ (b : Bool). IsWrong (if b then Some HasKey else None) None random came handed) (sym is)
    (refl, sym first ∙ mark_is front is)
wrong_plain false random came handed front is first =
    subst (λ (b : Bool). IsWrong (if b then Some HasKey else None) None random came handed) (sym is)
    (λ same. let never = is_the_mark front (first ∙ same) in absurd cc)

wrong_by : (o : Option ClientSealOf) (key : Option (List ℕ)) (random came handed front : List ℕ)
    → IsOf o key random → front ≡ take 4 came → ReadsBy o came handed
    → IsWrong (trouble_by o front) key random came handed
wrong_by None key random came handed front is first h =
    subst (λ (k : Option (List ℕ)). IsWrong (trouble_by None front) k random came handed) (sym is)
    (wrong_plain (is_mark front) random came handed front refl first)
wrong_by (Some s) key random came handed front is first h =
    let w = wrong_sealed s.tunnel s came handed h in
    let t = sealed_trouble (Callings.trouble_of s) in
    subst (λ (k : Option (List ℕ)). IsWrong t k random came handed) (sym is.0)
    (subst (λ (r : List ℕ). IsWrong t (Some s.key) r came handed) (sym is.1) w)

pub tells_trouble : TellsTrouble
tells_trouble key random came handed given sent c h =
    wrong_by c.calling key random came handed c.front h.side h.stands.front h.stands.reads
