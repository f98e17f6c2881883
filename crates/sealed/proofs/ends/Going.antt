-- A connection of a caller goes on as one through each call.
use Rattle.std.proofs.Common.{◌≡◌, ℕ, ◌==◌, ◌&&◌, Bool, true, false, List, [], ◌∷◌, ◌++◌, length}
use Rattle.std.proofs.Common.{take, drop, Option, Some, None, refl, sym, ap, subst, ◌∙◌}
use Rattle.std.proofs.Common.{append_assoc, arith, inl}
use Rattle.std.proofs.lemmas.{Bool.Decides.Decides-eqb, List.append-nil, List.take-append-drop}
use Rattle.seal.specs.declared.channel.{Channel.Channel, Direction.TheVariants.ToServer}
use Rattle.seal.specs.{Records.key_of, Records.preface_of, Sealing.Sealing}
use Rattle.seal.specs.Streams.{Opening, Reads}
use Rattle.sealed.specs.ClientSeals.{ClientSealOf, SendsBy, SendsOn, StandsBy, StandsOpen}
use Rattle.sealed.specs.{Sent.SentOver, Sent.from_start, Trials.SealsOver}
use Rattle.sealed.specs.Tunnels.{SealsAll, TunnelOf, channel_of}
use Rattle.sealed.proofs.{Fronting.prefaced_more, Lawful.seals_on, Sealings.seals_none}
use Rattle.sealed.specs.ends.ClientStreams.{ClientStreamOf, first_output, fresh_client_stream}
use Rattle.sealed.specs.ends.ClientStreams.{Gives, GivesBy, ReadsBy, SealsBy, is_open, open_by}
use Rattle.sealed.specs.ends.ClientStreams.{IsSameKey, Receives, calling_of, is_ready, is_there}
use Rattle.sealed.specs.ends.Given.{SentAs, SentBy, SentSealed}
use Rattle.sealed.specs.ends.Laws.{IsCall, IsOf, StaysCall}

-- ---- the beginning

side_begins : (key : Option (List ℕ)) (random : List ℕ) → IsOf (calling_of key random) key random
side_begins None random = refl
side_begins (Some k) random = (refl, refl)

reads_begins : (key : Option (List ℕ)) (random : List ℕ) → ReadsBy (calling_of key random) [] []
reads_begins None random = refl
reads_begins (Some k) random = (inl (omega arith), refl, refl)

sent_begins : (key : Option (List ℕ)) (random : List ℕ)
    → SentBy (calling_of key random) [] [] (first_output (calling_of key random))
sent_begins None random = refl
sent_begins (Some k) random = (refl, refl)

begins : (key : Option (List ℕ)) (random : List ℕ)
    → IsCall key random (fresh_client_stream key random) [] [] [] []
begins key random = record {
  side = side_begins key random;
  stands = record { front = refl; heard = refl; reads = reads_begins key random };
  gone = sent_begins key random;
}

-- ---- a piece comes

side_stays : (o n : Option ClientSealOf) (key : Option (List ℕ)) (random : List ℕ) → IsSameKey o n
    → IsOf o key random → IsOf n key random
side_stays None None key random same is = is
side_stays None (Some u) key random same is = absurd same
side_stays (Some s) None key random same is = absurd same
side_stays (Some s) (Some u) key random same is =
    (is.0 ∙ ap (λ (k : List ℕ). Some k) (sym same.key), is.1 ∙ sym same.random)

-- the connection opens: nothing was sent over it
opens_sent : (t : TunnelOf) (s : ClientSealOf) (came given sent handed random : List ℕ)
    → SendsOn None (Some t) → StandsOpen s t came handed → given ≡ [] → sent ≡ preface_of random
    → s.random ≡ random → SentSealed t s came given sent
opens_sent t s came given sent handed random sends h none whole same =
    let number : 0 ≡ t.sealer.number = sym (ap (λ (x : Sealing). x.number) sends) in
    let start : from_start t.sealer ≡ t.sealer =
    ap (λ (n : ℕ). record { channel = t.sealer.channel; number = n }) number in
    let nothing : SealsAll [] (from_start t.sealer) t.sealer [] =
    subst (λ (x : Sealing). SealsAll [] x t.sealer []) (sym start) (seals_none t.sealer) in
    record {
      server = h.server;
      stream = h.stream;
      prefaced = h.prefaced;
      goes =
          ap (λ (x : Sealing). x.channel) sends
          ∙ ap (λ (c : Channel). channel_of c.key ToServer) h.key;
      sealed = [];
      over = subst (λ (g : List ℕ). SentOver t g []) (sym none) nothing;
      whole =
          whole ∙ ap (λ (r : List ℕ). preface_of r) (sym same)
          ∙ sym (append-nil (preface_of s.random));
    }

-- it is open
keeps_sent : (t v : TunnelOf) (s u : ClientSealOf) (came piece given sent : List ℕ) → u.key ≡ s.key
    → u.random ≡ s.random → SendsOn (Some t) (Some v) → SentSealed t s came given sent
    → SentSealed v u (came ++ piece) given sent
keeps_sent t v s u came piece given sent key random sends h = record {
  server = h.server;
  stream = h.stream ++ piece;
  prefaced = prefaced_more came h.server h.stream piece h.prefaced;
  goes =
      ap (λ (x : Sealing). x.channel) sends ∙ h.goes
      ∙ ap (λ (k : List ℕ). channel_of (key_of k s.random h.server) ToServer) (sym key)
      ∙ ap (λ (r : List ℕ). channel_of (key_of u.key r h.server) ToServer) (sym random);
  sealed = h.sealed;
  over = subst (λ (x : Sealing). SealsAll given (from_start x) x h.sealed) (sym sends) h.over;
  whole = h.whole ∙ ap (λ (r : List ℕ). preface_of r ++ h.sealed) (sym random);
}

tunnel_stays : (o n : Option TunnelOf) (s u : ClientSealOf) (came piece handed given sent : List ℕ)
    → u.key ≡ s.key → u.random ≡ s.random → SendsOn o n → StandsBy n u (came ++ piece) handed
    → SentAs o s came given sent → SentAs n u (came ++ piece) given sent
tunnel_stays None None s u came piece handed given sent key random sends h gone =
    (gone.0, gone.1 ∙ ap (λ (r : List ℕ). preface_of r) (sym random))
tunnel_stays None (Some t) s u came piece handed given sent key random sends h gone =
    opens_sent t u (came ++ piece) given sent handed s.random sends h gone.0 gone.1 random
tunnel_stays (Some t) None s u came piece handed given sent key random sends h gone = absurd sends
tunnel_stays (Some t) (Some v) s u came piece handed given sent key random sends h gone =
    keeps_sent t v s u came piece given sent key random sends gone

sent_stays : (o n : Option ClientSealOf) (came piece handed given sent : List ℕ) → IsSameKey o n
    → ReadsBy n (came ++ piece) handed → SentBy o came given sent
    → SentBy n (came ++ piece) given sent
sent_stays None None came piece handed given sent same h gone = gone
sent_stays None (Some u) came piece handed given sent same h gone = absurd same
sent_stays (Some s) None came piece handed given sent same h gone = absurd same
sent_stays (Some s) (Some u) came piece handed given sent same h gone =
    tunnel_stays s.tunnel u.tunnel s u came piece handed given sent same.key same.random same.sends
    h gone

receives : (key : Option (List ℕ)) (random piece more came handed given sent : List ℕ)
    (old new : ClientStreamOf) → Receives piece old new more
    → IsCall key random old came handed given sent
    → IsCall key random new (came ++ piece) (handed ++ more) given sent
receives key random piece more came handed given sent old new r h =
    let stands = r.stands came handed h.stands in
    record {
      side = side_stays old.calling new.calling key random r.same h.side;
      stands = stands;
      gone =
          sent_stays old.calling new.calling came piece (handed ++ more) given (sent ++ new.output)
          r.same stands.reads
          (subst (λ (x : List ℕ). SentBy old.calling came given (sent ++ x)) (sym r.output) h.gone);
    }

-- ---- bytes are given

-- bytes are sealed over the connection
sealed_reads : (t v : TunnelOf) (s : ClientSealOf) (bytes out came handed : List ℕ)
    → SealsOver bytes t v out → StandsOpen s t came handed
    → StandsOpen (record s { tunnel = Some v }) v came handed
sealed_reads t v s bytes out came handed over h = record {
  server = h.server;
  stream = h.stream;
  prefaced = h.prefaced;
  key = ap (λ (o : Opening). o.channel) over.opener ∙ h.key;
  reads = subst (λ (o : Opening). Reads o.channel 0 h.stream handed o) (sym over.opener) h.reads;
}

sealed_sent : (t v : TunnelOf) (s : ClientSealOf) (bytes out came given sent : List ℕ)
    → SealsOver bytes t v out → SentSealed t s came given sent
    → SentSealed v (record s { tunnel = Some v }) came (given ++ bytes) (sent ++ out)
sealed_sent t v s bytes out came given sent over h =
    let channel : v.sealer.channel ≡ t.sealer.channel =
    ap (λ (x : Sealing). x.channel) over.sealed.counted in
    let start : from_start v.sealer ≡ from_start t.sealer =
    ap (λ (c : Channel). record { channel = c; number = 0 }) channel in
    let all =
    seals_on given bytes h.sealed out (from_start t.sealer) t.sealer v.sealer h.over over.sealed in
    record {
      server = h.server;
      stream = h.stream;
      prefaced = h.prefaced;
      goes = channel ∙ h.goes;
      sealed = h.sealed ++ out;
      over =
          subst (λ (x : Sealing). SealsAll (given ++ bytes) x v.sealer (h.sealed ++ out))
          (sym start) all;
      whole =
          ap (λ (x : List ℕ). x ++ out) h.whole ∙ append_assoc (preface_of s.random) h.sealed out;
    }

-- a caller's end with this side and this output
abbrev with_both : ClientStreamOf → Option ClientSealOf → List ℕ → ClientStreamOf
with_both c o out = record { calling = o; front = c.front; heard = c.heard; output = out }

takes_tunnel : (o : Option TunnelOf) (s u : ClientSealOf) (key : Option (List ℕ))
    (random bytes out came handed given sent : List ℕ) (c : ClientStreamOf) → s.tunnel ≡ o
    → is_there o ≡ true → SendsBy o bytes s u out → c.calling ≡ Some s → c.output ≡ []
    → IsCall key random c came handed given sent
    → IsCall key random (with_both c (Some u) out) came handed (given ++ bytes) sent
takes_tunnel None s u key random bytes out came handed given sent c is there h has nothing call =
    absurd cc
takes_tunnel (Some t) s u key random bytes out came handed given sent c is there h has none call =
    let now : ClientSealOf = record s { tunnel = Some h.0 } in
    let side = subst (λ (o : Option ClientSealOf). IsOf o key random) has call.side in
    let reads = subst (λ (o : Option TunnelOf). StandsBy o s came handed) is
    (subst (λ (o : Option ClientSealOf). ReadsBy o came handed) has call.stands.reads) in
    let gone = subst (λ (o : Option TunnelOf). SentAs o s came given (sent ++ c.output)) is
    (subst (λ (o : Option ClientSealOf). SentBy o came given (sent ++ c.output)) has call.gone) in
    let sent_all : sent ++ c.output ≡ sent =
    ap (λ (x : List ℕ). sent ++ x) none ∙ append-nil sent in
    let gone_all = subst (λ (x : List ℕ). SentSealed t s came given x) sent_all gone in
    subst
    (λ (x : ClientSealOf). IsCall key random (with_both c (Some x) out) came handed (given ++ bytes)
    sent) (sym h.2) (record {
      side = side;
      stands = record {
        front = call.stands.front;
        heard = call.stands.heard;
        reads = sealed_reads t h.0 s bytes out came handed h.1 reads;
      };
      gone = sealed_sent t h.0 s bytes out came given sent h.1 gone_all;
    })

takes_by : (o : Option ClientSealOf) (key : Option (List ℕ))
    (random bytes out came handed given sent : List ℕ) (c mid : ClientStreamOf) → c.calling ≡ o
    → open_by o ≡ true → SealsBy o bytes c mid out → c.output ≡ []
    → IsCall key random c came handed given sent
    → IsCall key random (record mid { output = out }) came handed (given ++ bytes) sent
takes_by None key random bytes out came handed given sent c mid is opened h nothing call =
    let gone = subst (λ (o : Option ClientSealOf). SentBy o came given (sent ++ c.output)) is
    call.gone in
    let sent_all : sent ++ out ≡ given ++ bytes =
    ap (λ (x : List ℕ). sent ++ x) h.0
    ∙ ap (λ (x : List ℕ). x ++ bytes)
    (sym (append-nil sent) ∙ ap (λ (x : List ℕ). sent ++ x) (sym nothing) ∙ gone) in
    subst (λ (m : ClientStreamOf). IsCall key random (record m { output = out }) came handed
    (given ++ bytes) sent) (sym h.1) (record {
      side = call.side;
      stands = record {
        front = call.stands.front;
        heard = call.stands.heard;
        reads = call.stands.reads;
      };
      gone =
          subst (λ (o : Option ClientSealOf). SentBy o came (given ++ bytes) (sent ++ out)) (sym is)
          sent_all;
    })
takes_by (Some s) key random bytes out came handed given sent c mid is opened h nothing call =
    subst (λ (m : ClientStreamOf). IsCall key random (record m { output = out }) came handed
    (given ++ bytes) sent) (sym h.2)
    (takes_tunnel s.tunnel s h.0 key random bytes out came handed given sent c refl opened h.1 is
    nothing call)

and_both : (a b : Bool) → (a && b) ≡ true → (a ≡ true) × (b ≡ true)
and_both true b h = (refl, h)
and_both false b h = absurd cc

no_bytes : (bytes : List ℕ) → (length bytes == 0) ≡ true → bytes ≡ []
no_bytes [] h = refl
no_bytes (b ∷ bytes) h =
    let none : length (b ∷ bytes) ≡ 0 = (Decides-eqb (length (b ∷ bytes)) 0).0 h in
    absurd (omega arith)

gives_by : (b : Bool) (key : Option (List ℕ)) (random bytes came handed given sent : List ℕ)
    (count : ℕ) (old new : ClientStreamOf) → is_ready old ≡ b → GivesBy b bytes count old new
    → IsCall key random old came handed given sent
    → IsCall key random new came handed (given ++ take count bytes) sent
gives_by false key random bytes came handed given sent count old new is h call =
    let same : given ≡ given ++ take count bytes =
    sym (append-nil given) ∙ ap (λ (n : ℕ). given ++ take n bytes) (sym h.0) in
    subst (λ (c : ClientStreamOf). IsCall key random c came handed (given ++ take count bytes) sent)
    (sym h.1) (subst (λ (g : List ℕ). IsCall key random old came handed g sent) same call)
gives_by true key random bytes came handed given sent count old new is h call =
    let both = and_both (is_open old) (length old.output == 0) is in
    subst (λ (c : ClientStreamOf). IsCall key random c came handed (given ++ take count bytes) sent)
    (sym h.1.same)
    (takes_by old.calling key random (take count bytes) new.output came handed given sent old
    h.1.mid refl both.0 h.1.seals (no_bytes old.output both.1) call)

gives : (key : Option (List ℕ)) (random bytes came handed given sent : List ℕ) (count : ℕ)
    (old new : ClientStreamOf) → Gives bytes count old new
    → IsCall key random old came handed given sent
    → IsCall key random new came handed (given ++ take count bytes) sent
gives key random bytes came handed given sent count old new h call =
    gives_by (is_ready old) key random bytes came handed given sent count old new refl h call

-- ---- bytes are sent

sends : (key : Option (List ℕ)) (random came handed given sent : List ℕ) (count : ℕ)
    (c : ClientStreamOf) → IsCall key random c came handed given sent
    → IsCall key random (record c { output = drop count c.output }) came handed given
    (sent ++ take count c.output)
sends key random came handed given sent count c h =
    let all : sent ++ c.output ≡ (sent ++ take count c.output) ++ drop count c.output =
    ap (λ (x : List ℕ). sent ++ x) (sym (take-append-drop count c.output))
    ∙ sym (append_assoc sent (take count c.output) (drop count c.output)) in
    record {
      side = h.side;
      stands = record {
        front = h.stands.front;
        heard = h.stands.heard;
        reads = h.stands.reads;
      };
      gone = subst (λ (x : List ℕ). SentBy c.calling came given x) all h.gone;
    }

pub stays_call : StaysCall
stays_call = record { begins = begins; receives = receives; gives = gives; sends = sends }
