-- The side of whoever calls a desk, as more of the stream comes.
use Rattle.std.proofs.Common.{◌≡◌, ℕ, List, [], ◌++◌, length, drop, true, false, Bool, Option, Some}
use Rattle.std.proofs.Common.{None, sym, ap, subst, ◌∙◌}
use Rattle.std.proofs.lemmas.List.{append-nil}
use Rattle.seal.specs.{declared.channel.Direction.TheVariants.ToClient, Streams.Fed}
use Rattle.seal.specs.Records.{key_of, preface_of}
use Rattle.sealed.specs.ClientSeals.{ClientSealOf, Receives, SendsOn, Stands, StandsBy}
use Rattle.sealed.specs.{ClientSeals.StandsClosed, Fronts.IsUnsealed, Trials.ReadsAll}
use Rattle.sealed.{specs.Tunnels.TunnelOf, specs.Tunnels.channel_of, proofs.Trying.fed_same}
use Rattle.sealed.{specs.model.Opening.OpensTo, specs.model.Steps.IsHeld, proofs.Trying.fed_all}
use Rattle.sealed.proofs.Fronting.{held_and_rest, prefaced_first, prefaced_more, unsealed_more}

-- a caller's side with this
abbrev pub caller_side : List ℕ → List ℕ → List ℕ → Option TunnelOf → Bool → ClientSealOf
caller_side key random held tunnel unsealed = record {
  key = key;
  random = random;
  held = held;
  tunnel = tunnel;
  unsealed = unsealed;
}

is_closed : (b : Bool) (c : ClientSealOf) (came handed : List ℕ) → c.tunnel ≡ None → c.unsealed ≡ b
    → Stands c came handed → StandsClosed b c came handed
is_closed b c came handed none is h =
    subst (λ (u : Bool). StandsClosed u c came handed) is
    (subst (λ (t : Option TunnelOf). StandsBy t c came handed) none h)

closed_is : (b : Bool) (c : ClientSealOf) (came handed : List ℕ) → c.tunnel ≡ None → c.unsealed ≡ b
    → StandsClosed b c came handed → Stands c came handed
closed_is b c came handed none is h =
    subst (λ (t : Option TunnelOf). StandsBy t c came handed) (sym none)
    (subst (λ (u : Bool). StandsClosed u c came handed) (sym is) h)

-- nothing is sent while the desk's preface did not come
sends_none : (o n : Option TunnelOf) → o ≡ None → n ≡ None → SendsOn o n
sends_none None None was is = tt
sends_none None (Some u) was is = absurd cc
sends_none (Some t) n was is = absurd cc

-- the stream is not sealed
pub receives_unsealed : (old mid new : ClientSealOf) (piece : List ℕ) (added : ℕ)
    → old.tunnel ≡ None
    → old.unsealed ≡ false → new.tunnel ≡ None → new.unsealed ≡ true → new.key ≡ old.key
    → new.random ≡ old.random → IsHeld piece old.held mid.held added → IsUnsealed mid.held
    → Receives piece old new []
receives_unsealed old mid new piece added o1 o2 n1 n2 key random held unsealed = record {
  key = key;
  random = random;
  sends = sends_none old.tunnel new.tunnel o1 n1;
  stands = λ came handed h.
      let q = is_closed false old came handed o1 o2 h in
      let whole = held_and_rest came piece old.held mid.held added held q.1 in
      let is = unsealed_more mid.held (drop added piece) unsealed in
      closed_is true new (came ++ piece) (handed ++ []) n1 n2
      (subst (λ (s : List ℕ). IsUnsealed s) (sym whole) is, append-nil handed ∙ q.2);
}

-- the first piece of a sealed stream
pub receives_first : (old mid new : ClientSealOf) (piece server more : List ℕ) (added : ℕ)
    → old.tunnel ≡ None → old.unsealed ≡ false → mid.key ≡ old.key → mid.random ≡ old.random
    → IsHeld piece old.held mid.held added → length server ≡ 16 → mid.held ≡ preface_of server
    → OpensTo server (drop added piece) mid new more → Receives piece old new more
receives_first old mid new piece server more added o1 o2 key random held sixteen is opens =
    let new_key : new.key ≡ mid.key = ap (λ (c : ClientSealOf). c.key) opens.1 in
    let new_random : new.random ≡ mid.random = ap (λ (c : ClientSealOf). c.random) opens.1 in
    let tunnel : new.tunnel ≡ Some opens.0 = ap (λ (c : ClientSealOf). c.tunnel) opens.1 in
    let same : channel_of (key_of mid.key mid.random server) ToClient
    ≡ channel_of (key_of new.key new.random server) ToClient =
    ap (λ (k : List ℕ). channel_of (key_of k mid.random server) ToClient) (sym new_key)
    ∙ ap (λ (r : List ℕ). channel_of (key_of new.key r server) ToClient) (sym new_random) in
    record {
      key = new_key ∙ key;
      random = new_random ∙ random;
      sends = subst (λ (o : Option TunnelOf). SendsOn o new.tunnel) (sym o1)
          (subst (λ (o : Option TunnelOf). SendsOn None o) (sym tunnel) opens.4);
      stands = λ came handed h.
          let q = is_closed false old came handed o1 o2 h in
          let prefaced =
          prefaced_first came piece old.held mid.held server added held q.1 sixteen is in
          let all : handed ++ more ≡ more = ap (λ (s : List ℕ). s ++ more) q.2 in
          subst (λ (t : Option TunnelOf). StandsBy t new (came ++ piece) (handed ++ more))
          (sym tunnel) (record {
            server = server;
            stream = drop added piece;
            prefaced = prefaced;
            key = opens.2 ∙ same;
            reads = subst (λ (s : List ℕ). ReadsAll opens.0 (drop added piece) s) (sym all) opens.3;
          });
    }

-- one more piece of it
pub receives_more : (old new : ClientSealOf) (t u : TunnelOf) (piece more : List ℕ)
    → old.tunnel ≡ Some t → new.tunnel ≡ Some u → new.key ≡ old.key → new.random ≡ old.random
    → Fed piece t.opener u.opener more → u.sealer ≡ t.sealer → Receives piece old new more
receives_more old new t u piece more o1 n1 key random fed sealer = record {
  key = key;
  random = random;
  sends = subst (λ (o : Option TunnelOf). SendsOn o new.tunnel) (sym o1)
      (subst (λ (o : Option TunnelOf). SendsOn (Some t) o) (sym n1) sealer);
  stands = λ came handed h.
      let q = subst (λ (o : Option TunnelOf). StandsBy o old came handed) o1 h in
      let same : channel_of (key_of old.key old.random q.server) ToClient
      ≡ channel_of (key_of new.key new.random q.server) ToClient =
      ap (λ (k : List ℕ). channel_of (key_of k old.random q.server) ToClient) (sym key)
      ∙ ap (λ (r : List ℕ). channel_of (key_of new.key r q.server) ToClient) (sym random) in
      subst (λ (o : Option TunnelOf). StandsBy o new (came ++ piece) (handed ++ more)) (sym n1)
      (record {
        server = q.server;
        stream = q.stream ++ piece;
        prefaced = prefaced_more came q.server q.stream piece q.prefaced;
        key = fed_same piece more t.opener u.opener fed ∙ q.key ∙ same;
        reads = fed_all t u q.stream handed piece more q.reads fed;
      });
}
