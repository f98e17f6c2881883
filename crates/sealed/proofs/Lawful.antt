-- The laws of the two sides of a connection.
use Rattle.std.proofs.Common.{◌≡◌, ◌⊎◌, ℕ, ◌+◌, List, [], ◌++◌, length, true, false, Bool, Option}
use Rattle.std.proofs.Common.{Some, None, refl, sym, ap, subst, ◌∙◌, arith, inl, inr}
use Rattle.std.proofs.lemmas.{List.length-append, List.append-nil, Grind.flat_map-append}
use Rattle.seal.specs.{declared.channel.Channel.Channel, Sealing.Sealing, Streams.joined}
use Rattle.seal.specs.Records.{AreBodies, records}
use Rattle.seal.proofs.Reading.{bodies-append, records-append}
use Rattle.sealed.specs.ClientSeals.{ClientSealOf, IsOpened, StandsBy, StandsClosed}
use Rattle.sealed.specs.{Laws.HolderIsAdmitted, Laws.SealsOn, Tunnels.TunnelOf}
use Rattle.sealed.proofs.Admitted.{hands_of}

opens_closed : (b : Bool) (c : ClientSealOf) (came handed : List ℕ) → StandsClosed b c came handed
    → handed ≡ []
opens_closed true c came handed h = h.1
opens_closed false c came handed h = h.2

pub opens : (o : Option TunnelOf) (c : ClientSealOf) (came handed : List ℕ)
    → StandsBy o c came handed → (handed ≡ []) ⊎ IsOpened c.key c.random came handed
opens None c came handed h = inl (opens_closed c.unsealed c came handed h)
opens (Some t) c came handed h =
    inr (record {
      server = h.server;
      stream = h.stream;
      prefaced = h.prefaced;
      hands = hands_of _ t h.stream handed h.key h.reads;
    })

pub holder_is : HolderIsAdmitted
holder_is locks client server bodies sixteen each some = (
  locks,
  refl,
  record {
    client = client;
    stream = records _ 0 bodies;
    prefaced = record { sixteen = sixteen; whole = refl };
    hands = (
      some,
      (
        None,
        (
          bodies,
          record {
            rest = [];
            whole = sym (append-nil (records _ 0 bodies));
            each = each;
            ends = inl (omega arith);
          },
          refl,
        ),
      ),
    );
  },
)

-- the sealer after the first bytes goes on with the next number
on_number : (old mid : Sealing) (n : ℕ) → mid ≡ record old { number = old.number + n }
    → (mid.channel ≡ old.channel) × (mid.number ≡ old.number + n)
on_number old mid n is = (ap (λ (s : Sealing). s.channel) is, ap (λ (s : Sealing). s.number) is)

pub seals_on : SealsOn
seals_on first later sent more old mid new a b =
    let now = on_number old mid (length a.bodies) a.counted in
    let c = old.channel in
    let each = subst (λ (n : ℕ). AreBodies n b.bodies) now.1 b.each in
    let long = length-append a.bodies b.bodies in
    let second : more ≡ records c (old.number + length a.bodies) b.bodies =
    b.sealed ∙ ap (λ (d : Channel). records d mid.number b.bodies) now.0
    ∙ ap (λ (n : ℕ). records c n b.bodies) now.1 in
    let number : mid.number + length b.bodies ≡ old.number + length (a.bodies ++ b.bodies) =
    omega (arith, now.1, long) in
    record {
      bodies = a.bodies ++ b.bodies;
      each = bodies-append old.number a.bodies b.bodies a.each each;
      gives =
          flat_map-append (λ (body : List ℕ). body) a.bodies b.bodies
          ∙ ap (λ (s : List ℕ). s ++ joined b.bodies) a.gives
          ∙ ap (λ (s : List ℕ). first ++ s) b.gives;
      sealed =
          ap (λ (s : List ℕ). s ++ more) a.sealed
          ∙ ap (λ (s : List ℕ). records c old.number a.bodies ++ s) second
          ∙ sym (records-append c old.number a.bodies b.bodies);
      counted =
          b.counted
          ∙ ap (λ (s : Sealing). record s { number = mid.number + length b.bodies }) a.counted
          ∙ ap (λ (n : ℕ). record old { number = n }) number;
    }
