-- What a desk sends first.
use Rattle.std.proofs.Common.{◌≡◌, ℕ, List, [], ◌++◌, Bool, true, false, Option, Some, None, refl}
use Rattle.std.proofs.Common.{sym, ap, subst, ◌∙◌, inl, inr}
use Rattle.std.{specs.Prelude.option_map, proofs.lemmas.List.append-nil}
use Rattle.seal.specs.Records.{preface_of}
use Rattle.sealed.specs.declared.callers.Caller.{Caller, TheVariants.Anyone, TheVariants.Visitor}
use Rattle.sealed.specs.declared.callers.Access.{Access, TheVariants.Open, TheVariants.Locked}
use Rattle.sealed.specs.{declared.callers.Holder.Holder, Sent.HasSent, Sent.SentBy, Sent.SentPlain}
use Rattle.sealed.specs.declared.callers.{DeskKeys.DeskKeys, StreamRefusal.StreamRefusal}
use Rattle.sealed.specs.declared.callers.StreamRefusal.TheVariants.{Unsealed, NoMemory}
use Rattle.sealed.specs.ServerSeals.{ServerSealOf, IsSameDesk, Stands, StandsAt, StandsPassing}
use Rattle.sealed.specs.ServerSeals.{StandsReading, StandsTrying, caller_by, caller_of, held_by}
use Rattle.sealed.specs.ServerSeals.{is_over, is_sealed, is_tried, over_by}
use Rattle.sealed.specs.{Fronts.IsPrefaced, Fronts.IsUnsealed, Trials.TrialOf}
use Rattle.sealed.proofs.Fronting.{prefaced_more, unsealed_more}
use Rattle.guarded.specs.LockedConnections.{greeting_if, greets}
use Rattle.guarded.specs.LockedLaw.{IsGreeting}
use Rattle.guarded.proofs.Fronts.{prefaced_short, prefaced_unsealed}
use Rattle.sealed.specs.declared.callers.Caller.TheVariants as caller

-- what was sent first so far
abbrev pub opening_by : Option StreamRefusal → Option TrialOf → List ℕ → List ℕ
opening_by None None server = []
opening_by None (Some t) server = preface_of server
opening_by (Some Unsealed) t server = preface_of server
opening_by (Some NoMemory) t server = []

abbrev pub opening_of : ServerSealOf → List ℕ
opening_of c = opening_by c.refusal c.trial c.random

-- ---- it is what the law says

greeting_tried : (o : Option Holder) (server front : List ℕ)
    → IsGreeting server front (option_map held_by o) (preface_of server)
greeting_tried None server front = inr refl
greeting_tried (Some key) server front = refl

greeting_passing : (p : Option Caller) (c : ServerSealOf) (front handed : List ℕ)
    → StandsPassing c p front handed → IsGreeting c.random front p []
greeting_passing (Some Anyone) c front handed h = refl
greeting_passing (Some Visitor) c front handed h = refl
greeting_passing (Some (caller.Holder key)) c front handed h = absurd h
greeting_passing None c front handed h = inl (h.2, refl)

greeting_reading : (t : Option TrialOf) (c : ServerSealOf) (front handed : List ℕ)
    → StandsReading c t front handed
    → IsGreeting c.random front (caller_by t c.passing) (opening_by None t c.random)
greeting_reading None c front handed h = greeting_passing c.passing c front handed h
greeting_reading (Some t) c front handed h = greeting_tried t.holder c.random front

greeting_at : (r : Option StreamRefusal) (c : ServerSealOf) (front handed : List ℕ)
    → StandsAt r c front handed
    → IsGreeting c.random front (caller_of c) (opening_by r c.trial c.random)
greeting_at None c front handed h = greeting_reading c.trial c front handed h
greeting_at (Some Unsealed) c front handed h =
    subst (λ (who : Option Caller). IsGreeting c.random front who (preface_of c.random))
    (sym h.nobody) (inr refl)
greeting_at (Some NoMemory) c front handed h = absurd h

pub greeting_is : (c : ServerSealOf) (front handed : List ℕ) → Stands c front handed
    → IsGreeting c.random front (caller_of c) (opening_of c)
greeting_is c front handed h = greeting_at c.refusal c front handed h

-- ---- as a piece comes

-- what is sent first is said of this side after a piece, before which so much was sent first
abbrev Follows : Option StreamRefusal → Option TrialOf → Bool → ServerSealOf → List ℕ → List ℕ
    → Type 0
Follows r t was c first body =
    opening_by r t c.random ++ body
    ≡ (first ++ body) ++ greeting_if (greets r was (is_tried t)) c.random

-- a sealed stream stays one
no_passing : (p : Option Caller) (c : ServerSealOf) (locks : DeskKeys)
    (came handed client stream : List ℕ)
    → c.doors ≡ Locked locks → IsPrefaced came client stream → StandsPassing c p came handed → ⊥
no_passing (Some Anyone) c locks came handed client stream doors is h =
    let bad : Open ≡ Locked locks = sym h.0 ∙ doors in absurd cc
no_passing (Some Visitor) c locks came handed client stream doors is h =
    prefaced_unsealed came client stream is h.3
no_passing (Some (caller.Holder key)) c locks came handed client stream doors is h = absurd h
no_passing None c locks came handed client stream doors is h =
    prefaced_short came client stream is h.2

tried_reading : (t : Option TrialOf) (c : ServerSealOf) (locks : DeskKeys)
    (server came handed client stream body : List ℕ) → c.doors ≡ Locked locks
    → IsPrefaced came client stream → c.random ≡ server → StandsReading c t came handed
    → Follows None t true c (preface_of server) body
tried_reading None c locks server came handed client stream body doors is same h =
    absurd (no_passing c.passing c locks came handed client stream doors is h)
tried_reading (Some t) c locks server came handed client stream body doors is same h =
    ap (λ (s : List ℕ). preface_of s ++ body) same ∙ sym (append-nil (preface_of server ++ body))

tried_at : (r : Option StreamRefusal) (c : ServerSealOf) (locks : DeskKeys)
    (server came handed client stream body : List ℕ) → c.doors ≡ Locked locks
    → IsPrefaced came client stream → c.random ≡ server → StandsAt r c came handed
    → Follows r c.trial true c (preface_of server) body
tried_at None c locks server came handed client stream body doors is same h =
    tried_reading c.trial c locks server came handed client stream body doors is same h
tried_at (Some Unsealed) c locks server came handed client stream body doors is same h =
    absurd (prefaced_unsealed came client stream is h.unsealed)
tried_at (Some NoMemory) c locks server came handed client stream body doors is same h = absurd h

-- so does one that is let in without a key
data IsLet (doors : Access) (came : List ℕ) : Type 0 where
  LetAll : doors ≡ Open → IsLet doors came
  LetSee : (locks : DeskKeys) → doors ≡ Locked locks → locks.sheets ≡ true → IsUnsealed came
      → IsLet doors came

let_is : (who : Caller) (c d : ServerSealOf) (came handed piece : List ℕ) → d.doors ≡ c.doors
    → StandsPassing c (Some who) came handed → IsLet d.doors (came ++ piece)
let_is Anyone c d came handed piece same h = LetAll (same ∙ h.0)
let_is Visitor c d came handed piece same h =
    LetSee h.0 (same ∙ h.1) h.2 (unsealed_more came piece h.3)
let_is (caller.Holder key) c d came handed piece same h = absurd h

let_tried : (c : ServerSealOf) (came handed : List ℕ) (t : TrialOf) → IsLet c.doors came
    → StandsTrying c t came handed → ⊥
let_tried c came handed t (LetAll doors) h =
    let bad : Open ≡ Locked h.locks = sym doors ∙ h.doors in absurd cc
let_tried c came handed t (LetSee locks doors shown unsealed) h =
    prefaced_unsealed came h.client h.stream h.prefaced unsealed

let_refused : (c : ServerSealOf) (came handed : List ℕ) → IsLet c.doors came
    → StandsAt (Some Unsealed) c came handed → ⊥
let_refused c came handed (LetAll doors) h =
    let bad : Open ≡ Locked h.locks = sym doors ∙ h.doors in absurd cc
let_refused c came handed (LetSee locks doors shown unsealed) h =
    let two : Locked locks ≡ Locked h.locks = sym doors ∙ h.doors in
    let one : locks ≡ h.locks = cc in
    let bad : true ≡ false = sym shown ∙ ap (λ (l : DeskKeys). l.sheets) one ∙ h.shut in absurd cc

let_reading : (t : Option TrialOf) (c : ServerSealOf) (came handed body : List ℕ)
    → IsLet c.doors came → StandsReading c t came handed → Follows None t false c [] body
let_reading None c came handed body is h = sym (append-nil body)
let_reading (Some t) c came handed body is h = absurd (let_tried c came handed t is h)

let_at : (r : Option StreamRefusal) (c : ServerSealOf) (came handed body : List ℕ)
    → IsLet c.doors came → StandsAt r c came handed → Follows r c.trial false c [] body
let_at None c came handed body is h = let_reading c.trial c came handed body is h
let_at (Some Unsealed) c came handed body is h = absurd (let_refused c came handed is h)
let_at (Some NoMemory) c came handed body is h = absurd h

-- and of one of which nothing was known nothing was sent
first_reading : (t : Option TrialOf) (c : ServerSealOf) → Follows None t false c [] []
first_reading None c = refl
first_reading (Some t) c = append-nil (preface_of c.random)

first_at : (r : Option StreamRefusal) (c : ServerSealOf) (came handed : List ℕ)
    → StandsAt r c came handed → Follows r c.trial false c [] []
first_at None c came handed h = first_reading c.trial c
first_at (Some Unsealed) c came handed h = append-nil (preface_of c.random)
first_at (Some NoMemory) c came handed h = absurd h

from_passing : (p : Option Caller) (c d : ServerSealOf)
    (front handed piece later given body : List ℕ)
    → IsSameDesk c d → StandsPassing c p front handed → SentPlain p given body
    → Stands d (front ++ piece) later → Follows d.refusal d.trial false d [] body
from_passing None c d front handed piece later given body same h sent stands =
    subst (λ (s : List ℕ). Follows d.refusal d.trial false d [] s) (sym sent.1)
    (first_at d.refusal d (front ++ piece) later stands)
from_passing (Some who) c d front handed piece later given body same h sent stands =
    let_at d.refusal d (front ++ piece) later body
    (let_is who c d front handed piece same.doors h) stands

from_reading : (t : Option TrialOf) (c d : ServerSealOf)
    (front handed piece later given body : List ℕ) → IsSameDesk c d → StandsReading c t front handed
    → SentBy t c given body → Stands d (front ++ piece) later
    → Follows d.refusal d.trial (is_tried t) d (opening_by None t c.random) body
from_reading None c d front handed piece later given body same h sent stands =
    from_passing c.passing c d front handed piece later given body same h sent stands
from_reading (Some t) c d front handed piece later given body same h sent stands =
    tried_at d.refusal d h.locks c.random (front ++ piece) later h.client (h.stream ++ piece) body
    (same.doors ∙ h.doors) (prefaced_more front h.client h.stream piece h.prefaced) same.random
    stands

from_at : (r : Option StreamRefusal) (c d : ServerSealOf)
    (front handed piece later given body : List ℕ) → over_by r c.trial ≡ false → IsSameDesk c d
    → StandsAt r c front handed → SentBy c.trial c given body → Stands d (front ++ piece) later
    → Follows d.refusal d.trial (is_tried c.trial) d (opening_by r c.trial c.random) body
from_at None c d front handed piece later given body hears same h sent stands =
    from_reading c.trial c d front handed piece later given body same h sent stands
from_at (Some why) c d front handed piece later given body hears same h sent stands =
    let bad : true ≡ false = hears in absurd cc

-- The desk's preface is sent with a piece, where it was not before.
pub greeted : (c d : ServerSealOf) (front handed piece later given body : List ℕ)
    → is_over c ≡ false → IsSameDesk c d → Stands c front handed → HasSent c given body
    → Stands d (front ++ piece) later → opening_of d ++ body
    ≡ (opening_of c ++ body) ++ greeting_if (greets d.refusal (is_sealed c) (is_sealed d)) d.random
greeted c d front handed piece later given body hears same h sent stands =
    from_at c.refusal c d front handed piece later given body hears same h sent stands
