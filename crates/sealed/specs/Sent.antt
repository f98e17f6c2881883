-- What a desk's side sent of what it was given (the project's own).
use Rattle.std.specs.Prelude.{◌≡◌, ℕ, List, [], ◌++◌, Option, None, Some, IfSome, IsSome}
use Rattle.seal.specs.{Records.AreBodies, Records.records, Sealing.Sealing, Streams.joined}
use Rattle.sealed.specs.declared.callers.Caller.{Caller, TheVariants.Anyone, TheVariants.Visitor}
use Rattle.sealed.specs.declared.callers.Access.{Access, TheVariants.Locked}
use Rattle.sealed.specs.declared.callers.Holder.{Holder, TheVariants.Hall, TheVariants.Entry}
use Rattle.sealed.specs.{declared.callers.DeskKeys.DeskKeys, Tunnels.SealsAll, Tunnels.TunnelOf}
use Rattle.sealed.specs.{Admitting.goes_under, Fronts.IsPrefaced, Trials.TrialOf}
use Rattle.sealed.specs.ServerSeals.{ServerSealOf, Sends, Stands, caller_of}
use Rattle.sealed.specs.declared.callers.Caller.TheVariants as caller

-- ---- what was sent, by its bytes alone

-- the key that a holder has
abbrev pub key_for : DeskKeys → Holder → Option (List ℕ)
key_for locks Hall = Some locks.hall
key_for locks Entry = locks.entry

-- a sealed stream came, and under the key of its holder these bytes were sent, as records that are
-- numbered from 0
pub record IsSentSealed (locks : DeskKeys) (server came given sent : List ℕ) (key : Holder) : Type 0
  where
    pub client : List ℕ
    pub stream : List ℕ
    pub prefaced : IsPrefaced came client stream
    pub secret : List ℕ
    pub held : key_for locks key ≡ Some secret
    pub bodies : List (List ℕ)
    pub each : AreBodies 0 bodies
    pub gives : joined bodies ≡ given
    pub sealed : sent ≡ records (goes_under client server secret) 0 bodies

-- what is sent of bytes that are given: they themselves to a caller who is let in without a key,
-- records of them to a holder of one, and nothing as long as nobody is let in
abbrev pub IsSent : Access → List ℕ → List ℕ → Option Caller → List ℕ → List ℕ → Type 0
IsSent doors server came (Some Anyone) given sent = sent ≡ given
IsSent doors server came (Some Visitor) given sent = sent ≡ given
IsSent doors server came (Some (caller.Holder key)) given sent =
    (locks : DeskKeys) × (doors ≡ Locked locks) × IsSentSealed locks server came given sent key
IsSent doors server came None given sent = (given ≡ []) × (sent ≡ [])

-- ---- the side

-- a sealer at its beginning
abbrev pub from_start : Sealing → Sealing
from_start s = record { channel = s.channel; number = 0 }

-- since the connection began these bytes were given, and these records of them sent
abbrev pub SentOver : TunnelOf → List ℕ → List ℕ → Type 0
SentOver t given sent = SealsAll given (from_start t.sealer) t.sealer sent

-- over that under the entry key, where there is one
abbrev pub SentEntry : Option TunnelOf → List ℕ → List ℕ → Type 0
SentEntry None given sent = Unit {0}
SentEntry (Some e) given sent = SentOver e given sent

-- nothing was sent yet
pub record IsNew (t : TrialOf) : Type 0 where
  pub hall : t.hall.sealer.number ≡ 0
  pub entry : IfSome t.entry (λ e. e.sealer.number ≡ 0)

abbrev pub SentAs : Option Holder → TrialOf → List ℕ → List ℕ → Type 0
SentAs None t given sent = (given ≡ []) × (sent ≡ []) × IsNew t
SentAs (Some Hall) t given sent = SentOver t.hall given sent
SentAs (Some Entry) t given sent = SentEntry t.entry given sent

abbrev pub SentPlain : Option Caller → List ℕ → List ℕ → Type 0
SentPlain None given sent = (given ≡ []) × (sent ≡ [])
SentPlain (Some who) given sent = sent ≡ given

abbrev pub SentBy : Option TrialOf → ServerSealOf → List ℕ → List ℕ → Type 0
SentBy None c given sent = SentPlain c.passing given sent
SentBy (Some t) c given sent = SentAs t.holder t given sent

-- these bytes were given to be sent so far, and those were sent
abbrev pub HasSent : ServerSealOf → List ℕ → List ℕ → Type 0
HasSent c given sent = SentBy c.trial c given sent

-- whatever was given and sent before: what is sent later goes on with it
abbrev pub KeepsSent : ServerSealOf → ServerSealOf → Type 0
KeepsSent old new = (given sent : List ℕ) → HasSent old given sent → HasSent new given sent

-- ---- laws

-- what a desk's side has read and handed on is not changed by what it sends
abbrev pub SealingReads : Type 0
SealingReads = (c new : ServerSealOf) (bytes sent came handed : List ℕ) → Sends bytes c new sent
    → Stands c came handed → Stands new came handed

-- what is sent goes on with what was sent before, where somebody is let in
abbrev pub SealingGoesOn : Type 0
SealingGoesOn = (c new : ServerSealOf) (bytes more given sent : List ℕ) → Sends bytes c new more
    → IsSome (caller_of c) → HasSent c given sent → HasSent new (given ++ bytes) (sent ++ more)

-- a desk's side sends nothing but what it is given, sealed as what came to it
abbrev pub SendsWhatIsGiven : Type 0
SendsWhatIsGiven = (c : ServerSealOf) (came handed given sent : List ℕ) → Stands c came handed
    → HasSent c given sent → IsSent c.doors c.random came (caller_of c) given sent
