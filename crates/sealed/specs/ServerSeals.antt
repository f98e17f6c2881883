-- A desk's side of a connection: what it keeps, and what it has read (the project's own).
use Rattle.std.specs.Prelude.{◌≡◌, ℕ, Bool, true, false, List, [], ◌∷◌, ◌++◌, Option, None, Some}
use Rattle.std.specs.Prelude.{IsSome, option_map}
use Rattle.seal.specs.declared.fault.SealFault.{SealFault, TheVariants.NoMemory as Starved}
use Rattle.sealed.specs.declared.callers.{Caller.Caller, Access.Access, Holder.Holder}
use Rattle.sealed.specs.declared.callers.Caller.TheVariants.{Anyone, Visitor}
use Rattle.sealed.specs.declared.callers.Access.TheVariants.{Open, Locked}
use Rattle.sealed.specs.declared.callers.{DeskKeys.DeskKeys, StreamRefusal.StreamRefusal}
use Rattle.sealed.specs.declared.callers.StreamRefusal.TheVariants.{Unsealed, NoMemory}
use Rattle.sealed.specs.{Admitting.comes_under, Admitting.goes_under, Trials.begun_in, Trials.over}
use Rattle.sealed.specs.Fronts.{IsPrefaced, IsShort, IsUnsealed}
use Rattle.sealed.specs.Trials.{FailsFor, SealsFor, TrialOf, Tries, comes_by, entry_by, goes_by}
use Rattle.sealed.specs.declared.callers.Caller.TheVariants as caller

-- what the desk asks for, its random bytes, the bytes that are held until it is known what the
-- stream is, who is let pass without a key, the keys that a sealed stream is tried with, and why
-- nothing more is read
pub record ServerSealOf : Type 0 where
  pub doors : Access
  pub random : List ℕ
  pub held : List ℕ
  pub passing : Option Caller
  pub trial : Option TrialOf
  pub refusal : Option StreamRefusal

-- who calls, as far as it is known
abbrev pub held_by : Holder → Caller
held_by key = caller.Holder key

abbrev pub caller_by : Option TrialOf → Option Caller → Option Caller
caller_by None passing = passing
caller_by (Some t) passing = option_map held_by t.holder

abbrev pub caller_of : ServerSealOf → Option Caller
caller_of c = caller_by c.trial c.passing

-- whether nothing more is handed on: the stream was refused, or a record of it does not fit
abbrev pub trial_over : Option TrialOf → Bool
trial_over None = false
trial_over (Some t) = over t

abbrev pub over_by : Option StreamRefusal → Option TrialOf → Bool
over_by None trial = trial_over trial
over_by (Some why) trial = true

abbrev pub is_over : ServerSealOf → Bool
is_over c = over_by c.refusal c.trial

-- which record of a sealed stream has begun to come and is not whole, where the preface counts as
-- the beginning of the first one
abbrev pub begun_front : Option Caller → List ℕ → Option ℕ
begun_front None [] = None
begun_front None (b ∷ more) = Some 0
begun_front (Some who) held = None

abbrev pub begun_by : Option TrialOf → Option Caller → List ℕ → Option ℕ
begun_by None passing held = begun_front passing held
begun_by (Some t) passing held = begun_in t

abbrev pub begun : ServerSealOf → Option ℕ
begun c = begun_by c.trial c.passing c.held

-- whether the client's preface came whole, so that its stream is tried with the desk's keys
abbrev pub is_tried : Option TrialOf → Bool
is_tried None = false
is_tried (Some t) = true

abbrev pub is_sealed : ServerSealOf → Bool
is_sealed c = is_tried c.trial

-- where nobody is waited for
abbrev pub first_passing : Access → Option Caller
first_passing Open = Some Anyone
first_passing (Locked locks) = None

-- before the first byte
abbrev pub fresh_server_seal : Access → List ℕ → ServerSealOf
fresh_server_seal doors random = record {
  doors = doors;
  random = random;
  held = [];
  passing = first_passing doors;
  trial = None;
  refusal = None;
}

-- ---- what was read

-- the trial is of the desk's keys
pub record IsOfLocks (locks : DeskKeys) (client server : List ℕ) (t : TrialOf) : Type 0 where
  pub hall : comes_by t.hall ≡ comes_under client server locks.hall
  pub entry : entry_by t ≡ option_map (comes_under client server) locks.entry
  pub hall_sends : goes_by t.hall ≡ goes_under client server locks.hall
  pub entry_sends : option_map goes_by t.entry ≡ option_map (goes_under client server) locks.entry

-- it is known that the stream is sealed
pub record StandsTrying (c : ServerSealOf) (t : TrialOf) (came handed : List ℕ) : Type 0 where
  pub locks : DeskKeys
  pub client : List ℕ
  pub stream : List ℕ
  pub doors : c.doors ≡ Locked locks
  pub prefaced : IsPrefaced came client stream
  pub keys : IsOfLocks locks client c.random t
  pub tries : Tries stream handed t

-- or that it is not
abbrev pub StandsPassing : ServerSealOf → Option Caller → List ℕ → List ℕ → Type 0
StandsPassing c (Some Anyone) came handed = (c.doors ≡ Open) × (handed ≡ came)
StandsPassing c (Some Visitor) came handed =
    (locks : DeskKeys) × (c.doors ≡ Locked locks) × (locks.sheets ≡ true) × IsUnsealed came
    × (handed ≡ came)
StandsPassing c (Some (caller.Holder key)) came handed = ⊥
StandsPassing c None came handed =
    (locks : DeskKeys) × (c.doors ≡ Locked locks) × IsShort came × (c.held ≡ came) × (handed ≡ [])

abbrev pub StandsReading : ServerSealOf → Option TrialOf → List ℕ → List ℕ → Type 0
StandsReading c (Some t) came handed = StandsTrying c t came handed
StandsReading c None came handed = StandsPassing c c.passing came handed

-- an unsealed stream was refused
pub record StandsRefused (c : ServerSealOf) (came handed : List ℕ) : Type 0 where
  pub locks : DeskKeys
  pub doors : c.doors ≡ Locked locks
  pub shut : locks.sheets ≡ false
  pub unsealed : IsUnsealed came
  pub nothing : handed ≡ []
  pub nobody : caller_of c ≡ None

-- These bytes came so far, and these were handed on. After memory was refused nothing is said of
-- them: nothing more is handed on.
abbrev pub StandsAt : Option StreamRefusal → ServerSealOf → List ℕ → List ℕ → Type 0
StandsAt None c came handed = StandsReading c c.trial came handed
StandsAt (Some Unsealed) c came handed = StandsRefused c came handed
StandsAt (Some NoMemory) c came handed = ⊥

abbrev pub Stands : ServerSealOf → List ℕ → List ℕ → Type 0
Stands c came handed = StandsAt c.refusal c came handed

-- the desk is the same
pub record IsSameDesk (old new : ServerSealOf) : Type 0 where
  pub doors : new.doors ≡ old.doors
  pub random : new.random ≡ old.random

-- once it is known who calls, that stays
abbrev pub KeepsCaller : ServerSealOf → ServerSealOf → Type 0
KeepsCaller old new = IsSome (caller_of old) → caller_of new ≡ caller_of old

-- whatever came and was handed on before: with this piece these bytes more are
abbrev pub Receives : List ℕ → ServerSealOf → ServerSealOf → List ℕ → Type 0
Receives piece old new more =
    (came handed : List ℕ) → Stands old came handed → Stands new (came ++ piece) (handed ++ more)

-- ---- what is sent

-- the bytes themselves to a caller who is let pass, and nothing to nobody
abbrev pub SendsPlain : Option Caller → List ℕ → ServerSealOf → ServerSealOf → List ℕ → Type 0
SendsPlain None bytes old new sent = (sent ≡ []) × (new ≡ old)
SendsPlain (Some c) bytes old new sent = (sent ≡ bytes) × (new ≡ old)

-- and records of them to a holder of a key
abbrev pub SendsBy : Option TrialOf → List ℕ → ServerSealOf → ServerSealOf → List ℕ → Type 0
SendsBy None bytes old new sent = SendsPlain old.passing bytes old new sent
SendsBy (Some t) bytes old new sent =
    (u : TrialOf) × SealsFor bytes t u sent × (new ≡ record old { trial = Some u })

abbrev pub Sends : List ℕ → ServerSealOf → ServerSealOf → List ℕ → Type 0
Sends bytes old new sent = SendsBy old.trial bytes old new sent

-- why nothing is sent: to a caller who is let pass for want of memory alone, and to nobody never
abbrev pub FailsPlain : Option Caller → SealFault → Type 0
FailsPlain None e = ⊥
FailsPlain (Some c) e = e ≡ Starved

abbrev pub FailsBy : Option TrialOf → SealFault → List ℕ → ServerSealOf → Type 0
FailsBy None e bytes c = FailsPlain c.passing e
FailsBy (Some t) e bytes c = FailsFor e bytes t

abbrev pub Fails : SealFault → List ℕ → ServerSealOf → Type 0
Fails e bytes c = FailsBy c.trial e bytes c
