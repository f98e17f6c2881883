-- A sealed stream at a desk that has one key or two (the project's own).
use Rattle.std.specs.Prelude.{◌≡◌, ◌≢◌, ℕ, ◌&&◌, Bool, true, false, List, [], Option, None, Some}
use Rattle.std.specs.{Prelude.IfSome, Prelude.IsSome, Prelude.option_map, Option.option_or}
use Rattle.seal.specs.declared.channel.{Channel.Channel, Direction.TheVariants.ToServer}
use Rattle.seal.specs.declared.fault.{StreamFault.StreamFault, SealFault.SealFault}
use Rattle.seal.specs.{Records.key_of, Sealing.Sealing}
use Rattle.seal.specs.Streams.{HandsOn, Reads, begun}
use Rattle.sealed.specs.declared.callers.{Holder.Holder, DeskKeys.DeskKeys}
use Rattle.sealed.specs.declared.callers.Holder.TheVariants.{Hall, Entry}
use Rattle.sealed.specs.Tunnels.{FailsAll, SealsAll, TunnelOf, fresh_tunnel}

-- ---- what is handed on of a stream, by its bytes alone

-- these bytes are handed on under a key, as far as the records fit
abbrev pub Hands : Channel → List ℕ → List ℕ → Type 0
Hands c stream handed = (fault : Option StreamFault) × HandsOn c stream handed fault

-- what is handed on of a stream, and whose key it is: the hall's, where its first record fits under
-- it; else the entry key, where it fits under that; and nobody's until a record fits
abbrev pub HandsBy : Option Holder → Channel → Option Channel → List ℕ → List ℕ → Type 0
HandsBy None hall entry stream handed =
    (handed ≡ []) × Hands hall stream [] × IfSome entry (λ e. Hands e stream [])
HandsBy (Some Hall) hall entry stream handed = (handed ≢ []) × Hands hall stream handed
HandsBy (Some Entry) hall entry stream handed =
    (e : Channel) × (entry ≡ Some e) × (handed ≢ []) × Hands e stream handed × Hands hall stream []

-- ---- a trial

-- the connection under the hall's key, that under the entry key, and which of them it is
pub record TrialOf : Type 0 where
  pub hall : TunnelOf
  pub entry : Option TunnelOf
  pub holder : Option Holder

-- the connection under one of the desk's keys, where client and server sent these random bytes
abbrev pub under : List ℕ → List ℕ → List ℕ → TunnelOf
under client server key = fresh_tunnel (key_of key client server) ToServer

abbrev pub entry_of : Option (List ℕ) → List ℕ → List ℕ → Option TunnelOf
entry_of entry client server = option_map (under client server) entry

abbrev pub fresh_trial : DeskKeys → List ℕ → List ℕ → TrialOf
fresh_trial locks client server = record {
  hall = under client server locks.hall;
  entry = entry_of locks.entry client server;
  holder = None;
}

-- the channels of what comes under each key
abbrev pub comes_by : TunnelOf → Channel
comes_by t = t.opener.channel

abbrev pub entry_by : TrialOf → Option Channel
entry_by t = option_map comes_by t.entry

-- the channels of what goes, and the sealers
abbrev pub goes_by : TunnelOf → Channel
goes_by t = t.sealer.channel

abbrev pub sends_by : TunnelOf → Sealing
sends_by t = t.sealer

-- the connection has read this stream, from its beginning, and handed on these bytes
abbrev pub ReadsAll : TunnelOf → List ℕ → List ℕ → Type 0
ReadsAll t stream handed = Reads t.opener.channel 0 stream handed t.opener

-- a trial has read this stream, and handed on these bytes
abbrev pub TriesAs : Option Holder → List ℕ → List ℕ → TrialOf → Type 0
TriesAs None stream handed t =
    (handed ≡ []) × ReadsAll t.hall stream [] × IfSome t.entry (λ e. ReadsAll e stream [])
TriesAs (Some Hall) stream handed t = (handed ≢ []) × ReadsAll t.hall stream handed
TriesAs (Some Entry) stream handed t =
    (e : TunnelOf) × (t.entry ≡ Some e) × (handed ≢ []) × ReadsAll e stream handed
    × ReadsAll t.hall stream [] × (t.hall.opener.fault ≢ None)

abbrev pub Tries : List ℕ → List ℕ → TrialOf → Type 0
Tries stream handed t = TriesAs t.holder stream handed t

-- under the same keys, and of the same holder, once it is known; and what is sent goes on as before
pub record IsSameTrial (old new : TrialOf) : Type 0 where
  pub hall : comes_by new.hall ≡ comes_by old.hall
  pub entry : entry_by new ≡ entry_by old
  pub hall_sends : new.hall.sealer ≡ old.hall.sealer
  pub entry_sends : option_map sends_by new.entry ≡ option_map sends_by old.entry
  pub stays : IsSome old.holder → new.holder ≡ old.holder

-- ---- whether nothing more is handed on

abbrev pub is_broken : Option StreamFault → Bool
is_broken None = false
is_broken (Some e) = true

abbrev pub entry_over : Option TunnelOf → Bool
entry_over None = true
entry_over (Some e) = is_broken e.opener.fault

abbrev pub over_as : Option Holder → TrialOf → Bool
over_as None t = is_broken t.hall.opener.fault && entry_over t.entry
over_as (Some Hall) t = is_broken t.hall.opener.fault
over_as (Some Entry) t = entry_over t.entry

abbrev pub over : TrialOf → Bool
over t = over_as t.holder t

-- which record has begun to come and is not whole, under the stream's key, or under one of both
abbrev pub entry_begun : Option TunnelOf → Option ℕ
entry_begun None = None
entry_begun (Some e) = begun e.opener

abbrev pub begun_as : Option Holder → TrialOf → Option ℕ
begun_as None t = option_or (begun t.hall.opener) (entry_begun t.entry)
begun_as (Some Hall) t = begun t.hall.opener
begun_as (Some Entry) t = entry_begun t.entry

abbrev pub begun_in : TrialOf → Option ℕ
begun_in t = begun_as t.holder t

-- ---- what is sent

-- the bytes were sealed over a connection under one key, which is now so
pub record SealsOver (bytes : List ℕ) (old new : TunnelOf) (sent : List ℕ) : Type 0 where
  pub sealed : SealsAll bytes old.sealer new.sealer sent
  pub opener : new.opener ≡ old.opener

-- over that under the entry key, where there is one
abbrev pub SealsEntry : Option TunnelOf → List ℕ → TrialOf → TrialOf → List ℕ → Type 0
SealsEntry None bytes old new sent = (sent ≡ []) × (new ≡ old)
SealsEntry (Some e) bytes old new sent =
    (f : TunnelOf) × SealsOver bytes e f sent × (new ≡ record old { entry = Some f })

-- bytes are sealed under the key that was chosen, and nothing is sent before
abbrev pub SealsAs : Option Holder → List ℕ → TrialOf → TrialOf → List ℕ → Type 0
SealsAs None bytes old new sent = (sent ≡ []) × (new ≡ old)
SealsAs (Some Hall) bytes old new sent =
    (f : TunnelOf) × SealsOver bytes old.hall f sent × (new ≡ record old { hall = f })
SealsAs (Some Entry) bytes old new sent = SealsEntry old.entry bytes old new sent

abbrev pub SealsFor : List ℕ → TrialOf → TrialOf → List ℕ → Type 0
SealsFor bytes old new sent = SealsAs old.holder bytes old new sent

-- and why they can't be: nothing fails as long as no key is chosen, since nothing is sealed
abbrev pub FailsEntry : Option TunnelOf → SealFault → List ℕ → Type 0
FailsEntry None e bytes = ⊥
FailsEntry (Some t) e bytes = FailsAll e bytes t.sealer

abbrev pub FailsAs : Option Holder → SealFault → List ℕ → TrialOf → Type 0
FailsAs None e bytes t = ⊥
FailsAs (Some Hall) e bytes t = FailsAll e bytes t.hall.sealer
FailsAs (Some Entry) e bytes t = FailsEntry t.entry e bytes

abbrev pub FailsFor : SealFault → List ℕ → TrialOf → Type 0
FailsFor e bytes t = FailsAs t.holder e bytes t
