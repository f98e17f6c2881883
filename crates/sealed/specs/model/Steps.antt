-- The steps at the front of a stream.
use Rattle.std.specs.Prelude.{◌≡◌, ℕ, ◌-◌, Bool, true, false, List, [], ◌++◌, length, min, take}
use Rattle.std.specs.Prelude.{Some}
use Rattle.seal.specs.Records.{preface_of}
use Rattle.sealed.specs.declared.callers.{Caller.TheVariants.Visitor, Access.Access}
use Rattle.sealed.specs.declared.callers.Access.TheVariants.{Open, Locked}
use Rattle.sealed.specs.ServerSeals.{ServerSealOf, IsOfLocks}
use Rattle.sealed.specs.{Trials.TrialOf, Trials.Tries, declared.front.StreamFront.StreamFront}
use Rattle.sealed.specs.declared.front.StreamFront.TheVariants.{Short, Unsealed, Sealed}
use Rattle.sealed.specs.Fronts.{IsShort, IsUnsealed}
use Rattle.sealed.specs.declared.callers.StreamRefusal.TheVariants as refusal

-- bytes of the piece were put after the held ones, up to 20
pub record IsHeld (piece old new : List ℕ) (added : ℕ) : Type 0 where
  pub counted : added ≡ min (20 - length old) (length piece)
  pub held : new ≡ old ++ take added piece

-- what the first bytes tell
abbrev pub IsFront : StreamFront → List ℕ → Type 0
IsFront Short bytes = IsShort bytes
IsFront Unsealed bytes = IsUnsealed bytes
IsFront (Sealed random) bytes = (length random ≡ 16) × (bytes ≡ preface_of random)

-- ---- a desk's side, where the first bytes that it holds tell what the stream is

-- a stream that is not sealed is let pass with all its bytes, or refused
abbrev pub PassesAs : Bool → List ℕ → ServerSealOf → ServerSealOf → List ℕ → Type 0
PassesAs true rest old new more =
    (more ≡ old.held ++ rest) × (new ≡ record old { passing = Some Visitor })
PassesAs false rest old new more =
    (more ≡ []) × (new ≡ record old { refusal = Some refusal.Unsealed })

abbrev pub shows : Access → Bool
shows Open = true
shows (Locked locks) = locks.sheets

abbrev pub Passes : List ℕ → ServerSealOf → ServerSealOf → List ℕ → Type 0
Passes rest old new more = PassesAs (shows old.doors) rest old new more

-- the keys are tried, and this is the stream so far
abbrev pub OpensAs : Access → List ℕ → List ℕ → ServerSealOf → ServerSealOf → List ℕ → Type 0
OpensAs Open client rest old new more = Unit {0}
OpensAs (Locked locks) client rest old new more =
    (t : TrialOf) × (new ≡ record old { trial = Some t }) × IsOfLocks locks client old.random t
    × Tries rest more t

abbrev pub OpensAfter : List ℕ → List ℕ → ServerSealOf → ServerSealOf → List ℕ → Type 0
OpensAfter client rest old new more = OpensAs old.doors client rest old new more
