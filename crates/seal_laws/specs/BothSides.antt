-- The two sides of a sealed connection: a caller that has one of a desk's keys, and the desk (the
-- project's own).
use Rattle.std.specs.Prelude.{◌≡◌, ◌≢◌, ℕ, false, List, [], ◌∷◌, ◌++◌, Some, None, replicate}
use Rattle.seal.specs.{Records.IsBody, Records.preface_of, Streams.BeginsRecord}
use Rattle.sealed.specs.declared.callers.{Access.TheVariants.Locked, Holder.Holder}
use Rattle.sealed.specs.declared.callers.Holder.TheVariants.{Hall, Entry}
use Rattle.sealed.specs.{declared.callers.DeskKeys.DeskKeys, Admitting.comes_under}
use Rattle.sealed.specs.ServerSeals.{ServerSealOf, Stands, caller_of, held_by}
use Rattle.sealed.specs.{Sent.HasSent, Sent.key_for, ends.Laws.IsCall}
use Rattle.sealed.specs.ends.ClientStreams.{ClientStreamOf, trouble_of}
use Rattle.seal_laws.specs.Keys.{AreRandom}

-- under the entry key: what the caller sent after its preface does not begin with a record that
-- fits under the hall's key too
abbrev pub IsNotTheHalls : Holder → DeskKeys → List ℕ → List ℕ → List ℕ → Type 0
IsNotTheHalls Hall locks client server sent = Unit {0}
IsNotTheHalls Entry locks client server sent =
    (stream : List ℕ) → sent ≡ preface_of client ++ stream
    → ¬ BeginsRecord (comes_under client server locks.hall) 0 stream

-- a caller and a desk, as the calls of each side have led to it: all that the caller sent came to
-- the desk, and the desk's preface and all that it sent came to the caller
pub record AreConnected (caller : ClientStreamOf) (desk : ServerSealOf)
    (asked handed answered heard : List ℕ) : Type 0 where
  pub locks : DeskKeys
  pub who : Holder
  pub key : List ℕ
  pub client : List ℕ
  pub server : List ℕ
  pub sent : List ℕ
  pub back : List ℕ
  pub held : key_for locks who ≡ Some key
  pub random : AreRandom client server
  -- the caller was given what it asks, and handed on what it heard
  pub calls : IsCall (Some key) client caller (preface_of server ++ back) heard asked sent
  pub all_sent : caller.output ≡ []
  -- the desk handed on what came, and was given its answers
  pub doors : desk.doors ≡ Locked locks
  pub desk_random : desk.random ≡ server
  pub stands : Stands desk sent handed
  pub gone : HasSent desk answered back
  pub apart : IsNotTheHalls who locks client server sent

-- Each side is handed on just what the other was given. The caller finds nothing wrong, and the
-- desk knows whose key it is, once something was asked.
pub record HearEachOther (caller : ClientStreamOf) (desk : ServerSealOf) (who : Holder)
    (asked handed answered heard : List ℕ) : Type 0 where
  pub questions : handed ≡ asked
  pub answers : heard ≡ answered
  pub fine : trouble_of caller ≡ None
  pub known : asked ≢ [] → caller_of desk ≡ Some (held_by who)

abbrev pub BothSidesHear : Type 0
BothSidesHear =
    (caller : ClientStreamOf) (desk : ServerSealOf) (asked handed answered heard : List ℕ)
    → (m : AreConnected caller desk asked handed answered heard)
    → HearEachOther caller desk m.who asked handed answered heard

-- whatever one body is asked and another answered, there is such a connection under the hall's key
abbrev pub SidesAreConnected : Type 0
SidesAreConnected =
    (locks : DeskKeys) (client server question answer : List ℕ) → AreRandom client server
    → IsBody 0 question → IsBody 0 answer → (caller : ClientStreamOf) × (desk : ServerSealOf)
    × AreConnected caller desk question question answer answer

-- a desk with two keys, and the random bytes of a connection
abbrev pub two_locks : DeskKeys
two_locks = record {
  hall = replicate 32 1;
  entry = Some (replicate 32 2);
  old = false;
  sheets = false;
}

abbrev pub threes : List ℕ
threes = replicate 16 3

abbrev pub fours : List ℕ
fours = replicate 16 4

-- and there is one under the entry key, over which one byte is asked, whatever is answered
abbrev pub EntryIsConnected : Type 0
EntryIsConnected =
    (answer : List ℕ) → IsBody 0 answer → (caller : ClientStreamOf) × (desk : ServerSealOf)
    × (m : AreConnected caller desk (7 ∷ []) (7 ∷ []) answer answer) × (m.who ≡ Entry)
