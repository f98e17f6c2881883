-- The way of a message: pushed at a link of a desk, over one of the link's connections under the
-- hall's key, and read at the desk that it is for (the project's own).
use Rattle.std.specs.Prelude.{◌≡◌, ◌⊎◌, ℕ, false, List, [], ◌∷◌, ◌++◌, Some, IsTrue, map}
use Rattle.std.specs.List.{AllByRecursion}
use Rattle.connections.specs.Connections.{Served, begun_of}
use Rattle.guarded.specs.LockedLaw.{delivers}
use Rattle.links.specs.Histories.{History, Leads, pushed, written}
use Rattle.links.specs.Links.{LinkState}
use Rattle.multiplex.specs.EachClient.{IsServedBehind}
use Rattle.seal.specs.Records.{preface_of}
use Rattle.seal_laws.specs.Keys.{AreRandom}
use Rattle.sealed.specs.declared.callers.{Access.TheVariants.Locked, DeskKeys.DeskKeys}
use Rattle.sealed.specs.ends.{ClientStreams.ClientStreamOf, Laws.IsCall}
use Rattle.serving.specs.Connection.{asked, frames_of}
use Rattle.store.specs.declared.home.Home.{Home}
use Rattle.wire.specs.{Ranges.IsFrame, Spelling.spelling, declared.frame.Frame.Frame}

-- A link was pushed these frames. What it wrote on its connection with this number was given to the
-- caller's end of it, under the hall's key, and what came to the other desk is a front part of what
-- that sent. The other desk has no other key of the hall.
pub record IsWay (locks : DeskKeys) (server came : List ℕ) (frames : List Frame) : Type 0 where
  pub one_key : locks.old ≡ false
  pub history : History
  pub link : LinkState
  pub leads : Leads history link
  pub pushes : pushed history ≡ map spelling frames
  pub each : AllByRecursion IsFrame frames
  pub number : ℕ
  pub caller : ClientStreamOf
  pub client : List ℕ
  pub random : AreRandom client server
  pub heard : List ℕ
  pub back : List ℕ
  pub out : List ℕ
  pub call : IsCall (Some locks.hall) client caller (preface_of server ++ back) heard
      (written number history) out
  pub lost : List ℕ
  pub comes : out ≡ came ++ lost

-- these frames are among those, in their order
abbrev pub AreOf : List Frame → List Frame → Type 0
AreOf [] fs = Unit {0}
AreOf (x ∷ xs) [] = ⊥
AreOf (x ∷ xs) (f ∷ fs) = ((x ≡ f) × AreOf xs fs) ⊎ AreOf (x ∷ xs) fs

-- of the frames that were pushed some went over the connection, in order, and the first of them are
-- those before this one, and this one
pub record ComesAsPushed (frames before : List Frame) (one : Frame) : Type 0 where
  pub went : List Frame
  pub order : AreOf went frames
  pub more : List Frame
  pub first : went ≡ before ++ one ∷ more

-- Each frame that delivers a message at the other desk is one that was pushed, and so are those
-- that were begun before it, in order: none is lost between them, doubled or changed.
abbrev pub MessagesComeAsPushed : Type 0
MessagesComeAsPushed =
    (home : Home) (locks : DeskKeys) (server came sent : List ℕ) (frames : List Frame)
    (earlier later : List Served) (one : Served) → IsWay locks server came frames
    → IsServedBehind home (Locked locks) server came sent (earlier ++ one ∷ later)
    → IsTrue (delivers (asked home one.one))
    → ComesAsPushed frames (frames_of (begun_of earlier)) one.one.frame
