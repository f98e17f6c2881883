-- The desk that is opened on its files (the project's own).
use Rattle.std.specs.Prelude.{◌≡◌, false, ℕ, List, []}
use Rattle.acceptor.specs.Storing.{first_stored}
use Rattle.acceptor.specs.declared.{entry.Entry.Entry, stored.Stored.Stored}
use Rattle.sqlite.specs.Recovery.{Image}
use Rattle.desk_file.specs.{Files.HeldAs, Files.HeldBy, Files.StandsIn, Uses.IsPutInUse}
use Rattle.replica.specs.{Nodes.NodeValue, roles.Opening.opened}
use Rattle.store.specs.declared.{home.Home.Home, keeper.Keeper.Ghosts}
use Rattle.hall_file.specs.declared.service.StoreOrigin.{StoreOrigin}
use Rattle.sqlite_disk.specs.declared.Disk as disk
use Rattle.hall_file.specs.declared.service.StoreOrigin.TheVariants as making

-- What the two files held of a desk that is opened with this state and this log. As it is needed:
-- its tables had them, or there was no table yet and they are the first ones. Where a store has to
-- be there: its tables had them. Where one was made before the file was put into use: its tables
-- had them, and they are the first ones.
abbrev pub HeldFor : StoreOrigin → Image → Home → Stored → List Entry → Type 0
HeldFor making.AsNeeded files home s log = HeldBy files home s log
HeldFor making.Open files home s log = HeldAs files (StandsIn home s log)
HeldFor making.New files home s log =
    HeldAs files (StandsIn home s log) × (s ≡ first_stored) × (log ≡ [])

-- how a file is opened that is there: one that was made, as one that has to be there
abbrev pub opening_of : StoreOrigin → StoreOrigin
opening_of making.AsNeeded = making.AsNeeded
opening_of making.Open = making.Open
opening_of making.New = making.Open

-- If the files gave back what was written to them, the keeper of this desk keeps the state and the
-- log that they held.
pub record KeepsFor {K : Type 0} (k : Ghosts K) (how : StoreOrigin) (files : Image) (home : Home)
    (keeper : K) : Type 0 where
  pub place : k.home_of keeper ≡ home
  pub settled : k.is_settled keeper
  pub held : k.is_honest keeper
      → (s : Stored) × (log : List Entry) × k.keeps keeper s log × HeldFor how files home s log

-- A keeper of this desk, which kept what the files held so, was closed with all in its file, and
-- then the file was put into use: this many uses of it were begun with this one.
abbrev pub IsUsedFor : {D K : Type 0} → disk.Ghosts D → Ghosts K → StoreOrigin → Image → Home → ℕ
    → Type 0
IsUsedFor {D} {K} g k how files home uses =
    (kept : K) × KeepsFor k how files home kept × IsPutInUse g k kept uses

-- The desk that is opened on two files that held this: it is up and idle, nothing waits in its
-- queue, and, where the files have given back what was written to them, its state and its log are
-- those that they held.
pub record IsOpenedOn {K : Type 0} (k : Ghosts K) (how : StoreOrigin) (files : Image) (home : Home)
    (node : NodeValue K) : Type 0 where
  pub up : node.is_down ≡ false
  pub idle : node.desk ≡ opened node.desk.stored node.desk.log
  pub place : k.home_of node.keeper ≡ home
  pub held : k.is_honest node.keeper → HeldFor how files home node.desk.stored node.desk.log
