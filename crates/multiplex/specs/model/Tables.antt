-- Places in the list of guests connections.
use Rattle.std.specs.Prelude.{◌≡◌, ◌≤◌, ◌<◌, ℕ, Bool, ◌-◌, ◌==◌, ltb, List, length, slice_index_or}
use Rattle.std.specs.{Prelude.Option, Prelude.None, Prelude.Some, Prelude.take, List.AllByRecursion}
use Rattle.guarded.specs.LockedConnections.{begun}
use Rattle.store.specs.declared.home.Home.{Home}
use Rattle.wire.specs.{Ranges.IsDifference, declared.values.Version.Version}
use Rattle.multiplex.specs.{Silence.waited_for, declared.ends.EndReason.EndReason}
use Rattle.multiplex.specs.declared.table.{Guest.Guest, ClientTable.ClientTable}
use Rattle.multiplex.specs.declared.ends.EndReason.TheVariants as why

abbrev pub has_number : ℕ → Guest → Bool
has_number k g = g.number == k

abbrev pub is_silent : ℕ → ℕ → Guest → Bool
is_silent patience time g = ltb (waited_for patience (begun g.talk)) (time - g.ready)

-- none was ready longer ago than the one at this place
pub record IsLongestAt (guests : List Guest) (i : ℕ) : Type 0 where
  pub within : i < length guests
  pub first : (d : Guest)
      → AllByRecursion (λ (o : Guest). (slice_index_or guests i d).ready ≤ o.ready) guests

-- a connection of this desk between two visits
pub record IsKept (place : Home) (version : Version) (g : Guest) : Type 0 where
  pub home : g.talk.talk.home ≡ place
  pub wire : g.talk.talk.wire ≡ version
  pub known : AllByRecursion (λ (len : ℕ). len ≤ 65536) g.notes.known

-- all are, and how another desk differs is in range
pub record AreKept (home : Home) (wire : Version) (t : ClientTable) : Type 0 where
  pub guests : AllByRecursion (IsKept home wire) t.guests.items
  pub differs : IsDifference t.differs

-- all that is kept stays so, whatever desk it is
abbrev pub KeepsKept : Home → Version → ClientTable → ClientTable → Type 0
KeepsKept home wire old new = AreKept home wire old → AreKept home wire new

abbrev pub KeepsAll : ClientTable → ClientTable → Type 0
KeepsAll old new = (home : Home) (wire : Version) → KeepsKept home wire old new

-- which of the first this many was ready longest ago, if there is one, and when it was
abbrev pub IsEarliest : Option ℕ → ℕ → ℕ → List Guest → Type 0
IsEarliest None earliest count guests = count ≡ 0
IsEarliest (Some i) earliest count guests =
    (i < count) × ((d : Guest) → (slice_index_or guests i d).ready ≡ earliest)
    × AllByRecursion (λ (o : Guest). earliest ≤ o.ready) (take count guests)

-- why one is let go so that another can come
abbrev pub MakesRoom : EndReason → List Guest → Type 0
MakesRoom why.Crowded guests = 512 ≤ length guests
MakesRoom why.NoSocket guests = Unit {0}
MakesRoom _ guests = ⊥
