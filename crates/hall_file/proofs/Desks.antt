-- The list of desks, as far as it was read.
use Rattle.std.proofs.Common.{◌≡◌, ℕ, ◌<◌, ◌+◌, suc, List, [], ◌∷◌, ◌++◌, map, take, drop, length}
use Rattle.std.proofs.Common.{get_or, refl, ap, ◌∙◌, IsTrue, false}
use Rattle.std.specs.{List.AllByRecursion, List.list_any, Prelude.bytes_eq}
use Rattle.std.proofs.lemmas.{Cmp.nat_list_eq_equiv, List.take_more, Map.Keys.IsDistinct-push}
use Rattle.std.proofs.{lemmas.List.map-append, lemmas.List.length-map, Math.Seq.split_at}
use Rattle.toml.specs.{Data.Data, Data.string, View.view, declared.value.Value.Value}
use Rattle.hall_file.specs.Addresses.{IsAddress, AreAddresses, is_count}
use Rattle.hall_file.specs.Members.{list_of, HasItem, FailsDesks}
use Rattle.hall_file.specs.{Next.IsNext, Next.FailsNext, declared.fault.DesksFault.DesksFault}
use Rattle.hall_file.specs.declared.fault.DesksFault.TheVariants.{NotList, BadCount, NotText}
use Rattle.hall_file.specs.declared.fault.DesksFault.TheVariants.{NotAddress, Twice}

-- the first items are these addresses
pub record AreRead (items : List Value) (i : ℕ) (front : List (List ℕ)) : Type 0 where
  pub same : map view (take i items) ≡ map string front
  pub addresses : AreAddresses front

pub none_read : (items : List Value) → AreRead items 0 []
unfolding Rattle.std.specs.List.IsDistinct
none_read items = record { same = refl; addresses = record { each = tt; apart = tt } }

all_push : (P : List ℕ → Type 0) (xs : List (List ℕ)) (x : List ℕ) → AllByRecursion P xs → P x
    → AllByRecursion P (xs ++ x ∷ [])
all_push P [] x all here = (here, tt)
all_push P (y ∷ ys) x all here = (all.0, all_push P ys x all.1 here)

pub addresses_push : (front : List (List ℕ)) (text : List ℕ) → AreAddresses front → IsAddress text
    → list_any (bytes_eq text) front ≡ false → AreAddresses (front ++ text ∷ [])
addresses_push front text good address fresh = record {
  each = all_push IsAddress front text good.each address;
  apart = IsDistinct-push nat_list_eq_equiv front text good.apart fresh;
}

-- one more item
pub read_more : (items : List Value) (i : ℕ) (front : List (List ℕ)) (item : Value) (text : List ℕ)
    → AreRead items i front → i < length items → item ≡ get_or items i item
    → IsNext front (view item) text → AreRead items (i + 1) (front ++ text ∷ [])
read_more items i front item text read within at next = record {
  same = rw (
    take_more items i item within,
    map-append view (take i items) _,
    map-append string front _,
    ← at,
    read.same,
    next.value,
  ) refl;
  addresses = addresses_push front text read.addresses next.address next.fresh;
}

parted : (items : List Value) (i : ℕ) (front : List (List ℕ)) (item : Value)
    → AreRead items i front → i < length items → item ≡ get_or items i item
    → map view items ≡ map string front ++ view item ∷ map view (drop (suc i) items)
parted items i front item read within at =
    ap (map view) (split_at items i item within) ∙ map-append view (take i items) _
    ∙ rw (read.same, ← at) refl

has_item : (d : Data) (items : List Value) (i : ℕ) (front : List (List ℕ)) (item : Value) (k : ℕ)
    → d ≡ list_of (map view items) → IsTrue (is_count (length items))
    → AreRead items i front → i < length items → item ≡ get_or items i item → k ≡ length front + 1
    → HasItem d front (view item) k
has_item d items i front item k value count read within at desk =
    let e = parted items i front item read within at in
    record {
      rest = map view (drop (suc i) items);
      value = value ∙ ap list_of e;
      count = rw (← e, length-map items view) count;
      addresses = read.addresses;
      desk = desk;
    }

-- an item that cannot be there
pub fails_here : (d : Data) (items : List Value) (i : ℕ) (front : List (List ℕ)) (item : Value)
    (fault : DesksFault) → d ≡ list_of (map view items) → IsTrue (is_count (length items))
    → AreRead items i front → i < length items → item ≡ get_or items i item
    → FailsNext front (view item) fault → FailsDesks d fault
fails_here d items i front item NotList value count read within at h = absurd h
fails_here d items i front item (BadCount n) value count read within at h = absurd h
fails_here d items i front item (NotText k) value count read within at h =
    (front, view item, has_item d items i front item k value count read within at h.0, h.1)
fails_here d items i front item (NotAddress k) value count read within at h =
    let (desk, text, is, wrong) = h in
    (front, text, rw is at (has_item d items i front item k value count read within at desk), wrong)
fails_here d items i front item (Twice k) value count read within at h =
    let (desk, text, is, address, found) = h in (
      front,
      text,
      rw is at (has_item d items i front item k value count read within at desk),
      address,
      found,
    )
