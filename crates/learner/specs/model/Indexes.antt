-- What a log keeps beside its entries: where each id is first, and the room for more.
use Rattle.std.specs.Prelude.{ℕ, ◌≡◌, ◌≤◌, ◌+◌, nat_eq, vec_len, vec_capacity}
use Rattle.std.specs.declared.hash.{FoldHasher.FoldHasher, BuildHasherDefault.BuildHasherDefault}
use Rattle.std.specs.{HashMap.get, HashMap.spare, HashMap.HashMap, Global.Vec}
use Rattle.acceptor.specs.declared.entry.Entry.{Entry}
use Rattle.learner.specs.Logs.{position_of}

pub record IsIndexed (entries : Vec Entry) (first : HashMap ℕ ℕ (BuildHasherDefault FoldHasher))
    (room : ℕ) : Type 0 where
  pub index : (id : ℕ) → get nat_eq first id ≡ position_of entries.items id
  pub most : vec_len entries + room ≤ 65536
  pub spare : room ≤ spare first
  pub capacity : vec_len entries + room ≤ vec_capacity entries
