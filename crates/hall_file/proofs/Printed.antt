-- The text of a hall's file, read back.
use Rattle.std.proofs.Common.{◌≡◌, ◌≢◌, ℕ, ◌≤◌, List, [], ◌∷◌, length, map, refl, arith, IsTrue}
use Rattle.std.proofs.Common.{pos, le-leb, Option, None, Some}
use Rattle.toml.specs.Data.{string, integer, items_depth, members_depth}
use Rattle.toml.specs.View.{items_of}
use Rattle.hall_file.specs.{Addresses.AreAddresses, Addresses.is_count, Lines.IsDocument}
use Rattle.hall_file.specs.Files.{members_of, most_bytes, SaysHall}
use Rattle.hall_file.specs.Members.{list_of, last_hall, unknown_name, SaysKey}

texts_depth : (desks : List (List ℕ)) → items_depth (items_of (map string desks)) ≡ 0
texts_depth [] = refl
texts_depth (d ∷ ds) = rw (texts_depth ds) refl

-- the members of a hall's file nest no deeper than TOML is read
pub shallow : (hall : ℕ) (desks : List (List ℕ)) (key : Option (List ℕ))
    → members_depth (members_of hall desks key) ≤ 80
shallow hall desks None = rw (texts_depth desks) (omega arith)
shallow hall desks (Some path) = rw (texts_depth desks) (omega arith)

known : (hall : ℕ) (desks : List (List ℕ)) (key : Option (List ℕ))
    → unknown_name (members_of hall desks key) ≡ None
known hall desks None = refl
known hall desks (Some path) = refl

says_key : (hall : ℕ) (desks : List (List ℕ)) (key : Option (List ℕ)) → key ≢ Some []
    → SaysKey (members_of hall desks key) key
says_key hall desks None some = refl
says_key hall desks (Some []) some = absurd (some refl)
says_key hall desks (Some (b ∷ path)) some = (string (b ∷ path), refl, refl)

-- a document that has these members says this hall
pub reads_printed : (bytes : List ℕ) (hall : ℕ) (desks : List (List ℕ)) (key : Option (List ℕ))
    → length bytes ≤ most_bytes → IsDocument bytes (members_of hall desks key) → hall ≤ last_hall
    → IsTrue (is_count (length desks)) → AreAddresses desks → key ≢ Some []
    → SaysHall bytes hall desks key
reads_printed bytes hall desks key short doc range count addresses some = record {
  members = members_of hall desks key;
  has_hall = record {
    known = record {
      opens = record { short = short; document = doc };
      known = known hall desks key;
    };
    value = integer (pos hall);
    found = refl;
    says = rw (le-leb hall last_hall range) refl;
  };
  lists = (
    list_of (map string desks),
    refl,
    record { value = refl; count = count; addresses = addresses },
  );
  says = says_key hall desks key some;
}
