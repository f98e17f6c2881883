-- What a member of a table is, as a look-up gives it.
use Rattle.std.proofs.Common.{◌≡◌, ℕ, List, Option, Some, None, option_map, Bor, Bool, refl, sym}
use Rattle.std.proofs.Common.{◌∙◌, is_some, not, true, false}
use Rattle.std.proofs.lemmas.Option.{same_Some}
use Rattle.toml.specs.Data.{Data, Members, get_member}
use Rattle.toml.specs.{View.view, declared.value.Value.Value}
use Rattle.hall_file.specs.Lines.{IsDocument, IsWithout}

-- nothing is seen of a look-up exactly where it finds nothing
pub none_seen : (r : Option (Bor Value)) (missing : Bool) (o : Option Data)
    → option_map (λ x. view x.now) r ≡ o → is_some r ≡ not missing → missing ≡ true → o ≡ None
none_seen None missing o e h t = sym e
none_seen (Some x) missing o e h t = absurd (cc)

pub none_found : (r : Option (Bor Value)) (missing : Bool) (o : Option Data)
    → option_map (λ x. view x.now) r ≡ o → is_some r ≡ not missing → o ≡ None → missing ≡ true
none_found None true o e h t = refl
none_found None false o e h t = absurd (cc)
none_found (Some x) missing o e h t = absurd (cc)

-- a document has one list of members
pub lacks : (name text : List ℕ) (ms : Members) → IsDocument text ms → IsWithout name text
    → get_member name ms ≡ None
lacks name text ms doc (others, other, none) =
    let same : ms ≡ others = same_Some _ _ (sym doc.value ∙ other.value) in rw same none
