-- A person found by where each number is first.
use Rattle.std.proofs.Common.{◌≡◌, ◌<◌, ◌+◌, ◌++◌, ◌∷◌, ℕ, suc, List, [], length, map, get_or, take}
use Rattle.std.proofs.Common.{take-suc, cond, refl, ap, sym, ◌∙◌, arith, add-one}
use Rattle.std.proofs.Common.{Option, None, Some, Bool, true, false, codes, subst, unwrap_or}
use Rattle.std.specs.Prelude.{◌&&◌, find, if◌then◌else◌, option_map, slice_get}
use Rattle.std.specs.{List.position, Option.option_and_then, Option.option_or}
use Rattle.std.proofs.lemmas.List.{length-map, length-take-le, map-append, map-id}
use Rattle.serde_json.specs.Data.{Data}
use Rattle.serde_json.specs.View.{view}
use Rattle.serde_json.specs.declared.value.Value.{Value}
use Rattle.wcif.specs.Persons.{has_number, is_accepted, is_number, number_of}
use Rattle.competition_file.specs.{Files.data_of, Files.persons, Kept.IsKept, Kept.kept_of}
use Rattle.competition_file.specs.Groups.{seat_among, seat_of}
use Rattle.competition_file.specs.Numbers.{own_number, text_of}
use Rattle.competition_file.specs.declared.groups.{ActivitySeat.ActivitySeat}
use Rattle.competition_file.specs.declared.groups.{RoundGroup.RoundGroup}
use Rattle.competition_file.specs.declared.kept.KeptPersons.{KeptPersons}
use Rattle.competition_file.proofs.Places.{alike_at, pushed}

if_accepted : (n : ℕ) (b : Bool) (o : Option ℕ)
    → (b && is_number n o) ≡ is_number n (if b then o else None)
if_accepted n true o = refl
if_accepted n false o = refl

pub has_own : (n : ℕ) (p : Data) → has_number n p ≡ is_number n (own_number p)
unfolding own_number
has_own n p = if_accepted n (is_accepted p) (number_of p)

-- the persons up to the next place
one_more : (vs : List Value) (i : ℕ) (v : Value) → i < length vs → v ≡ get_or vs i v
    → map view (take (i + 1) vs) ≡ map view (take i vs) ++ view v ∷ []
one_more vs i v within is =
    ap (λ (k : ℕ). map view (take k vs)) (add-one i)
    ∙ ap (map view) (take-suc vs i v within)
    ∙ map-append view (take i vs) (get_or vs i v ∷ [])
    ∙ ap (λ w. map view (take i vs) ++ view w ∷ []) (sym is)

so_far : (vs : List Value) (i : ℕ) → i < length vs → length (map view (take i vs)) ≡ i
so_far vs i within = length-map (take i vs) view ∙ length-take-le i vs (omega (arith, within))

-- where a number is first among the persons up to the next place
pub next_first : (n : ℕ) (vs : List Value) (i : ℕ) (v : Value) (own : Option ℕ)
    → i < length vs → v ≡ get_or vs i v → own ≡ own_number (view v)
    → option_or (position (has_number n) (map view (take i vs)))
    (if is_number n own then Some i else None)
    ≡ position (has_number n) (map view (take (i + 1) vs))
next_first n vs i v own within is owns =
    sym
    (ap (position (has_number n)) (one_more vs i v within is)
    ∙ pushed (has_number n) (map view (take i vs)) (view v)
    ∙ ap (λ b. option_or (position (has_number n) (map view (take i vs)))
    (cond b (Some (length (map view (take i vs)))) None))
    (has_own n (view v) ∙ ap (is_number n) (sym owns))
    ∙ ap (λ (k : ℕ). option_or (position (has_number n) (map view (take i vs)))
    (cond (is_number n own) (Some k) None)) (so_far vs i within))

same : (o : Option Data) → option_map (λ d. d) o ≡ o
same None = refl
same (Some d) = refl

-- the person at the place of a number
pub person_found : (n : ℕ) (vs : List Value) (ps : List Data) (o : Option ℕ)
    → map view vs ≡ ps → o ≡ position (has_number n) ps
    → option_and_then (λ i. option_map view (slice_get vs i)) o ≡ find (has_number n) ps
person_found n vs ps o all is =
    alike_at view (λ d. d) vs ps (has_number n) o (all ∙ sym (map-id ps)) is
    ∙ same (find (has_number n) ps)

-- what is kept of the persons of a file is of those of these bytes
pub of_bytes : (bytes : List ℕ) (d : Data) (kept : KeptPersons) → data_of bytes ≡ d
    → IsKept (persons d) kept → IsKept (persons (data_of bytes)) kept
of_bytes bytes d kept are keeps = subst (λ e. IsKept (persons e) kept) (sym are) keeps

module _ (k : Option (List ActivitySeat × List ℕ × List ℕ)) where
  -- the seats that are kept of a person give the seat
  pub seat_found : (groups : List RoundGroup) (p : Option Data) → k ≡ option_map kept_of p
      → option_and_then (λ one. seat_among groups one.0) k ≡ option_and_then (seat_of groups) p
  seat_found groups None is = ap (option_and_then (λ one. seat_among groups one.0)) is
  seat_found groups (Some p) is = ap (option_and_then (λ one. seat_among groups one.0)) is

  -- and the texts that are kept are those of the person
  pub wca_id_found : (p : Option Data) → k ≡ option_map kept_of p
      → unwrap_or (option_map (λ one. one.1) k) [] ≡ text_of (codes "wcaId") p
  wca_id_found None is = ap (λ o. unwrap_or (option_map (λ one. one.1) o) []) is
  wca_id_found (Some p) is = ap (λ o. unwrap_or (option_map (λ one. one.1) o) []) is

  pub country_found : (p : Option Data) → k ≡ option_map kept_of p
      → unwrap_or (option_map (λ one. one.2) k) [] ≡ text_of (codes "countryIso2") p
  country_found None is = ap (λ o. unwrap_or (option_map (λ one. one.2) o) []) is
  country_found (Some p) is = ap (λ o. unwrap_or (option_map (λ one. one.2) o) []) is
