-- The results of a round are read back.
use Rattle.std.proofs.Common.{◌≡◌, refl, sym, ap, ◌∙◌, ℕ, ◌<◌, ◌≤◌, ◌^◌, List, [], ◌∷◌, zero, suc}
use Rattle.std.proofs.Common.{length, map, flat_map, codes, arith, Option, Some, None, option_map}
use Rattle.std.proofs.Common.{true, Bool, false, cond, bytes_eq, subst, IfSome, find, is_some}
use Rattle.wcif.{proofs.Listed.any_map, specs.Rounds.round_id}
use Rattle.std.proofs.{lemmas.Slice.Eq.bytes_eq-Decides, Math.Path.fun_ext}
use Rattle.std.proofs.lemmas.List.{map-append, Sums.count_by-le-length}
use Rattle.std.specs.{Prelude.option_to_list, List.list_any, List.AllByRecursion}
use Rattle.json.specs.{Json.Json, Find.as_number}
use Rattle.attempts.specs.{declared.Value.Value, Attempts.IsInRangeOf}
use Rattle.formats.specs.{declared.events.Event.Event, Results.average_of, Results.is_better}
use Rattle.rounds.specs.Tables.{Entrant, Table, entrant, has_number, is_attempted, key, place}
use Rattle.rounds.specs.Tables.{standings}
use Rattle.texts.specs.declared.command.{Command.Command, Settings.Settings}
use Rattle.commands.specs.{Accepted.round_in, Accepted.round_of, History.history}
use Rattle.commands.proofs.Sizes.{IsSmallEntrant, IsSmallRound, small_history}
use Rattle.wcif_results.specs.Encoding.{attempt_result, best_result, average_result}
use Rattle.wcif_results.specs.Faults.{file_rounds, items_under, faults_of, round_faults}
use Rattle.wcif_results.specs.Faults.{entrants_faults, held, round_with_id}
use Rattle.wcif_results.specs.{declared.fault.MeetFault.MeetFault, Results.results_list}
use Rattle.wcif_results.specs.Laws.{whole_of, read_result, ranking_of, HasResults, number_under}
use Rattle.wcif_results.specs.Laws.{sheet_result, sheet_result_of, sheet_results, ResultsReadBack}
use Rattle.wcif_results.specs.Filled.{id_of, filled, filled_round}
use Rattle.wcif_results.specs.MeetRounds.{MeetRound, meet_rounds, round_named}
use Rattle.wcif_results.specs.Results.{attempt_json, ranking_json, result_json, result_of}
use Rattle.wcif_results.proofs.Numerals.{average_short, whole_decimal, whole_signed, attempt_short}
use Rattle.wcif_results.proofs.Numerals.{best_short}
use Rattle.wcif_results.proofs.FilledRounds.{rounds_filled, id_filled, results_filled, listed_items}
use Rattle.wcif.proofs.{Found.front_none, Found.back_none, Numbered.any_found}
use Rattle.wcif_results.proofs.MeetIds.{id_nonempty, its_round, found_holds}
use Rattle.attempts.specs.declared.Unit.TheVariants as measure
use Rattle.wcif_results.specs.declared.fault.MeetFault.TheVariants as fault

-- One result

attempts_read : (vs : List Value) → AllByRecursion (IsInRangeOf measure.Multi) vs
    → map (number_under (codes "result")) (map attempt_json vs) ≡ map attempt_result vs
attempts_read [] h = refl
attempts_read (v ∷ vs) h =
    rw (whole_signed (attempt_result v) (attempt_short v h.0), attempts_read vs h.1) refl

ranking_read : (vs : List Value) (n : ℕ) → n < 2 ^ 64
    → option_map whole_of (as_number (ranking_json vs n)) ≡ ranking_of vs n
ranking_read [] n small = refl
ranking_read (v ∷ vs) n small = ap Some (whole_decimal n small)

pub result_read : (t : Table) (e : Entrant) → IsSmallEntrant e → place t e < 2 ^ 64
    → read_result (result_json t e) ≡ sheet_result t e
unfolding read_result result_json sheet_result
result_read t e small few =
    let vs = e.values in
    rw (
      whole_decimal e.number (let number = small.number in omega (arith, number)),
      ranking_read vs (place t e) few,
      listed_items (map attempt_json vs),
      attempts_read vs small.values,
      whole_signed (best_result vs) (best_short vs small.values),
      whole_signed (average_result (average_of t.format t.unit vs))
          (average_short t.format t.unit vs small.values),
    )
    refl

-- The results of a round

place_small : (t : Table) (e : Entrant) → length t.entrants ≤ 999 → place t e < 2 ^ 64
place_small t e few =
    let most = count_by-le-length (λ other. is_better (key t other) (key t e)) t.entrants in
    omega (arith, most, few)

found_small : (n : ℕ) (es : List Entrant) → AllByRecursion IsSmallEntrant es
    → IfSome (find (has_number n) es) IsSmallEntrant
found_small n es all = step (find (has_number n) es) refl
  where
    step : (o : Option Entrant) → find (has_number n) es ≡ o → IfSome o IsSmallEntrant
    step None is = tt
    step (Some e) is = (found_holds IsSmallEntrant (has_number n) es e all is).0

one_read : (t : Table) (o : Option Entrant) → length t.entrants ≤ 999 → IfSome o IsSmallEntrant
    → map read_result (option_to_list (option_map (result_json t) o))
    ≡ option_to_list (option_map (sheet_result t) o)
one_read t None few small = refl
one_read t (Some e) few small = rw (result_read t e small (place_small t e few)) refl

all_read : (t : Table) → length t.entrants ≤ 999 → AllByRecursion IsSmallEntrant t.entrants
    → (ns : List ℕ) → map read_result (flat_map (result_of t) ns) ≡ flat_map (sheet_result_of t) ns
all_read t few small [] = refl
all_read t few small (n ∷ ns) =
    map-append read_result (result_of t n) (flat_map (result_of t) ns)
    ∙ rw (one_read t (entrant t n) few (found_small n t.entrants small), all_read t few small ns)
    refl

-- The file has a place for each round

-- the file has the round, at least where it has a result
abbrev HasPlace : List Json → MeetRound → Type 0
HasPlace es r = is_attempted r.table 1 ≡ true → list_any (λ e. bytes_eq (id_of e) r.id) es ≡ true

found_there : (id : List ℕ) (es : List Json) → is_some (round_with_id id (map held es)) ≡ true
    → list_any (λ e. bytes_eq (id_of e) id) es ≡ true
found_there id es h =
    sym (any_map (λ (e : List ℕ × List ℕ). bytes_eq e.0 id) held es)
    ∙ any_found (λ (e : List ℕ × List ℕ). bytes_eq e.0 id) (map held es) ∙ h

not_missing : (cs : List Command) (es ps : List Json) (r : MeetRound)
    → round_faults cs (map held es) ps r ≡ [] → HasPlace es r
not_missing cs es ps r h done =
    found_there r.id es
    (go (is_some (round_with_id r.id (map held es))) (is_attempted r.table 1) done h)
  where
    go : (there some : Bool) → some ≡ true → cond there (entrants_faults cs ps r)
        (cond some (fault.NoRound r.event r.number ∷ entrants_faults cs ps r) []) ≡ []
        → there ≡ true
    go true some is h = refl
    go false true is h = cc
    go false false is h = cc

have_places : (cs : List Command) (es ps : List Json) (rs : List MeetRound)
    → flat_map (round_faults cs (map held es) ps) rs ≡ [] → AllByRecursion (HasPlace es) rs
have_places cs es ps [] h = tt
have_places cs es ps (r ∷ rs) h =
    let faults : MeetRound → List MeetFault = round_faults cs (map held es) ps in (
      not_missing cs es ps r (front_none (faults r) (flat_map faults rs) h),
      have_places cs es ps rs (back_none (faults r) (flat_map faults rs) h),
    )

places : (cs : List Command) (rs : List MeetRound) (d : Json) → faults_of cs rs d ≡ []
    → AllByRecursion (HasPlace (file_rounds d)) rs
unfolding faults_of
places cs rs d h = have_places cs (file_rounds d) (items_under (codes "persons") d) rs h

-- The file with the results

any_filled : (rs : List MeetRound) (id : List ℕ) (ds : List Json)
    → list_any (λ e. bytes_eq (id_of e) id) ds ≡ true
    → list_any (λ e. bytes_eq (id_of e) id) (map (filled_round rs) ds) ≡ true
any_filled rs id ds h =
    any_map (λ e. bytes_eq (id_of e) id) (filled_round rs) ds
    ∙ ap (λ (f : Json → List ℕ). list_any (λ d. bytes_eq (f d) id) ds) (fun_ext (id_filled rs)) ∙ h

have_results : (rs : List MeetRound) (r : MeetRound) (t : Table) (id : List ℕ) → 0 < length id
    → round_named rs id ≡ Some r → map read_result (results_list r.table) ≡ sheet_results t
    → (ds : List Json) → AllByRecursion (HasResults t id) (map (filled_round rs) ds)
have_results rs r t id some named is [] = tt
have_results rs r t id some named is (d ∷ ds) =
    (λ same. one (sym (id_filled rs d) ∙ same), have_results rs r t id some named is ds)
  where
    one : id_of d ≡ id
        → map read_result (items_under (codes "results") (filled_round rs d)) ≡ sheet_results t
    one same =
        let P : List ℕ → Type 0 = λ x. 0 < length x in
        ap (map read_result)
        (results_filled rs r d (subst P (sym same) some) (ap (round_named rs) same ∙ named)) ∙ is

-- rounds are counted from 1
counted : (cs : List Command) (e : Event) (n : ℕ) (x : Settings × Table) → round_of cs e n ≡ Some x
    → 1 ≤ n
unfolding round_in
counted cs e zero x h = absurd (let bad : None ≡ Some x = h in cc)
counted cs e (suc n) x h = omega arith

pub results_read_back : ResultsReadBack
results_read_back entries bytes text exported event number round opened =
    let cs = (history entries).accepted in
    let low : 1 ≤ number = counted cs event number round opened in
    let d = exported.0 in
    let small : IsSmallRound number round = subst (λ o. IfSome o (IsSmallRound number)) opened
    ((small_history entries).rounds event number) in
    let it = its_round cs event number round low small.last opened in
    let all = places cs (meet_rounds cs) d exported.2 in
    let passes = found_holds (HasPlace (file_rounds d))
    (λ r. bytes_eq r.id (round_id event number)) (meet_rounds cs) it.round all it.named in
    let same_id : it.round.id ≡ round_id event number =
    (bytes_eq-Decides it.round.id (round_id event number)).0 passes.1 in
    let read : map read_result (results_list it.round.table) ≡ sheet_results round.1 =
    ap (λ t. map read_result (results_list t)) it.table
    ∙ all_read round.1 small.few small.entrants (standings round.1) in
    let there : is_attempted round.1 1 ≡ true
    → list_any (λ e. bytes_eq (id_of e) (round_id event number)) (file_rounds d) ≡ true =
    λ (some : is_attempted round.1 1 ≡ true).
    sym (ap (λ id. list_any (λ e. bytes_eq (id_of e) id) (file_rounds d)) same_id)
    ∙ passes.0 (ap (λ t. is_attempted t 1) it.table ∙ some) in
    let rounds = rounds_filled (meet_rounds cs) d in (
      filled cs d,
      exported.3.reads_back,
      record {
        there =
            λ (some : is_attempted round.1 1 ≡ true).
            ap (list_any (λ e. bytes_eq (id_of e) (round_id event number))) rounds
            ∙ any_filled (meet_rounds cs) (round_id event number) (file_rounds d) (there some);
        results =
            subst (AllByRecursion (HasResults round.1 (round_id event number))) (sym rounds)
            (have_results (meet_rounds cs) it.round round.1 (round_id event number)
            (id_nonempty event number) it.named read (file_rounds d));
      },
    )
