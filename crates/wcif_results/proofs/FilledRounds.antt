-- The rounds of a file with the results of a meet; without them the file is as it was.
use Rattle.std.proofs.Common.{◌≡◌, refl, sym, ap, ◌∙◌, ℕ, List, [], ◌∷◌, map, Some, option_map}
use Rattle.std.proofs.Common.{option_and_then, unwrap_or, Vec, Global, ◌<◌, Bool, true, false, cond}
use Rattle.std.proofs.Common.{length, flat_map, codes, bytes_eq, arith, Option, None}
use Rattle.json.specs.Json.{Json, array, object, Items, no_items, item, Members, no_members, member}
use Rattle.json.specs.Find.{get, as_array, get_member, later_or}
use Rattle.json.{specs.Value.items_of, specs.Value.value_view, proofs.Trees.view-Array}
use Rattle.json.specs.declared.value.Value.{Value, Array}
use Rattle.wcif_results.specs.Faults.{listed, items_under, file_rounds}
use Rattle.std.proofs.lemmas.{List.map-append, Slice.Eq.bytes_eq-Decides}
use Rattle.wcif_results.specs.Filled.{members_with, within, items_with, each, members_having, id_of}
use Rattle.wcif_results.specs.Filled.{having, round_with, filled_round, filled_event, filled_file}
use Rattle.wcif_results.specs.{Filled.filled, Results.results_json, Results.results_list}
use Rattle.wcif_results.specs.MeetRounds.{MeetRound, round_named, meet_rounds}
use Rattle.texts.specs.declared.command.Command.{Command}
use Rattle.wcif_results.specs.Laws.{members_without, without, emptied, OthersStay}

pub listed_items : (js : List Json) → listed (items_of js) ≡ js
listed_items [] = refl
listed_items (j ∷ js) = ap (λ ks. j ∷ ks) (listed_items js)

pub list_found : (name : List ℕ) (j : Json) (v : Value Global) (vs : Vec (Value Global) Global)
    → get name j ≡ Some (value_view v) → v ≡ Array vs → map value_view vs.items ≡ items_under name j
list_found name j v vs h is =
    sym (ap (λ o. unwrap_or (option_map listed (option_and_then as_array o)) [])
    (h ∙ ap (λ w. Some (value_view w)) is ∙ ap Some (view-Array vs))
    ∙ listed_items (map value_view vs.items))

-- f of the values under a name

get_members_with : (name : List ℕ) (f : Json → Json) (ms : Members)
    → get_member name (members_with name f ms) ≡ option_map f (get_member name ms)
get_members_with name f no_members = refl
get_members_with name f (member k j ms) =
    rw (get_members_with name f ms) (step (bytes_eq k name) (get_member name ms))
  where
    step : (b : Bool) (o : Option Json)
        → later_or (option_map f o) (cond b (Some (cond b (f j) j)) None)
        ≡ option_map f (later_or o (cond b (Some j) None))
    step true None = refl
    step true (Some x) = refl
    step false None = refl
    step false (Some x) = refl

get_within : (name : List ℕ) (f : Json → Json) (d : Json)
    → get name (within name f d) ≡ option_map f (get name d)
get_within name f (object ms) = get_members_with name f ms
get_within name f _ = refl

listed_with : (f : Json → Json) (js : Items) → listed (items_with f js) ≡ map f (listed js)
listed_with f no_items = refl
listed_with f (item j js) = ap (λ ks. f j ∷ ks) (listed_with f js)

abbrev list_in : Option Json → List Json
list_in o = unwrap_or (option_map listed (option_and_then as_array o)) []

each_listed : (f : Json → Json) (o : Option Json)
    → list_in (option_map (each f) o) ≡ map f (list_in o)
each_listed f (Some (array js)) = listed_with f js
each_listed f _ = refl

items_within : (name : List ℕ) (f : Json → Json) (d : Json)
    → items_under name (within name (each f) d) ≡ map f (items_under name d)
items_within name f d = ap list_in (get_within name (each f) d) ∙ each_listed f (get name d)

in_events : (rs : List MeetRound) (es : List Json)
    → flat_map (items_under (codes "rounds")) (map (filled_event rs) es)
    ≡ map (filled_round rs) (flat_map (items_under (codes "rounds")) es)
unfolding filled_event
in_events rs [] = refl
in_events rs (e ∷ es) =
    rw (items_within (codes "rounds") (filled_round rs) e, in_events rs es)
    (sym (map-append (filled_round rs) (items_under (codes "rounds") e)
    (flat_map (items_under (codes "rounds")) es)))

pub rounds_filled : (rs : List MeetRound) (d : Json)
    → file_rounds (filled_file rs d) ≡ map (filled_round rs) (file_rounds d)
unfolding file_rounds filled_file
rounds_filled rs d =
    ap (flat_map (items_under (codes "rounds"))) (items_within (codes "events") (filled_event rs) d)
    ∙ in_events rs (items_under (codes "events") d)

-- One value under a name

no_later : (o : Option Json) → later_or o None ≡ o
no_later None = refl
no_later (Some j) = refl

other_kept : (name other : List ℕ) (j : Json) → bytes_eq name other ≡ false → (there : Bool)
    (ms : Members) → get_member other (members_having there name j ms) ≡ get_member other ms
other_kept name other j apart true no_members = refl
other_kept name other j apart false no_members = rw apart refl
other_kept name other j apart there (member k e ms) =
    go (bytes_eq k name) refl (other_kept name other j apart true ms)
    (other_kept name other j apart there ms)
  where
    go : (b : Bool) → bytes_eq k name ≡ b
        → get_member other (members_having true name j ms) ≡ get_member other ms
        → get_member other (members_having there name j ms) ≡ get_member other ms
        → get_member other (cond b (member k j (members_having true name j ms))
        (member k e (members_having there name j ms)))
        ≡ later_or (get_member other ms) (cond (bytes_eq k other) (Some e) None)
    go true is p q =
        let same : k ≡ name = (bytes_eq-Decides k name).0 is in
        let none : bytes_eq k other ≡ false = ap (λ xs. bytes_eq xs other) same ∙ apart in
        rw (p, none) refl
    go false is p q = rw q refl

own_found : (name : List ℕ) (j : Json) (there : Bool) (ms : Members)
    → later_or (get_member name (members_having there name j ms)) (cond there (Some j) None)
    ≡ Some j
own_found name j true no_members = refl
own_found name j false no_members = rw ((bytes_eq-Decides name name).1 refl) refl
own_found name j there (member k e ms) =
    go (bytes_eq k name) refl (own_found name j true ms) (own_found name j there ms)
  where
    go : (b : Bool) → bytes_eq k name ≡ b
        → later_or (get_member name (members_having true name j ms)) (Some j) ≡ Some j
        → later_or (get_member name (members_having there name j ms)) (cond there (Some j) None)
        ≡ Some j → later_or (get_member name (cond b (member k j (members_having true name j ms))
        (member k e (members_having there name j ms)))) (cond there (Some j) None) ≡ Some j
    go true is p q = rw is (ap (λ o. later_or o (cond there (Some j) None)) p)
    go false is p q = rw (is, no_later (get_member name (members_having there name j ms))) q

found_alone : (name : List ℕ) (j : Json) (ms : Members)
    → get_member name (members_having false name j ms) ≡ Some j
found_alone name j ms =
    sym (no_later (get_member name (members_having false name j ms))) ∙ own_found name j false ms

-- Rounds

id_having : (j d : Json) → id_of (having (codes "results") j d) ≡ id_of d
id_having j (object ms) = rw (other_kept (codes "results") (codes "id") j refl false ms) refl
id_having j _ = refl

id_with : (o : Option MeetRound) (d : Json) → id_of (round_with o d) ≡ id_of d
id_with None d = refl
id_with (Some r) d = id_having (results_json r.table) d

pub id_filled : (rs : List MeetRound) (d : Json) → id_of (filled_round rs d) ≡ id_of d
unfolding filled_round
id_filled rs d = id_with (round_named rs (id_of d)) d

results_having : (r : MeetRound) (d : Json) → 0 < length (id_of d)
    → items_under (codes "results") (having (codes "results") (results_json r.table) d)
    ≡ results_list r.table
unfolding results_json
results_having r (object ms) h =
    ap list_in (found_alone (codes "results") (results_json r.table) ms)
    ∙ listed_items (results_list r.table)
results_having r _ h = absurd (omega arith)

-- a round with the id of one of these rounds has its results
pub results_filled : (rs : List MeetRound) (r : MeetRound) (d : Json) → 0 < length (id_of d)
    → round_named rs (id_of d) ≡ Some r
    → items_under (codes "results") (filled_round rs d) ≡ results_list r.table
unfolding filled_round
results_filled rs r d some is = rw is (results_having r d some)

-- f of a value is f of what g makes of it
abbrev Hides : (Json → Json) → (Json → Json) → Type 0
Hides f g = (d : Json) → f (g d) ≡ f d

members_hide : (name : List ℕ) (f g : Json → Json) → Hides f g → (ms : Members)
    → members_with name f (members_with name g ms) ≡ members_with name f ms
members_hide name f g h no_members = refl
members_hide name f g h (member k j ms) =
    rw (step (bytes_eq k name), members_hide name f g h ms) refl
  where
    step : (b : Bool) → cond b (f (cond b (g j) j)) (cond b (g j) j) ≡ cond b (f j) j
    step true = h j
    step false = refl

within_hides : (name : List ℕ) (f g : Json → Json) → Hides f g
    → Hides (within name f) (within name g)
within_hides name f g h (object ms) = ap object (members_hide name f g h ms)
within_hides name f g h _ = refl

items_hide : (f g : Json → Json) → Hides f g → (js : Items)
    → items_with f (items_with g js) ≡ items_with f js
items_hide f g h no_items = refl
items_hide f g h (item j js) = rw (h j, items_hide f g h js) refl

each_hides : (f g : Json → Json) → Hides f g → Hides (each f) (each g)
each_hides f g h (array js) = ap array (items_hide f g h js)
each_hides f g h _ = refl

-- what has a value under a name, and what had another or none, are one without it
having_hidden : (name : List ℕ) (j : Json) (there : Bool) (ms : Members)
    → members_without name (members_having there name j ms) ≡ members_without name ms
having_hidden name j true no_members = refl
having_hidden name j false no_members = rw ((bytes_eq-Decides name name).1 refl) refl
having_hidden name j there (member k e ms) =
    go (bytes_eq k name) refl (having_hidden name j true ms) (having_hidden name j there ms)
  where
    go : (b : Bool) → bytes_eq k name ≡ b
        → members_without name (members_having true name j ms) ≡ members_without name ms
        → members_without name (members_having there name j ms) ≡ members_without name ms
        → members_without name (cond b (member k j (members_having true name j ms))
        (member k e (members_having there name j ms)))
        ≡ cond b (members_without name ms) (member k e (members_without name ms))
    go true is p q = rw is p
    go false is p q = rw is (ap (member k e) q)

without_having : (name : List ℕ) (j d : Json) → without name (having name j d) ≡ without name d
without_having name j (object ms) = ap object (having_hidden name j false ms)
without_having name j _ = refl

without_with : (o : Option MeetRound) (d : Json)
    → without (codes "results") (round_with o d) ≡ without (codes "results") d
without_with None d = refl
without_with (Some r) d = without_having (codes "results") (results_json r.table) d

round_hides : (rs : List MeetRound) → Hides (without (codes "results")) (filled_round rs)
unfolding filled_round
round_hides rs d = without_with (round_named rs (id_of d)) d

event_hides : (rs : List MeetRound)
    → Hides (within (codes "rounds") (each (without (codes "results")))) (filled_event rs)
unfolding filled_event
event_hides rs d =
    within_hides (codes "rounds") (each (without (codes "results"))) (each (filled_round rs))
    (each_hides (without (codes "results")) (filled_round rs) (round_hides rs)) d

emptied_filled : (cs : List Command) (d : Json) → emptied (filled cs d) ≡ emptied d
unfolding emptied filled_file
emptied_filled cs d =
    let rs = meet_rounds cs in
    within_hides (codes "events")
    (each (within (codes "rounds") (each (without (codes "results"))))) (each (filled_event rs))
    (each_hides (within (codes "rounds") (each (without (codes "results")))) (filled_event rs)
    (event_hides rs)) d

pub others_stay : OthersStay
others_stay cs bytes text exported = (
  exported.0,
  filled cs exported.0,
  exported.1.value,
  exported.3.reads_back,
  emptied_filled cs exported.0,
)
