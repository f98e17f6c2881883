-- How deep a file nests with the results of a meet.
use Rattle.std.proofs.Common.{◌≡◌, refl, ℕ, suc, ◌≤◌, max, Bool, true, false, cond, List, [], ◌∷◌}
use Rattle.std.proofs.Common.{◌++◌, map, flat_map, codes, bytes_eq, arith, Option, Some, None}
use Rattle.std.specs.{Option.option_map, Prelude.option_to_list}
use Rattle.std.proofs.lemmas.Bool.Decides.{nat_tests}
use Rattle.json.specs.Json.{Json, array, object, Items, no_items, item, Members, no_members, member}
use Rattle.json.specs.{Tree.depth, Tree.items_depth, Tree.members_depth, Value.items_of}
use Rattle.attempts.specs.declared.Value.{Value}
use Rattle.rounds.specs.Tables.{Entrant, Table, entrant, standings, place}
use Rattle.wcif_results.specs.Filled.{members_with, within, items_with, each, members_having, id_of}
use Rattle.wcif_results.specs.Filled.{having, round_with, filled_round, filled_event, filled_file}
use Rattle.wcif_results.specs.{MeetRounds.MeetRound, MeetRounds.round_named, Results.results_json}
use Rattle.wcif_results.specs.Results.{attempt_json, ranking_json, result_json, result_of}

-- f makes a value at most so deep, or no deeper than it was
abbrev KeepsDepth : ℕ → (Json → Json) → Type 0
KeepsDepth k f = (d : Json) → depth (f d) ≤ max (depth d) k

joined : (a b c d n : ℕ) → a ≤ max b n → c ≤ max d n → max a c ≤ max (max b d) n
joined a b c d n p q = grind (arith, nat_tests)

deeper : (a b n : ℕ) → a ≤ max b n → suc a ≤ max (suc b) (suc n)
deeper a b n h = grind (arith, nat_tests)

chosen : (b : Bool) (f : Json → Json) (j : Json) (k : ℕ) → KeepsDepth k f
    → depth (cond b (f j) j) ≤ max (depth j) k
chosen true f j k h = h j
chosen false f j k h = grind (arith, nat_tests)

members_with_depth : (name : List ℕ) (f : Json → Json) (k : ℕ) → KeepsDepth k f → (ms : Members)
    → members_depth (members_with name f ms) ≤ max (members_depth ms) k
members_with_depth name f k h no_members = grind (arith, nat_tests)
members_with_depth name f k h (member l j ms) =
    let here = chosen (bytes_eq l name) f j k h in
    let rest = members_with_depth name f k h ms in
    joined (depth (cond (bytes_eq l name) (f j) j)) (depth j) _ (members_depth ms) k here rest

within_depth : (name : List ℕ) (f : Json → Json) (k : ℕ) → KeepsDepth k f
    → KeepsDepth (suc k) (within name f)
within_depth name f k h (object ms) = deeper _ _ k (members_with_depth name f k h ms)
within_depth name f k h _ = grind (arith, nat_tests)

items_with_depth : (f : Json → Json) (k : ℕ) → KeepsDepth k f → (js : Items)
    → items_depth (items_with f js) ≤ max (items_depth js) k
items_with_depth f k h no_items = grind (arith, nat_tests)
items_with_depth f k h (item j js) =
    joined _ _ _ _ k (h j) (items_with_depth f k h js)

each_depth : (f : Json → Json) (k : ℕ) → KeepsDepth k f → KeepsDepth (suc k) (each f)
each_depth f k h (array js) = deeper _ _ k (items_with_depth f k h js)
each_depth f k h _ = grind (arith, nat_tests)

-- a value under a name
one_of : (b : Bool) (e j : Json) (k : ℕ) → depth j ≤ k → depth (cond b j e) ≤ max (depth e) k
one_of true e j k h = grind (arith, nat_tests)
one_of false e j k h = grind (arith, nat_tests)

members_having_depth : (name : List ℕ) (j : Json) (k : ℕ) → depth j ≤ k → (there : Bool)
    (ms : Members) → members_depth (members_having there name j ms) ≤ max (members_depth ms) k
members_having_depth name j k h true no_members = grind (arith, nat_tests)
members_having_depth name j k h false no_members = grind (arith, nat_tests)
members_having_depth name j k h there (member l e ms) =
    go (bytes_eq l name) (members_having_depth name j k h true ms)
    (members_having_depth name j k h there ms)
  where
    go : (b : Bool) → members_depth (members_having true name j ms) ≤ max (members_depth ms) k
        → members_depth (members_having there name j ms) ≤ max (members_depth ms) k
        → members_depth (cond b (member l j (members_having true name j ms))
        (member l e (members_having there name j ms))) ≤ max (max (depth e) (members_depth ms)) k
    go true p q = joined _ (depth e) _ _ k (one_of true e j k h) p
    go false p q = joined _ (depth e) _ _ k (one_of false e j k h) q

having_depth : (name : List ℕ) (j : Json) (k : ℕ) → depth j ≤ k → KeepsDepth (suc k) (having name j)
having_depth name j k h (object ms) = deeper _ _ k (members_having_depth name j k h false ms)
having_depth name j k h _ = grind (arith, nat_tests)

-- The results of a round.

attempts_depth : (vs : List Value) → items_depth (items_of (map attempt_json vs)) ≤ 1
attempts_depth [] = omega arith
attempts_depth (v ∷ vs) = let rest = attempts_depth vs in omega (arith, rest)

pub ranking_depth : (vs : List Value) (n : ℕ) → depth (ranking_json vs n) ≡ 0
ranking_depth [] n = refl
ranking_depth (v ∷ vs) n = refl

result_depth : (t : Table) (e : Entrant) → depth (result_json t e) ≤ 3
unfolding result_json
result_depth t e =
    go _ (items_depth (items_of (map attempt_json e.values))) (ranking_depth e.values (place t e))
    (attempts_depth e.values)
  where
    go : (r n : ℕ) → r ≡ 0 → n ≤ 1 → suc (max 0 (max r (max (suc n) (max 0 (max 0 0))))) ≤ 3
    go r n p q = grind (arith, nat_tests)

-- lists of values that nest at most so deep
pub all_within : (k : ℕ) (js ks : List Json) → items_depth (items_of js) ≤ k
    → items_depth (items_of ks) ≤ k → items_depth (items_of (js ++ ks)) ≤ k
all_within k [] ks p q = q
all_within k (j ∷ js) ks p q =
    let later = all_within k js ks (omega (arith, p)) q in omega (arith, p, later)

pub lists_within : {X : Type 0} (k : ℕ) (f : X → List Json)
    → ((x : X) → items_depth (items_of (f x)) ≤ k)
    → (xs : List X) → items_depth (items_of (flat_map f xs)) ≤ k
lists_within k f h [] = omega arith
lists_within k f h (x ∷ xs) =
    all_within k (f x) (flat_map f xs) (h x) (lists_within k f h xs)

pub one_within : {X : Type 0} (k : ℕ) (f : X → Json) → ((x : X) → depth (f x) ≤ k) → (o : Option X)
    → items_depth (items_of (option_to_list (option_map f o))) ≤ k
one_within k f h None = omega arith
one_within k f h (Some x) = let here = h x in omega (arith, here)

list_depth : (t : Table) (ns : List ℕ) → items_depth (items_of (flat_map (result_of t) ns)) ≤ 3
list_depth t =
    lists_within 3 (result_of t) (λ n. one_within 3 (result_json t) (result_depth t) (entrant t n))

results_depth : (t : Table) → depth (results_json t) ≤ 4
unfolding results_json
results_depth t = let h = list_depth t (standings t) in omega (arith, h)

-- The file.

with_round : (o : Option MeetRound) → KeepsDepth 5 (round_with o)
with_round None d = grind (arith, nat_tests)
with_round (Some r) d =
    having_depth (codes "results") (results_json r.table) 4 (results_depth r.table) d

round_depth : (rs : List MeetRound) → KeepsDepth 5 (filled_round rs)
unfolding filled_round
round_depth rs d = with_round (round_named rs (id_of d)) d

event_depth : (rs : List MeetRound) → KeepsDepth 7 (filled_event rs)
unfolding filled_event
event_depth rs d =
    within_depth (codes "rounds") (each (filled_round rs)) 6
    (each_depth (filled_round rs) 5 (round_depth rs)) d

pub file_depth : (rs : List MeetRound) (d : Json) → depth (filled_file rs d) ≤ max (depth d) 9
unfolding filled_file
file_depth rs d =
    within_depth (codes "events") (each (filled_event rs)) 8
    (each_depth (filled_event rs) 7 (event_depth rs)) d

pub depth_within : (rs : List MeetRound) (d : Json) → depth d ≤ 64 → depth (filled_file rs d) ≤ 128
depth_within rs d h = let deep = file_depth rs d in omega (arith, deep, h)
