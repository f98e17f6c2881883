-- How deep the results of a meet nest.
use Rattle.wcif_results.proofs.Depths.{all_within, lists_within, one_within, ranking_depth}
use Rattle.std.proofs.Common.{◌≡◌, refl, ℕ, suc, ◌≤◌, max, Bool, true, false, cond, List, [], ◌∷◌}
use Rattle.std.proofs.Common.{map, arith, Option, None, Some}
use Rattle.std.{specs.Str.is_utf8, proofs.lemmas.Bool.Decides.nat_tests}
use Rattle.json.specs.Json.{max_depth, null, string}
use Rattle.json.specs.{Tree.depth, Tree.items_depth, Value.items_of}
use Rattle.attempts.specs.declared.Value.{Value}
use Rattle.commands.specs.Accepted.{name_of, round_of, seen_of}
use Rattle.formats.specs.declared.{advance.Advance.Advance, events.Event.Event}
use Rattle.formats.specs.{declared.results.Averaged.Averaged, Events.all_events, Results.average_of}
use Rattle.rounds.specs.Tables.{Entrant, Table, entrant, place, standings}
use Rattle.sheets.specs.Sheet.{is_marked}
use Rattle.texts.specs.declared.command.{Command.Command, Settings.Settings}
use Rattle.wcif_results.specs.results_json.Entrants.{entrant_json, entrant_list, entrants_json}
use Rattle.wcif_results.specs.results_json.Meets.{event_list, meet_json, rounds_json}
use Rattle.wcif_results.specs.results_json.Rounds.{round_json, round_list}
use Rattle.wcif_results.specs.results_json.Values.{advance_json, average_json, best_json}
use Rattle.wcif_results.specs.results_json.Values.{cutoff_json, limit_json, name_json, value_json}
use Rattle.formats.specs.declared.advance.Advance.TheVariants as advance
use Rattle.formats.specs.declared.results.Averaged.TheVariants as averaged

-- an entrant

values_depth : (vs : List Value) → items_depth (items_of (map value_json vs)) ≡ 0
values_depth [] = refl
values_depth (v ∷ vs) = let rest = values_depth vs in grind (arith, nat_tests)

name_depth : (name : Option (List ℕ)) → depth (name_json name) ≡ 0
name_depth None = refl
name_depth (Some text) = step (is_utf8 text)
  where
    step : (b : Bool) → depth (cond b (string text) null) ≡ 0
    step true = refl
    step false = refl

best_depth : (vs : List Value) → depth (best_json vs) ≡ 0
best_depth [] = refl
best_depth (v ∷ vs) = refl

average_depth : (a : Averaged) → depth (average_json a) ≡ 0
average_depth averaged.Missing = refl
average_depth _ = refl

entrant_depth : (cs : List Command) (settings : Settings) (t : Table) (marks : ℕ → Bool) (n : ℕ)
    (e : Entrant) → depth (entrant_json cs settings t marks n e) ≤ 2
unfolding entrant_json
entrant_depth cs settings t marks n e =
    go _ _ _ _ _ (name_depth (name_of cs n)) (ranking_depth e.values (place t e))
    (values_depth e.values) (best_depth e.values)
    (average_depth (average_of t.format t.unit e.values))
  where
    go : (a b c d f : ℕ) → a ≡ 0 → b ≡ 0 → c ≡ 0 → d ≡ 0 → f ≡ 0
        → suc (max 0 (max a (max b (max (suc c) (max d (max f (max 0 0))))))) ≤ 2
    go a b c d f p q r s u = grind (arith, nat_tests)

entrants_depth : (cs : List Command) (settings : Settings) (t : Table) (marks : ℕ → Bool)
    → depth (entrants_json cs settings t marks) ≤ 3
unfolding entrants_json
entrants_depth cs settings t marks =
    let all = lists_within 2 (entrant_list cs settings t marks) (λ n. one_within 2
    (entrant_json cs settings t marks n) (entrant_depth cs settings t marks n) (entrant t n))
    (standings t) in
    omega (arith, all)

-- a round

cutoff_depth : (c : Option (ℕ × ℕ)) → depth (cutoff_json c) ≤ 1
cutoff_depth None = omega arith
cutoff_depth (Some c) = grind (arith, nat_tests)

limit_depth : (l : Option ℕ) → depth (limit_json l) ≡ 0
limit_depth None = refl
limit_depth (Some n) = refl

advance_depth : (a : Advance) → depth (advance_json a) ≤ 1
advance_depth advance.Final = omega arith
advance_depth (advance.Top n) = grind (arith, nat_tests)
advance_depth (advance.Percent n) = grind (arith, nat_tests)

round_depth : (cs : List Command) (event : Event) (n : ℕ) (round : Settings × Table)
    → depth (round_json cs event n round) ≤ 4
unfolding round_json
round_depth cs event n (settings, t) =
    go _ _ _ _ (cutoff_depth settings.cutoff) (limit_depth settings.limit)
    (advance_depth settings.advance)
    (entrants_depth cs settings t (is_marked t (seen_of cs event n)))
  where
    go : (a b c d : ℕ) → a ≤ 1 → b ≡ 0 → c ≤ 1 → d ≤ 3
        → suc (max 0 (max 0 (max 0 (max 0 (max 0 (max a (max b (max c (max d 0))))))))) ≤ 4
    go a b c d p q r s = grind (arith, nat_tests)

opened_depth : (cs : List Command) (event : Event) (n : ℕ)
    → items_depth (items_of (round_list cs event n)) ≤ 4
opened_depth cs event n =
    one_within 4 (round_json cs event n) (round_depth cs event n) (round_of cs event n)

event_depth : (cs : List Command) (event : Event) → items_depth (items_of (event_list cs event)) ≤ 4
event_depth cs event =
    all_within 4 (round_list cs event 1) _ (opened_depth cs event 1) (all_within 4
    (round_list cs event 2) _ (opened_depth cs event 2) (all_within 4 (round_list cs event 3)
    (round_list cs event 4) (opened_depth cs event 3) (opened_depth cs event 4)))

rounds_depth : (cs : List Command) → depth (rounds_json cs) ≤ 5
unfolding rounds_json
rounds_depth cs =
    let all = lists_within 4 (event_list cs) (event_depth cs) all_events in omega (arith, all)

pub meet_depth : (cs : List Command) → depth (meet_json cs) ≤ max_depth
meet_depth cs = go _ (rounds_depth cs)
  where
    go : (n : ℕ) → n ≤ 5 → suc (max n 0) ≤ 128
    go n h = grind (arith, nat_tests)
