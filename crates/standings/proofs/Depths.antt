-- How deep the JSON value of the desks' answers nests, and that its text reads back.
use Rattle.std.proofs.Common.{◌≡◌, sym, ap, ◌∙◌, ℕ, suc, ◌≤◌, max, Bool, true, false, Option, Some}
use Rattle.std.proofs.Common.{None, List, [], ◌∷◌, ◌++◌, map, flat_map, arith, append-nil}
use Rattle.std.proofs.{Common.option_and_then, lemmas.Bool.Decides.nat_tests}
use Rattle.std.specs.Prelude.{◌==◌, if◌then◌else◌}
use Rattle.acceptor.specs.declared.ballot.Ballot.{Ballot}
use Rattle.json.specs.Json.{Json, document, if_last, max_depth, value}
use Rattle.json.specs.{Lex.tokens, Print.print, Value.items_of, Written.Written}
use Rattle.json.specs.Tree.{depth, items_depth, json_tokens, members_depth}
use Rattle.json.proofs.Printed.Trees.{value-json_tokens}
use Rattle.standings.specs.AsJson.{difference_json, hall_json, lag_json, lag_of, natural}
use Rattle.standings.specs.AsJson.{polled_json, promised_json, reply_members}
use Rattle.standings.specs.{Reports.ReadsBack, Written.Adds}
use Rattle.standings.specs.Standings.{behind_by, difference, every_desk}
use Rattle.standings.specs.declared.polled.{PolledDesk.PolledDesk, StatusReply.StatusReply}
use Rattle.wire.specs.{Spelling.lengths_of, declared.standing.Difference.Difference}
use Rattle.wire.specs.declared.standing.Difference.TheVariants.{OtherEntry, Shorter}
use Rattle.standings.specs.declared.polled.StatusReply.TheVariants as reply

both : (n a b : ℕ) → a ≤ n → b ≤ n → max a b ≤ n
both n a b h k = grind (arith, nat_tests)

numbers_depth : (ns : List ℕ) → items_depth (items_of (map natural ns)) ≤ 0
numbers_depth [] = omega arith
numbers_depth (n ∷ ns) =
    both 0 0 (items_depth (items_of (map natural ns))) (omega arith) (numbers_depth ns)

promised_depth : (b : Option Ballot) → depth (promised_json b) ≤ 1
promised_depth None = omega arith
promised_depth (Some b) = omega arith

reply_depth : (r : StatusReply) → members_depth (reply_members r) ≤ 1
reply_depth (reply.Stands desk standing) =
    go (depth (promised_json standing.promised))
    (items_depth (items_of (map natural (lengths_of standing.told))))
    (promised_depth standing.promised) (numbers_depth (lengths_of standing.told))
  where
    go : (p t : ℕ) → p ≤ 1 → t ≤ 0 → max 0 (max 0 (max 0 (max 0 (max p (max (suc t) 0))))) ≤ 1
    go p t h k = grind (arith, nat_tests)
reply_depth _ = omega arith

polled_depth : (p : PolledDesk) → depth (polled_json p) ≤ 2
polled_depth p = go (members_depth (reply_members p.reply)) (reply_depth p.reply)
  where
    go : (n : ℕ) → n ≤ 1 → suc (max 0 (max 0 n)) ≤ 2
    go n h = grind (arith, nat_tests)

desks_depth : (polled : List PolledDesk) → items_depth (items_of (map polled_json polled)) ≤ 2
desks_depth [] = omega arith
desks_depth (p ∷ polled) =
    both 2 (depth (polled_json p)) (items_depth (items_of (map polled_json polled)))
    (polled_depth p) (desks_depth polled)

one_or_none : (b : Bool) (j : Json) (rest : List Json) → depth j ≤ 1
    → items_depth (items_of rest) ≤ 1
    → items_depth (items_of ((if b then [] else j ∷ []) ++ rest)) ≤ 1
one_or_none true j rest h k = k
one_or_none false j rest h k = both 1 (depth j) (items_depth (items_of rest)) h k

lags_depth : (polled : List PolledDesk) (desks : List ℕ)
    → items_depth (items_of (flat_map (lag_of polled) desks)) ≤ 1
lags_depth polled [] = omega arith
lags_depth polled (desk ∷ desks) =
    one_or_none (behind_by polled desk == 0) (lag_json desk (behind_by polled desk))
    (flat_map (lag_of polled) desks) (omega arith) (lags_depth polled desks)

difference_depth : (d : Option Difference) → depth (difference_json d) ≤ 1
difference_depth None = omega arith
difference_depth (Some (OtherEntry desk position)) = omega arith
difference_depth (Some (Shorter desk len)) = omega arith

hall_depth : (hall : ℕ) (polled : List PolledDesk) → depth (hall_json hall polled) ≤ max_depth
hall_depth hall polled =
    go (items_depth (items_of (map polled_json polled)))
    (items_depth (items_of (flat_map (lag_of polled) every_desk)))
    (depth (difference_json (difference polled)))
    (desks_depth polled) (lags_depth polled every_desk) (difference_depth (difference polled))
  where
    go : (d l x : ℕ) → d ≤ 2 → l ≤ 1 → x ≤ 1 → suc (max 0 (max (suc d)
        (max 0 (max 0 (max 0 (max 0 (max (suc l) (max x (max 0 0))))))))) ≤ 128
    go d l x h k j = grind (arith, nat_tests)

reads_back : (hall : ℕ) (polled : List PolledDesk)
    → tokens (print (json_tokens (hall_json hall polled))) ≡ json_tokens (hall_json hall polled)
    → document (print (json_tokens (hall_json hall polled))) ≡ Some (hall_json hall polled)
reads_back hall polled found =
    let d : Json = hall_json hall polled in
    ap (option_and_then (λ p. if_last p.0 p.1))
    (ap (value max_depth) (found ∙ sym (append-nil (json_tokens d)))
    ∙ value-json_tokens d max_depth [] (hall_depth hall polled))

-- so the text of a writer that was given the value's tokens reads back as the value
pub reads_back_of : (start end : Written) (hall : ℕ) (polled : List PolledDesk) → start.tokens ≡ []
    → Adds start end (json_tokens (hall_json hall polled))
    → tokens (print end.tokens) ≡ end.tokens → ReadsBack hall polled
reads_back_of start end hall polled none added found =
    let d : Json = hall_json hall polled in
    let all : end.tokens ≡ json_tokens d =
    added.tokens ∙ ap (λ ts. ts ++ json_tokens d) none in
    record { value = reads_back hall polled (sym (ap (λ ts. tokens (print ts)) all) ∙ found ∙ all) }
