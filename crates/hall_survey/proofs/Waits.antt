-- The least of the waits of several desks, met one after the other.
use Rattle.std.proofs.Common.{◌≡◌, ◌<◌, ◌≤◌, ◌+◌, ◌∙◌, add-one, ap, arith, drop, get_or, length}
use Rattle.std.proofs.Common.{min, refl, subst, suc, sym, ℕ, List, [], ◌∷◌}
use Rattle.std.proofs.{Math.Seq.drop-cons, lemmas.List.drop_all}
use Rattle.desk_talks.specs.KeptConnections.{wait_of}
use Rattle.hall_survey.specs.{Halls.least_of, Halls.waits_of, declared.asked.AskedDesk.AskedDesk}

-- the least of them does not depend on their order
min_more : (a b c : ℕ) → min a (min b c) ≡ min b (min a c)
min_more a b c = omega arith

least_more : (n most : ℕ) (ns : List ℕ) → least_of (min n most) ns ≡ min n (least_of most ns)
least_more n most [] = refl
least_more n most (m ∷ ns) =
    ap (min m) (least_more n most ns) ∙ min_more m n (least_of most ns)

-- one more is met, the one at this place
pub goes_on : (asked : List AskedDesk) (now place wait all : ℕ) (one : AskedDesk)
    → place < length asked → one ≡ get_or asked place one
    → least_of wait (waits_of (drop place asked) now) ≡ all
    → least_of (min (wait_of one.survey.line now) wait) (waits_of (drop (place + 1) asked) now)
    ≡ all
goes_on asked now place wait all one within is before =
    let here : drop place asked ≡ one ∷ drop (suc place) asked =
    drop-cons asked place one within ∙ ap (λ x. x ∷ drop (suc place) asked) (sym is) in
    rw add-one
    (least_more (wait_of one.survey.line now) wait (waits_of (drop (suc place) asked) now)
    ∙ subst (λ (xs : List AskedDesk). least_of wait (waits_of xs now) ≡ all) here before)

-- all were met
pub ends_at : (asked : List AskedDesk) (now place wait all : ℕ) → length asked ≤ place
    → least_of wait (waits_of (drop place asked) now) ≡ all → wait ≡ all
ends_at asked now place wait all gone is =
    subst (λ (others : List AskedDesk). least_of wait (waits_of others now) ≡ all)
    (drop_all place asked gone) is
