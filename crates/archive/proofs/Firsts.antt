-- The first position of an id, and the entries in front of a position.
use Rattle.std.proofs.Common.{◌≡◌, ℕ, zero, suc, ◌+◌, Bool, true, false, cond, ◌&&◌, ◌||◌, ◌==◌}
use Rattle.std.proofs.Common.{not, List, [], ◌∷◌, take, None, Some, sym, ap, ◌∙◌, arith}
use Rattle.std.specs.{Prelude.slice_get, List.list_any, List.position_from}
use Rattle.std.proofs.lemmas.Bool.Decides.{nat_tests}
use Rattle.acceptor.specs.declared.entry.Entry.{Entry}
use Rattle.learner.specs.Logs.{position_of}
use Rattle.lines.specs.Lines.{is_line}
use Rattle.archive.specs.{Archive.has_id, model.Firsts.is_at}

first-from : (t : Entry → Bool) (i : ℕ) (es : List Entry) (k : ℕ) (e : Entry)
    → slice_get es k ≡ Some e → t e ≡ true
    → is_at (i + k) (position_from t i es) ≡ not (list_any t (take k es))
first-from t i [] k e is passes = absurd (let bad : None ≡ Some e = is in cc)
first-from t i (x ∷ es) zero e is passes =
    let same : x ≡ e = cc in
    let here : (i == i + 0) ≡ true = grind (arith, nat_tests) in
    let test : t x ≡ true = ap t same ∙ passes in
    rw test here
first-from t i (x ∷ es) (suc k) e is passes = step (t x) (first-from t (i + 1) es k e is passes)
  where
    step : (b : Bool)
        → is_at (i + 1 + k) (position_from t (i + 1) es) ≡ not (list_any t (take k es))
        → is_at (i + suc k) (cond b (Some i) (position_from t (i + 1) es))
        ≡ not (b || list_any t (take k es))
    step true later = let other : (i == i + suc k) ≡ false = grind (arith, nat_tests) in other
    step false later =
        let place : i + suc k ≡ i + 1 + k = omega arith in
        ap (λ (n : ℕ). is_at n (position_from t (i + 1) es)) place ∙ later

-- the entry at a position is the first of its id where no entry in front has the id
pub is_first : (es : List Entry) (k : ℕ) (e : Entry) → slice_get es k ≡ Some e
    → is_at k (position_of es e.id) ≡ not (has_id (take k es) e.id)
is_first es k e is =
    let own : (e.id == e.id) ≡ true = grind (arith, nat_tests) in
    let place : k ≡ 0 + k = omega arith in
    ap (λ (n : ℕ). is_at n (position_of es e.id)) place
    ∙ first-from (λ (x : Entry). x.id == e.id) 0 es k e is own

-- the tests of the code, one behind the other
pub kept : (es : List Entry) (k : ℕ) (e : Entry) (id : ℕ) (first : Bool)
    → first ≡ is_at k (position_of es id) → id ≡ e.id → slice_get es k ≡ Some e
    → first ≡ not (has_id (take k es) e.id)
kept es k e id first at same is =
    at ∙ ap (λ (i : ℕ). is_at k (position_of es i)) same ∙ is_first es k e is

pub kept_by_line : (es : List Entry) (k : ℕ) (e : Entry) (first plain : Bool)
    → first ≡ not (has_id (take k es) e.id) → first ≡ true → plain ≡ is_line e.text
    → plain ≡ (not (has_id (take k es) e.id) && is_line e.text)
kept_by_line es k e first plain at holds feed = rw (sym at ∙ holds) feed

pub not_first : (es : List Entry) (k : ℕ) (e : Entry) (first : Bool)
    → first ≡ not (has_id (take k es) e.id) → first ≡ false
    → first ≡ (not (has_id (take k es) e.id) && is_line e.text)
not_first es k e first at fails = rw (sym at ∙ fails) fails
