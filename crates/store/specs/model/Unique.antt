-- The two tables have one state.
use Rattle.std.proofs.Common.{◌≡◌, ℕ, zero, suc, pos, drop, get_or, ap₂, ◌+◌, ◌<◌, List, [], ◌∷◌}
use Rattle.std.proofs.Common.{length, Option, Some, None, false, refl, sym, ap, subst, ◌∙◌, arith}
use Rattle.std.proofs.Common.{IsPermutation, Less, IsSorted, IsTrue}
use Rattle.std.specs.{List.AllByRecursion, Ordering.nat_cmp, Cmp.on_total, Cmp.nat_cmp_total}
use Rattle.std.{specs.Ordering.on, specs.Ordering.is_lt, proofs.lemmas.Bool.Decides.nat_tests}
use Rattle.std.proofs.lemmas.List.Sorted.{IsPermutation-sym, IsPermutation-trans}
use Rattle.sqlite_keyed.proofs.SortLemmas.{sorted_unique}
use Rattle.sqlite.specs.declared.types.Value.{Value, TheVariants.Int}
use Rattle.sqlite.specs.Order.{Row, column}
use Rattle.sqlite.specs.{Tree.Trees, Tree.IsAscending, Effect.Database, State.State}
use Rattle.acceptor.specs.declared.entry.Entry.{Entry}
use Rattle.store.specs.{declared.home.Home.Home, Kept.Keeps, Kept.MayBreak, Keeping.HoldsOnly}
use Rattle.acceptor.specs.declared.stored.{Vote.Vote, Stored.Stored, Change.Change}
use Rattle.store.specs.Changes.{Leads, stored_after_all, log_after_all}
use Rattle.store.specs.Waiting.{KeepsBefore, MayLeaveBefore}
use Rattle.store.specs.Holding.{Holds, desk_values, vote_values, log_values}

-- the position that a shown row names
abbrev pub at_of : Row → ℕ
at_of r = go (column r 0)
  where
    go : Value → ℕ
    go (Int (pos n)) = n
    go _ = 0

all_above : (low at : ℕ) (log : List Entry) → low < at
    → AllByRecursion (λ r. nat_cmp low (at_of r) ≡ Less) (log_values at log)
all_above low at [] h = tt
all_above low at (e ∷ more) h =
    (grind (arith, nat_tests), all_above low (at + 1) more (omega arith))

pub rises : (at : ℕ) (log : List Entry)
    → IsAscending (λ a b. on at_of nat_cmp a b ≡ Less) (log_values at log)
rises at [] = tt
rises at (e ∷ more) = (all_above at (at + 1) more (omega arith), rises (at + 1) more)

pub length_values : (at : ℕ) (log : List Entry) → length (log_values at log) ≡ length log
length_values at [] = refl
length_values at (e ∷ more) = ap suc (length_values (at + 1) more)

at_place : (at : ℕ) (log : List Entry) (k : ℕ) (d : Row) → k < length log
    → at_of (get_or (log_values at log) k d) ≡ at + k
at_place at [] k d h = absurd (omega arith)
at_place at (e ∷ more) zero d h = omega arith
at_place at (e ∷ more) (suc k) d h = at_place (at + 1) more k d (omega arith) ∙ omega arith

in_order : (log : List Entry) → IsSorted (on at_of nat_cmp) (log_values 0 log)
in_order log k d low high =
    let len = length_values 0 log in
    let next : at_of (get_or (log_values 0 log) (k + 1) d) ≡ k + 1 =
    at_place 0 log (k + 1) d (omega (arith, len))
    ∙ omega arith in
    let here : at_of (get_or (log_values 0 log) k d) ≡ k = at_place 0 log k d (omega (arith, len))
    ∙ omega arith in
    ap₂ (λ (a b : ℕ). is_lt (nat_cmp a b)) next here ∙ later k
  where
    later : (k : ℕ) → is_lt (nat_cmp (k + 1) k) ≡ false
    later k = grind (arith, nat_tests)

told : (at : ℕ) (a b : List Entry) → log_values at a ≡ log_values at b → a ≡ b
told at [] [] e = refl
told at [] (y ∷ b) e = absurd cc
told at (x ∷ a) [] e = absurd cc
told at (x ∷ a) (y ∷ b) e =
    let rest : a ≡ b = told (at + 1) a b cc in
    let id : x.id ≡ y.id = cc in
    let text : x.text ≡ y.text = cc in
    let first : x ≡ y = ap (λ (n : ℕ). made n x.text) id ∙ ap (made y.id) text in
    ap₂ ◌∷◌ first rest
  where
    made : ℕ → List ℕ → Entry
    made id text = record { id = id; text = text }

pub same_log : (a b : List Entry) → IsPermutation (log_values 0 a) (log_values 0 b) → a ≡ b
same_log a b same =
    told 0 a b (sym
    (sorted_unique (on at_of nat_cmp) (on_total at_of nat_cmp_total) (log_values 0 a)
    (log_values 0 b) (rises 0 a) same (in_order b)))

abbrev vote_of : ℕ → ℕ → ℕ → ℕ → List ℕ → Vote
vote_of at number desk id text =
    record {
      pos = at;
      ballot = record { number = number; desk = desk };
      entry = record { id = id; text = text };
    }

pub same_vote : (v w : Option Vote) → vote_values v ≡ vote_values w → v ≡ w
same_vote None None e = refl
same_vote None (Some w) e = absurd cc
same_vote (Some v) None e = absurd cc
same_vote (Some v) (Some w) e =
    let p : v.pos ≡ w.pos = cc in
    let r : v.ballot.number ≡ w.ballot.number = cc in
    let d : v.ballot.desk ≡ w.ballot.desk = cc in
    let i : v.entry.id ≡ w.entry.id = cc in
    let t : v.entry.text ≡ w.entry.text = cc in
    ap Some (ap (λ n. vote_of n v.ballot.number v.ballot.desk v.entry.id v.entry.text) p
    ∙ ap (λ n. vote_of w.pos n v.ballot.desk v.entry.id v.entry.text) r
    ∙ ap (λ n. vote_of w.pos w.ballot.number n v.entry.id v.entry.text) d
    ∙ ap (λ n. vote_of w.pos w.ballot.number w.ballot.desk n v.entry.text) i
    ∙ ap (vote_of w.pos w.ballot.number w.ballot.desk w.entry.id) t)

abbrev stored_of : ℕ → ℕ → Option Vote → ℕ → Stored
stored_of number desk vote tried =
    record { promised = record { number = number; desk = desk }; vote = vote; tried = tried }

pub same_stored : (home away : Home) (s t : Stored) → desk_values home s ≡ desk_values away t
    → s ≡ t
same_stored home away s t e =
    let r : s.promised.number ≡ t.promised.number = cc in
    let d : s.promised.desk ≡ t.promised.desk = cc in
    let n : s.tried ≡ t.tried = cc in
    let v : s.vote ≡ t.vote = same_vote s.vote t.vote (ap (drop 7) e) in
    ap (λ m. stored_of m s.promised.desk s.vote s.tried) r
    ∙ ap (λ m. stored_of t.promised.number m s.vote s.tried) d
    ∙ ap (λ m. stored_of t.promised.number t.promised.desk m s.tried) v
    ∙ ap (stored_of t.promised.number t.promised.desk t.vote) n

abbrev home_of : ℕ → ℕ → ℕ → Home
home_of hall desk desks = record { hall = hall; desk = desk; desks = desks }

-- and one desk
pub same_home : (home away : Home) (s t : Stored) → desk_values home s ≡ desk_values away t
    → home ≡ away
same_home home away s t e =
    let h : home.hall ≡ away.hall = cc in
    let d : home.desk ≡ away.desk = cc in
    let n : home.desks ≡ away.desks = cc in
    ap (λ m. home_of m home.desk home.desks) h ∙ ap (λ m. home_of away.hall m home.desks) d
    ∙ ap (home_of away.hall away.desk) n

-- the tables have one state
pub one_state : (home away : Home) (db : Trees) (s t : Stored) (log more : List Entry)
    → Holds home db s log → Holds away db t more → (s ≡ t) × (log ≡ more)
one_state home away db s t log more a b =
    let values : desk_values home s ∷ [] ≡ desk_values away t ∷ [] = sym a.desk ∙ b.desk in (
      same_stored home away s t cc,
      same_log log more (IsPermutation-trans _ _ _ a.entries (IsPermutation-sym _ _ b.entries)),
    )

-- no change leads from a state to that state alone
pub leads_nowhere : (changes : List Change) (s : Stored) (log : List Entry) → changes ≡ []
    → Leads changes s log s log
leads_nowhere changes s log none =
    subst (λ cs. Leads cs s log s log) (sym none) (record { stored = refl; log = refl })

-- While a connection keeps a state, a crash leaves that state and no other.
pub alone : (c : State) (home : Home) (s : Stored) (log : List Entry)
    → ((db : Trees) → IsTrue c.is_open → c.may_leave db → db ≡ c.committed.trees)
    → (IsTrue c.is_open → c.may_leave c.committed.trees) → Keeps home s log c
    → HoldsOnly (λ t more. (db : Trees) × c.may_leave db × Holds home db t more) (MayBreak c home) s
    log
alone c home s log settles stays k =
    let same : c.committed.trees ≡ c.now.trees = ap (λ (d : Database). d.trees) (sym k.settled) in
    let here : Holds home c.committed.trees s log =
    subst (λ d. Holds home d s log) (sym same) k.holds in
    record {
      holds = (c.committed.trees, stays k.is_open, here);
      only =
          λ t more h.
          one_state home home c.committed.trees t s more log
          (subst (λ d. Holds home d t more) (settles h.0 k.is_open h.1) h.2) here;
      whole =
          λ broken.
          broken.2 s log
          (subst (λ d. Holds home d s log) (sym (settles broken.0 k.is_open broken.1)) here);
    }

-- and so it is of the state after the changes that wait
pub alone_after : (c : State) (home : Home) (len : ℕ) (changes : List Change) (s : Stored)
    (log : List Entry) → ((db : Trees) → IsTrue c.is_open → c.may_leave db → db ≡ c.committed.trees)
    → (IsTrue c.is_open → c.may_leave c.committed.trees) → KeepsBefore home len changes c s log
    → HoldsOnly (MayLeaveBefore changes c home) (MayBreak c home) s log
alone_after c home len changes s log settles stays k =
    let first = alone c home k.before k.past settles stays k.keeps in
    record {
      holds = (k.before, k.past, first.holds, k.leads);
      only =
          λ t more h.
          let same = first.only h.0 h.1 h.2 in (
            h.3.stored ∙ ap (λ u. stored_after_all u changes) same.0 ∙ sym k.leads.stored,
            h.3.log ∙ ap (λ u. log_after_all u changes) same.1 ∙ sym k.leads.log,
          );
      whole = first.whole;
    }
