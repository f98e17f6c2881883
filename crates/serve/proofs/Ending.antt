-- A desk that serves, from its first line to its last.
use Rattle.std.proofs.Common.{◌≡◌, inl, inr, sym, ap, ap₂, subst, ◌∙◌, ℕ, List, ◌++◌, append_assoc}
use Rattle.std.proofs.Common.{Bool, Option, Result, OnOk, IfErr}
use Rattle.std.{specs.Io.KnownBytes.Appends, proofs.KnownBytes.Appends-trans}
use Rattle.lines.specs.Bytes.{AppendsPart}
use Rattle.multiplex.specs.declared.ends.{ServingEnd.ServingEnd, ServingsOutcome.ServingsOutcome}
use Rattle.serving.specs.Making.{Way}
use Rattle.connections.specs.Connections.{Point}
use Rattle.store.specs.declared.home.Home.{Home}
use Rattle.serve.specs.Printing.{IsOfLine, first_line, last_line, both_lines}
use Rattle.serve.specs.Serves.{FailsServing, HasServed, Serves, Turn, ends_by, served_to}
use Rattle.serve.specs.declared.fault.ServeFault.{ServeFault}
use Rattle.multiplex.specs.declared.ends.ServingEnd.TheVariants as over

pub append_part : (a b c : Option (List ℕ)) (xs ys : List ℕ) → Appends a b xs → AppendsPart b c ys
    → AppendsPart a c (xs ++ ys)
append_part a b c xs ys h p = (
  xs ++ p.0,
  p.1,
  record {
    parts = ap (λ (t : List ℕ). xs ++ t) p.2.parts ∙ sym (append_assoc xs p.0 p.1);
    written = Appends-trans a b c xs p.0 h p.2.written;
  },
)

pub told_first : (a b : Option (List ℕ)) (h home : Home) (n len : ℕ) → h ≡ home → n ≡ len
    → Appends a b (first_line h n) → Appends a b (first_line home len)
told_first a b h home n len here long =
    subst (λ (t : List ℕ). Appends a b t) (ap₂ first_line here long)

-- the last line was
pub last_cut : {V : Type 0} {way : Way V} (t : Turn) (a b : Point way) (f : ServeFault)
    (served : ServingsOutcome) (mid : Option (List ℕ))
    → IsOfLine f → HasServed served t a b → Appends t.out.old mid (first_line t.home t.len)
    → AppendsPart mid t.out.new (last_line served.connections) → FailsServing f t a b
last_cut t a b f served mid (inl is) h first last =
    rw is (inr (served, h, append_part _ mid _ _ _ first last))
last_cut t a b f served mid (inr is) h first last =
    rw is (inr (inr (served, h, append_part _ mid _ _ _ first last)))

-- both lines are there
pub ends_well : {V : Type 0} {way : Way V} (t : Turn) (a b : Point way) (count : ℕ) (e : ServingEnd)
    (starved : Bool) (r : Result (Unit {0}) ServeFault)
    → HasServed (served_to count e starved) t a b
    → Appends t.out.old t.out.new (both_lines t.home t.len count) → r ≡ ends_by e
    → OnOk r (Serves t a b)
ends_well t a b count over.All starved r h w is = rw is (inl (count, starved, h, w))
ends_well t a b count over.Stopped starved r h w is = rw is (inr (count, starved, h, w))
ends_well t a b count _ starved r h w is = rw is tt

pub ends_ill : {V : Type 0} {way : Way V} (t : Turn) (a b : Point way) (count : ℕ) (e : ServingEnd)
    (starved : Bool) (r : Result (Unit {0}) ServeFault)
    → HasServed (served_to count e starved) t a b
    → Appends t.out.old t.out.new (both_lines t.home t.len count) → r ≡ ends_by e
    → IfErr r (λ f. FailsServing f t a b)
ends_ill t a b count over.Down starved r h w is = rw is (count, starved, h, w)
ends_ill t a b count over.Failed starved r h w is = rw is (inl (count, starved, h, w))
ends_ill t a b count over.Tired starved r h w is = rw is (inr (count, starved, h, w))
ends_ill t a b count over.NoMemory starved r h w is = rw is (inl (count, starved, h, w))
ends_ill t a b count _ starved r h w is = rw is tt
