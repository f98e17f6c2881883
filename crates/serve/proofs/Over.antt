-- The desk over its file, and what was printed.
use Rattle.std.proofs.Common.{◌≡◌, ◌⊎◌, inl, inr, sym, ap, ◌∙◌, ℕ, ◌≤◌, ◌++◌, OnOk, [], None, Some}
use Rattle.std.proofs.Common.{List, append_assoc, append-nil, Option, IfSome, Result, IfErr, arith}
use Rattle.std.specs.Io.KnownBytes.{Keeps}
use Rattle.std.proofs.lemmas.Result.{IfErr-weaker, on_ok_weaker}
use Rattle.lines.specs.Bytes.{AppendsPart}
use Rattle.multiplex.proofs.Coming.{few_come}
use Rattle.multiplex.specs.declared.ends.{ServingEnd.ServingEnd, ServingsOutcome.ServingsOutcome}
use Rattle.serving.specs.Making.{Way}
use Rattle.connections.specs.Connections.{Point}
use Rattle.sealed.specs.declared.callers.Access.{Access}
use Rattle.store.specs.declared.home.Home.{Home}
use Rattle.serve.specs.{Keys.IsOfKeys, declared.fault.ServeFault.ServeFault}
use Rattle.serve.specs.Printing.{Hinders, IsAllowed, IsFew, IsOfListener, IsOfOpening, IsOfStore}
use Rattle.serve.specs.Printing.{IsRefused, Output, Prints, PrintsAt, PrintsPart, both_lines}
use Rattle.serve.specs.Printing.{first_line, home_of, last_line}
use Rattle.serve.specs.Serves.{FailsServing, HasServed, IsCutOff, Serves, ServesTo, most_of}
use Rattle.serve.specs.Serves.{period_of, served_to, terms_of, turn_of, with_clients}
use Rattle.hall_file.specs.declared.service.Service.{Service}
use Rattle.serve.specs.declared.fault.ServeFault.TheVariants as fault

few_of : (s : Service) (count : ℕ) → count ≤ most_of s.options.connections → IsFew count s
few_of s count few = by s.options.connections few
  where
    by : (most : Option ℕ) → count ≤ most_of most → IfSome most (λ m. count ≤ m)
    by None few = tt
    by (Some m) few = few

few_served : {V : Type 0} {way : Way V} (s : Service) (d : Access) (len : ℕ)
    (o : Output) (a b : Point way) (served : ServingsOutcome)
    → HasServed served (turn_of s d (home_of s) len o) a b → IsFew served.connections s
few_served s d len o a b served h =
    few_of s served.connections
    (few_come served (home_of s) (terms_of s d) (period_of s.options.tick) (with_clients h.0 a)
    (with_clients h.1 b) None None h.2 h.3)

prints_to : {V : Type 0} {way : Way V} (s : Service) (d : Access) (len : ℕ)
    (o : Output) (a b : Point way) (e : ServingEnd)
    → IsAllowed s → ServesTo e (turn_of s d (home_of s) len o) a b → Prints s o
prints_to s d len o a b e allowed h = record {
  allowed = allowed;
  len = len;
  count = h.0;
  few = few_served s d len o a b (served_to h.0 e h.1) h.2;
  written = h.3;
}

pub prints : {V : Type 0} {way : Way V} (s : Service) (d : Access) (len : ℕ)
    (o : Output) (a b : Point way)
    → IsAllowed s → Serves (turn_of s d (home_of s) len o) a b → Prints s o
prints s d len o a b allowed (inl h) = prints_to s d len o a b _ allowed h
prints s d len o a b allowed (inr h) = prints_to s d len o a b _ allowed h

more_of : (a c : Option (List ℕ)) (xs ys : List ℕ) → AppendsPart a c xs → AppendsPart a c (xs ++ ys)
more_of a c xs ys p = (
  p.0,
  p.1 ++ ys,
  record {
    parts = ap (λ (t : List ℕ). t ++ ys) p.2.parts ∙ append_assoc p.0 p.1 ys;
    written = p.2.written;
  },
)

prints_part : {V : Type 0} {way : Way V} (s : Service) (d : Access) (len : ℕ)
    (o : Output) (a b : Point way)
    → IsAllowed s → IsCutOff (turn_of s d (home_of s) len o) a b → PrintsPart s o
prints_part s d len o a b allowed (inl h) = record {
  allowed = allowed;
  len = len;
  count = 0;
  few = few_of s 0 (omega arith);
  written = more_of o.old o.new (first_line (home_of s) len) (last_line 0) h.2;
}
prints_part s d len o a b allowed (inr h) = record {
  allowed = allowed;
  len = len;
  count = h.0.connections;
  few = few_served s d len o a b h.0 h.1;
  written = h.2;
}

-- all of both lines is a part of them
part_of : (s : Service) (o : Output) → Prints s o → PrintsPart s o
part_of s o h = record {
  allowed = h.allowed;
  len = h.len;
  count = h.count;
  few = h.few;
  written = (
    both_lines (home_of s) h.len h.count,
    [],
    record { parts = sym (append-nil (both_lines (home_of s) h.len h.count)); written = h.written },
  );
}

pub prints_at : {V : Type 0} {way : Way V} (f : ServeFault) (s : Service) (d : Access) (len : ℕ)
    (o : Output) (a b : Point way)
    → IsAllowed s → FailsServing f (turn_of s d (home_of s) len o) a b → PrintsAt f s o
prints_at fault.Down s d len o a b allowed h = prints_to s d len o a b _ allowed h
prints_at fault.CannotListen s d len o a b allowed (inl h) =
    inr (prints_to s d len o a b _ allowed h)
prints_at fault.CannotListen s d len o a b allowed (inr h) =
    inr (prints_to s d len o a b _ allowed h)
prints_at fault.Write s d len o a b allowed h = prints_part s d len o a b allowed h
prints_at fault.NoMemory s d len o a b allowed (inl h) =
    inr (part_of s o (prints_to s d len o a b _ allowed h))
prints_at fault.NoMemory s d len o a b allowed (inr h) = inr (prints_part s d len o a b allowed h)
prints_at _ s d len o a b allowed h = absurd h

-- what is in front of serving prints nothing
pub hindered : (f : ServeFault) (s : Service) (o : Output) → Hinders f s → Keeps o.old o.new
    → PrintsAt f s o
hindered fault.Down s o h k = absurd h
hindered fault.CannotListen s o h k = inl (h, k)
hindered fault.Write s o h k = absurd h
hindered fault.NoMemory s o h k = inl (h, k)
hindered _ s o h k = (h, k)

pub by_name : (f : ServeFault) (s : Service) → IsRefused f s → Hinders f s
by_name fault.BadCount s h = h
by_name fault.BadDesk s h = h
by_name fault.SameAddresses s h = h
by_name fault.NoHallKey s h = h
by_name _ s h = absurd h

pub by_store : (f : ServeFault) (s : Service) → IsOfStore f → IsAllowed s → Hinders f s
by_store fault.WrongDesk s h allowed = allowed
by_store fault.Damaged s h allowed = allowed
by_store fault.Device s h allowed = allowed
by_store fault.NoMemory s h allowed = allowed
by_store _ s h allowed = absurd h

-- the keys
pub by_keys : (f : ServeFault) (s : Service) → IsOfKeys f s → IsAllowed s → Hinders f s
by_keys (fault.KeyFile e) s h allowed = (allowed, h)
by_keys fault.SameKeys s h allowed = (allowed, h)
by_keys _ s h allowed = absurd h

pub by_opening : (f : ServeFault) (s : Service) → IsOfOpening f s → IsAllowed s → Hinders f s
by_opening fault.NoStore s h allowed = (allowed, h)
by_opening fault.StoreThere s h allowed = (allowed, h)
by_opening (fault.UnknownHost desk) s h allowed = (allowed, h.0, h.1)
by_opening fault.WrongDesk s h allowed = allowed
by_opening fault.Damaged s h allowed = allowed
by_opening fault.Device s h allowed = allowed
by_opening fault.NoMemory s h allowed = allowed
by_opening fault.CannotListen s h allowed = allowed
by_opening _ s h allowed = absurd h

pub by_listener : (f : ServeFault) (s : Service) → IsOfListener f → IsAllowed s → Hinders f s
by_listener f s (inl is) allowed = rw is allowed
by_listener f s (inr is) allowed = rw is allowed

-- ---- the desk that was opened is the one that was asked for

pub printed : {V : Type 0} {way : Way V} (s : Service) (d : Access) (home : Home)
    (len : ℕ) (o : Output) (a b : Point way) (r : Result (Unit {0}) ServeFault)
    → home ≡ home_of s → IsAllowed s
    → OnOk r (Serves (turn_of s d home len o) a b) → OnOk r (Prints s o)
printed s d home len o a b r is allowed h =
    on_ok_weaker r (λ served. prints s d len o a b allowed (rw is at served)) h

ends_printed : {V : Type 0} {way : Way V} (s : Service) (d : Access) (len : ℕ)
    (o : Output) (a b : Point way) (f : ServeFault) → IsAllowed s
    → (IsOfListener f × Keeps o.old o.new) ⊎ FailsServing f (turn_of s d (home_of s) len o) a b
    → PrintsAt f s o
ends_printed s d len o a b f allowed (inl e) = hindered f s o (by_listener f s e.0 allowed) e.1
ends_printed s d len o a b f allowed (inr e) = prints_at f s d len o a b allowed e

pub printed_fault : {V : Type 0} {way : Way V} (s : Service) (d : Access) (home : Home) (len : ℕ)
    (o : Output) (a b : Point way) (r : Result (Unit {0}) ServeFault)
    → home ≡ home_of s → IsAllowed s → IfErr r (λ f. (IsOfListener f × Keeps o.old o.new)
    ⊎ FailsServing f (turn_of s d home len o) a b) → IfErr r (λ f. PrintsAt f s o)
printed_fault s d home len o a b r is allowed h =
    IfErr-weaker r _ _ (λ f ends. ends_printed s d len o a b f allowed (rw is at ends)) h
