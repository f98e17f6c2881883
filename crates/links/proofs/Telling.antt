-- The lines that are told of a desk are few.
use Rattle.std.proofs.Common.{◌≡◌, refl, sym, subst, ◌∙◌, ℕ, ◌-◌, List, [], ◌∷◌, Bool, true, false}
use Rattle.std.proofs.Common.{Option, None, Some, if◌then◌else◌, arith}
use Rattle.std.proofs.lemmas.Bool.{leb-true}
use Rattle.links.specs.{declared.notices.Outage.Outage, Outages.with_outage, Tellings.LinesAreFew}
use Rattle.links.specs.Outages.{Telling, failing, reaching, failed_in, reached_in, is_free}
use Rattle.links.specs.Outages.{due_line, after_due, all_told, line_of, told, last_of, foreign_line}
use Rattle.links.specs.Tellings.{Call, Failed, Reached, Asked, Foreign, Calls, Tale, Silent, Goes}
use Rattle.links.specs.Tellings.{LeadsTo, Line, with_line, lines_of, IsAfter, are_down, AreFew}
use Rattle.links.specs.declared.notices.Notice.TheVariants as notice
use Rattle.links.specs.declared.notices.Outage.TheVariants as outage

-- whether it was told that the desk can't be reached
abbrev is_told : Outage → Bool
is_told outage.Reachable = false
is_told (outage.Untold since) = false
is_told (outage.Told since) = true
is_told (outage.Back since until) = true

abbrev time_of : List Line → Option ℕ
time_of [] = None
time_of (l ∷ ls) = Some l.time

record Tells (n : Telling) (ls : List Line) : Type 0 where
  last : n.last ≡ time_of ls
  down : are_down ls ≡ is_told n.outage
  few : AreFew ls

-- where a line may be told now, the last one was told a second ago
is_after : (ls : List Line) (now : ℕ) → is_free (time_of ls) now ≡ true → IsAfter ls now
is_after [] now free = tt
is_after (l ∷ ls) now free = let e = leb-true 1000 (now - l.time) free in omega (arith, e)

due_at : (o : Outage) (last : Option ℕ) (ls : List Line) (now : ℕ) → last ≡ time_of ls
    → are_down ls ≡ is_told o → AreFew ls → IsAfter ls now
    → Tells (record { last = last_of (line_of o) last now; outage = told o })
    (with_line (line_of o) now ls)
due_at outage.Reachable last ls now is down few later =
    record { last = is; down = down; few = few }
due_at (outage.Untold since) last ls now is down few later = record {
  last = refl;
  down = refl;
  few = record { apart = (later, few.apart); alternate = (down, few.alternate) };
}
due_at (outage.Told since) last ls now is down few later =
    record { last = is; down = down; few = few }
due_at (outage.Back since until) last ls now is down few later = record {
  last = refl;
  down = refl;
  few = record { apart = (later, few.apart); alternate = (down, few.alternate) };
}

due_if : (free : Bool) (n : Telling) (ls : List Line) (now : ℕ) → is_free n.last now ≡ free
    → Tells n ls
    → Tells (if free then all_told n now else n)
    (with_line (if free then line_of n.outage else None) now ls)
due_if true n ls now free a =
    due_at n.outage n.last ls now a.last a.down a.few
    (is_after ls now (subst (λ z. is_free z now ≡ true) a.last free))
due_if false n ls now free a = a

due : (n : Telling) (ls : List Line) (now : ℕ) → Tells n ls
    → Tells (after_due n now) (with_line (due_line n now) now ls)
due n ls now a = due_if (is_free n.last now) n ls now refl a

foreign_if : (free : Bool) (n : Telling) (ls : List Line) (now : ℕ) → is_free n.last now ≡ free
    → Tells n ls
    → Tells (if free then (record { last = Some now; outage = n.outage }) else n)
    (with_line (if free then Some notice.Foreign else None) now ls)
foreign_if true n ls now free a = record {
  last = refl;
  down = a.down;
  few = record {
    apart = (is_after ls now (subst (λ z. is_free z now ≡ true) a.last free), a.few.apart);
    alternate = (tt, a.few.alternate);
  };
}
foreign_if false n ls now free a = a

failed_told : (o : Outage) (now : ℕ) → is_told (failed_in o now) ≡ is_told o
failed_told outage.Reachable now = refl
failed_told _ now = refl

reached_told : (o : Outage) (now : ℕ) → is_told (reached_in o now) ≡ is_told o
reached_told outage.Reachable now = refl
reached_told _ now = refl

in_outage : (n : Telling) (o : Outage) (ls : List Line) → is_told o ≡ is_told n.outage → Tells n ls
    → Tells (with_outage n o) ls
in_outage n o ls same a = record { last = a.last; down = a.down ∙ sym same; few = a.few }

call_tells : (c : Call) (t : Tale) (m n : Telling) → Tells m (lines_of t) → Calls c m n
    → Tells n (lines_of (Goes t c))
call_tells (Failed now line) t m n a k =
    let new =
    due (failing m now) (lines_of t) now
    (in_outage m (failed_in m.outage now) (lines_of t) (failed_told m.outage now) a) in
    subst (λ z. Tells n (with_line z now (lines_of t))) (sym k.0)
    (subst (λ z. Tells z (with_line (due_line (failing m now) now) now (lines_of t))) (sym k.1) new)
call_tells (Reached now line) t m n a k =
    let new =
    due (reaching m now) (lines_of t) now
    (in_outage m (reached_in m.outage now) (lines_of t) (reached_told m.outage now) a) in
    subst (λ z. Tells n (with_line z now (lines_of t))) (sym k.0)
    (subst (λ z. Tells z (with_line (due_line (reaching m now) now) now (lines_of t))) (sym k.1)
    new)
call_tells (Asked now line) t m n a k =
    subst (λ z. Tells n (with_line z now (lines_of t))) (sym k.0)
    (subst (λ z. Tells z (with_line (due_line m now) now (lines_of t))) (sym k.1)
    (due m (lines_of t) now a))
call_tells (Foreign now line) t m n a k =
    subst (λ z. Tells n (with_line z now (lines_of t))) (sym k.0)
    (subst (λ z. Tells z (with_line (foreign_line m now) now (lines_of t))) (sym k.1)
    (foreign_if (is_free m.last now) m (lines_of t) now refl a))

tells : (t : Tale) (n : Telling) → LeadsTo t n → Tells n (lines_of t)
tells Silent n is =
    subst (λ z. Tells z []) (sym is)
    (record { last = refl; down = refl; few = record { apart = tt; alternate = tt } })
tells (Goes t c) n k = call_tells c t k.0 n (tells t k.0 k.1) k.2

pub lines_are_few : LinesAreFew
lines_are_few t n leads = (tells t n leads).few
