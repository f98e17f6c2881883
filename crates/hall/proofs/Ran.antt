-- A hall from line to line, and how it ends, in words on the whole input.
use Rattle.std.proofs.Common.{◌≡◌, ℕ, ◌+◌, Bool, true, false, ◌≤◌, List, [], ◌∷◌, ◌++◌, length, map}
use Rattle.std.proofs.Common.{eqb-true, append-nil, Option, inl, inr, refl, sym, ap, ◌∙◌, subst}
use Rattle.std.{proofs.Common.append_assoc, specs.Io.KnownBytes.Appends}
use Rattle.std.proofs.{Common.length-append, KnownBytes.Appends-trans, KnownBytes.Appends-nil}
use Rattle.std.specs.Prelude.{Result, Ok, Err, OnOk, OnErr, IfErr}
use Rattle.hall.specs.world.WorldValues.{WorldValue, extended}
use Rattle.lines.specs.Bytes.{Writes, AppendsPart, HasLeft}
use Rattle.lines.specs.{Lines.lines_of, Lines.lines_read, declared.fault.RunFault.RunFault}
use Rattle.lines.specs.Reading.{Reading, nothing_read, HasGiven, GivesLine, GivesFault, Gives}
use Rattle.lines.proofs.Inputs.{given_of, left_of, left_is, has_read, part_front, part_after}
use Rattle.lines.proofs.Inputs.{nothing_written, whole_written, waits_more, all_out, part_out}
use Rattle.lines.proofs.Inputs.{still_waits, lines_above}
use Rattle.hall.specs.Scripts.{SpellsNone, HasEvents, spelling}
use Rattle.hall.specs.Halls.{event_text, logs_text, Run, Runs, WritesPart, RunFails}
use Rattle.hall.{specs.model.Events.events_of, proofs.Scripted.is_hall_text}
use Rattle.hall.specs.model.Running.{lines_text, hall_text, DoesLine, LeavesLine, HandlesLine}
use Rattle.hall.specs.model.Running.{DoesAll, StopsAmong, EndsBy, IsStopped}
use Rattle.hall.proofs.{Spelled.spelled_found, Spelled.all_spelled, Scripted.text_whole}
use Rattle.hall.proofs.Scripted.{AreGood, events_more, good_more, script_more, script_begins}
use Rattle.lines.specs.declared.fault.RunFault.TheVariants as fault

-- ---- one line after the other

-- the events of the lines that were given were done, and a part of what is printed for them waits
pub record Ran (n : ℕ) (p : Reading) (world : WorldValue) (out given : List ℕ)
    (start now old new : Option (List ℕ)) : Type 0 where
  pub small : n ≤ 255
  pub read : HasGiven p given start now
  pub good : AreGood n (lines_of given)
  pub world_is : world ≡ record { desks = n; events = events_of n (lines_of given) }
  pub front : List ℕ
  pub written : Writes old new (lines_text n (lines_of given)) front out

pub begins : (n : ℕ) (world : WorldValue) (out : List ℕ) (start old : Option (List ℕ))
    → n ≤ 255 → world ≡ record { desks = n; events = [] } → out ≡ []
    → HasGiven nothing_read [] start start → Ran n nothing_read world out [] start start old old
begins n world out start old small is none read = record {
  small = small;
  read = read;
  good = refl;
  world_is = is;
  front = [];
  written = record { parts = sym none; written = Appends-nil old };
}

-- a line was given and its event was done
pub one_more : (n : ℕ) (p q : Reading) (world world' : WorldValue)
    (line given out out' out'' : List ℕ) (start before now old new new' : Option (List ℕ))
    → Ran n p world out given start before old new → (g : GivesLine q line given start now)
    → DoesLine n line world world' out out' → (front : List ℕ) × Writes new new' out' front out''
    → Ran n q world' out'' (given ++ g.more) start now old new'
one_more n p q world world' line given out out' out'' start before now old new new' a g d w =
    let lines : List (List ℕ) = lines_of given in
    let spelled = spelled_found n line d.event a.small d.spelled in
    let events : events_of n (lines_of (given ++ g.more)) ≡ events_of n lines ++ d.event ∷ [] =
    ap (events_of n) g.is ∙ events_more n lines line d.event a.good spelled in
    let text : lines_text n (lines_of (given ++ g.more)) ≡ a.front ++ out' =
    ap (lines_text n) g.is ∙ script_more n lines line d.event a.good spelled
    ∙ ap (λ x. x ++ event_text n (events_of n lines) d.event) a.written.parts
    ∙ append_assoc a.front out (event_text n (events_of n lines) d.event)
    ∙ ap (λ (v : WorldValue). a.front ++ (out ++ event_text n v.events d.event)) (sym a.world_is)
    ∙ ap (λ x. a.front ++ x) (sym d.said) in
    record {
      small = a.small;
      read = g.read;
      good = subst (AreGood n) (sym g.is) (good_more n lines line d.event a.good spelled);
      world_is = d.world
          ∙ ap (λ v. extended v (d.event ∷ [])) a.world_is
          ∙ ap (λ es. let v : WorldValue = record { desks = n; events = es } in v) (sym events);
      front = a.front ++ w.0;
      written =
          waits_more old new new' (lines_text n (lines_of (given ++ g.more))) a.front out' w.0
          out'' text a.written.written w.1;
    }

pub gives_true : (t : Bool) (p : Reading) (line given : List ℕ) (start now : Option (List ℕ))
    → t ≡ true → Gives (Ok t) p line given start now → GivesLine p line given start now
gives_true true p line given start now is h = h
gives_true false p line given start now is h = cc

pub does_it : (t : Bool) (n : ℕ) (line : List ℕ) (old new : WorldValue) (before after : List ℕ)
    → t ≡ true → HandlesLine t n line old new before after → DoesLine n line old new before after
does_it true n line old new before after is h = h
does_it false n line old new before after is h = cc

pub leaves_it : (t : Bool) (n : ℕ) (line : List ℕ) (old new : WorldValue) (before after : List ℕ)
    → t ≡ false → HandlesLine t n line old new before after → LeavesLine n line old new before after
leaves_it false n line old new before after is h = h
leaves_it true n line old new before after is h = cc

-- ---- the end

abbrev pub run_of : ℕ → List ℕ → (left old new : Option (List ℕ)) → Run
run_of n input left old new =
    record { desks = n; input = input; left = left; old = old; new = new }

-- a run stopped so
abbrev pub Stops : ℕ → RunFault → (start now old new : Option (List ℕ)) → Type 0
Stops n e start now old new =
    (input : List ℕ) × HasLeft start input × StopsAmong e (run_of n input now old new)

-- a part of what is printed for the lines that were given is a part of the whole
pub part_of_whole : (n : ℕ) (p : Reading) (given : List ℕ) (start now old new : Option (List ℕ))
    → HasGiven p given start now → AreGood n (lines_of given)
    → AppendsPart old new (lines_text n (lines_of given))
    → (input : List ℕ) × HasLeft start input × AppendsPart old new (hall_text n input)
part_of_whole n p given start now old new h good part =
    let input = given_of p given start now h in
    let more = script_begins n (lines_of given) input.2.0 good in
    let all : AppendsPart old new (lines_text n (lines_read input.0)) =
    subst (AppendsPart old new) (sym more.1 ∙ ap (lines_text n) (sym input.2.1))
    (part_front old new (lines_text n (lines_of given)) more.0 part) in
    (input.0, input.1, part_front old new (lines_text n (lines_read input.0)) _ all)

-- the rest of what waits was not written whole
pub unwritten : (n : ℕ) (p : Reading) (world : WorldValue) (out given : List ℕ)
    (start now old before new : Option (List ℕ))
    → Ran n p world out given start now old before → AppendsPart before new out
    → (input : List ℕ) × HasLeft start input × AppendsPart old new (hall_text n input)
unwritten n p world out given start now old before new a part =
    part_of_whole n p given start now old new a.read a.good
    (part_out old before new (lines_text n (lines_of given)) a.front out a.written part)

-- memory ran out, and what waits was not written
pub forgotten : (n : ℕ) (p : Reading) (world : WorldValue) (out given : List ℕ)
    (start now old new : Option (List ℕ)) → Ran n p world out given start now old new
    → (input : List ℕ) × HasLeft start input × AppendsPart old new (hall_text n input)
forgotten n p world out given start now old new a =
    part_of_whole n p given start now old new a.read a.good
    (still_waits old new (lines_text n (lines_of given)) a.front out a.written)

-- the last line that was given spells no event
pub meets_bad : (n : ℕ) (p q : Reading) (world : WorldValue) (line given out : List ℕ)
    (start before now old between new : Option (List ℕ))
    → Ran n p world out given start before old between → (g : GivesLine q line given start now)
    → SpellsNone n line → Appends between new out
    → Stops n (fault.BadLine q.lines) start now old new
meets_bad n p q world line given out start before now old between new a g none last =
    let lines : List (List ℕ) = lines_of given in
    let input = given_of q (given ++ g.more) start now g.read in
    let all = all_spelled n lines a.small a.good in (
      input.0,
      input.1,
      record {
        events = events_of n lines;
        bad = line;
        others = input.2.0;
        spelled = record {
          parts =
              input.2.1 ∙ ap (λ ls. ls ++ input.2.0) g.is ∙ append_assoc lines (line ∷ []) input.2.0
              ∙ ap (λ ls. ls ++ line ∷ input.2.0)
              (all.parts ∙ append-nil (map spelling (events_of n lines)));
          fit = all.fit;
          ends = none;
        };
        is = g.read.lines
            ∙ ap length g.is ∙ length-append lines (line ∷ []) ∙ ap (λ k. k + 1) (sym a.good);
        written = all_out old between new (lines_text n lines) a.front out a.written last;
      },
    )

-- reading ended early, after lines whose text is written
pub stops : (n : ℕ) (e : RunFault) (p : Reading) (world : WorldValue) (out given : List ℕ)
    (start before now old between new : Option (List ℕ))
    → Ran n p world out given start before old between → GivesFault e given start now
    → Appends between new out → Stops n e start now old new
stops n fault.InputTooLong p world out given start before now old between new a f last =
    let above = lines_above given f.0 start now f.1 in (
      above.0,
      above.1,
      record {
        above = above.2;
        events = events_of n (lines_of given);
        spelled =
            subst (λ ls. HasEvents n ls (events_of n (lines_of given)) []) (sym above.3)
            (all_spelled n (lines_of given) a.small a.good);
        written =
            all_out old between new (lines_text n (lines_of given)) a.front out a.written last;
      },
    )
stops n fault.Read p world out given start before now old between new a f last = (
  (given ++ f.0) ++ left_of now,
  has_read start now (given ++ f.0) f.1.consumed,
  record {
    front = given ++ f.0;
    rest = left_of now;
    parts = refl;
    remains = left_is now;
    within = f.1.within;
    events = events_of n (lines_of given);
    spelled =
        subst (λ ls. HasEvents n ls (events_of n (lines_of given)) []) (sym f.1.lines)
        (all_spelled n (lines_of given) a.small a.good);
    written = all_out old between new (lines_text n (lines_of given)) a.front out a.written last;
  },
)
stops n fault.NoMemory p world out given start before now old between new a f last =
    part_of_whole n p given start before old new a.read a.good
    (whole_written old new (lines_text n (lines_of given))
    (all_out old between new (lines_text n (lines_of given)) a.front out a.written last))
stops n _ p world out given start before now old between new a f last = absurd f

-- what waited was written after a fault, or a write failed
pub ended : (n : ℕ) (result e : RunFault) (p : Reading) (world : WorldValue)
    (out given : List ℕ) (start before now old between new : Option (List ℕ))
    → Ran n p world out given start before old between → GivesFault e given start now
    → EndsBy result e between new out → Stops n result start now old new
ended n result e p world out given start before now old between new a f (inl h) =
    subst (λ x. Stops n x start now old new) (sym h.0)
    (stops n e p world out given start before now old between new a f h.1)
ended n result e p world out given start before now old between new a f (inr h) =
    subst (λ x. Stops n x start now old new) (sym h.0)
    (unwritten n p world out given start before old between new a h.1)

-- the same after a line that spells no event
pub ended_bad : (n : ℕ) (result : RunFault) (p q : Reading) (k : ℕ) (world world' : WorldValue)
    (line given out out' : List ℕ) (start before now old between new : Option (List ℕ))
    → Ran n p world out given start before old between → GivesLine q line given start now
    → LeavesLine n line world world' out out' → k ≡ q.lines
    → EndsBy result (fault.BadLine k) between new out' → Stops n result start now old new
ended_bad n result p q k world world' line given out out' start before now old between new a g l
    count (inl h) =
    subst (λ x. Stops n x start now old new) (ap fault.BadLine (sym count) ∙ sym h.0)
    (meets_bad n p q world line given out start before now old between new a g l.bad
    (subst (Appends between new) l.said h.1))
ended_bad n result p q k world world' line given out out' start before now old between new a g l
    count (inr h) =
    subst (λ x. Stops n x start now old new) (sym h.0)
    (unwritten n p world out given start before old between new a
    (subst (AppendsPart between new) l.said h.1))

-- ---- the run

-- a front part of the text for the whole input was written
pub writes_part : (n : ℕ) (input : List ℕ) (left old new : Option (List ℕ)) → n ≤ 255
    → AppendsPart old new (hall_text n input) → WritesPart (run_of n input left old new)
writes_part n input left old new small part =
    record { text = hall_text n input; is = is_hall_text n input small; written = part }

-- lines were not all done
pub fails_among : (e : RunFault) (n : ℕ) (input : List ℕ) (left old new : Option (List ℕ))
    → n ≤ 255 → StopsAmong e (run_of n input left old new)
    → RunFails e (run_of n input left old new)
fails_among fault.Write n input left old new small s = writes_part n input left old new small s
fails_among fault.NoMemory n input left old new small s = writes_part n input left old new small s
fails_among fault.BadCount n input left old new small s = absurd s
fails_among _ n input left old new small s = s

-- the logs were written after the rest
pub runs : (n : ℕ) (world : WorldValue) (input : List ℕ) (left old mid new : Option (List ℕ))
    → n ≤ 255 → DoesAll n world input left old mid → Appends mid new (logs_text n world.events)
    → Runs (run_of n input left old new)
runs n world input left old mid new small d last = record {
  end = d.end;
  within = d.within;
  events = events_of n (lines_read input);
  spelled = all_spelled n (lines_read input) small (eqb-true _ _ d.good);
  written =
      subst (Appends old new)
      (ap (λ (v : WorldValue). lines_text n (lines_read input) ++ logs_text n v.events) d.world_is)
      (Appends-trans old mid new _ _ d.written last);
}

-- the logs were not written whole
pub cut_off : (n : ℕ) (world : WorldValue) (input : List ℕ) (left old mid new : Option (List ℕ))
    → DoesAll n world input left old mid → AppendsPart mid new (logs_text n world.events)
    → AppendsPart old new (hall_text n input)
cut_off n world input left old mid new d part =
    subst (AppendsPart old new)
    (ap (λ (v : WorldValue). lines_text n (lines_read input) ++ logs_text n v.events) d.world_is
    ∙ sym (text_whole n input d.within d.good))
    (part_after old mid new (lines_text n (lines_read input)) (logs_text n world.events) d.written
    part)

pub fails_behind : (e : RunFault) (n : ℕ) (world : WorldValue) (input : List ℕ)
    (left old mid new : Option (List ℕ))
    → n ≤ 255 → IsStopped e → DoesAll n world input left old mid
    → AppendsPart mid new (logs_text n world.events) → RunFails e (run_of n input left old new)
fails_behind e n world input left old mid new small (inl is) d part =
    subst (λ x. RunFails x (run_of n input left old new)) (sym is)
    (writes_part n input left old new small (cut_off n world input left old mid new d part))
fails_behind e n world input left old mid new small (inr is) d part =
    subst (λ x. RunFails x (run_of n input left old new)) (sym is)
    (writes_part n input left old new small (cut_off n world input left old mid new d part))

-- what follows where the logs are written, and where they are not
pub if_written : {A E P Q : Type 0} (r : Result A E) → (P → Q) → OnOk r P → OnOk r Q
if_written (Ok a) f h = f h
if_written (Err e) f h = h

pub if_unwritten : {A E P : Type 0} {S Q : E → Type 0} (r : Result A E)
    → ((e : E) → S e → P → Q e) → IfErr r S → OnErr r P → IfErr r Q
if_unwritten (Ok a) f s h = h
if_unwritten (Err e) f s h = f e s h

-- nothing was done
pub fails_at_once : (n : ℕ) (start old : Option (List ℕ)) → n ≤ 255
    → (input : List ℕ) × HasLeft start input × WritesPart (run_of n input start old old)
fails_at_once n start old small = (
  left_of start,
  left_is start,
  writes_part n (left_of start) start old old small
      (nothing_written old (hall_text n (left_of start))),
)

pub is_untouched : (n : ℕ) (start old : Option (List ℕ)) → (input : List ℕ) × HasLeft start input
    × RunFails fault.BadCount (run_of n input start old old)
is_untouched n start old =
    (left_of start, left_is start, record { left = left_is start; same = refl })
