-- Start where the log grew.
use Rattle.std.proofs.Common.{◌≡◌, refl, sym, ap, subst, ◌∙◌, ℕ, Bool, true, false, cond, List, []}
use Rattle.std.proofs.Common.{◌++◌, length}
use Rattle.std.proofs.lemmas.List.{append-nil}
use Rattle.learner.specs.declared.event.DeskEvent.{DeskEvent, TheVariants.Start}
use Rattle.serving.specs.{Making.Way, declared.calls.NodeAnswer.NodeAnswer, Nodes.Fate}
use Rattle.serving.specs.{Making.Outside, model.Reaching.DoesCall, model.Reaching.DoesTake}
use Rattle.store.specs.declared.home.Home.{Home}
use Rattle.answers.specs.Seen.{Seen}
use Rattle.serving.specs.model.Reaching.{Place, at, service, Reaches, OnlyAdds, Did, Does, DoesPart}
use Rattle.serving.specs.Serving.{Act, Service, call, push_all, grew, start_if_grown, take}
use Rattle.serving.proofs.Additions.{adds_both, adds_call, adds_push}
use Rattle.serving.proofs.{Makings.Makes-nil, Parts.part_first, Parts.part_both}
use Rattle.serving.proofs.Reached.{goes_on, did_both}

-- ---- Start, where it is due

adds_if : (home : Home) (b : Bool) (s : Service)
    → (more : List Act) × ((cond b (push_all (call home Start s)) s).done ≡ s.done ++ more)
adds_if home true s = adds_both (call home Start) push_all (adds_call home Start) adds_push s
adds_if home false s = ([], sym (append-nil s.done))

adds_start : (home : Home) (before : ℕ) → OnlyAdds (start_if_grown home before)
unfolding start_if_grown
adds_start home before s = adds_if home (grew before s.seen) s

due : (home : Home) (before : ℕ) (y : Seen) → grew before y ≡ true
    → Reaches home (start_if_grown home before) (at y [])
    (λ s. push_all (call home Start s)) (at y []) [] []
unfolding start_if_grown call
due home before y h = record {
  steps =
      λ done later.
      ap (λ z.
      cond z (push_all (call home Start (service (at y []) done later)))
      (service (at y []) done later)) h
      ∙ ap (λ z. push_all (call home Start (service (at y []) z later))) (sym (append-nil done));
  calls = λ more later. refl;
}

not_due : (home : Home) (before : ℕ) (y : Seen) → grew before y ≡ false
    → Reaches home (start_if_grown home before) (at y []) (λ s. s) (at y []) [] []
unfolding start_if_grown call
not_due home before y h = record {
  steps =
      λ done later.
      ap (λ z.
      cond z (push_all (call home Start (service (at y []) done later)))
      (service (at y []) done later)) h
      ∙ ap (λ z. service (at y []) z later) (sym (append-nil done));
  calls = λ more later. refl;
}

-- a front part that is reached so is reached by another way of saying it
part_as : {V : Type 0} {way : Way V} (home : Home) (f g : Service → Service) (p : Place)
    (shown : Seen) (a b : Outside way)
    → ((rest : Service → Service) (second : Place) (acts : List Act) (past : List Fate)
    → Reaches home f p rest second acts past → Reaches home g p rest second acts past)
    → DoesPart home f p shown a b → DoesPart home g p shown a b
part_as home f g p shown a b to d = (
  d.0,
  d.1,
  d.2,
  d.3,
  record {
    reaches = to d.2 d.3 d.0 d.1 d.4.reaches;
    adds = d.4.adds;
    last = d.4.last;
    made = d.4.made;
  },
)

-- it was given, with all that comes of it
pub starts : {V : Type 0} {way : Way V} (home : Home) (before : ℕ) (answer : NodeAnswer)
    (y z : Seen) (acts : List Act) (past : List Fate) (a b : Outside way)
    → grew before y ≡ true → DoesCall home Start answer y z acts past a b
    → Does home (start_if_grown home before) (at y []) (at z []) a b
starts home before answer y z acts past a b h k = (
  acts,
  past,
  record {
    reaches =
        goes_on home (start_if_grown home before) (λ s. push_all (call home Start s))
        (λ s. s) (at y []) (at y []) (at z []) [] acts [] past (due home before y h) k.did.reaches;
    made = k.did.made;
  },
)

-- it was not
pub starts_not : {V : Type 0} {way : Way V} (home : Home) (before : ℕ) (y : Seen) (a : Outside way)
    → grew before y ≡ false → Does home (start_if_grown home before) (at y []) (at y []) a a
starts_not home before y a h = (
  [],
  [],
  record { reaches = not_due home before y h; made = Makes-nil home.hall a },
)

-- memory was refused in it
pub starts_part : {V : Type 0} {way : Way V} (home : Home) (before : ℕ) (y shown : Seen)
    (a b : Outside way) → grew before y ≡ true
    → DoesPart home (λ s. push_all (call home Start s)) (at y []) shown a b
    → DoesPart home (start_if_grown home before) (at y []) shown a b
starts_part home before y shown a b h d =
    part_as home (λ s. push_all (call home Start s)) (start_if_grown home before) (at y []) shown a
    b (λ rest second acts past r. goes_on home (start_if_grown home before)
    (λ s. push_all (call home Start s)) rest (at y []) (at y []) second [] acts [] past
    (due home before y h) r) d

-- ---- behind what is done for a frame

abbrev pub then_start : Home → (Service → Service) → Service → Service
then_start home f s = start_if_grown home (length s.seen.desk.log) (f s)

-- from its beginning on the log is known
from_here : (home : Home) (f rest : Service → Service) (x : Seen) (second : Place)
    (acts : List Act) (past : List Fate)
    → Reaches home (λ s. start_if_grown home (length x.desk.log) (f s)) (at x []) rest second
    acts past → Reaches home (then_start home f) (at x []) rest second acts past
from_here home f rest x second acts past r = record {
  steps = λ done later. r.steps done later;
  calls = r.calls;
}

part_from_here : {V : Type 0} {way : Way V} (home : Home) (f : Service → Service)
    (x shown : Seen) (a b : Outside way)
    → DoesPart home (λ s. start_if_grown home (length x.desk.log) (f s)) (at x []) shown a b
    → DoesPart home (then_start home f) (at x []) shown a b
part_from_here home f x shown a b d =
    part_as home (λ s. start_if_grown home (length x.desk.log) (f s)) (then_start home f) (at x [])
    shown a b (λ rest second acts past r. from_here home f rest x second acts past r) d

-- both were done
pub then_did : {V : Type 0} {way : Way V} (home : Home) (f : Service → Service) (before : ℕ)
    (x : Seen) (second third : Place) (xs ys : List Act) (past more : List Fate)
    (a b c : Outside way) → before ≡ length x.desk.log → Did home f (at x []) second xs past a b
    → Did home (start_if_grown home before) second third ys more b c
    → Did home (then_start home f) (at x []) third (xs ++ ys) (past ++ more) a c
then_did home f before x second third xs ys past more a b c is d e =
    let both =
    did_both home f (start_if_grown home (length x.desk.log)) (at x []) second third xs ys past
    more a b c d (subst (λ k. Did home (start_if_grown home k) second third ys more b c) is e) in
    record {
      reaches =
          from_here home f (λ s. s) x third (xs ++ ys) (past ++ more) both.reaches;
      made = both.made;
    }

-- memory was refused in the first
pub then_not : {V : Type 0} {way : Way V} (home : Home) (f : Service → Service) (x shown : Seen)
    (a b : Outside way) → DoesPart home f (at x []) shown a b
    → DoesPart home (then_start home f) (at x []) shown a b
then_not home f x shown a b d =
    part_from_here home f x shown a b
    (part_first home f (start_if_grown home (length x.desk.log)) (at x []) shown a b
    (adds_start home (length x.desk.log)) d)

-- memory was refused in the second
pub then_part : {V : Type 0} {way : Way V} (home : Home) (f : Service → Service) (before : ℕ)
    (x shown : Seen) (second : Place) (xs : List Act) (past : List Fate) (a b c : Outside way)
    → before ≡ length x.desk.log → Did home f (at x []) second xs past a b
    → DoesPart home (start_if_grown home before) second shown b c
    → DoesPart home (then_start home f) (at x []) shown a c
then_part home f before x shown second xs past a b c is d e =
    part_from_here home f x shown a c
    (part_both home f (start_if_grown home (length x.desk.log)) (at x []) second xs past shown
    a b c d (subst (λ k. DoesPart home (start_if_grown home k) second shown b c) is e))

-- ---- behind an event and all that comes of it

abbrev pub settled_call : Home → DeskEvent → Service → Service
settled_call home event s = push_all (call home event s)

take_so : (home : Home) (event : DeskEvent) (x : Seen) (rest : Service → Service) (second : Place)
    (acts : List Act) (past : List Fate)
    → Reaches home (then_start home (settled_call home event)) (at x []) rest second acts past
    → Reaches home (take home event) (at x []) rest second acts past
unfolding take call
take_so home event x rest second acts past r = record {
  steps = λ done later. r.steps done later;
  calls = r.calls;
}

take_part_so : {V : Type 0} {way : Way V} (home : Home) (event : DeskEvent) (x shown : Seen)
    (a b : Outside way)
    → DoesPart home (then_start home (settled_call home event)) (at x []) shown a b
    → DoesPart home (take home event) (at x []) shown a b
take_part_so home event x shown a b d =
    part_as home (then_start home (settled_call home event)) (take home event) (at x []) shown a b
    (λ rest second acts past r. take_so home event x rest second acts past r) d

-- memory was refused in the event
pub take_not : {V : Type 0} {way : Way V} (home : Home) (event : DeskEvent) (x shown : Seen)
    (a b : Outside way) → DoesPart home (settled_call home event) (at x []) shown a b
    → DoesPart home (take home event) (at x []) shown a b
take_not home event x shown a b d =
    take_part_so home event x shown a b (then_not home (settled_call home event) x shown a b d)

-- memory was refused in Start
pub take_part : {V : Type 0} {way : Way V} (home : Home) (event : DeskEvent) (answer : NodeAnswer)
    (before : ℕ) (x y shown : Seen) (xs : List Act) (past : List Fate) (a b c : Outside way)
    → before ≡ length x.desk.log → DoesCall home event answer x y xs past a b
    → DoesPart home (start_if_grown home before) (at y []) shown b c
    → DoesPart home (take home event) (at x []) shown a c
take_part home event answer before x y shown xs past a b c is h d =
    take_part_so home event x shown a c
    (then_part home (settled_call home event) before x shown (at y []) xs past a b c is h.did d)

-- both were done
pub takes : {V : Type 0} {way : Way V} (home : Home) (event : DeskEvent) (answer : NodeAnswer)
    (before : ℕ) (x y z : Seen) (xs : List Act) (past : List Fate) (a b c : Outside way)
    → before ≡ length x.desk.log → DoesCall home event answer x y xs past a b
    → Does home (start_if_grown home before) (at y []) (at z []) b c
    → (acts : List Act) × (fates : List Fate) × DoesTake home event answer x z acts fates a c
takes home event answer before x y z xs past a b c is h d =
    let both =
    then_did home (settled_call home event) before x (at y []) (at z []) xs d.0 past d.1
    a b c is h.did d.2 in (
      xs ++ d.0,
      past ++ d.1,
      record {
        did = record {
          reaches =
              take_so home event x (λ s. s) (at z []) (xs ++ d.0) (past ++ d.1) both.reaches;
          made = both.made;
        };
        fate = h.fate;
        others = h.others ++ d.1;
        first = ap (λ fates. fates ++ d.1) h.first;
        answer_is = h.answer_is;
      },
    )
