-- What holds after each turn of whichever connection.
use Rattle.std.proofs.Common.{◌≡◌, inl, inr, refl, sym, ap, subst, ◌∙◌, ℕ, ◌+◌, ◌≤◌, List, [], ◌∷◌}
use Rattle.std.proofs.Common.{◌++◌, length, length-append, Option, None, Some, arith, Bool, true}
use Rattle.std.proofs.Common.{false, cond, eqb}
use Rattle.std.proofs.lemmas.{Bool.eqb-true, Bool.eqb-false, List.append-nil, List.append_assoc}
use Rattle.std.specs.List.{flat_map, AllByRecursion}
use Rattle.answers.specs.{declared.desk.Desk.Ghosts as DeskOf, Seen.Seen}
use Rattle.store.specs.declared.home.Home.{Home}
use Rattle.wire.specs.declared.{fault.WireFault.WireFault, values.Version.Version}
use Rattle.wire.specs.{Ranges.IsFrame, Spelling.spelling}
use Rattle.wire.specs.Stream.{IsBegun, IsKept, Reader, front, holding, keeps}
use Rattle.serving.specs.{declared.ends.ConnectionEnd.ConnectionEnd, Making.Makes, Serving.Act}
use Rattle.serving.specs.Connection.{Begun, AreBegun, Sides, sides, serve_frame}
use Rattle.serving.specs.{Making.Outside, Turns.after_sent, Turns.broken_by, Turns.new_talk}
use Rattle.serving.{specs.Making.Way, proofs.Pieces.keeps_fault, proofs.Pieces.keeps_none}
use Rattle.serving.specs.Turns.{Talk, BeginsNext, LeavesAt, OnlyReads, ReadsTo, RunsOut, WantsRead}
use Rattle.serving.specs.TurnLaw.{Came, Began, IsQuiet, Place, Rested, Took, Turn, Turns, came_in}
use Rattle.serving.specs.TurnLaw.{begun_at, begun_in, handed_out, received, taken_in}
use Rattle.serving.proofs.Makings.{Makes-nil, Makes-trans}
use Rattle.serving.proofs.TurnLaws.{keeps_nothing, more_came, not_begun, one_more, some_end}
use Rattle.connections.specs.Connections.{AreCounted, AreServedInTurn, Connections, EachIsServed}
use Rattle.connections.specs.Connections.{EndsBy, FollowEach, Goes, IsServedOf, MakesSome, Point}
use Rattle.connections.specs.Connections.{Served, StayOpen, TurnOf, answers_of, begun_of, place_of}
use Rattle.connections.specs.Connections.{point_of, served_of, turns_of}
use Rattle.serving.specs.declared.ends.ConnectionEnd.TheVariants as end

-- ---- one connection, whatever is seen of the node

-- what holds of a connection of which these bytes came and these were taken, and of which these
-- frames were begun
pub record Holds (home : Home) (came taken : List ℕ) (all : List Served) (rest : List ℕ)
    (talk : Talk) : Type 0 where
  pub spelled : AllByRecursion IsFrame talk.waiting
  pub stream : talk.end ≡ None
      → (talk.stream ≡ keeps (front rest) rest) × (IsBegun (front rest) → ⊥)
  pub served : IsServedOf home came taken all rest talk

abbrev pub HoldsSome : Home → List ℕ → List ℕ → List Served → Talk → Type 0
HoldsSome home came taken all talk =
    (rest : List ℕ) × Holds home came taken all rest talk

pub at_first : (home : Home) (wire : Version) (talk : Talk) → talk ≡ new_talk home wire
    → HoldsSome home [] [] [] talk
at_first home wire talk is = subst (λ z. HoldsSome home [] [] [] z) (sym is) (
  [],
  record {
    spelled = tt;
    stream = λ _. (sym keeps_nothing, not_begun);
    served = record {
      at = refl;
      begins = record { whole = refl; each = tt };
      answered = refl;
      counted = tt;
      frames = refl;
      few = omega arith;
      ends = tt;
    };
  },
)

-- an open connection is open after all its frames
stays_open : (e : Option ConnectionEnd) (all : List Served) (rest : List ℕ) → e ≡ None
    → EndsBy e all rest → StayOpen all
stays_open None all rest is h = h
stays_open (Some e) all rest is h = absurd (some_end is)

-- ---- a piece came

-- the same frames, with another rest of what came
stands_with : (home : Home) (came taken later rest next : List ℕ) (all : List Served)
    (old new : Talk) → OnlyReads old new → IsServedOf home came taken all rest old
    → AreBegun later (begun_of all) (flat_map spelling new.waiting ++ next)
    → EndsBy new.end all next → IsServedOf home later taken all next new
stands_with home came taken later rest next all old new only h begins ends = record {
  at = only.home ∙ h.at;
  begins = begins;
  answered = ap (λ z. taken ++ z) only.pending ∙ h.answered;
  counted = h.counted;
  frames = only.frames ∙ h.frames;
  few = subst (λ z. z ≤ 64) (sym only.frames) h.few;
  ends = ends;
}

-- the new frames wait, or the end came
came_to : (e : Option ConnectionEnd) (home : Home) (came taken piece rest : List ℕ)
    (all : List Served) (old new : Talk) → Holds home came taken all rest old → WantsRead old
    → OnlyReads old new → old.stream ≡ holding rest → new.end ≡ e → ReadsTo e piece old new
    → HoldsSome home (came ++ piece) taken all new
came_to None home came taken piece rest all old new h wants only holds is r =
    let stays = stays_open old.end all rest wants.free.unended h.served.ends in
    let fed = subst (λ (z : Reader). z.held ++ piece ≡ rest ++ piece) (sym holds) refl in
    let whole = sym fed ∙ r.whole in
    let begins =
    more_came came piece rest (begun_of all) old.waiting wants.served h.served.begins in (
      r.rest,
      record {
        spelled = r.each;
        stream = λ _. (r.keeps, r.ends);
        served =
            stands_with home came taken (came ++ piece) rest r.rest all old new only h.served
            (subst (λ z. AreBegun (came ++ piece) (begun_of all) z) whole begins)
            (subst (λ z. EndsBy z all r.rest) (sym is) stays);
      },
    )
came_to (Some (end.Fault e)) home came taken piece rest all old new h wants only holds is r =
    let stays = stays_open old.end all rest wants.free.unended h.served.ends in
    let fed = subst (λ (z : Reader). z.held ++ piece ≡ rest ++ piece) (sym holds) refl in
    let breaks = ap front (sym fed) ∙ r.0 in
    let begins =
    more_came came piece rest (begun_of all) old.waiting wants.served h.served.begins in (
      rest ++ piece,
      record {
        spelled = subst (λ z. AllByRecursion IsFrame z) (sym r.2) tt;
        stream = λ none. absurd (some_end (sym is ∙ none));
        served =
            stands_with home came taken (came ++ piece) rest (rest ++ piece) all old new only
            h.served (subst (λ z. AreBegun (came ++ piece) (begun_of all)
            (flat_map spelling z ++ (rest ++ piece))) (sym r.2) begins)
            (subst (λ z. EndsBy z all (rest ++ piece)) (sym is) (inr (stays, (breaks, r.1))));
      },
    )
came_to (Some end.NoMemory) home came taken piece rest all old new h wants only holds is r =
    let stays = stays_open old.end all rest wants.free.unended h.served.ends in
    let begins =
    more_came came piece rest (begun_of all) old.waiting wants.served h.served.begins in (
      rest ++ piece,
      record {
        spelled = subst (λ z. AllByRecursion IsFrame z) (sym r.1) tt;
        stream = λ none. absurd (some_end (sym is ∙ none));
        served =
            stands_with home came taken (came ++ piece) rest (rest ++ piece) all old new only
            h.served (subst (λ z. AreBegun (came ++ piece) (begun_of all)
            (flat_map spelling z ++ (rest ++ piece))) (sym r.1) begins)
            (subst (λ z. EndsBy z all (rest ++ piece)) (sym is) (inr (stays, tt)));
      },
    )
came_to (Some end.End) home came taken piece rest all old new h wants only holds is r = absurd r
came_to (Some end.Stopped) home came taken piece rest all old new h wants only holds is r =
    absurd r
came_to (Some end.Frames) home came taken piece rest all old new h wants only holds is r = absurd r
came_to (Some end.Reads) home came taken piece rest all old new h wants only holds is r = absurd r
came_to (Some end.Read) home came taken piece rest all old new h wants only holds is r = absurd r
came_to (Some end.Write) home came taken piece rest all old new h wants only holds is r = absurd r
came_to (Some end.Down) home came taken piece rest all old new h wants only holds is r = absurd r

-- what is read waits for more, with all frames begun and no fault
waits_for : (home : Home) (came taken rest : List ℕ) (all : List Served) (talk : Talk)
    → Holds home came taken all rest talk → WantsRead talk → talk.stream ≡ holding rest
waits_for home came taken rest all talk h wants =
    let holds = h.stream wants.free.unended in
    (keeps_none (front rest) rest talk.stream holds.1 holds.0 wants.unbroken).0

-- ---- a frame was begun

begun_more : (all : List Served) (f : Served)
    → begun_of (all ++ f ∷ []) ≡ begun_of all ++ f.one ∷ []
begun_more [] f = refl
begun_more (x ∷ all) f = ap (λ z. x.one ∷ z) (begun_more all f)

answers_more : (all : List Served) (f : Served)
    → answers_of (all ++ f ∷ []) ≡ answers_of all ++ f.answer
answers_more [] f = append-nil f.answer
answers_more (x ∷ all) f =
    ap (λ z. x.answer ++ z) (answers_more all f)
    ∙ sym (append_assoc x.answer (answers_of all) f.answer)

counted_more : (n : ℕ) (all : List Served) (f : Served) → AreCounted n all
    → f.count ≡ n + length all → AreCounted n (all ++ f ∷ [])
counted_more n [] f h is = (omega (arith, is), tt)
counted_more n (x ∷ all) f h is =
    (h.0, counted_more (n + 1) all f h.1 (omega (arith, is)))

open_more : (all : List Served) (f : Served) → StayOpen all → f.leaves ≡ None
    → StayOpen (all ++ f ∷ [])
open_more [] f h is = (is, tt)
open_more (x ∷ all) f h is = (h.0, open_more all f h.1 is)

ends_more : (e : Option ConnectionEnd) (all : List Served) (f : Served) (rest : List ℕ)
    → StayOpen all → f.leaves ≡ e → EndsBy e (all ++ f ∷ []) rest
ends_more None all f rest h is = open_more all f h is
ends_more (Some e) all f rest h is =
    inl (all, f, record { parts = refl; open_before = h; ends = is })

-- the frame with which a connection goes on so
frame_at : ℕ → Begun → Talk → Served
frame_at k one new =
    record { number = k; one = one; count = new.frames; answer = new.pending; leaves = new.end }

began_to : (home : Home) (k : ℕ) (came taken rest : List ℕ) (all : List Served) (one : Begun)
    (old new : Talk) → Holds home came taken all rest old → BeginsNext old new one.frame
    → Holds home came taken (all ++ frame_at k one new ∷ []) rest new
unfolding frame_at
began_to home k came taken rest all one old new h next =
    let f = frame_at k one new in
    let stays = stays_open old.end all rest next.free.unended h.served.ends in
    let taken_all : taken ≡ answers_of all
    = sym (append-nil taken) ∙ ap (λ z. taken ++ z) (sym next.free.taken) ∙ h.served.answered in
    record {
      spelled = (subst (λ z. AllByRecursion IsFrame z) next.next h.spelled).1;
      stream = λ _. let s = h.stream next.free.unended in (next.stream ∙ s.0, s.1);
      served = record {
        at = next.home ∙ h.served.at;
        begins =
            subst (λ z. AreBegun came z (flat_map spelling new.waiting ++ rest))
            (sym (begun_more all f)) (one_more came rest (begun_of all) one old.waiting new.waiting
            next.next h.spelled h.served.begins);
        answered = ap (λ z. z ++ new.pending) taken_all ∙ sym (answers_more all f);
        counted =
            let before = h.served.frames in
            counted_more 1 all f h.served.counted (omega (arith, before, next.counted));
        frames =
            let before = h.served.frames in
            omega (arith, before, next.counted, length-append all (f ∷ []));
        few = next.few;
        ends = ends_more new.end all f rest stays refl;
      };
    }

-- ---- no frame was begun

-- a fault that is after the frames ends it
breaks_now : (fault : Option WireFault) (all : List Served) (rest : List ℕ) (reader : Reader)
    → reader.fault ≡ fault → IsKept fault → reader ≡ keeps (front rest) rest
    → (IsBegun (front rest) → ⊥) → StayOpen all → EndsBy (broken_by fault) all rest
breaks_now None all rest reader is kept holds other h = h
breaks_now (Some e) all rest reader is kept holds other h =
    inr (h, (keeps_fault (front rest) rest reader e other holds is, kept))

ran_out : (home : Home) (came taken rest : List ℕ) (all : List Served) (old new : Talk)
    → Holds home came taken all rest old → RunsOut old new → Holds home came taken all rest new
ran_out home came taken rest all old new h r =
    let holds = h.stream r.free.unended in
    let stays = stays_open old.end all rest r.free.unended h.served.ends in
    subst (λ z. Holds home came taken all rest z) (sym r.ends) (record {
      spelled = h.spelled;
      stream = λ _. holds;
      served = record {
        at = h.served.at;
        begins = h.served.begins;
        answered = h.served.answered;
        counted = h.served.counted;
        frames = h.served.frames;
        few = h.served.few;
        ends = breaks_now old.stream.fault all rest old.stream refl r.kept holds.0 holds.1 stays;
      };
    })

-- bytes of an answer were taken
took : (home : Home) (came taken more rest : List ℕ) (all : List Served) (old new : Talk)
    → Holds home came taken all rest old → old.pending ≡ more ++ new.pending
    → new ≡ after_sent old (length more) → Holds home came (taken ++ more) all rest new
took home came taken more rest all old new h parts is =
    let answered : (taken ++ more) ++ new.pending ≡ answers_of all
    = append_assoc taken more new.pending ∙ ap (λ z. taken ++ z) (sym parts) ∙ h.served.answered in
    record {
      spelled = subst (λ (z : Talk). AllByRecursion IsFrame z.waiting) (sym is) h.spelled;
      stream =
          subst (λ (z : Talk). z.end ≡ None
          → (z.stream ≡ keeps (front rest) rest) × (IsBegun (front rest) → ⊥)) (sym is) h.stream;
      served = record {
        at = ap (λ (z : Talk). z.home) is ∙ h.served.at;
        begins =
            subst (λ (z : Talk). AreBegun came (begun_of all) (flat_map spelling z.waiting ++ rest))
            (sym is) h.served.begins;
        answered = answered;
        counted = h.served.counted;
        frames = ap (λ (z : Talk). z.frames) is ∙ h.served.frames;
        few = subst (λ (z : Talk). z.frames ≤ 64) (sym is) h.served.few;
        ends = subst (λ (z : Talk). EndsBy z.end all rest) (sym is) h.served.ends;
      };
    }

-- the frame that a turn begins, if it begins one
frames_in : ℕ → Turn → Talk → List Served
frames_in k (Began one) new = frame_at k one new ∷ []
frames_in k _ new = []

as_before : (home : Home) (came taken : List ℕ) (all : List Served) (talk : Talk)
    → HoldsSome home came taken all talk
    → HoldsSome home (came ++ []) (taken ++ []) (all ++ []) talk
as_before home came taken all talk h =
    subst (λ z. HoldsSome home z (taken ++ []) (all ++ []) talk) (sym (append-nil came))
    (subst (λ z. HoldsSome home came z (all ++ []) talk) (sym (append-nil taken))
    (subst (λ z. HoldsSome home came taken z talk) (sym (append-nil all)) h))

turn_holds : {V : Type 0} {way : Way V} (home : Home) (k : ℕ) (t : Turn) (a b : Place way)
    (came taken : List ℕ) (all : List Served) → HoldsSome home came taken all a.talk → Turns t a b
    → HoldsSome home (came ++ came_in t) (taken ++ taken_in t) (all ++ frames_in k t b.talk) b.talk
unfolding frames_in
turn_holds home k (Came piece) a b came taken all h g =
    let is = waits_for home came taken h.0 all a.talk h.1 g.0 in
    subst (λ z. HoldsSome home (came ++ piece) z (all ++ []) b.talk) (sym (append-nil taken))
    (subst (λ z. HoldsSome home (came ++ piece) taken z b.talk) (sym (append-nil all))
    (came_to b.talk.end home came taken piece h.0 all a.talk b.talk h.1 g.0 g.1.0 is refl g.1.1))
turn_holds home k (Began one) a b came taken all h g =
    let more = all ++ frame_at k one b.talk ∷ [] in
    subst (λ z. HoldsSome home z (taken ++ []) more b.talk) (sym (append-nil came))
    (subst (λ z. HoldsSome home came z more b.talk) (sym (append-nil taken))
    (h.0, began_to home k came taken h.0 all one a.talk b.talk h.1 g.0))
turn_holds home k Rested a b came taken all h (inl r, quiet) =
    as_before home came taken all b.talk (subst (λ z. HoldsSome home came taken all z) (sym r.1) h)
turn_holds home k Rested a b came taken all h (inr r, quiet) =
    as_before home came taken all b.talk (h.0, ran_out home came taken h.0 all a.talk b.talk h.1 r)
turn_holds home k (Took more) a b came taken all h g =
    subst (λ z. HoldsSome home z (taken ++ more) (all ++ []) b.talk) (sym (append-nil came))
    (subst (λ z. HoldsSome home came (taken ++ more) z b.talk) (sym (append-nil all))
    (h.0, took home came taken more h.0 all a.talk b.talk h.1 g.0 g.1))

-- ---- the frames of all connections

served_then : {V : Type 0} {way : Way V} (home : Home) (a m b : Point way) (fs : List Served)
    (f : Served) → AreServedInTurn home a fs m
    → LeavesAt f.leaves home (sides m.seen (Some []) m.outside)
    (sides b.seen (Some f.answer) b.outside) f.one f.count → AreServedInTurn home a (fs ++ f ∷ []) b
served_then {V} {way} home a m b [] f is h =
    subst (λ (z : Point way). AreServedInTurn home z (f ∷ []) b) (sym is) (b, h, refl)
served_then home a m b (x ∷ fs) f h k =
    (h.0, h.1, served_then home h.0 m b fs f h.2 k)

point_as : {V : Type 0} {way : Way V} (x y : Seen) (o n : Outside way) → y ≡ x → n ≡ o
    → (let p : Point way = record { seen = y; outside = n } in p)
    ≡ (let p : Point way = record { seen = x; outside = o } in p)
point_as {V} {way} x y o n same is =
    ap (λ z. let p : Point way = record { seen = z; outside = n } in p) same
    ∙ ap (λ z. let p : Point way = record { seen = x; outside = z } in p) is

quiet_then : {V : Type 0} {way : Way V} (home : Home) (start : Point way) (fs : List Served)
    (k : ℕ) (a b : Connections way) → AreServedInTurn home start fs (point_of a)
    → IsQuiet (place_of a k) (place_of b k) → AreServedInTurn home start (fs ++ []) (point_of b)
quiet_then {V} {way} home start fs k a b h quiet =
    subst (λ z. AreServedInTurn home start z (point_of b)) (sym (append-nil fs))
    (subst (λ (z : Point way). AreServedInTurn home start fs z)
    (sym (point_as a.seen b.seen a.outside b.outside quiet.seen quiet.outside)) h)

turn_serves : {V : Type 0} {way : Way V} (home : Home) (start : Point way) (fs : List Served)
    (k : ℕ) (t : Turn) (a b : Connections way) → (a.talks k).home ≡ home
    → AreServedInTurn home start fs (point_of a) → Turns t (place_of a k) (place_of b k)
    → AreServedInTurn home start (fs ++ frames_in k t (b.talks k)) (point_of b)
unfolding frames_in frame_at
turn_serves home start fs k (Came piece) a b same h g = quiet_then home start fs k a b h g.2
turn_serves {V} {way} home start fs k (Began one) a b same h g =
    let to : Sides way = sides b.seen (Some (b.talks k).pending) b.outside in
    let here = subst (λ z. LeavesAt (b.talks k).end z
    (sides a.seen (Some (a.talks k).pending) a.outside) to one (b.talks k).frames) same g.1 in
    let free = subst (λ (z : List ℕ). LeavesAt (b.talks k).end home
    (sides a.seen (Some z) a.outside) to one (b.talks k).frames) g.0.free.taken here in
    served_then home start (point_of a) (point_of b) fs (frame_at k one (b.talks k)) h free
turn_serves home start fs k Rested a b same h g = quiet_then home start fs k a b h g.1
turn_serves home start fs k (Took more) a b same h g = quiet_then home start fs k a b h g.2

-- ---- calls and pushes

makes_of : {V : Type 0} {way : Way V} (e : Option ConnectionEnd) (home : Home) (a b : Sides way)
    (one : Begun) (count : ℕ) → LeavesAt e home a b one count
    → (acts : List Act) × Makes home.hall a.outside b.outside acts
makes_of None home a b one count h = ((serve_frame home a.seen one).acts, h.0.made)
makes_of (Some end.Stopped) home a b one count h = ((serve_frame home a.seen one).acts, h.made)
makes_of (Some end.Down) home a b one count h = ((serve_frame home a.seen one).acts, h.made)
makes_of (Some end.Frames) home a b one count h = ((serve_frame home a.seen one).acts, h.0.made)
makes_of (Some end.NoMemory) home a b one count h = (h.0, h.2.made)
makes_of (Some end.End) home a b one count h = absurd h
makes_of (Some end.Reads) home a b one count h = absurd h
makes_of (Some (end.Fault e)) home a b one count h = absurd h
makes_of (Some end.Read) home a b one count h = absurd h
makes_of (Some end.Write) home a b one count h = absurd h

pub makes_all : {V : Type 0} {way : Way V} (home : Home) (a b : Point way) (fs : List Served)
    → AreServedInTurn home a fs b → MakesSome home.hall a b
makes_all {V} {way} home a b [] is =
    subst (λ (z : Point way). MakesSome home.hall a z) is ([], Makes-nil home.hall a.outside)
makes_all {V} {way} home a b (f ∷ fs) h =
    let first : Sides way = sides a.seen (Some []) a.outside in
    let next : Sides way = sides h.0.seen (Some f.answer) h.0.outside in
    let one = makes_of f.leaves home first next f.one f.count h.1 in
    let rest = makes_all home h.0 b fs h.2 in (
      one.0 ++ rest.0,
      Makes-trans home.hall a.outside h.0.outside b.outside one.0 rest.0 one.1 rest.1,
    )

-- ---- all connections

-- what holds after turns of which these bytes came to each connection, and these were taken, and
-- before which these frames of it had been begun
record HoldsAll {V : Type 0} {way : Way V} (home : Home) (start : Point way)
    (came taken : ℕ → List ℕ) (earlier : ℕ → List Served) (fs : List Served) (b : Connections way)
    : Type 0 where
  chain : AreServedInTurn home start fs (point_of b)
  each : (k : ℕ) → HoldsSome home (came k) (taken k) (earlier k ++ served_of k fs) (b.talks k)

-- of a turn what belongs to a connection, where it is its turn or not
came_if : Bool → Turn → List ℕ
came_if true t = came_in t
came_if false t = []

taken_if : Bool → Turn → List ℕ
taken_if true t = taken_in t
taken_if false t = []

served_if : Bool → List Served → List Served
served_if true fs = fs
served_if false fs = []

served_then_more : (k : ℕ) (fs gs : List Served)
    → served_of k (fs ++ gs) ≡ served_of k fs ++ served_of k gs
served_then_more k [] gs = refl
served_then_more k (f ∷ fs) gs = go (eqb f.number k) (served_then_more k fs gs)
  where
    go : (t : Bool) → served_of k (fs ++ gs) ≡ served_of k fs ++ served_of k gs
        → cond t (f ∷ served_of k (fs ++ gs)) (served_of k (fs ++ gs))
        ≡ cond t (f ∷ served_of k fs) (served_of k fs) ++ served_of k gs
    go true is = ap (λ z. f ∷ z) is
    go false is = is

served_in : (k n : ℕ) (t : Turn) (new : Talk)
    → served_of k (frames_in n t new) ≡ served_if (eqb n k) (frames_in n t new)
unfolding frames_in frame_at served_if
served_in k n (Came piece) new = nothing (eqb n k)
  where
    nothing : (t : Bool) → [] ≡ served_if t []
    nothing true = refl
    nothing false = refl
served_in k n (Began one) new = go (eqb n k)
  where
    f : Served
    f = frame_at n one new

    go : (t : Bool) → cond t (f ∷ []) [] ≡ served_if t (f ∷ [])
    go true = refl
    go false = refl
served_in k n Rested new = nothing (eqb n k)
  where
    nothing : (t : Bool) → [] ≡ served_if t []
    nothing true = refl
    nothing false = refl
served_in k n (Took bytes) new = nothing (eqb n k)
  where
    nothing : (t : Bool) → [] ≡ served_if t []
    nothing true = refl
    nothing false = refl

-- what holds of connection k after a turn of connection n
abbrev HoldsNext : {V : Type 0} → {way : Way V} → Home → (ℕ → List ℕ) → (ℕ → List ℕ)
    → (ℕ → List Served) → List Served → TurnOf → Connections way → Bool → ℕ → Type 0
HoldsNext home came taken earlier fs t b own k =
    HoldsSome home (came k ++ came_if own t.turn) (taken k ++ taken_if own t.turn)
    ((earlier k ++ served_of k fs)
    ++ served_if own (frames_in t.number t.turn (b.talks t.number))) (b.talks k)

own_next : {V : Type 0} {way : Way V} (home : Home) (start : Point way) (came taken : ℕ → List ℕ)
    (earlier : ℕ → List Served) (fs : List Served) (t : TurnOf) (a b : Connections way)
    → HoldsAll home start came taken earlier fs a → Goes t a b
    → HoldsNext home came taken earlier fs t b true t.number
unfolding came_if taken_if served_if
own_next home start came taken earlier fs t a b h g =
    turn_holds home t.number t.turn (place_of a t.number) (place_of b t.number) (came t.number)
    (taken t.number) (earlier t.number ++ served_of t.number fs) (h.each t.number) g.turn

other_next : {V : Type 0} {way : Way V} (home : Home) (start : Point way) (came taken : ℕ → List ℕ)
    (earlier : ℕ → List Served) (fs : List Served) (t : TurnOf) (a b : Connections way) (k : ℕ)
    → HoldsAll home start came taken earlier fs a → Goes t a b → (t.number ≡ k → ⊥)
    → HoldsNext home came taken earlier fs t b false k
unfolding came_if taken_if served_if
other_next home start came taken earlier fs t a b k h g other =
    as_before home (came k) (taken k) (earlier k ++ served_of k fs) (b.talks k)
    (subst (λ z. HoldsSome home (came k) (taken k) (earlier k ++ served_of k fs) z)
    (sym (g.others k (λ is. other (sym is)))) (h.each k))

each_next : {V : Type 0} {way : Way V} (home : Home) (start : Point way) (came taken : ℕ → List ℕ)
    (earlier : ℕ → List Served) (fs : List Served) (t : TurnOf) (a b : Connections way) (k : ℕ)
    (own : Bool) → HoldsAll home start came taken earlier fs a → Goes t a b → eqb t.number k ≡ own
    → HoldsNext home came taken earlier fs t b own k
each_next home start came taken earlier fs t a b k true h g is =
    subst (λ z. HoldsNext home came taken earlier fs t b true z) (eqb-true t.number k is)
    (own_next home start came taken earlier fs t a b h g)
each_next home start came taken earlier fs t a b k false h g is =
    other_next home start came taken earlier fs t a b k h g (eqb-false t.number k is)

came_next : (ℕ → List ℕ) → TurnOf → ℕ → List ℕ
came_next came t k = came k ++ came_if (eqb t.number k) t.turn

taken_next : (ℕ → List ℕ) → TurnOf → ℕ → List ℕ
taken_next taken t k = taken k ++ taken_if (eqb t.number k) t.turn

all_next : {V : Type 0} {way : Way V} (home : Home) (start : Point way) (came taken : ℕ → List ℕ)
    (earlier : ℕ → List Served) (fs : List Served) (t : TurnOf) (a b : Connections way)
    → HoldsAll home start came taken earlier fs a → Goes t a b
    → HoldsAll home start (came_next came t) (taken_next taken t) earlier
    (fs ++ frames_in t.number t.turn (b.talks t.number)) b
unfolding came_next taken_next
all_next home start came taken earlier fs t a b h g =
    let more = frames_in t.number t.turn (b.talks t.number) in
    record {
      chain =
          turn_serves home start fs t.number t.turn a b (h.each t.number).1.served.at h.chain
          g.turn;
      each =
          λ k. subst (λ z. HoldsSome home (came k ++ came_if (eqb t.number k) t.turn)
          (taken k ++ taken_if (eqb t.number k) t.turn) z (b.talks k)) (append_assoc (earlier k)
          (served_of k fs)
          (served_if (eqb t.number k) (frames_in t.number t.turn (b.talks t.number)))
          ∙ ap (λ z. earlier k ++ z) (sym (served_then_more k fs more
          ∙ ap (λ z. served_of k fs ++ z) (served_in k t.number t.turn (b.talks t.number)))))
          (each_next home start came taken earlier fs t a b k (eqb t.number k) h g refl);
    }

-- what came of the first turn and the others
came_all : (k : ℕ) (came : ℕ → List ℕ) (t : TurnOf) (ts : List TurnOf)
    → came_next came t k ++ received (turns_of k ts) ≡ came k ++ received (turns_of k (t ∷ ts))
unfolding came_next came_if
came_all k came t ts = go (eqb t.number k)
  where
    go : (own : Bool) → (came k ++ came_if own t.turn) ++ received (turns_of k ts)
        ≡ came k ++ received (cond own (t.turn ∷ turns_of k ts) (turns_of k ts))
    go true = append_assoc (came k) (came_in t.turn) (received (turns_of k ts))
    go false = ap (λ z. z ++ received (turns_of k ts)) (append-nil (came k))

taken_all : (k : ℕ) (taken : ℕ → List ℕ) (t : TurnOf) (ts : List TurnOf)
    → taken_next taken t k ++ handed_out (turns_of k ts)
    ≡ taken k ++ handed_out (turns_of k (t ∷ ts))
unfolding taken_next taken_if
taken_all k taken t ts = go (eqb t.number k)
  where
    go : (own : Bool) → (taken k ++ taken_if own t.turn) ++ handed_out (turns_of k ts)
        ≡ taken k ++ handed_out (cond own (t.turn ∷ turns_of k ts) (turns_of k ts))
    go true = append_assoc (taken k) (taken_in t.turn) (handed_out (turns_of k ts))
    go false = ap (λ z. z ++ handed_out (turns_of k ts)) (append-nil (taken k))

-- what holds after all turns: the frames of each connection are those that its turns began
abbrev pub HoldsAfter : {V : Type 0} → {way : Way V} → Home → Point way → (ℕ → List ℕ)
    → (ℕ → List ℕ) → (ℕ → List Served) → List TurnOf → Connections way → Type 0
HoldsAfter home start came taken earlier ts b =
    (fs : List Served) × AreServedInTurn home start fs (point_of b)
    × ((k : ℕ) → HoldsSome home (came k ++ received (turns_of k ts))
    (taken k ++ handed_out (turns_of k ts)) (earlier k ++ served_of k fs) (b.talks k))
    × ((k : ℕ) → begun_of (served_of k fs) ≡ begun_in (turns_of k ts))

-- ---- the frames of a connection are those that its turns began

pub begun_both : (xs ys : List Served) → begun_of (xs ++ ys) ≡ begun_of xs ++ begun_of ys
begun_both [] ys = refl
begun_both (x ∷ xs) ys = ap (λ z. x.one ∷ z) (begun_both xs ys)

begun_if : Bool → Turn → List Begun
begun_if true t = begun_at t
begun_if false t = []

turn_begins : (own : Bool) (n : ℕ) (t : Turn) (new : Talk)
    → begun_of (served_if own (frames_in n t new)) ≡ begun_if own t
unfolding frames_in frame_at served_if begun_if
turn_begins true n (Came piece) new = refl
turn_begins true n (Began one) new = refl
turn_begins true n Rested new = refl
turn_begins true n (Took bytes) new = refl
turn_begins false n t new = refl

-- with a turn more
begun_next : (k : ℕ) (fs : List Served) (t : TurnOf) (new : Talk)
    → begun_of (served_of k (fs ++ frames_in t.number t.turn new))
    ≡ begun_of (served_of k fs) ++ begun_if (eqb t.number k) t.turn
begun_next k fs t new =
    let more = frames_in t.number t.turn new in
    ap begun_of (served_then_more k fs more) ∙ begun_both (served_of k fs) (served_of k more)
    ∙ ap (λ z. begun_of (served_of k fs) ++ begun_of z) (served_in k t.number t.turn new)
    ∙ ap (λ z. begun_of (served_of k fs) ++ z) (turn_begins (eqb t.number k) t.number t.turn new)

begun_all : (k : ℕ) (before : List Begun) (t : TurnOf) (ts : List TurnOf)
    → (before ++ begun_if (eqb t.number k) t.turn) ++ begun_in (turns_of k ts)
    ≡ before ++ begun_in (turns_of k (t ∷ ts))
unfolding begun_if
begun_all k before t ts = go (eqb t.number k)
  where
    go : (own : Bool) → (before ++ begun_if own t.turn) ++ begun_in (turns_of k ts)
        ≡ before ++ begun_in (cond own (t.turn ∷ turns_of k ts) (turns_of k ts))
    go true = append_assoc before (begun_at t.turn) (begun_in (turns_of k ts))
    go false = ap (λ z. z ++ begun_in (turns_of k ts)) (append-nil before)

-- what holds after all turns, of which the first frames had been begun before
abbrev HoldsOn : {V : Type 0} → {way : Way V} → Home → Point way → (ℕ → List ℕ)
    → (ℕ → List ℕ) → (ℕ → List Served) → List Served → List TurnOf → Connections way → Type 0
HoldsOn home start came taken earlier first ts b =
    (fs : List Served) × AreServedInTurn home start fs (point_of b) × ((k : ℕ)
    → HoldsSome home (came k ++ received (turns_of k ts)) (taken k ++ handed_out (turns_of k ts))
    (earlier k ++ served_of k fs) (b.talks k)) × ((k : ℕ)
    → begun_of (served_of k fs) ≡ begun_of (served_of k first) ++ begun_in (turns_of k ts))

all_hold : {V : Type 0} {way : Way V} (home : Home) (start : Point way) (came taken : ℕ → List ℕ)
    (earlier : ℕ → List Served) (fs : List Served) (ts : List TurnOf) (a b : Connections way)
    → HoldsAll home start came taken earlier fs a → FollowEach a ts b
    → HoldsOn home start came taken earlier fs ts b
all_hold {V} {way} home start came taken earlier fs [] a b h is =
    subst (λ (z : Connections way). HoldsOn home start came taken earlier fs [] z) is (
      fs,
      h.chain,
      λ k.
          subst (λ z. HoldsSome home z (taken k ++ []) (earlier k ++ served_of k fs) (a.talks k))
          (sym (append-nil (came k))) (subst
          (λ z. HoldsSome home (came k) z (earlier k ++ served_of k fs) (a.talks k))
          (sym (append-nil (taken k))) (h.each k)),
      λ k. sym (append-nil (begun_of (served_of k fs))),
    )
all_hold home start came taken earlier fs (t ∷ ts) a b h g =
    let more = frames_in t.number t.turn (g.0.talks t.number) in
    let next = all_next home start came taken earlier fs t a g.0 h g.1 in
    let rest =
    all_hold home start (came_next came t) (taken_next taken t) earlier (fs ++ more) ts g.0 b next
    g.2 in (
      rest.0,
      rest.1,
      λ k.
          subst (λ z. HoldsSome home z (taken k ++ handed_out (turns_of k (t ∷ ts)))
          (earlier k ++ served_of k rest.0) (b.talks k)) (came_all k came t ts)
          (subst (λ z. HoldsSome home (came_next came t k ++ received (turns_of k ts)) z
          (earlier k ++ served_of k rest.0) (b.talks k)) (taken_all k taken t ts) (rest.2 k)),
      λ k.
          rest.3 k
          ∙ ap (λ z. z ++ begun_in (turns_of k ts)) (begun_next k fs t (g.0.talks t.number))
          ∙ begun_all k (begun_of (served_of k fs)) t ts,
    )

-- the same, and the frames are those that the turns began
all_go_on : {V : Type 0} {way : Way V} (home : Home) (came taken : ℕ → List ℕ)
    (earlier : ℕ → List Served) (ts : List TurnOf) (a b : Connections way)
    → ((k : ℕ) → HoldsSome home (came k) (taken k) (earlier k) (a.talks k)) → FollowEach a ts b
    → HoldsOn home (point_of a) came taken earlier [] ts b
all_go_on home came taken earlier ts a b h g =
    all_hold home (point_of a) came taken earlier [] ts a b (record {
      chain = refl;
      each =
          λ k. subst (λ z. HoldsSome home (came k) (taken k) z (a.talks k))
          (sym (append-nil (earlier k))) (h k);
    }) g

-- turns, after whatever came and was taken and begun of each connection before them
pub goes_on : {V : Type 0} {way : Way V} (home : Home) (came taken : ℕ → List ℕ)
    (earlier : ℕ → List Served) (ts : List TurnOf) (a b : Connections way)
    → ((k : ℕ) → HoldsSome home (came k) (taken k) (earlier k) (a.talks k)) → FollowEach a ts b
    → HoldsAfter home (point_of a) came taken earlier ts b
goes_on home came taken earlier ts a b h g =
    let all = all_go_on home came taken earlier ts a b h g in (all.0, all.1, all.2, all.3)

pub each_is_served : {V : Type 0} (d : DeskOf V) → EachIsServed d
each_is_served d home wire turns a b new h =
    let all = all_go_on home (λ k. []) (λ k. []) (λ k. []) turns a b
    (λ k. at_first home wire (a.talks k) (new k)) h in (
      all.0,
      all.1,
      makes_all home (point_of a) (point_of b) all.0 all.1,
      λ k. let one = all.2 k in (one.0, one.1.served, all.3 k),
    )
