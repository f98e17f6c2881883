-- What holds after each turn of a connection.
use Rattle.std.proofs.Common.{◌≡◌, inl, inr, refl, sym, ap, subst, ◌∙◌, ℕ, ◌<◌, ◌≤◌, List, [], ◌∷◌}
use Rattle.std.proofs.Common.{◌++◌, length, drop, length-append, Option, None, Some, arith}
use Rattle.std.proofs.lemmas.List.{append-nil, append_assoc}
use Rattle.std.specs.List.{flat_map, AllByRecursion}
use Rattle.answers.specs.declared.desk.Desk.{Ghosts as DeskOf}
use Rattle.store.specs.declared.home.Home.{Home}
use Rattle.wire.specs.declared.{fault.WireFault.WireFault, frame.Frame.Frame}
use Rattle.wire.specs.{Ranges.IsFrame, Spelling.spelling}
use Rattle.wire.specs.Stream.{IsBegun, IsKept, Reader, front, holding, keeps}
use Rattle.serving.specs.{declared.ends.ConnectionEnd.ConnectionEnd, model.Turning.Leaves}
use Rattle.serving.specs.Connection.{Begun, AreBegun, Sides, Serves, frames_of}
use Rattle.serving.{specs.Making.Way, proofs.Turning.leaves_more}
use Rattle.serving.specs.Turns.{Talk, BeginsNext, LeavesAt, OnlyReads, ReadsTo, RunsOut, WantsRead}
use Rattle.serving.specs.Turns.{after_sent, broken_by, new_talk}
use Rattle.serving.specs.TurnLaw.{AreServed, Came, Began, Follow, IsQuiet, Place, Rested, Stands}
use Rattle.serving.specs.TurnLaw.{Took, Turn, Turns, TurnsServe, begun_at, begun_in, came_in}
use Rattle.serving.specs.TurnLaw.{handed_out, received, sides_in, taken_in}
use Rattle.serving.proofs.Connecting.{frames_of_both, bytes_then, serves_none}
use Rattle.serving.proofs.Pieces.{all_both, front_none, keeps_fault, keeps_none}
use Rattle.serving.specs.declared.ends.ConnectionEnd.TheVariants as end

-- what holds after some turns, of which these bytes came and these were taken
record Holds {V : Type 0} {way : Way V} (home : Home) (a b : Place way) (bytes taken : List ℕ)
    (begun : List Begun) (rest : List ℕ) : Type 0 where
  place : b.talk.home ≡ home
  spelled : AllByRecursion IsFrame b.talk.waiting
  stream : b.talk.end ≡ None
      → (b.talk.stream ≡ keeps (front rest) rest) × (IsBegun (front rest) → ⊥)
  served : AreServed home a b bytes taken begun rest

abbrev HoldsSome : {V : Type 0} → {way : Way V} → Home → Place way → Place way → List ℕ → List ℕ
    → List Begun → Type 0
HoldsSome home a b bytes taken begun =
    (rest : List ℕ) × Holds home a b bytes taken begun rest

pub some_end : {e : ConnectionEnd} → Some e ≡ None → ⊥
some_end h = cc

pub keeps_nothing : keeps (front []) [] ≡ holding []
unfolding front
keeps_nothing = refl

pub not_begun : IsBegun (front []) → ⊥
not_begun h = subst IsBegun front_none h

at_first : {V : Type 0} {way : Way V} (home : Home) (a : Place way)
    → a.talk ≡ new_talk home way.wire → Holds home a a [] [] [] []
at_first {V} {way} home a is = record {
  place = ap (λ (z : Talk). z.home) is;
  spelled = subst (λ (z : Talk). AllByRecursion IsFrame z.waiting) (sym is) tt;
  stream = λ _. (ap (λ (z : Talk). z.stream) is ∙ sym keeps_nothing, not_begun);
  served =
      record {
        begins = subst (λ (z : Talk). AreBegun [] [] (flat_map spelling z.waiting ++ [])) (sym is)
            (record { whole = refl; each = tt });
        counted = ap (λ (z : Talk). z.frames) is;
        few = let none = ap (λ (z : Talk). z.frames) is in omega (arith, none);
        stands =
            subst (λ (z : Talk). Stands z.end home (sides_in a []) (sides_in a ([] ++ z.pending)) []
            [] z.frames) (sym is) (serves_none home (sides_in a []), omega arith);
      };
}

-- ---- node and other desks are as before

quiet_as : {V : Type 0} {way : Way V} (e : Option ConnectionEnd) (home : Home) (s : Sides way)
    (a b : Place way) (p q : List ℕ) (begun : List Begun) (rest : List ℕ) (count n : ℕ)
    → IsQuiet a b → q ≡ p → n ≡ count → Stands e home s (sides_in a p) begun rest count
    → Stands e home s (sides_in b q) begun rest n
quiet_as {V} {way} e home s a b p q begun rest count n quiet same counted h =
    rw (quiet.seen, quiet.outside, same, counted) h

-- ---- a piece came

serves_of : {V : Type 0} {way : Way V} (e : Option ConnectionEnd) (home : Home) (s t : Sides way)
    (begun : List Begun) (rest : List ℕ) (count : ℕ) → e ≡ None
    → Stands e home s t begun rest count → Serves home s t begun × (count < 64)
serves_of None home s t begun rest count is h = h
serves_of (Some e) home s t begun rest count is h = absurd (some_end is)

pub more_came : (bytes piece rest : List ℕ) (begun : List Begun) (waiting : List Frame)
    → waiting ≡ [] → AreBegun bytes begun (flat_map spelling waiting ++ rest)
    → AreBegun (bytes ++ piece) begun (rest ++ piece)
more_came bytes piece rest begun waiting none h =
    let g = subst (λ z. AreBegun bytes begun (flat_map spelling z ++ rest)) none h in
    record {
      whole =
          ap (λ z. z ++ piece) g.whole
          ∙ append_assoc (flat_map spelling (frames_of begun)) rest piece;
      each = g.each;
    }

-- the end came, and no frame is whole
broke_off : {V : Type 0} {way : Way V} (e : ConnectionEnd) (home : Home) (start a b : Place way)
    (bytes taken piece rest : List ℕ) (begun : List Begun)
    → Holds home start a bytes taken begun rest → WantsRead a.talk → OnlyReads a.talk b.talk
    → IsQuiet a b → b.talk.end ≡ Some e → b.talk.waiting ≡ []
    → Stands (Some e) home (sides_in start []) (sides_in a (taken ++ a.talk.pending)) begun
    (rest ++ piece) a.talk.frames → HoldsSome home start b (bytes ++ piece) taken begun
broke_off e home start a b bytes taken piece rest begun h wants only quiet is none stands =
    let begins = more_came bytes piece rest begun a.talk.waiting wants.served h.served.begins in (
      rest ++ piece,
      record {
        place = only.home ∙ h.place;
        spelled = subst (λ z. AllByRecursion IsFrame z) (sym none) tt;
        stream = λ unended. absurd (some_end (sym is ∙ unended));
        served = record {
          begins =
              subst (λ z. AreBegun (bytes ++ piece) begun (flat_map spelling z ++ (rest ++ piece)))
              (sym none) begins;
          counted = only.frames ∙ h.served.counted;
          few = subst (λ z. z ≤ 64) (sym only.frames) h.served.few;
          stands =
              subst (λ z. Stands z home (sides_in start []) (sides_in b (taken ++ b.talk.pending))
              begun (rest ++ piece) b.talk.frames) (sym is)
              (quiet_as (Some e) home (sides_in start []) a b (taken ++ a.talk.pending)
              (taken ++ b.talk.pending) begun (rest ++ piece) a.talk.frames b.talk.frames quiet
              (ap (λ z. taken ++ z) only.pending) only.frames stands);
        };
      },
    )

-- the new frames wait, or the end came
came_to : {V : Type 0} {way : Way V} (e : Option ConnectionEnd) (home : Home)
    (start a b : Place way) (bytes taken piece rest : List ℕ) (begun : List Begun)
    → Holds home start a bytes taken begun rest → WantsRead a.talk → OnlyReads a.talk b.talk
    → IsQuiet a b → a.talk.stream ≡ holding rest → b.talk.end ≡ e → ReadsTo e piece a.talk b.talk
    → HoldsSome home start b (bytes ++ piece) taken begun
came_to None home start a b bytes taken piece rest begun h wants only quiet holds is r =
    let serves = serves_of a.talk.end home _ _ begun rest _ wants.free.unended h.served.stands in
    let fed = subst (λ (z : Reader). z.held ++ piece ≡ rest ++ piece) (sym holds) refl in
    let whole = sym fed ∙ r.whole in
    let begins = more_came bytes piece rest begun a.talk.waiting wants.served h.served.begins in (
      r.rest,
      record {
        place = only.home ∙ h.place;
        spelled = r.each;
        stream = λ _. (r.keeps, r.ends);
        served = record {
          begins = subst (λ z. AreBegun (bytes ++ piece) begun z) whole begins;
          counted = only.frames ∙ h.served.counted;
          few = subst (λ z. z ≤ 64) (sym only.frames) h.served.few;
          stands =
              subst (λ z. Stands z home (sides_in start []) (sides_in b (taken ++ b.talk.pending))
              begun r.rest b.talk.frames) (sym is)
              (quiet_as None home (sides_in start []) a b (taken ++ a.talk.pending)
              (taken ++ b.talk.pending) begun r.rest a.talk.frames b.talk.frames quiet
              (ap (λ z. taken ++ z) only.pending) only.frames serves);
        };
      },
    )
came_to (Some (end.Fault e)) home start a b bytes taken piece rest begun h wants only quiet holds
    is r =
    let serves = serves_of a.talk.end home _ _ begun rest _ wants.free.unended h.served.stands in
    let fed = subst (λ (z : Reader). z.held ++ piece ≡ rest ++ piece) (sym holds) refl in
    broke_off (end.Fault e) home start a b bytes taken piece rest begun h wants only quiet is r.2
    (serves.0, ap front (sym fed) ∙ r.0, r.1)
came_to (Some end.NoMemory) home start a b bytes taken piece rest begun h wants only quiet holds is
    r =
    let serves = serves_of a.talk.end home _ _ begun rest _ wants.free.unended h.served.stands in
    broke_off end.NoMemory home start a b bytes taken piece rest begun h wants only quiet is r.1
    (inl serves.0)
came_to _ home start a b bytes taken piece rest begun h wants only quiet holds is r = absurd r

-- ---- a frame was begun

stands_of : {V : Type 0} {way : Way V} (e : Option ConnectionEnd) (home : Home) (s t : Sides way)
    (begun : List Begun) (rest : List ℕ) (count : ℕ)
    (a b : Sides way) (one : Begun) → LeavesAt e home a b one count
    → Leaves e home s t begun count → Stands e home s t begun rest count
stands_of None home s t begun rest count a b one k h = h
stands_of (Some end.Stopped) home s t begun rest count a b one k h = h
stands_of (Some end.Down) home s t begun rest count a b one k h = h
stands_of (Some end.Frames) home s t begun rest count a b one k h = h
stands_of (Some end.NoMemory) home s t begun rest count a b one k h = inr h
stands_of _ home s t begun rest count a b one k h = absurd k

pub one_more : (bytes rest : List ℕ) (begun : List Begun) (one : Begun) (waiting later : List Frame)
    → waiting ≡ one.frame ∷ later → AllByRecursion IsFrame waiting
    → AreBegun bytes begun (flat_map spelling waiting ++ rest)
    → AreBegun bytes (begun ++ one ∷ []) (flat_map spelling later ++ rest)
one_more bytes rest begun one waiting later next spelled h =
    let front = flat_map spelling (frames_of begun) in
    let after = flat_map spelling later ++ rest in
    let first = spelling one.frame in
    record {
      whole =
          h.whole
          ∙ ap (λ z. front ++ (flat_map spelling z ++ rest)) next
          ∙ ap (λ z. front ++ z) (append_assoc first (flat_map spelling later) rest)
          ∙ sym (append_assoc front first after)
          ∙ ap (λ z. (front ++ z) ++ after) (sym (append-nil first))
          ∙ ap (λ z. z ++ after) (sym (bytes_then (frames_of begun) (one.frame ∷ []))
          ∙ ap (λ z. flat_map spelling z) (sym (frames_of_both begun (one ∷ []))));
      each =
          subst (λ z. AllByRecursion IsFrame z) (sym (frames_of_both begun (one ∷ [])))
          (all_both (frames_of begun) (one.frame ∷ []) h.each
          ((subst (λ z. AllByRecursion IsFrame z) next spelled).0, tt));
    }

began_to : {V : Type 0} {way : Way V} (home : Home) (start a b : Place way)
    (bytes taken rest : List ℕ) (begun : List Begun) (one : Begun)
    → Holds home start a bytes taken begun rest → BeginsNext a.talk b.talk one.frame
    → LeavesAt b.talk.end a.talk.home (sides_in a a.talk.pending) (sides_in b b.talk.pending) one
    b.talk.frames → HoldsSome home start b bytes taken (begun ++ one ∷ [])
began_to home start a b bytes taken rest begun one h next turn =
    let none = next.free.taken in
    let serves = serves_of a.talk.end home _ _ begun rest _ next.free.unended h.served.stands in
    let here =
    subst (λ z. LeavesAt b.talk.end z (sides_in a a.talk.pending) (sides_in b b.talk.pending) one
    b.talk.frames) h.place turn in
    let grown : taken ++ b.talk.pending ≡ (taken ++ a.talk.pending) ++ b.talk.pending
    = sym (ap (λ z. (taken ++ z) ++ b.talk.pending) none
    ∙ ap (λ z. z ++ b.talk.pending) (append-nil taken)) in
    let leaves =
    leaves_more b.talk.end home (sides_in start []) a.seen b.seen a.talk.pending b.talk.pending
    (Some (taken ++ a.talk.pending)) (Some (taken ++ b.talk.pending)) a.outside b.outside begun one
    b.talk.frames none serves.0 here grown in (
      rest,
      record {
        place = next.home ∙ h.place;
        spelled = (subst (λ z. AllByRecursion IsFrame z) next.next h.spelled).1;
        stream = λ _. let s = h.stream next.free.unended in (next.stream ∙ s.0, s.1);
        served = record {
          begins =
              one_more bytes rest begun one a.talk.waiting b.talk.waiting next.next h.spelled
              h.served.begins;
          counted =
              let before = h.served.counted in
              omega (arith, before, next.counted, length-append begun (one ∷ []));
          few = next.few;
          stands =
              stands_of b.talk.end home (sides_in start [])
              (sides_in b (taken ++ b.talk.pending)) (begun ++ one ∷ []) rest b.talk.frames _ _ one
              here leaves;
        };
      },
    )

-- ---- no frame was begun

-- the same, with this end and this pending
abbrev ended_with : Talk → Option ConnectionEnd → List ℕ → Talk
ended_with c e p = record c { end = e; pending = p }

with_end : {V : Type 0} {way : Way V} (e : Option ConnectionEnd) (p : List ℕ) (home : Home)
    (start a b : Place way) (bytes taken more rest : List ℕ) (begun : List Begun)
    → Holds home start a bytes taken begun rest
    → b.talk ≡ ended_with a.talk e p → (e ≡ None → a.talk.end ≡ None)
    → Stands e home (sides_in start []) (sides_in b (more ++ p)) begun rest a.talk.frames
    → Holds home start b bytes more begun rest
with_end e p home start a b bytes taken more rest begun h is unended stands = record {
  place = rw is h.place;
  spelled = rw is h.spelled;
  stream = rw is (λ none. h.stream (unended none));
  served = record {
    begins = rw is h.served.begins;
    counted = rw is h.served.counted;
    few = rw is h.served.few;
    stands =
        subst (λ (z : Talk). Stands z.end home (sides_in start []) (sides_in b (more ++ z.pending))
        begun rest z.frames) (sym is) stands;
  };
}

same_talk : {V : Type 0} {way : Way V} (home : Home) (start a b : Place way)
    (bytes taken rest : List ℕ) (begun : List Begun)
    → Holds home start a bytes taken begun rest → b.talk ≡ a.talk → IsQuiet a b
    → Holds home start b bytes taken begun rest
same_talk home start a b bytes taken rest begun h is quiet =
    with_end a.talk.end a.talk.pending home start a b bytes taken taken rest begun h is (λ none. none)
    (quiet_as a.talk.end home (sides_in start []) a b (taken ++ a.talk.pending)
    (taken ++ a.talk.pending) begun rest a.talk.frames a.talk.frames quiet refl refl h.served.stands)

-- a fault that is after the frames ends it
breaks_now : {V : Type 0} {way : Way V} (fault : Option WireFault) (home : Home) (s t : Sides way)
    (begun : List Begun) (rest : List ℕ) (count : ℕ) (reader : Reader)
    → reader.fault ≡ fault → IsKept fault → reader ≡ keeps (front rest) rest
    → (IsBegun (front rest) → ⊥) → Serves home s t begun × (count < 64)
    → Stands (broken_by fault) home s t begun rest count
breaks_now None home s t begun rest count reader is kept holds other h = h
breaks_now (Some e) home s t begun rest count reader is kept holds other h =
    (h.0, keeps_fault (front rest) rest reader e other holds is, kept)

ran_out : {V : Type 0} {way : Way V} (home : Home) (start a b : Place way)
    (bytes taken rest : List ℕ) (begun : List Begun)
    → Holds home start a bytes taken begun rest → RunsOut a.talk b.talk → IsQuiet a b
    → Holds home start b bytes taken begun rest
ran_out home start a b bytes taken rest begun h r quiet =
    let holds = h.stream r.free.unended in
    let serves = serves_of a.talk.end home _ _ begun rest _ r.free.unended h.served.stands in
    let broken = broken_by a.talk.stream.fault in
    with_end broken a.talk.pending home start a b bytes taken taken rest begun h r.ends
    (λ _. r.free.unended) (quiet_as broken home (sides_in start []) a b (taken ++ a.talk.pending)
    (taken ++ a.talk.pending) begun rest a.talk.frames a.talk.frames quiet refl refl
    (breaks_now a.talk.stream.fault home (sides_in start []) (sides_in a (taken ++ a.talk.pending))
    begun rest a.talk.frames a.talk.stream refl r.kept holds.0 holds.1 serves))

-- ---- bytes of an answer were taken

took : {V : Type 0} {way : Way V} (home : Home) (start a b : Place way)
    (bytes taken more rest : List ℕ) (begun : List Begun)
    → Holds home start a bytes taken begun rest → a.talk.pending ≡ more ++ b.talk.pending
    → b.talk ≡ after_sent a.talk (length more) → IsQuiet a b
    → Holds home start b bytes (taken ++ more) begun rest
took home start a b bytes taken more rest begun h parts is quiet =
    let left = drop (length more) a.talk.pending in
    let pending : b.talk.pending ≡ left = ap (λ (z : Talk). z.pending) is in
    let same : (taken ++ more) ++ left ≡ taken ++ a.talk.pending
    = ap (λ z. (taken ++ more) ++ z) (sym pending) ∙ append_assoc taken more b.talk.pending
    ∙ ap (λ z. taken ++ z) (sym parts) in
    with_end a.talk.end left home start a b bytes taken (taken ++ more) rest begun h is
    (λ none. none) (quiet_as a.talk.end home (sides_in start []) a b (taken ++ a.talk.pending)
    ((taken ++ more) ++ left) begun rest a.talk.frames a.talk.frames quiet same refl h.served.stands)

-- ---- all turns

-- what is read waits for more, with all frames begun and no fault
waits_for : {V : Type 0} {way : Way V} (home : Home) (start a : Place way)
    (bytes taken rest : List ℕ)
    (begun : List Begun) → Holds home start a bytes taken begun rest → WantsRead a.talk
    → a.talk.stream ≡ holding rest
waits_for home start a bytes taken rest begun h wants =
    let holds = h.stream wants.free.unended in
    (keeps_none (front rest) rest a.talk.stream holds.1 holds.0 wants.unbroken).0

turn_holds : {V : Type 0} {way : Way V} (home : Home) (start a b : Place way) (t : Turn)
    (bytes taken : List ℕ) (begun : List Begun)
    → HoldsSome home start a bytes taken begun → Turns t a b
    → HoldsSome home start b (bytes ++ came_in t) (taken ++ taken_in t) (begun ++ begun_at t)
turn_holds home start a b (Came piece) bytes taken begun h k =
    simp append-nil (came_to b.talk.end home start a b bytes taken piece h.0 begun h.1 k.0 k.1.0 k.2
    (waits_for home start a bytes taken h.0 begun h.1 k.0) refl k.1.1)
turn_holds home start a b (Began one) bytes taken begun h k =
    simp append-nil (began_to home start a b bytes taken h.0 begun one h.1 k.0 k.1)
turn_holds home start a b Rested bytes taken begun h (inl r, quiet) =
    simp append-nil (h.0, same_talk home start a b bytes taken h.0 begun h.1 r.1 quiet)
turn_holds home start a b Rested bytes taken begun h (inr r, quiet) =
    simp append-nil (h.0, ran_out home start a b bytes taken h.0 begun h.1 r quiet)
turn_holds home start a b (Took more) bytes taken begun h k =
    simp append-nil (h.0, took home start a b bytes taken more h.0 begun h.1 k.0 k.1 k.2)

turns_hold : {V : Type 0} {way : Way V} (home : Home) (start a b : Place way) (turns : List Turn)
    (bytes taken : List ℕ) (begun : List Begun)
    → HoldsSome home start a bytes taken begun → Follow a turns b
    → HoldsSome home start b (bytes ++ received turns) (taken ++ handed_out turns)
    (begun ++ begun_in turns)
turns_hold home start a b [] bytes taken begun h is =
    simp append-nil (subst (λ z. HoldsSome home start z bytes taken begun) is h)
turns_hold home start a b (t ∷ ts) bytes taken begun h k =
    simp append_assoc at (turns_hold home start k.0 b ts (bytes ++ came_in t) (taken ++ taken_in t)
    (begun ++ begun_at t) (turn_holds home start a k.0 t bytes taken begun h k.1) k.2)

pub turns_serve : {V : Type 0} (d : DeskOf V) → TurnsServe d
turns_serve d home wire turns a b is h =
    let all = turns_hold home a a b turns [] [] [] ([], at_first home a is) h in
    (begun_in turns, all.0, all.1.served, refl)
