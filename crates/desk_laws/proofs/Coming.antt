-- A message comes as it was pushed.
use Rattle.std.proofs.Common.{◌≡◌, ◌⊎◌, inl, inr, refl, sym, ap, subst, ◌∙◌, ℕ, suc, ◌<◌, ◌==◌}
use Rattle.std.proofs.Common.{Bool, true, false, if◌then◌else◌, List, [], ◌∷◌, ◌++◌, length, map}
use Rattle.std.proofs.Common.{append_assoc, arith}
use Rattle.std.proofs.lemmas.List.{append-nil, length-append}
use Rattle.std.specs.{List.AllByRecursion, List.flat_map, Prelude.Some}
use Rattle.connections.{specs.Connections.begun_of, proofs.Interleaving.begun_both}
use Rattle.guarded.specs.LockedLaw.{IsHallKey}
use Rattle.links.specs.Histories.{Dropped, Fate, History, IsCut, IsCutAt, IsRest}
use Rattle.links.specs.Histories.{SentOn, Told, Unreachable, Waits, if_sent_on, sent_on, waiting_of}
use Rattle.links.specs.{Histories.written, Links.LinkState, Links.first_of}
use Rattle.links.proofs.Kept.{frames_are_kept}
use Rattle.multiplex.proofs.{Placed.all_front, UnderHall.each_delivers}
use Rattle.seal.specs.Records.{AreBodies, preface_of, record_of, records}
use Rattle.seal.specs.{Streams.joined, declared.channel.Channel.Channel}
use Rattle.seal.proofs.Whole.{length-record, one_record}
use Rattle.seal_laws.proofs.Hearing.{one_preface, went}
use Rattle.sealed.specs.{Admitting.comes_under, declared.callers.DeskKeys.DeskKeys}
use Rattle.sealed.proofs.ends.Speaking.{calls_speak}
use Rattle.serving.specs.Connection.{Begun, frames_of}
use Rattle.serving.proofs.Connecting.{frames_of_both}
use Rattle.wire.{specs.Ranges.IsFrame, specs.declared.frame.Frame.Frame, proofs.Streams.prefix_free}
use Rattle.wire.specs.Spelling.{inside, spelling}
use Rattle.desk_laws.{specs.Ways.AreOf, specs.Ways.MessagesComeAsPushed, proofs.Answering.long}
use Rattle.links.specs.Histories as Histories

-- ---- what a link wrote on a connection

-- some of these frames, in order, spelled so
record Spelled (frames : List Frame) (texts : List (List ℕ)) : Type 0 where
  some : List Frame
  order : AreOf some frames
  each : AllByRecursion IsFrame some
  spelled : texts ≡ map spelling some

of_more : (xs : List Frame) (f : Frame) (fs : List Frame) → AreOf xs fs → AreOf xs (f ∷ fs)
of_more [] f fs h = tt
of_more (x ∷ xs) f fs h = inr h

not_sent : (rest : List (List ℕ)) (f : Frame) (fs : List Frame) → Spelled fs rest
    → Spelled (f ∷ fs) rest
not_sent rest f fs s = record {
  some = s.some;
  order = of_more s.some f fs s.order;
  each = s.each;
  spelled = s.spelled;
}

with_fate : (n : ℕ) (fate : Fate) (text : List ℕ) (rest : List (List ℕ)) (f : Frame)
    (fs : List Frame) → text ≡ spelling f → IsFrame f → Spelled fs rest
    → Spelled (f ∷ fs) (if_sent_on n fate text ++ rest)
with_fate n (Dropped cause) text rest f fs is good s = not_sent rest f fs s
with_fate n Waits text rest f fs is good s = not_sent rest f fs s
with_fate n (SentOn m) text rest f fs is good s = go (n == m)
  where
    go : (b : Bool)
        → Spelled (f ∷ fs) ((let one : List (List ℕ) = if b then text ∷ [] else [] in one) ++ rest)
    go true = record {
      some = f ∷ s.some;
      order = inl (refl, s.order);
      each = (good, s.each);
      spelled =
          ap (λ (t : List ℕ). t ∷ rest) is ∙ ap (λ (ts : List (List ℕ)). spelling f ∷ ts) s.spelled;
    }
    go false = not_sent rest f fs s

sent_spelled : (n : ℕ) (ts : List Told) (frames : List Frame)
    → Histories.frames_of ts ≡ map spelling frames → AllByRecursion IsFrame frames
    → Spelled frames (sent_on n ts)
sent_spelled n [] [] is each = record { some = []; order = tt; each = tt; spelled = refl }
sent_spelled n [] (f ∷ fs) is each = absurd cc
sent_spelled n (t ∷ ts) [] is each = absurd cc
sent_spelled n (t ∷ ts) (f ∷ fs) is each =
    let first : t.frame ≡ spelling f = cc in
    let later : Histories.frames_of ts ≡ map spelling fs = cc in
    with_fate n t.fate t.frame (sent_on n ts) f fs first each.0 (sent_spelled n ts fs later each.1)

-- a front part of one frame, and not all of it
record IsPart (part : List ℕ) : Type 0 where
  frame : Frame
  left : List ℕ
  good : IsFrame frame
  some : 0 < length left
  whole : part ++ left ≡ spelling frame

cut_at : (part : List ℕ) (fate : Fate) (text : List ℕ) (f : Frame) → text ≡ spelling f → IsFrame f
    → IsCutAt part fate text → IsPart part
cut_at part (Dropped Unreachable) text f is good h = record {
  frame = f;
  left = h.0;
  good = good;
  some = h.1;
  whole = sym h.2 ∙ is;
}
cut_at part _ text f is good h = absurd h

is_cut : (n : ℕ) (part : List ℕ) (ts : List Told) (frames : List Frame)
    → Histories.frames_of ts ≡ map spelling frames → AllByRecursion IsFrame frames
    → IsCut n part ts → IsPart part
is_cut n part [] frames is each h = absurd h
is_cut n part (t ∷ ts) [] is each h = absurd cc
is_cut n part (t ∷ ts) (f ∷ fs) is each (inl h) =
    let first : t.frame ≡ spelling f = cc in cut_at part t.fate t.frame f first each.0 h.0
is_cut n part (t ∷ ts) (f ∷ fs) is each (inr h) =
    let later : Histories.frames_of ts ≡ map spelling fs = cc in is_cut n part ts fs later each.1 h

-- the first frame that waits, if one does
abbrev IsFirst : List (List ℕ) → Type 0
IsFirst waiting =
    (first_of waiting ≡ []) ⊎ ((f : Frame) × IsFrame f × (first_of waiting ≡ spelling f))

first_waits : (ts : List Told) (frames : List Frame)
    → Histories.frames_of ts ≡ map spelling frames → AllByRecursion IsFrame frames
    → IsFirst (waiting_of ts)
first_waits [] frames is each = inl refl
first_waits (t ∷ ts) [] is each = absurd cc
first_waits (t ∷ ts) (f ∷ fs) is each =
    let first : t.frame ≡ spelling f = cc in
    let later : Histories.frames_of ts ≡ map spelling fs = cc in
    go t.fate first (first_waits ts fs later each.1)
  where
    go : (fate : Fate) → t.frame ≡ spelling f → IsFirst (waiting_of ts)
        → IsFirst (Histories.if_waits fate t.frame ++ waiting_of ts)
    go (SentOn n) first later = later
    go (Dropped cause) first later = later
    go Waits first later = inr (f, each.0, first)

part_of : (n : ℕ) (part : List ℕ) (ts : List Told) (frames : List Frame) (h : History)
    (s : LinkState) → Histories.frames_of ts ≡ map spelling frames
    → AllByRecursion IsFrame frames → waiting_of ts ≡ s.waiting → IsRest n part ts h s
    → (part ≡ []) ⊎ IsPart part
part_of n part ts frames h s is each waits (inl none) = inl none
part_of n part ts frames h s is each waits (inr (inl cut)) =
    inr (is_cut n part ts frames is each cut)
part_of n part ts frames h s is each waits (inr (inr it)) =
    go (subst (λ (w : List (List ℕ)). IsFirst w) waits (first_waits ts frames is each))
  where
    go : IsFirst s.waiting → (part ≡ []) ⊎ IsPart part
    go (inl none) =
        let both = ap (λ (x : List ℕ). length x) (sym none ∙ it.1.2) in
        absurd (omega (arith, both, length-append part it.1.0, it.1.1))
    go (inr first) =
        inr (record {
          frame = first.0;
          left = it.1.0;
          good = first.1;
          some = it.1.1;
          whole = sym it.1.2 ∙ first.2;
        })

-- ---- frames

-- frames that begin a stream of frames are the first of these
first_frames : (fs gs : List Frame) (z part : List ℕ) → AllByRecursion IsFrame fs
    → AllByRecursion IsFrame gs → flat_map spelling fs ++ z ≡ flat_map spelling gs ++ part
    → (part ≡ []) ⊎ IsPart part → (more : List Frame) × (gs ≡ fs ++ more)
first_frames [] gs z part good each e rest = (gs, refl)
first_frames (f ∷ fs) [] z part good each e (inl none) =
    let both = ap (λ (x : List ℕ). length x) (e ∙ none) in
    absurd (omega (
      arith,
      both,
      long f,
      length-append (spelling f) (flat_map spelling fs),
      length-append (spelling f ++ flat_map spelling fs) z,
    ))
first_frames (f ∷ fs) [] z part good each e (inr p) =
    let later = flat_map spelling fs ++ z in
    let whole : spelling f ++ (later ++ p.left) ≡ spelling p.frame ++ [] =
    sym (append_assoc (spelling f) later p.left)
    ∙ ap (λ (x : List ℕ). x ++ p.left)
    (sym (append_assoc (spelling f) (flat_map spelling fs) z) ∙ e)
    ∙ p.whole ∙ sym (append-nil (spelling p.frame)) in
    let none = (prefix_free f p.frame (later ++ p.left) [] good.0 p.good whole).1 in
    let both = ap (λ (x : List ℕ). length x) none in
    absurd (omega (arith, both, length-append later p.left, p.some))
first_frames (f ∷ fs) (g ∷ gs) z part good each e rest =
    let two =
    prefix_free f g (flat_map spelling fs ++ z) (flat_map spelling gs ++ part) good.0 each.0
    (sym (append_assoc (spelling f) (flat_map spelling fs) z) ∙ e
    ∙ append_assoc (spelling g) (flat_map spelling gs) part) in
    let later = first_frames fs gs z part good.1 each.1 two.1 rest in
    (later.0, ap (λ (x : Frame). x ∷ gs) (sym two.0) ∙ ap (λ (xs : List Frame). f ∷ xs) later.1)

flat_one : (fs : List Frame) (f : Frame) (y : List ℕ)
    → flat_map spelling (fs ++ f ∷ []) ++ y ≡ flat_map spelling fs ++ (spelling f ++ y)
flat_one [] f y = ap (λ (x : List ℕ). x ++ y) (append-nil (spelling f))
flat_one (g ∷ fs) f y =
    append_assoc (spelling g) (flat_map spelling (fs ++ f ∷ [])) y
    ∙ ap (λ (x : List ℕ). spelling g ++ x) (flat_one fs f y)
    ∙ sym (append_assoc (spelling g) (flat_map spelling fs) (spelling f ++ y))

flat_spelled : (gs : List Frame)
    → flat_map (λ (t : List ℕ). t) (map spelling gs) ≡ flat_map spelling gs
flat_spelled [] = refl
flat_spelled (g ∷ gs) = ap (λ (x : List ℕ). spelling g ++ x) (flat_spelled gs)

-- ---- records

-- records that begin those of bodies are of the first of these
first_bodies : (c : Channel) (n : ℕ) (bs ds : List (List ℕ)) (x : List ℕ) → AreBodies n bs
    → AreBodies n ds → records c n bs ++ x ≡ records c n ds
    → (more : List ℕ) × (joined bs ++ more ≡ joined ds)
first_bodies c n [] ds x good each e = (joined ds, refl)
first_bodies c n (b ∷ bs) [] x good each e =
    let both = ap (λ (s : List ℕ). length s) e in
    absurd (omega (
      arith,
      both,
      length-record c n b,
      length-append (record_of c n b) (records c (suc n) bs),
      length-append (record_of c n b ++ records c (suc n) bs) x,
    ))
first_bodies c n (b ∷ bs) (d ∷ ds) x good each e =
    let two =
    one_record c n b d (records c (suc n) bs ++ x) (records c (suc n) ds) good.0 each.0
    (sym (append_assoc (record_of c n b) (records c (suc n) bs) x) ∙ e) in
    let later = first_bodies c (suc n) bs ds x good.1 each.1 two.1 in (
      later.0,
      append_assoc b (joined bs) later.0
          ∙ ap (λ (s : List ℕ). b ++ s) later.1
          ∙ ap (λ (s : List ℕ). s ++ joined ds) two.0,
    )

-- ---- the way

-- a desk with one key of the hall
the_halls : (locks : DeskKeys) (key : List ℕ) → locks.old ≡ false → IsHallKey locks key
    → key ≡ locks.hall
the_halls locks key one (inl is) = is
the_halls locks key one (inr it) = absurd (let two : false ≡ true = sym one ∙ it.0 in cc)

pub come_as_pushed : MessagesComeAsPushed
come_as_pushed home locks server came sent frames earlier later one w h may =
    let u = each_delivers home locks server came sent earlier later one h may in
    let before = begun_of earlier in
    let behind = begun_of later in
    let fs : List Frame = frames_of before ++ one.one.frame ∷ [] in
    let given = written w.number w.history in
    let spoken = calls_speak (Some locks.hall) w.client (preface_of server ++ w.back) w.heard given
    w.out w.caller w.call in
    let all = went locks.hall w.client server given (w.out ++ w.caller.output) w.back
    w.random.of_server spoken.gone in
    let lost = w.lost ++ w.caller.output in
    let sealed = records (comes_under u.client server u.key) 0 u.bodies in
    let one_stream : preface_of u.client ++ ((sealed ++ u.rest) ++ lost)
    ≡ preface_of w.client ++ records (comes_under w.client server locks.hall) 0 all.bodies =
    sym (append_assoc (preface_of u.client) (sealed ++ u.rest) lost)
    ∙ ap (λ (s : List ℕ). s ++ lost) (sym u.whole)
    ∙ sym (append_assoc came w.lost w.caller.output)
    ∙ ap (λ (s : List ℕ). s ++ w.caller.output) (sym w.comes) ∙ all.whole in
    let both = one_preface u.client w.client ((sealed ++ u.rest) ++ lost)
    (records (comes_under w.client server locks.hall) 0 all.bodies) u.sixteen w.random.of_client
    one_stream in
    let front =
    subst (λ (c : List ℕ). records (comes_under c server locks.hall) 0 u.bodies ++ (u.rest ++ lost)
    ≡ records (comes_under w.client server locks.hall) 0 all.bodies) both.0 (subst
    (λ (k : List ℕ). records (comes_under u.client server k) 0 u.bodies ++ (u.rest ++ lost)
    ≡ records (comes_under w.client server locks.hall) 0 all.bodies)
    (the_halls locks u.key w.one_key u.halls) (sym (append_assoc sealed u.rest lost) ∙ both.1)) in
    let bodies = first_bodies (comes_under w.client server locks.hall) 0 u.bodies all.bodies
    (u.rest ++ lost) u.each all.each front in
    let kept = frames_are_kept w.history w.link w.leads in
    let carried = kept.1.carried w.number in
    let spelled_all = kept.1.all ∙ w.pushes in
    let gone = sent_spelled w.number kept.0 frames spelled_all w.each in
    let stream : flat_map spelling fs ++ (u.more ++ bodies.0)
    ≡ flat_map spelling gone.some ++ carried.part =
    flat_one (frames_of before) one.one.frame (u.more ++ bodies.0)
    ∙ ap (λ (s : List ℕ). flat_map spelling (frames_of before) ++ s)
    (sym (append_assoc (spelling one.one.frame) u.more bodies.0))
    ∙ sym (append_assoc (flat_map spelling (frames_of before)) (spelling one.one.frame ++ u.more)
    bodies.0)
    ∙ ap (λ (s : List ℕ). s ++ bodies.0) (sym u.inside) ∙ bodies.1 ∙ all.gives ∙ carried.bytes
    ∙ ap (λ (ts : List (List ℕ)). flat_map (λ (t : List ℕ). t) ts ++ carried.part) gone.spelled
    ∙ ap (λ (s : List ℕ). s ++ carried.part) (flat_spelled gone.some) in
    let parts : frames_of (begun_of (earlier ++ one ∷ later)) ≡ fs ++ frames_of behind =
    ap (λ (bs : List Begun). frames_of bs) (begun_both earlier (one ∷ later))
    ∙ frames_of_both before (one.one ∷ behind)
    ∙ sym (append_assoc (frames_of before) (one.one.frame ∷ []) (frames_of behind)) in
    let good =
    all_front IsFrame fs (frames_of behind)
    (subst (λ (xs : List Frame). AllByRecursion IsFrame xs) parts h.served.begins.each) in
    let rest = part_of w.number carried.part kept.0 frames w.history w.link spelled_all w.each
    kept.1.waits carried.rest in
    let first = first_frames fs gone.some (u.more ++ bodies.0) carried.part good gone.each stream
    rest in
    record {
      went = gone.some;
      order = gone.order;
      more = first.0;
      first = first.1 ∙ append_assoc (frames_of before) (one.one.frame ∷ []) first.0;
    }
